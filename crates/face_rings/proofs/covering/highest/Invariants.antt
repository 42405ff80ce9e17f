use Rattle.face_rings.proofs.CoverLemmas.{IsTopOf}
use Rattle.face_rings.proofs.covering.highest.Given as goal

-- the highest so far
abbrev pub invariant-loop-number : goal.invariant-loop-number
invariant-loop-number l = IsTopOf l.boxes l.numbers l.one l.number-index l.top
