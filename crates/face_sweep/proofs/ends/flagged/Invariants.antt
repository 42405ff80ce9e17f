use Rattle.face_sweep.proofs.EndLemmas.{AreFlaggedTo}
use Rattle.face_sweep.proofs.ends.flagged.Given as goal

-- those places so far that are flagged
abbrev pub invariant-loop-key : goal.invariant-loop-key
invariant-loop-key l = AreFlaggedTo l.flags l.key l.tops.items
