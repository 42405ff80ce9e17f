use Rattle.face_rings.proofs.JoinLemmas.{IsPairing}
use Rattle.face_rings.proofs.joining.join_pairs.Given as goal

abbrev pub invariant-loop-one : goal.invariant-loop-one
invariant-loop-one l = IsPairing l.boxes l.fn.parents l.parents l.numbers l.one-index
