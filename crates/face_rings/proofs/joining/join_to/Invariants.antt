use Rattle.face_rings.proofs.JoinLemmas.{IsJoining}
use Rattle.face_rings.proofs.joining.join_to.Given as goal

abbrev pub invariant-loop-number : goal.invariant-loop-number
invariant-loop-number l = IsJoining l.boxes l.fn.parents l.parents l.one l.numbers l.number-index
