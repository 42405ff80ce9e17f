use Rattle.face_rings.proofs.ForestLemmas.{IsSettled}
use Rattle.face_rings.proofs.forest.settle.Given as goal

abbrev pub invariant-loop-number : goal.invariant-loop-number
invariant-loop-number l = IsSettled l.fn.parents l.parents l.number
