use Rattle.std.proofs.Common.{◌≡◌, [], ◌∷◌, ◌++◌, length}
use Rattle.lay_point.specs.RingEdges.{edges_of_ring, pairs}
use Rattle.lay_oriented.proofs.edges.add_ring.Given as goal

-- the edges so far, and those of the way that is left
abbrev pub invariant-loop-to : goal.invariant-loop-to
invariant-loop-to l = l.edges.items ++ pairs (l.from ∷ l.left ++ l.first ∷ []) ≡ l.fn.edges.items ++ edges_of_ring l.points

abbrev pub decreases-loop-to : goal.decreases-loop-to
decreases-loop-to l = length l.left
