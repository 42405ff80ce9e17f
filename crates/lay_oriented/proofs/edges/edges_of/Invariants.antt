use Rattle.std.proofs.Common.{◌≡◌, ◌++◌, length}
use Rattle.lay_point.specs.RingEdges.{edges_of}
use Rattle.lay_oriented.proofs.edges.edges_of.Given as goal

-- the edges so far, and those of the rings that are left
abbrev pub invariant-loop-ring : goal.invariant-loop-ring
invariant-loop-ring l = l.edges.items ++ edges_of l.left ≡ edges_of l.rings

abbrev pub decreases-loop-ring : goal.decreases-loop-ring
decreases-loop-ring l = length l.left
