use Rattle.std.proofs.Common.{◌≡◌, ◌++◌, length}
use Rattle.lay_point.specs.Bridges.{further}
use Rattle.face_rings.proofs.bridging.add_further.Given as goal

-- the path so far, and the ways round the rings that are left
abbrev pub invariant-loop-ring : goal.invariant-loop-ring
invariant-loop-ring l = l.path.items ++ further l.start l.left ≡ l.fn.path.items ++ further l.start l.rings

abbrev pub decreases-loop-ring : goal.decreases-loop-ring
decreases-loop-ring l = length l.left
