use Rattle.std.proofs.Common.{◌≡◌, ◌+◌, length, min, sum_by, take}
use Rattle.layer_ops.specs.declared.limits.TheConstants.{MAX_SEGMENTS}
use Rattle.layer_ops.proofs.counting.sides.Given as goal

-- the sides of the rings so far, as far as they are counted
abbrev pub invariant-loop-ring : goal.invariant-loop-ring
invariant-loop-ring l = l.count ≡ min (sum_by (λ ring. length ring.0) (take l.ring-index l.rings)) (MAX_SEGMENTS + 1)
