use Rattle.std.proofs.Common.{◌≡◌, map, take}
use Rattle.snap_pixels.specs.Order.{transposed}
use Rattle.snap_pixels.proofs.hot_set.turned_all.Given as goal

-- the points so far
abbrev pub invariant-loop-point : goal.invariant-loop-point
invariant-loop-point l = l.others.items ≡ map transposed (take l.point-index l.points)
