use Rattle.std.proofs.Common.{◌≡◌, map, take}
use Rattle.snap_chains.specs.RowOrder.{keyed_point}
use Rattle.snap_chains.proofs.row_order.keyed_points.Given as goal

-- the points of the keys so far
abbrev pub invariant-loop-key : goal.invariant-loop-key
invariant-loop-key l = l.points.items ≡ map keyed_point (take l.key-index l.keys)
