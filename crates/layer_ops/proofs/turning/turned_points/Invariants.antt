use Rattle.std.proofs.Common.{◌≡◌, map, take}
use Rattle.lay_point.specs.Turns.{turned}
use Rattle.layer_ops.proofs.turning.turned_points.Given as goal

-- the points so far, turned
abbrev pub invariant-loop-point : goal.invariant-loop-point
invariant-loop-point l = l.all.items ≡ map (turned l.turn) (take l.point-index l.points)
