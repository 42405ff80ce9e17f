use Rattle.std.proofs.Common.{◌≡◌, ◌++◌, drop}
use Rattle.lay_point.specs.Rings.{kept_behind, without_neighbours}
use Rattle.lay_point.proofs.ring.without_neighbours.Given as goal

-- what is kept so far, and what will be kept of the rest
abbrev pub invariant-loop-point : goal.invariant-loop-point
invariant-loop-point l = l.kept.items ++ kept_behind l.last (drop l.point-index l.behind) ≡ without_neighbours l.points
