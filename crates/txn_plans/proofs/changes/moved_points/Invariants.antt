use Rattle.std.proofs.Common.{◌≡◌, drop, map, take}
use Rattle.lay_point.specs.Turns.{shifted}
use Rattle.txn_plans.specs.Moving.{ring_fits}
use Rattle.txn_plans.proofs.changes.moved_points.Given as goal

-- the points so far are moved, and those that are left decide whether all fit
abbrev pub invariant-loop-point : goal.invariant-loop-point
invariant-loop-point l = record {
  moved : l.moved.items ≡ map (shifted l.by) (take l.point-index l.points);
  fits : ring_fits l.by (drop l.point-index l.points) ≡ ring_fits l.by l.points;
}
