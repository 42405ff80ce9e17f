use Rattle.std.proofs.Common.{length}
use Rattle.std.specs.List.{AllByRecursion}
use Rattle.lay_point.specs.Rings.{IsRing}
use Rattle.lay_oriented.proofs.orienting.are_rings.Given as goal

-- if those that are left are rings, all are
abbrev pub invariant-loop-ring : goal.invariant-loop-ring
invariant-loop-ring l = AllByRecursion IsRing l.rest → AllByRecursion IsRing l.rings

abbrev pub decreases-loop-ring : goal.decreases-loop-ring
decreases-loop-ring l = length l.rest
