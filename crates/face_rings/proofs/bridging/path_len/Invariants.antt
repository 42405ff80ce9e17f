use Rattle.std.proofs.Common.{◌≡◌, ◌+◌, ◌≤◌, length}
use Rattle.std.specs.Prelude.{min, sum_by}
use Rattle.std.specs.List.{AllByRecursion}
use Rattle.lay_point.specs.declared.ring.TheConstants.{MAX_RING_POINTS}
use Rattle.lay_point.specs.Rings.{IsRing}
use Rattle.face_rings.specs.Paths.{added_len}
use Rattle.face_rings.proofs.bridging.path_len.Given as goal

-- what is counted and what the rings that are left add, as far as it is counted
abbrev pub invariant-loop-ring : goal.invariant-loop-ring
invariant-loop-ring l =
    (min (l.len + sum_by (added_len l.start) l.left) (MAX_RING_POINTS + 1)
    ≡ min (l.first_len + sum_by (added_len l.start) l.others) (MAX_RING_POINTS + 1))
    × (l.len ≤ MAX_RING_POINTS + 1) × (AllByRecursion IsRing l.left → AllByRecursion IsRing l.others)

abbrev pub decreases-loop-ring : goal.decreases-loop-ring
decreases-loop-ring l = length l.left
