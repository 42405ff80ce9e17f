use Rattle.std.proofs.Common.{◌↔◌, ◌⊎◌, Contains, length}
use Rattle.lay_point.specs.declared.point.Point.{Point}
use Rattle.snap_pixels.specs.Marks.{IsCrossed}
use Rattle.snap_pixels.proofs.search.add_crossings.Given as goal

-- with the crossings of the segments that are left, those so far are all
abbrev pub invariant-loop-rest : goal.invariant-loop-rest
invariant-loop-rest l =
    (c : Point) → (Contains l.initial.centres c ⊎ IsCrossed l.fn.segments c) ↔ (Contains l.centres c ⊎ IsCrossed l.rest c)

abbrev pub decreases-loop-rest : goal.decreases-loop-rest
decreases-loop-rest l = length l.rest
