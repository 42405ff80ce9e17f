use Rattle.std.proofs.Common.{◌↔◌, ◌⊎◌, Contains, take}
use Rattle.lay_point.specs.declared.point.Point.{Point}
use Rattle.snap_pixels.specs.Marks.{HoldsAnEnd}
use Rattle.snap_pixels.proofs.search.add_ends.Given as goal

-- what there was before the loop, and the ends of the segments so far
abbrev pub invariant-loop-segment : goal.invariant-loop-segment
invariant-loop-segment l =
    (c : Point) → Contains l.centres c ↔ (Contains l.initial.centres c ⊎ HoldsAnEnd (take l.segment-index l.segments) c)
