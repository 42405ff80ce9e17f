use Rattle.std.proofs.Common.{◌↔◌, ◌⊎◌, Contains, take}
use Rattle.lay_point.specs.declared.point.Point.{Point}
use Rattle.snap_pixels.specs.Marks.{RunCrosses}
use Rattle.snap_pixels.proofs.search.cross_run.Given as goal

-- what there was before the loop, and the crossings of the segments so far
abbrev pub invariant-loop-segment : goal.invariant-loop-segment
invariant-loop-segment l =
    (c : Point) → Contains l.centres c ↔ (Contains l.initial.centres c ⊎ RunCrosses (take l.segment-index l.run) l.later c)
