use Rattle.std.proofs.Common.{◌↔◌, ◌⊎◌, Contains, take}
use Rattle.lay_point.specs.declared.point.Point.{Point}
use Rattle.snap_pixels.specs.Marks.{CrossesOne}
use Rattle.snap_pixels.proofs.search.cross_later.Given as goal

-- what there was before the loop, and the crossings with the segments so far
abbrev pub invariant-loop-other : goal.invariant-loop-other
invariant-loop-other l =
    (c : Point) → Contains l.centres c ↔ (Contains l.initial.centres c ⊎ CrossesOne l.segment (take l.other-index l.later) c)
