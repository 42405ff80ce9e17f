use Rattle.std.proofs.Common.{Contains, take}
use Rattle.snap_pixels.specs.Order.{transposed}
use Rattle.snap_pixels.specs.Segments.{Meets}
use Rattle.snap_slabs.specs.Slabs.{points_in}
use Rattle.snap_slabs.proofs.Sorted.{ArePassed}
use Rattle.snap_slabs.proofs.slabs.add_met_in_each.Given as goal

-- those of the slabs so far that the segment meets are added
abbrev pub invariant-loop-slab : goal.invariant-loop-slab
invariant-loop-slab l =
    ArePassed (Meets l.segment.a l.segment.b) (Contains l.fn.points.items) transposed (points_in (take l.slab-index l.slabs)) l.points.items
