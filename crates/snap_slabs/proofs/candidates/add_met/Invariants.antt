use Rattle.std.proofs.Common.{Contains, take}
use Rattle.snap_pixels.specs.Segments.{Meets}
use Rattle.snap_slabs.proofs.Sorted.{ArePassed}
use Rattle.snap_slabs.proofs.candidates.add_met.Given as goal

-- those of the centres so far that the segment meets are added
abbrev pub invariant-loop-centre : goal.invariant-loop-centre
invariant-loop-centre l =
    ArePassed (Meets l.segment.a l.segment.b) (Contains l.fn.points.items) (λ p. p) (take l.centre-index l.centres) l.points.items
