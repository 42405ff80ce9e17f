-- Hot pixels of segments.
-- Source: Hobby, Practical segment intersection with finite precision output, 1999.
-- Checked on: (0, 0) to (1, 1) and (0, 1) to (1, 0) make (0, 0), (0, 1), (1, 0) and (1, 1) hot;
-- (0, 0) to (639, 639) and (0, 639) to (639, 0) their ends and (320, 320).
use Rattle.std.specs.Prelude.{◌⊎◌, pos, List, Contains, ◌↔◌}
use Rattle.lay_point.specs.declared.point.Point.{Point}
use Rattle.snap_pixels.specs.declared.segment.Segment.{Segment}
use Rattle.snap_pixels.specs.Order.{ArePointsRising}
use Rattle.snap_pixels.specs.Pixels.{HoldsPlace}
use Rattle.snap_pixels.specs.Segments.{Crosses}

-- the pixel of c holds an end of the segment
abbrev pub HoldsEnd : Segment → Point → Type 0
HoldsEnd s c = HoldsPlace c (pos 1) s.a.x s.a.y ⊎ HoldsPlace c (pos 1) s.b.x s.b.y

-- the pixel of c holds an end of one of the segments, or a point common to two of them that aren't parallel
abbrev pub IsHot : List Segment → Point → Type 0
IsHot segments c =
    ((s : Segment) × Contains segments s × HoldsEnd s c)
    ⊎ ((s : Segment) × (t : Segment) × Contains segments s × Contains segments t × Crosses s.a s.b t.a t.b c)

-- the hot centres of the segments, each once, in the order of points
pub record AreHotCentres (segments : List Segment) (centres : List Point) : Type 0 where
  pub rising : ArePointsRising centres
  pub exact : (c : Point) → Contains centres c ↔ IsHot segments c
