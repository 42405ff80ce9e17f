-- Sides of rings, as segments.
use Rattle.lay_point.specs.declared.point.Point.{Point}
use Rattle.snap_pixels.specs.declared.segment.Segment.{Segment}

abbrev pub segment_ends : Segment → Point × Point
segment_ends s = (s.a, s.b)
