-- Where segments end and cross, run by run: each segment of a run is asked about the segments after the run alone.
use Rattle.std.specs.Prelude.{List, Contains}
use Rattle.lay_point.specs.declared.point.Point.{Point}
use Rattle.snap_pixels.specs.declared.segment.Segment.{Segment}
use Rattle.snap_pixels.specs.Hot.{HoldsEnd}
use Rattle.snap_pixels.specs.Segments.{Crosses}

-- the pixel of c holds a point that s has in common with one of the others, which isn't parallel to it
abbrev pub CrossesOne : Segment → List Segment → Point → Type 0
CrossesOne s others c = (t : Segment) × Contains others t × Crosses s.a s.b t.a t.b c

-- it holds one that a segment of the run has in common with one after it
abbrev pub RunCrosses : List Segment → List Segment → Point → Type 0
RunCrosses run later c = (s : Segment) × Contains run s × CrossesOne s later c

-- it holds one that two of the segments have in common
abbrev pub IsCrossed : List Segment → Point → Type 0
IsCrossed segments c = (s : Segment) × (t : Segment) × Contains segments s × Contains segments t × Crosses s.a s.b t.a t.b c

-- it holds an end of one of the segments
abbrev pub HoldsAnEnd : List Segment → Point → Type 0
HoldsAnEnd segments c = (s : Segment) × Contains segments s × HoldsEnd s c
