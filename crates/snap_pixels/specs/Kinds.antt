-- Segments along an axis and slanted ones, and lists in which no two segments cross since all are parallel.
use Rattle.std.specs.Prelude.{◌≡◌, ◌≢◌, List, Contains}
use Rattle.snap_pixels.specs.declared.kind.Kind.{Kind}
use Rattle.snap_pixels.specs.declared.kind.Kind.TheVariants.{Level, Slanted, Upright}
use Rattle.snap_pixels.specs.declared.segment.Segment.{Segment}
use Rattle.snap_pixels.specs.Segments.{AreParallel}

-- the segment is along x, along y, or along neither
abbrev pub IsOfKind : Kind → Segment → Type 0
IsOfKind Level s = s.a.y ≡ s.b.y
IsOfKind Upright s = s.a.x ≡ s.b.x
IsOfKind Slanted s = (s.a.y ≢ s.b.y) × (s.a.x ≢ s.b.x)

-- each of the segments is parallel to each
abbrev pub AreParallelAll : List Segment → Type 0
AreParallelAll segments = (s t : Segment) → Contains segments s → Contains segments t → AreParallel s.a s.b t.a t.b
