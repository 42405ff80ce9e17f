-- Strips across which segments are divided: places are in the same strip, or in another, by how far they are.
use Rattle.std.specs.Prelude.{ℕ, ◌≤◌, ◌/◌, ◌%◌, ◌^◌, min, max, cond, int_le, nat_abs, List, [], Contains, slice_index_or}
use Rattle.std.specs.Prelude.{ℤ, ◌+ℤ◌, ◌-ℤ◌, ◌*ℤ◌}
use Rattle.lay_point.specs.declared.point.Point.{Point}
use Rattle.snap_pixels.specs.declared.measure.Measure.{Measure}
use Rattle.snap_pixels.specs.declared.measure.Measure.TheVariants.{Column, Row, Slanted}
use Rattle.snap_pixels.specs.declared.segment.Segment.{Segment}
use Rattle.snap_pixels.specs.declared.strips.Strips.{Strips}

-- how far the point is, times the direction's length
abbrev pub reach : Measure → Point → ℤ
reach Column p = p.x
reach Row p = p.y
reach (Slanted d) p = d.x *ℤ p.x +ℤ d.y *ℤ p.y

-- the number of the strip that holds the places so far away: those before the first strip are in it, too, and those
-- behind the last one are in that
abbrev pub strip_number : Strips → ℤ → ℕ
strip_number s at = cond (int_le at s.from) 0 (min (nat_abs (at -ℤ s.from) / 2 ^ (s.shift % 64)) s.last)

-- the numbers of the strips of the segment's ends
abbrev pub strip_of_a : Strips → Segment → ℕ
strip_of_a s t = strip_number s (reach s.measure t.a)

abbrev pub strip_of_b : Strips → Segment → ℕ
strip_of_b s t = strip_number s (reach s.measure t.b)

-- the strip is that of an end, or between those of the two
abbrev pub IsInStrip : Strips → Segment → ℕ → Type 0
IsInStrip s t k = (min (strip_of_a s t) (strip_of_b s t) ≤ k) × (k ≤ max (strip_of_a s t) (strip_of_b s t))

-- the list of this number
abbrev pub strip_list : List (List Segment) → ℕ → List Segment
strip_list lists k = slice_index_or lists k []

-- each list has some of the segments, and all those that are in its strip
pub record AreStripLists (s : Strips) (segments : List Segment) (lists : List (List Segment)) : Type 0 where
  pub own : (k : ℕ) (t : Segment) → Contains (strip_list lists k) t → Contains segments t
  pub all : (k : ℕ) (t : Segment) → Contains segments t → IsInStrip s t k → Contains (strip_list lists k) t
