-- The centres that a segment may meet, as neighbours in the order of points.
use Rattle.std.specs.Prelude.{◌≡◌, ℕ, ◌<◌, ◌≤◌, List, length, slice_index_or, Bool, ◌&&◌, ◌||◌, int_lt}
use Rattle.std.specs.Ordering.{int_eq}
use Rattle.lay_point.specs.declared.point.Point.{Point}
use Rattle.snap_pixels.specs.Segments.{Meets}

-- by x, then by y
abbrev pub is_lesser_point : Point → Point → Bool
is_lesser_point p q = int_lt p.x q.x || (int_eq p.x q.x && int_lt p.y q.y)

-- the centres that the segment from a to b meets are at indices from the first on, before the second
abbrev pub HoldMet : List Point → Point → Point → ℕ × ℕ → Type 0
HoldMet centres a b places = (k : ℕ) (c : Point) → k < length centres → slice_index_or centres k c ≡ c → Meets a b c
    → (places.0 ≤ k) × (k < places.1)
