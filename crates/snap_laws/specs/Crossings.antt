-- The pixel of the crossing of two segments, and the hot centres of all sides.
-- Source: Hobby, Practical segment intersection with finite precision output, 1999.
use Rattle.std.specs.Prelude.{ℤ, pos, ◌+ℤ◌, ◌*ℤ◌, int_le, int_lt, Bool, ◌&&◌, if◌then◌else◌, Option, Some, None, List, ◌∷◌, flat_map}
use Rattle.std.specs.Int.{int_div_euclid}
use Rattle.std.specs.List.{filter_map}
use Rattle.lay_point.specs.declared.point.Point.{Point}
use Rattle.snap_pixels.specs.Segments.{along, cross}
use Rattle.snap_laws.specs.Sorting.{point_order, sorted_once}

-- the whole number that a / k is rounded to, for a positive k
abbrev pub nearest : ℤ → ℤ → ℤ
nearest a k = int_div_euclid (pos 2 *ℤ a +ℤ k) (pos 2 *ℤ k)

-- t / k is from 0 to 1, for a positive k
abbrev pub is_fraction : ℤ → ℤ → Bool
is_fraction t k = int_le (pos 0) t && int_le t k

-- the pixel of the point at t / k of the way from a to b, where t / k and u / k are both from 0 to 1
abbrev pub met_at : Point → Point → ℤ → ℤ → ℤ → Option Point
met_at a b k t u =
    if is_fraction t k && is_fraction u k
    then Some (record { x = nearest (along k t a.x b.x) k; y = nearest (along k t a.y b.y) k })
    else None

-- the pixel of the common point of the segments from a to b and from c to d, of which the second turns left from the first: their
-- lines meet at t / k of the way along the first and at u / k of the way along the second, where k, t and u are these areas
abbrev pub left_crossing : Point → Point → Point → Point → Option Point
left_crossing a b c d = met_at a b (cross a b c d) (cross a c c d) (cross a c a b)

-- the centre of the pixel of the common point of two segments that aren't parallel, where they have one
unfoldable pub crossing_of : Point → Point → Point → Point → Option Point
crossing_of a b c d =
    if int_lt (pos 0) (cross a b c d) then left_crossing a b c d
    else if int_lt (cross a b c d) (pos 0) then left_crossing a b d c
    else None

-- the ends of the side, and the pixels of its crossings
abbrev pub marks_of : List (Point × Point) → Point × Point → List Point
marks_of sides s = s.0 ∷ s.1 ∷ filter_map (λ t. crossing_of s.0 s.1 t.0 t.1) sides

-- the hot centres of the sides, each once, in the order of points
unfoldable pub hot_centres : List (Point × Point) → List Point
hot_centres sides = sorted_once point_order (flat_map (marks_of sides) sides)
