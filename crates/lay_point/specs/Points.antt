-- Points: the range of their coordinates, and their order.
-- Source: Caltech Intermediate Form 2.0 has hundredths of a micrometre; the unit of half a
-- hundredth and the limit are this project's own.
-- Checked on: 1,073,741,824 and -1,073,741,824 are in range, 1,073,741,825 isn't.
use Rattle.std.specs.Prelude.{◌≡◌, ◌⊎◌, ℤ, neg_ℤ, ◌<ℤ◌, int_le, Bool, ◌&&◌}
use Rattle.std.specs.Ordering.{int_eq}
use Rattle.lay_point.specs.declared.point.Point.{Point}
use Rattle.lay_point.specs.declared.point.TheConstants.{LIMIT}

-- a coordinate or a shift of a layout
abbrev pub is_coordinate : ℤ → Bool
is_coordinate a = int_le (neg_ℤ LIMIT) a && int_le a LIMIT

abbrev pub is_in_range : Point → Bool
is_in_range p = is_coordinate p.x && is_coordinate p.y

-- the same point
abbrev pub point_eq : Point → Point → Bool
point_eq p q = int_eq p.x q.x && int_eq p.y q.y

-- by x, then by y
abbrev pub IsBefore : Point → Point → Type 0
IsBefore p q = (p.x <ℤ q.x) ⊎ ((p.x ≡ q.x) × (p.y <ℤ q.y))
