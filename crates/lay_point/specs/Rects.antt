-- Boxes with sides along the axes, by their lower left and their upper right corner.
-- Source: this project's own.
-- Checked on: a square of 10 touches those whose lower left corners are (10, 10), (10, 0) and (9, 9), and not (11, 10).
use Rattle.std.specs.Prelude.{◌≤ℤ◌, int_le, Bool, ◌&&◌}
use Rattle.std.specs.Int.{int_max, int_min}
use Rattle.lay_point.specs.declared.point.Point.{Point}
use Rattle.lay_point.specs.declared.rect.Rect.{Rect}

-- the point is in the box, sides included
pub record IsIn (b : Rect) (p : Point) : Type 0 where
  pub left : b.low.x ≤ℤ p.x
  pub right : p.x ≤ℤ b.high.x
  pub bottom : b.low.y ≤ℤ p.y
  pub top : p.y ≤ℤ b.high.y

-- the least box that has the point too
abbrev pub grown : Rect → Point → Rect
grown b p =
    record {
      low = record { x = int_min b.low.x p.x; y = int_min b.low.y p.y };
      high = record { x = int_max b.high.x p.x; y = int_max b.high.y p.y };
    }

-- p is neither to the right of q nor above it
abbrev pub is_up_to : Point → Point → Bool
is_up_to p q = int_le p.x q.x && int_le p.y q.y

-- the boxes, sides included, have a point in common
abbrev pub touch : Rect → Rect → Bool
touch b c = is_up_to b.low c.high && is_up_to c.low b.high
