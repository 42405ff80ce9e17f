-- Rows of edges. The row r is the height r + 1/2, which no end of an edge is at. An edge crosses it at one place, or
-- nowhere; a level edge never does.
-- Source: this project's own.
-- Checked on: of the 12 edges of the squares 0 0 20 20 and 10 10 30 30, numbered from 0, the height
-- 5 + 1/2 has 0 and 8, the height 15 + 1/2 has 0, 3, 9 and 11; those of And are 3, 4, 6 and 9.
use Rattle.std.specs.Prelude.{◌↔◌, ℕ, ◌<◌, ℤ, pos, ◌+ℤ◌, ◌-ℤ◌, ◌*ℤ◌, ◌<ℤ◌, int_le, int_lt, Bool, ◌&&◌, IsTrue}
use Rattle.std.specs.Prelude.{List, length, Contains, slice_index_or, if◌then◌else◌}
use Rattle.lay_point.specs.declared.point.Point.{Point}
use Rattle.lay_point.specs.Rising.{IsRising}

-- the edge from its lower end to its upper one
abbrev pub upward : Point × Point → Point × Point
upward e = if int_le e.0.y e.1.y then e else (e.1, e.0)

-- the edge crosses the height row + 1/2
abbrev pub crosses_row : ℤ → Point × Point → Bool
crosses_row row e = int_le (upward e).0.y row && int_lt row (upward e).1.y

-- where it does so, as a fraction: x is crossing row e / rise e
abbrev pub rise : Point × Point → ℤ
rise e = pos 2 *ℤ ((upward e).1.y -ℤ (upward e).0.y)

abbrev pub crossing : ℤ → Point × Point → ℤ
crossing row e =
    (pos 2 *ℤ (upward e).1.y -ℤ (pos 2 *ℤ row +ℤ pos 1)) *ℤ (upward e).0.x
    +ℤ ((pos 2 *ℤ row +ℤ pos 1) -ℤ pos 2 *ℤ (upward e).0.y) *ℤ (upward e).1.x

-- e crosses the row left of f
abbrev pub IsLeftInRow : ℤ → Point × Point → Point × Point → Type 0
IsLeftInRow row e f = (rise f *ℤ crossing row e) <ℤ (rise e *ℤ crossing row f)

-- the edge of this number crosses the row
abbrev pub CrossesRow : List (Point × Point) → ℤ → ℕ → Type 0
CrossesRow edges row n = (n < length edges) × ((d : Point × Point) → IsTrue (crosses_row row (slice_index_or edges n d)))

-- the first of these edges crosses the row left of the second
abbrev pub IsLeftOf : List (Point × Point) → ℤ → ℕ → ℕ → Type 0
IsLeftOf edges row m n = (d : Point × Point) → IsLeftInRow row (slice_index_or edges m d) (slice_index_or edges n d)

-- the numbers of the edges that cross the row, from left to right
pub record AreRowEdges (edges : List (Point × Point)) (row : ℤ) (numbers : List ℕ) : Type 0 where
  pub exact : (n : ℕ) → Contains numbers n ↔ CrossesRow edges row n
  pub rising : IsRising (IsLeftOf edges row) numbers

-- numbers of edges that cross the row, from left to right
pub record AreSomeRowEdges (edges : List (Point × Point)) (row : ℤ) (numbers : List ℕ) : Type 0 where
  pub members : (n : ℕ) → Contains numbers n → CrossesRow edges row n
  pub rising : IsRising (IsLeftOf edges row) numbers
