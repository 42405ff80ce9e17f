-- Where edges cross a row, before they are in order.
use Rattle.std.specs.Prelude.{◌≡◌, ℕ, ◌<◌, ℤ, IsTrue, List, length, slice_index_or}
use Rattle.lay_point.specs.declared.point.Point.{Point}
use Rattle.face_rows.specs.declared.crossing.Crossing.{Crossing}
use Rattle.face_rows.specs.Picked.{picked}
use Rattle.face_rows.specs.Rows.{crosses_row, crossing, rise}

-- the numbers of those that cross the row, where the first has this number
abbrev pub crossing_numbers : ℤ → ℕ → List (Point × Point) → List ℕ
crossing_numbers row = picked (crosses_row row) (λ n e. n)

-- the place is that of the edge of its number
pub record IsCrossingOf (edges : List (Point × Point)) (row : ℤ) (c : Crossing) : Type 0 where
  pub given : c.number < length edges
  pub crosses : (d : Point × Point) → IsTrue (crosses_row row (slice_index_or edges c.number d))
  pub x : (d : Point × Point) → c.x ≡ crossing row (slice_index_or edges c.number d)
  pub rise : (d : Point × Point) → c.rise ≡ rise (slice_index_or edges c.number d)
