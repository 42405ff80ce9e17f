-- The side of a segment on which a centre is, with all columns of its slab.
use Rattle.std.specs.Prelude.{ℤ, ◌+ℤ◌, ◌-ℤ◌, ◌≤ℤ◌, Bool, ◌&&◌, int_lt}
use Rattle.lay_point.specs.declared.point.Point.{Point}
use Rattle.snap_pixels.specs.Segments.{cross}

-- in both columns, on the row of the centre, the area that the segment spans is greater than the slack
abbrev pub is_off : Point → Point → ℤ → ℤ → ℤ → Point → Bool
is_off a b slack low high c =
    int_lt slack (cross a b a (record { x = c.x; y = low })) && int_lt slack (cross a b a (record { x = c.x; y = high }))

-- as great as the sum of the ways from a to b, along x and along y, whatever their signs
pub record IsSlack (a b : Point) (slack : ℤ) : Type 0 where
  pub up_up : ((b.x -ℤ a.x) +ℤ (b.y -ℤ a.y)) ≤ℤ slack
  pub up_down : ((b.x -ℤ a.x) +ℤ (a.y -ℤ b.y)) ≤ℤ slack
  pub down_up : ((a.x -ℤ b.x) +ℤ (b.y -ℤ a.y)) ≤ℤ slack
  pub down_down : ((a.x -ℤ b.x) +ℤ (a.y -ℤ b.y)) ≤ℤ slack
