-- Pixels. A place (x, y) at scale k, with 1 ≤ k, stands for (x / k, y / k). The pixel of a centre is the unit square
-- round it, with its left and lower sides and without its right and upper ones, so each place is in one pixel.
-- Source: Hobby, Practical segment intersection with finite precision output, 1999.
-- Checked on: (1/2, 1/2) is in the pixel of (1, 1), (-1/2, -1/2) in that of (0, 0).
use Rattle.std.specs.Prelude.{ℤ, pos, ◌+ℤ◌, ◌*ℤ◌, ◌≤ℤ◌, ◌<ℤ◌}
use Rattle.lay_point.specs.declared.point.Point.{Point}

-- a / k is in the unit interval round c: the lower end counts, the upper doesn't
abbrev pub IsRoundedTo : ℤ → ℤ → ℤ → Type 0
IsRoundedTo c k a = ((pos 2 *ℤ c *ℤ k) ≤ℤ (pos 2 *ℤ a +ℤ k)) × ((pos 2 *ℤ a) <ℤ (pos 2 *ℤ c *ℤ k +ℤ k))

-- the pixel of this centre holds the place (x, y) at scale k
pub record HoldsPlace (centre : Point) (k x y : ℤ) : Type 0 where
  pub column : IsRoundedTo centre.x k x
  pub row : IsRoundedTo centre.y k y
