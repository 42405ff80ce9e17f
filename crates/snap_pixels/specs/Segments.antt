-- Segments: their points, those in a pixel, and those that two have in common.
-- Source: Hobby, Practical segment intersection with finite precision output, 1999.
-- Checked on: from (0, 0) to (10, 2) a segment meets the pixel of (4, 1), and not that of (4, 0).
use Rattle.std.specs.Prelude.{◌≡◌, ℤ, pos, ◌+ℤ◌, ◌-ℤ◌, ◌*ℤ◌, ◌≤ℤ◌}
use Rattle.lay_point.specs.declared.point.Point.{Point}
use Rattle.snap_pixels.specs.Pixels.{HoldsPlace}

-- t / k is a fraction from 0 to 1
pub record IsFraction (t k : ℤ) : Type 0 where
  pub scale : pos 1 ≤ℤ k
  pub low : pos 0 ≤ℤ t
  pub high : t ≤ℤ k

-- the coordinate at the fraction t / k of the way from a to b, at scale k
abbrev pub along : ℤ → ℤ → ℤ → ℤ → ℤ
along k t a b = a *ℤ (k -ℤ t) +ℤ b *ℤ t

-- some point of the segment from a to b is in the pixel of c
abbrev pub Meets : Point → Point → Point → Type 0
Meets a b c = (k : ℤ) × (t : ℤ) × IsFraction t k × HoldsPlace c k (along k t a.x b.x) (along k t a.y b.y)

-- twice the area that the directions from a to b and from c to d span, with its sign
abbrev pub cross : Point → Point → Point → Point → ℤ
cross a b c d = (b.x -ℤ a.x) *ℤ (d.y -ℤ c.y) -ℤ (b.y -ℤ a.y) *ℤ (d.x -ℤ c.x)

abbrev pub AreParallel : Point → Point → Point → Point → Type 0
AreParallel a b c d = cross a b c d ≡ pos 0

-- the point at t / k of the way from a to b is the one at t' / k of the way from a' to b'
pub record IsCommon (a b a' b' : Point) (k t t' : ℤ) : Type 0 where
  pub first : IsFraction t k
  pub second : IsFraction t' k
  pub column : along k t a.x b.x ≡ along k t' a'.x b'.x
  pub row : along k t a.y b.y ≡ along k t' a'.y b'.y

-- the segments from a to b and from a' to b' aren't parallel, and their common point is in the pixel of c
abbrev pub Crosses : Point → Point → Point → Point → Point → Type 0
Crosses a b a' b' c =
    (¬ AreParallel a b a' b') × (k : ℤ) × (t : ℤ) × (t' : ℤ) × IsCommon a b a' b' k t t'
    × HoldsPlace c k (along k t a.x b.x) (along k t a.y b.y)
