-- Areas of triangles, and of the four that the corners of a quadrilateral p q r t make with their neighbours. Its diagonals are from
-- p to r and from q to t.
-- Source: de Berg, Cheong, van Kreveld, Overmars, Computational Geometry, 2008, on orientation.
use Rattle.std.specs.Prelude.{◌≡◌, ℤ, pos, ◌+ℤ◌, ◌-ℤ◌, ◌*ℤ◌, ◌<ℤ◌}
use Rattle.lay_point.specs.declared.point.Point.{Point}

-- twice the area of the triangle, positive where p, q and r turn to the left
unfoldable pub area : Point → Point → Point → ℤ
area p q r = (q.x -ℤ p.x) *ℤ (r.y -ℤ q.y) -ℤ (q.y -ℤ p.y) *ℤ (r.x -ℤ q.x)

-- the pieces from p to r and from q to t cross properly, with q to the right of the first: p q r t is convex, turning to the left
pub record IsConvex (p q r t : Point) : Type 0 where
  pub at_p : pos 0 <ℤ area t p q
  pub at_q : pos 0 <ℤ area p q r
  pub at_r : pos 0 <ℤ area q r t
  pub at_t : pos 0 <ℤ area r t p

-- two opposite areas are as much as the other two
abbrev pub AreasBalance : Type 0
AreasBalance = (p q r t : Point) → area t p q +ℤ area q r t ≡ area p q r +ℤ area r t p

-- the areas weigh the point where the diagonals meet
abbrev pub AreasWeigh : Type 0
AreasWeigh = (p q r t : Point)
    → (area t p q *ℤ r.x +ℤ area q r t *ℤ p.x ≡ area p q r *ℤ t.x +ℤ area r t p *ℤ q.x)
    × (area t p q *ℤ r.y +ℤ area q r t *ℤ p.y ≡ area p q r *ℤ t.y +ℤ area r t p *ℤ q.y)
