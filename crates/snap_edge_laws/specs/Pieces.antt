-- Pieces of lines, and what becomes of two that move sideways. Coordinates may be at any scales, one for x and one for y.
use Rattle.std.specs.Prelude.{◌≡◌, ◌⊎◌, ℤ, ◌*ℤ◌}
use Rattle.lay_point.specs.declared.point.Point.{Point}
use Rattle.snap_pixels.specs.Segments.{IsFraction, along}
use Rattle.snap_edge_laws.specs.Areas.{IsConvex}

-- p is l / m of the way from q to r
pub record IsAtFraction (p q r : Point) (m l : ℤ) : Type 0 where
  pub part : IsFraction l m
  pub column : m *ℤ p.x ≡ along m l q.x r.x
  pub row : m *ℤ p.y ≡ along m l q.y r.y

-- p is on the piece from q to r, its ends included
pub record IsOnPiece (p q r : Point) : Type 0 where
  pub m : ℤ
  pub l : ℤ
  pub is_part : IsAtFraction p q r m l

-- an end of a diagonal of the quadrilateral p q r t lies on the other diagonal
pub data HasEnd (p q r t : Point) : Type 0 where
  first : IsOnPiece p t q → HasEnd p q r t
  second : IsOnPiece q p r → HasEnd p q r t
  third : IsOnPiece r q t → HasEnd p q r t
  fourth : IsOnPiece t r p → HasEnd p q r t

-- p with another x
abbrev pub with_x : Point → ℤ → Point
with_x p x = record { x = x; y = p.y }

-- p on its way to that, at the time i / n
abbrev pub sideways : ℤ → ℤ → Point → ℤ → Point
sideways n i p x = record { x = along n i p.x x; y = p.y }

-- an end is on the other diagonal at some time, while the points move to these x
pub record EndCrossesDiagonal (p q r t : Point) (px qx rx tx : ℤ) : Type 0 where
  pub n : ℤ
  pub i : ℤ
  pub time : IsFraction i n
  pub end : HasEnd (sideways n i p px) (sideways n i q qx) (sideways n i r rx) (sideways n i t tx)

-- pieces that cross properly at the end of a sideways motion did so at its start, unless an end came to lie on the other piece
abbrev pub PiecesTouchFirst : Type 0
PiecesTouchFirst = (p q r t : Point) (px qx rx tx : ℤ) → IsConvex (with_x p px) (with_x q qx) (with_x r rx) (with_x t tx)
    → IsConvex p q r t ⊎ EndCrossesDiagonal p q r t px qx rx tx
