-- Lists of points in the order of points: by x, then by y.
use Rattle.std.specs.Prelude.{◌↔◌, List, [], ◌∷◌, ⊤, Contains}
use Rattle.lay_point.specs.declared.point.Point.{Point}
use Rattle.lay_point.specs.Points.{IsBefore}

-- each point is before the next
abbrev pub ArePointsRising : List Point → Type 0
ArePointsRising [] = ⊤
ArePointsRising (p ∷ []) = ⊤
ArePointsRising (p ∷ q ∷ ps) = IsBefore p q × ArePointsRising (q ∷ ps)

-- the point on the other side of the diagonal
abbrev pub transposed : Point → Point
transposed p = record { x = p.y; y = p.x }

-- the points on the other side of the diagonal
abbrev pub AreTransposed : List Point → List Point → Type 0
AreTransposed points others = (p : Point) → Contains others (transposed p) ↔ Contains points p
