-- Winding numbers: how often closed paths go round a place, anticlockwise, each clockwise turn taken off. The half line from
-- the place to the right crosses edges; each that goes upward there counts 1, and each that goes downward -1.
-- Source: Sunday, Inclusion of a point in a polygon, 2001. Which edges are crossed is the rule of parity (lay_point's Parity).
use Rattle.std.specs.Prelude.{◌≡◌, ℤ, pos, neg_ℤ, ◌+ℤ◌, Bool, List, [], ◌∷◌, if◌then◌else◌}
use Rattle.lay_point.specs.declared.point.Point.{Point}
use Rattle.lay_point.specs.Parity.{is_crossed_rising}

-- what f makes of the elements, summed up
abbrev pub sum_of : {A : Type 0} → (A → ℤ) → List A → ℤ
sum_of f [] = pos 0
sum_of f (x ∷ xs) = f x +ℤ sum_of f xs

-- what an edge from its first end to its second counts about the place (x, y) at scale k
abbrev pub turn : ℤ → ℤ → ℤ → Point × Point → ℤ
turn k x y e =
    if is_crossed_rising k x y e.0 e.1 then pos 1
    else if is_crossed_rising k x y e.1 e.0 then neg_ℤ (pos 1)
    else pos 0

-- how often the edges go round the place
unfoldable pub winding : List (Point × Point) → ℤ → ℤ → ℤ → ℤ
winding edges k x y = sum_of (turn k x y) edges

abbrev pub one_if : Bool → ℤ
one_if b = if b then pos 1 else pos 0

-- what f makes of edges is turned round with them, as what they count about a place
pub record IsTurn (f : Point × Point → ℤ) : Type 0 where
  pub turned : (p q : Point) → f (q, p) ≡ neg_ℤ (f (p, q))
  pub without_length : (p : Point) → f (p, p) ≡ pos 0
