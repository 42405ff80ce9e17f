-- Parity: whether the half line from a place to the right crosses an odd or an even number of edges. Of the edges of
-- closed paths it tells whether the place is inside. A place (x, y) at scale k, with 1 ≤ k, stands for (x / k, y / k).
-- Source: Shimrat, Algorithm 112: Position of point relative to polygon, 1962. That an edge has its lower end and not its
-- upper one, so that a level edge is never crossed, and that a place on an edge isn't left of it, are this project's own.
-- Checked on: of the square from (0,0) to (4,4), (2,2) and (7/2,1/2) are inside, (-1,2) and (2,7)
-- aren't; (0,2) and (2,0), on its left and lower sides, are, (4,2) and (2,4), on the others,
-- aren't.
use Rattle.std.specs.Prelude.{Bool, true, false, not, ◌&&◌, ◌||◌, List, [], ◌∷◌, ℤ, pos, ◌+ℤ◌, ◌-ℤ◌, ◌*ℤ◌, int_le, int_lt}
use Rattle.lay_point.specs.declared.point.Point.{Point}

-- exactly one of the two
abbrev pub xor : Bool → Bool → Bool
xor false b = b
xor true b = not b

-- an odd number of the elements pass the test, each counted as often as it occurs
abbrev pub parity : {A : Type 0} → (A → Bool) → List A → Bool
parity test [] = false
parity test (x ∷ xs) = xor (test x) (parity test xs)

-- a isn't above the height y at scale k, and b is
abbrev pub rises_past : ℤ → ℤ → Point → Point → Bool
rises_past k y a b = int_le (k *ℤ a.y) y && int_lt y (k *ℤ b.y)

-- how far the line from a to b is on the right of the place, at the place's height, times k and the rise from a to b
abbrev pub distance_right : ℤ → ℤ → ℤ → Point → Point → ℤ
distance_right k x y a b = (k *ℤ a.x -ℤ x) *ℤ (b.y -ℤ a.y) +ℤ (y -ℤ k *ℤ a.y) *ℤ (b.x -ℤ a.x)

-- the half line crosses the edge that rises from a to b
abbrev pub is_crossed_rising : ℤ → ℤ → ℤ → Point → Point → Bool
is_crossed_rising k x y a b = rises_past k y a b && int_lt (pos 0) (distance_right k x y a b)

-- the half line crosses the edge, which rises from the one end or from the other
abbrev pub is_crossed : ℤ → ℤ → ℤ → Point × Point → Bool
is_crossed k x y e = is_crossed_rising k x y e.0 e.1 || is_crossed_rising k x y e.1 e.0

-- the half line crosses an odd number of the edges
unfoldable pub odd : List (Point × Point) → ℤ → ℤ → ℤ → Bool
odd edges k x y = parity (is_crossed k x y) edges
