-- Slabs: the hot centres in parts that are neighbours in the order of points, each in the order of its rows.
use Rattle.std.specs.Prelude.{ℕ, ◌<◌, ◌≤◌, ◌≡◌, ⊤, List, [], ◌∷◌, length, take, drop, flat_map, slice_index_or, Contains}
use Rattle.lay_point.specs.declared.point.Point.{Point}
use Rattle.snap_pixels.specs.Order.{AreTransposed, transposed}

-- the slabs hold the centres from the first on, so many each, on the other side of the diagonal
abbrev pub AreSlabs : ℕ → List Point → List (List Point) → Type 0
AreSlabs size centres [] = ⊤
AreSlabs size centres (s ∷ slabs) =
    AreTransposed (take size centres) s × AreSlabs size (drop size centres) slabs

-- all points of the slabs
abbrev pub points_in : List (List Point) → List Point
points_in slabs = flat_map (λ s. s) slabs

-- the slabs hold, on the other side of the diagonal, the centres at indices from the first on, before the second
abbrev pub HoldPlaces : List Point → ℕ → ℕ → List (List Point) → Type 0
HoldPlaces centres from to slabs = (k : ℕ) (c : Point) → from ≤ k → k < to → k < length centres → slice_index_or centres k c ≡ c
    → Contains (points_in slabs) (transposed c)
