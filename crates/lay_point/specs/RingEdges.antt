-- The edges of rings: each point of a ring with the next, and the last with the first.
-- Source: Caltech Intermediate Form 2.0, polygons, which are closed from the last vertex to the first.
use Rattle.std.specs.Prelude.{List, [], ◌∷◌}
use Rattle.std.specs.List.{flat_map}
use Rattle.lay_point.specs.declared.point.Point.{Point}
use Rattle.lay_point.specs.Rings.{closed}

-- each element with the next
abbrev pub pairs : {A : Type 0} → List A → List (A × A)
pairs [] = []
pairs (x ∷ []) = []
pairs (x ∷ y ∷ ys) = (x, y) ∷ pairs (y ∷ ys)

-- the edges of one ring
abbrev pub edges_of_ring : List Point → List (Point × Point)
edges_of_ring ring = pairs (closed ring)

-- the edges of all these rings together, each as often as it occurs
abbrev pub edges_of : List (List Point) → List (Point × Point)
edges_of rings = flat_map edges_of_ring rings
