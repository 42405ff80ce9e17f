-- Linking of edges to rings, step by step: from the lesser end of the first edge that is left along it, at each point
-- along the first edge left there, up to the start; and so on until no edge is left. An edge is the pair of its ends,
-- the lesser first, and the edges rise.
use Rattle.std.specs.Prelude.{ℕ, zero, suc, List, [], ◌∷◌, length, Option, None, Some, if◌then◌else◌}
use Rattle.lay_point.specs.declared.point.Point.{Point}
use Rattle.lay_point.specs.Edges.{touches}
use Rattle.lay_point.specs.Points.{point_eq}

abbrev pub Ends : Type 0
Ends = Point × Point

-- the end of the edge that the point isn't
abbrev pub other_end : Point → Ends → Point
other_end v e = if point_eq e.0 v then e.1 else e.0

-- what was taken of the edges behind one that stays
abbrev pub keeping_first : Ends → Option (Ends × List Ends) → Option (Ends × List Ends)
keeping_first e None = None
keeping_first e (Some t) = Some (t.0, e ∷ t.1)

-- the first edge at the point, and the others
abbrev pub take_at : Point → List Ends → Option (Ends × List Ends)
take_at v [] = None
take_at v (e ∷ es) = if touches v e then Some (e, es) else keeping_first e (take_at v es)

-- a point, and the way from the other end of the edge taken there
abbrev pub ring_along : (Point → List Ends → List Point × List Ends) → Point → List Ends → Option (Ends × List Ends)
    → List Point × List Ends
ring_along go at es None = (at ∷ [], es)
ring_along go at es (Some t) = let rest = go (other_end at t.0) t.1 in (at ∷ rest.0, rest.1)

-- the points from one up to the start, and the edges left then, in so many steps at most
abbrev pub way : ℕ → Point → Point → List Ends → List Point × List Ends
way zero start at es = ([], es)
way (suc n) start at es = if point_eq at start then ([], es) else ring_along (way n start) at es (take_at at es)

-- from the lesser end of the first edge along it and back, and the edges left then
abbrev pub first_ring : List Ends → List Point
first_ring [] = []
first_ring (e ∷ es) = e.0 ∷ (way (suc (length es)) e.0 e.1 es).0

abbrev pub behind_first : List Ends → List Ends
behind_first [] = []
behind_first (e ∷ es) = (way (suc (length es)) e.0 e.1 es).1

-- so many rings at most
abbrev pub rings_up_to : ℕ → List Ends → List (List Point)
rings_up_to zero es = []
rings_up_to (suc n) [] = []
rings_up_to (suc n) (e ∷ es) = first_ring (e ∷ es) ∷ rings_up_to n (behind_first (e ∷ es))

-- the rings of the edges
unfoldable pub linked_rings : List Ends → List (List Point)
linked_rings es = rings_up_to (length es) es
