-- What the rings of shapes become by rounding, computed.
-- Source: Hobby, Practical segment intersection with finite precision output, 1999.
use Rattle.std.specs.Prelude.{ℤ, ◌+ℤ◌, ◌-ℤ◌, ◌*ℤ◌, List, [], ◌∷◌, ◌++◌, map, flat_map}
use Rattle.std.specs.Int.{int_signum}
use Rattle.std.specs.List.{filter}
use Rattle.std.specs.declared.cmp.Ordering.{Ordering}
use Rattle.std.specs.Ordering.{int_cmp, on, then_cmp}
use Rattle.lay_point.specs.declared.point.Point.{Point}
use Rattle.lay_point.specs.Edges.{undirected}
use Rattle.lay_point.specs.Rising.{pairs}
use Rattle.snap_edge_laws.specs.Rounding.{closed_walk, tail}
use Rattle.snap_edge_laws.specs.Undirected.{is_owned, walked_edges}
use Rattle.snap_chains.specs.declared.owner.Owner.{Owner}
use Rattle.snap_chains.specs.Round.{owner_walks}
use Rattle.snap_chains.specs.Rounded.{Owned}
use Rattle.snap_laws.specs.Crossings.{hot_centres}
use Rattle.snap_laws.specs.Meeting.{meets_of}
use Rattle.snap_laws.specs.Sorting.{edge_order, owner_order, point_order, sorted_once}

-- the sides of all rings, ring by ring
abbrev pub sides_of : List (Owner × List Point) → List (Point × Point)
sides_of rings = flat_map (λ r. pairs (closed_walk r.1)) rings

-- how far a centre lies along the direction from a to b, of which only the signs count
abbrev pub way_along : Point → Point → Point → ℤ
way_along a b c = int_signum (b.x -ℤ a.x) *ℤ c.x +ℤ int_signum (b.y -ℤ a.y) *ℤ c.y

-- centres by how far they lie along the side, then by the order of points
abbrev pub way_order : Point → Point → Point → Point → Ordering
way_order a b = then_cmp (on (way_along a b) int_cmp) point_order

-- the chain of the side from a to b: the hot centres whose pixels it meets, in the order in which it goes
unfoldable pub chain_of : List Point → Point → Point → List Point
chain_of hot a b = sorted_once (way_order a b) (filter (meets_of a b) hot)

-- the rounded path: the chains of its sides, joined
abbrev pub walk_of : List Point → List Point → List Point
walk_of hot [] = []
walk_of hot (p ∷ []) = p ∷ []
walk_of hot (p ∷ q ∷ path) = chain_of hot p q ++ tail (walk_of hot (q ∷ path))

-- the walks round all rings, each closed
unfoldable pub walks_round : List (Owner × List Point) → List (List Point)
walks_round rings = map (λ r. walk_of (hot_centres (sides_of rings)) (closed_walk r.1)) rings

-- the undirected edges that the walks go, each once, in order
unfoldable pub edges_gone : List (List Point) → List (Point × Point)
edges_gone walks = sorted_once edge_order (walked_edges undirected walks)

-- the owners whose walks, all together, go the edge an odd number of times, each once, in order
unfoldable pub owners_of : List (Owner × List Point) → List (List Point) → Point × Point → List Owner
owners_of rings walks e = sorted_once owner_order (filter (λ o. is_owned (owner_walks o rings walks) e) (map (λ r. r.0) rings))

-- the edges that the rounded rings go, and the owners of each
unfoldable pub rounded_of : List (Owner × List Point) → Owned
rounded_of rings =
    let walks = walks_round rings in
    let edges = edges_gone walks in
    (edges, map (owners_of rings walks) edges)
