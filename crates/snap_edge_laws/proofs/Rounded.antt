-- Rounded paths are walks of their segments' edges, from the path's first point to its last; rounded rings are closed.
use Rattle.std.proofs.Common.{◌≡◌, List, [], ◌∷◌, refl, ap, subst, ◌∙◌, ⊎_elim}
use Rattle.lay_point.specs.declared.point.Point.{Point}
use Rattle.snap_pixels.specs.declared.segment.Segment.{Segment}
use Rattle.lay_point.specs.Rising.{pairs, last, IsFromTo}
use Rattle.snap_edge_laws.specs.Chains.{IsRoundedEdge}
use Rattle.snap_edge_laws.specs.Rounding.{closed_walk, IsRoundedPath, point, further, RoundedPathsJoinEnds, RoundedPathsHaveEdges}
use Rattle.snap_edge_laws.specs.Rounding.{RoundedRingsAreEven}
use Rattle.lay_point.proofs.Members.{Has, has, contains, has-append}
use Rattle.snap_edge_laws.proofs.Chains.{chains_join_ends}
use Rattle.snap_edge_laws.proofs.Walks.{joined_from_to, joined_pairs, closed_from_to, even_walk}

-- the first point of a list that isn't empty, and its last
abbrev first_of : Point → List Point → Point
first_of p [] = p
first_of p (x ∷ xs) = x

abbrev pub last_of : Point → List Point → Point
last_of p [] = p
last_of p (x ∷ xs) = last x xs

rounded_from_to : (segments : List Segment) (p : Point) (path points : List Point) → IsRoundedPath segments path points
    → IsFromTo (first_of p path) (last_of p path) points
rounded_from_to segments p path points (point q) = record { rest = []; first_is = refl; last_is = refl }
rounded_from_to segments p path points (further s path' chain rest given h g) =
    joined_from_to s.a s.b (last s.b path') chain rest (chains_join_ends segments s chain given h)
    (rounded_from_to segments p (s.b ∷ path') rest g)

pub rounded_paths_join_ends : (segments : List Segment) → RoundedPathsJoinEnds segments
rounded_paths_join_ends segments path points h a b ends =
    let whole = rounded_from_to segments a path points h in
    let first = ap (first_of a) ends.first_is in
    let end = ap (last_of a) ends.first_is ∙ ends.last_is in
    subst (λ v. IsFromTo v b points) first (subst (λ v. IsFromTo (first_of a path) v points) end whole)

-- the neighbours of joined chains are neighbours of one of them
rounded_neighbours : (segments : List Segment) (path points : List Point) → IsRoundedPath segments path points
    → (c d : Point) → Has (pairs points) (c, d) → IsRoundedEdge segments c d
rounded_neighbours segments path points (point q) c d m = absurd m
rounded_neighbours segments path points (further s path' chain rest given h g) c d m =
    let same = joined_pairs s.a s.b (last s.b path') chain rest (chains_join_ends segments s chain given h)
    (rounded_from_to segments c (s.b ∷ path') rest g) in
    ⊎_elim (λ (here : Has (pairs chain) (c, d)).
    record { s = s; chain = chain; given = given; is_chain = h; neighbours = contains (pairs chain) (c, d) here })
    (λ (there : Has (pairs rest) (c, d)). rounded_neighbours segments (s.b ∷ path') rest g c d there)
    (has-append (pairs chain) (pairs rest) (c, d) (subst (λ ps. Has ps (c, d)) same m))

pub rounded_paths_have_edges : (segments : List Segment) → RoundedPathsHaveEdges segments
rounded_paths_have_edges segments path points h c d m = rounded_neighbours segments path points h c d (has (pairs points) (c, d) m)

empty_path : (segments : List Segment) (path points : List Point) → IsRoundedPath segments path points → path ≡ [] → ⊥
empty_path segments path points (point q) e = absurd cc
empty_path segments path points (further s path' chain rest given h g) e = absurd cc

-- a rounded ring comes back to where it starts
pub rounded_ring_is_closed : (segments : List Segment) (ring points : List Point) → IsRoundedPath segments (closed_walk ring) points
    → (a : Point) × IsFromTo a a points
rounded_ring_is_closed segments [] points h = absurd (empty_path segments [] points h refl)
rounded_ring_is_closed segments (p ∷ ps) points h =
    (p, rounded_paths_join_ends segments (closed_walk (p ∷ ps)) points h p p (closed_from_to p ps))

pub rounded_rings_are_even : (segments : List Segment) → RoundedRingsAreEven segments
rounded_rings_are_even segments ring points h test =
    let back = rounded_ring_is_closed segments ring points h in even_walk test back.0 points back.1
