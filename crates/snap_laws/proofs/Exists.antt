-- What is computed is a rounding of the rings.
use Rattle.std.proofs.Common.{◌≡◌, ◌↔◌, inl, inr, Bool, true, false, cond, List, [], ◌∷◌, ◌++◌, map, Contains, refl, sym, ap, ap₂}
use Rattle.std.proofs.Common.{subst, ◌∙◌, arith}
use Rattle.std.specs.List.{AllByRecursion, AllZip, filter}
use Rattle.std.proofs.lemmas.Bool.{false≢true}
use Rattle.std.proofs.lemmas.List.{map-append}
use Rattle.std.proofs.lemmas.List.Elements.{recursion_from_All}
use Rattle.lay_point.specs.declared.point.Point.{Point}
use Rattle.lay_point.specs.Edges.{undirected}
use Rattle.lay_point.specs.Rings.{IsRing, NeighboursDiffer, closed as closed_ring}
use Rattle.snap_pixels.specs.declared.segment.Segment.{Segment}
use Rattle.snap_pixels.specs.Hot.{IsHot}
use Rattle.snap_edge_laws.specs.Chains.{IsChain}
use Rattle.lay_point.specs.Rising.{pairs}
use Rattle.snap_edge_laws.specs.Rounding.{IsRoundedPath, closed_walk, further, point, tail}
use Rattle.snap_edge_laws.specs.Undirected.{AreEdgesOf, is_owned, walked_edges}
use Rattle.lay_point.specs.Edges.{IsEdgeBefore}
use Rattle.lay_point.proofs.Members.{Has, has, contains, has-append_left, has-append_right}
use Rattle.lay_point.proofs.ListLaws.{map-has}
use Rattle.snap_chains.specs.declared.owner.Owner.{Owner}
use Rattle.snap_chains.specs.Owners.{IsOwnerBefore, owner_eq}
use Rattle.snap_chains.specs.Round.{AreOwnersOf, owner_walks}
use Rattle.snap_chains.specs.Sides.{segment_ends}
use Rattle.snap_chains.proofs.OwnerOrder.{owner_eq-Decides}
use Rattle.snap_laws.specs.Crossings.{hot_centres}
use Rattle.snap_laws.specs.RoundLaws.{RoundingExists, RoundingIsComputed}
use Rattle.snap_laws.specs.Meeting.{meets_of}
use Rattle.snap_laws.specs.Rounding.{chain_of, edges_gone, owners_of, rounded_of, sides_of, walk_of, walks_round, way_order}
use Rattle.snap_laws.specs.Sorting.{edge_order, owner_order}
use Rattle.snap_laws.proofs.Crossing.{centre_marked, marked_centre}
use Rattle.snap_laws.proofs.Meeting.{meets_is}
use Rattle.snap_laws.proofs.Unique.{rounding_is_unique}
use Rattle.snap_laws.proofs.Sides.{IsBelowOn, IsMarked, hot_marked, marked_hot}
use Rattle.snap_laws.proofs.Sorting.{edges_ranked, owners_ranked, way_ranked}
use Rattle.snap_laws.proofs.Sorting.{filter_has, has_filter, has_sorted, sorted_has, sorted_rising}

-- ---- segments with these sides
abbrev HasSides : List (Point × Point) → Type 0
HasSides sides = (segments : List Segment) × (map segment_ends segments ≡ sides)

path_segments : (path : List Point) → NeighboursDiffer path → HasSides (pairs path)
path_segments [] h = ([], refl)
path_segments (p ∷ []) h = ([], refl)
path_segments (p ∷ q ∷ path) h =
    let rest = path_segments (q ∷ path) h.1 in
    (record { a = p; b = q; differ = h.0 } ∷ rest.0, ap (λ l. (p, q) ∷ l) rest.1)

ring_segments : (ring : List Point) → NeighboursDiffer (closed_ring ring) → HasSides (pairs (closed_walk ring))
ring_segments [] h = ([], refl)
ring_segments (p ∷ ps) h = path_segments (p ∷ (ps ++ p ∷ [])) h

abbrev AreAllRings : List (Owner × List Point) → Type 0
AreAllRings rings = AllByRecursion (λ r. IsRing r.1) rings

all_segments : (rings : List (Owner × List Point)) → AreAllRings rings → HasSides (sides_of rings)
all_segments [] h = ([], refl)
all_segments (r ∷ rings) h =
    let here = ring_segments r.1 h.0.apart in
    let rest = all_segments rings h.1 in
    (here.0 ++ rest.0, map-append segment_ends here.0 rest.0 ∙ ap₂ (λ a b. a ++ b) here.1 rest.1)

-- ---- chains and walks
module _ (segments : List Segment) (sides : List (Point × Point)) (are_sides : map segment_ends segments ≡ sides) where
  abbrev hot : List Point
  hot = hot_centres sides

  hot_is : (c : Point) → Has hot c ↔ IsHot segments c
  hot_is c = (
    (λ m. marked_hot segments c (subst (λ l. IsMarked l c) (sym are_sides) (centre_marked sides c m))),
    (λ h. marked_centre sides c (subst (λ l. IsMarked l c) are_sides (hot_marked segments c h))),
  )

  chain_is : (s : Segment) → IsChain (IsHot segments) s (chain_of hot s.a s.b)
  unfolding chain_of
  chain_is s = record {
    rising = sorted_rising (way_order s.a s.b) (IsBelowOn s.a s.b) (way_ranked s.a s.b) met;
    exact = λ c. (
      (λ m.
          let found = has_filter (meets_of s.a s.b) hot c
          (has_sorted (way_order s.a s.b) (IsBelowOn s.a s.b) (way_ranked s.a s.b) met c (has (chain_of hot s.a s.b) c m)) in
          ((hot_is c).0 found.0, (meets_is s.a s.b c).0 found.1)),
      (λ h. contains (chain_of hot s.a s.b) c (sorted_has (way_order s.a s.b) (IsBelowOn s.a s.b) (way_ranked s.a s.b) met c
          (filter_has (meets_of s.a s.b) hot c ((hot_is c).1 h.0) ((meets_is s.a s.b c).1 h.1)))),
    );
  }
    where
      met : List Point
      met = filter (meets_of s.a s.b) hot

  one_side : (s : Segment) (p q : Point) (path rest : List Point) → s.a ≡ p → s.b ≡ q → Contains segments s
      → IsRoundedPath segments (q ∷ path) rest → IsRoundedPath segments (p ∷ q ∷ path) (chain_of hot p q ++ tail rest)
  one_side s p q path rest ea eb given h =
      coe 0 1 (i. IsRoundedPath segments (ea i ∷ eb i ∷ path) (chain_of hot (ea i) (eb i) ++ tail rest))
      (further s path (chain_of hot s.a s.b) rest given (chain_is s) (subst (λ v. IsRoundedPath segments (v ∷ path) rest) (sym eb) h))

  -- each of these is a side
  abbrev AreAmong : List (Point × Point) → Type 0
  AreAmong some = (e : Point × Point) → Has some e → Has (map segment_ends segments) e

  path_is : (p : Point) (path : List Point) → AreAmong (pairs (p ∷ path)) → IsRoundedPath segments (p ∷ path) (walk_of hot (p ∷ path))
  path_is p [] inside = point p
  path_is p (q ∷ path) inside =
      let s = map-has segment_ends segments (p, q) (inside (p, q) (inl refl)) in
      one_side s.0 p q path (walk_of hot (q ∷ path)) (ap (λ (e : Point × Point). e.0) s.2) (ap (λ (e : Point × Point). e.1) s.2)
      (contains segments s.0 s.1) (path_is q path (λ e m. inside e (inr m)))

  walk_is : (ring : List Point) → IsRing ring → AreAmong (pairs (closed_walk ring))
      → IsRoundedPath segments (closed_walk ring) (walk_of hot (closed_walk ring))
  walk_is [] h inside = absurd (omega (arith, h.enough))
  walk_is (p ∷ ps) h inside = path_is p (ps ++ p ∷ []) inside

  walks_are : (rings : List (Owner × List Point)) → AreAllRings rings → AreAmong (sides_of rings)
      → AllZip (λ r w. IsRoundedPath segments (closed_walk r.1) w) rings (map (λ r. walk_of hot (closed_walk r.1)) rings)
  walks_are [] h inside = tt
  walks_are (r ∷ rings) h inside = (
    walk_is r.1 h.0 (λ e m. inside e (has-append_left (pairs (closed_walk r.1)) (sides_of rings) e m)),
    walks_are rings h.1 (λ e m. inside e (has-append_right (pairs (closed_walk r.1)) (sides_of rings) e m)),
  )

-- ---- edges and owners
edges_are : (walks : List (List Point)) → AreEdgesOf walks (edges_gone walks)
unfolding edges_gone
edges_are walks = record {
  rising = sorted_rising edge_order IsEdgeBefore edges_ranked (walked_edges undirected walks);
  exact = λ e. (
    (λ m. contains (walked_edges undirected walks) e
        (has_sorted edge_order IsEdgeBefore edges_ranked (walked_edges undirected walks) e (has (edges_gone walks) e m))),
    (λ m. contains (edges_gone walks) e
        (sorted_has edge_order IsEdgeBefore edges_ranked (walked_edges undirected walks) e (has (walked_edges undirected walks) e m))),
  );
}

-- who owns an edge is the owner of a ring
owner_listed : (o : Owner) (e : Point × Point) (rings : List (Owner × List Point)) (walks : List (List Point))
    → is_owned (owner_walks o rings walks) e ≡ true → Has (map (λ r. r.0) rings) o
owner_listed o e [] walks h = absurd (false≢true h)
owner_listed o e (r ∷ rings) [] h = absurd (false≢true h)
owner_listed o e (r ∷ rings) (w ∷ walks) h = by_test (owner_listed o e rings walks) (owner_eq r.0 o) refl h
  where
    by_test : (is_owned (owner_walks o rings walks) e ≡ true → Has (map (λ r. r.0) rings) o) → (b : Bool) → owner_eq r.0 o ≡ b
        → is_owned (cond b (w ∷ owner_walks o rings walks) (owner_walks o rings walks)) e ≡ true → Has (map (λ r. r.0) (r ∷ rings)) o
    by_test rest true same t = inl ((owner_eq-Decides r.0 o).0 same)
    by_test rest false same t = inr (rest t)

module _ (rings : List (Owner × List Point)) (walks : List (List Point)) where
  owners_are : (e : Point × Point) → AreOwnersOf rings walks e (owners_of rings walks e)
  unfolding owners_of
  owners_are e = record {
    rising = sorted_rising owner_order IsOwnerBefore owners_ranked owning;
    exact = λ o. (
      (λ m. (has_filter owns (map (λ r. r.0) rings) o
          (has_sorted owner_order IsOwnerBefore owners_ranked owning o (has (owners_of rings walks e) o m))).1),
      (λ t. contains (owners_of rings walks e) o (sorted_has owner_order IsOwnerBefore owners_ranked owning o
          (filter_has owns (map (λ r. r.0) rings) o (owner_listed o e rings walks t) t))),
    );
  }
    where
      owns : Owner → Bool
      owns o = is_owned (owner_walks o rings walks) e

      owning : List Owner
      owning = filter owns (map (λ r. r.0) rings)

  all_owners_are : (edges : List (Point × Point)) → AllZip (AreOwnersOf rings walks) edges (map (owners_of rings walks) edges)
  all_owners_are [] = tt
  all_owners_are (e ∷ edges) = (owners_are e, all_owners_are edges)

pub rounding_exists : RoundingExists
unfolding rounded_of walks_round
rounding_exists rings are =
    let all = recursion_from_All (λ (r : Owner × List Point). IsRing r.1) rings are in
    let made = all_segments rings all in
    let walks = walks_round rings in
    record {
      walks = walks;
      rounded = record {
        segments = made.0;
        sides = made.1;
        rounded = walks_are made.0 (sides_of rings) made.1 rings all (λ e m. subst (λ l. Has l e) (sym made.1) m);
      };
      edges = edges_are walks;
      owners = all_owners_are rings walks (edges_gone walks);
    }

pub rounding_is_computed : RoundingIsComputed
rounding_is_computed rings are r h = rounding_is_unique rings are r (rounded_of rings) h (rounding_exists rings are)
