-- Rounded rings, their visits, and the edges and owners that come of them.
use Rattle.std.proofs.Common.{◌≡◌, ◌↔◌, inl, inr, Bool, true, false, cond, ◌&&◌, List, [], ◌∷◌, ◌++◌}
use Rattle.std.proofs.Common.{length, map, refl, sym, ap, ap₂, ◌∙◌, subst, arith, Contains}
use Rattle.std.specs.List.{AllZip, AllByRecursion, zip}
use Rattle.std.proofs.lemmas.Bool.{false≢true, or_right}
use Rattle.std.specs.List.Sorted.{IsPermutation}
use Rattle.std.proofs.lemmas.List.{map-append}
use Rattle.std.proofs.lemmas.List.Sorted.{Contains-permutation, IsPermutation-sym}
use Rattle.std.proofs.lemmas.List.Elements.{All-from_recursion}
use Rattle.std.proofs.lemmas.Slice.Zip.{AllZip-long}
use Rattle.std.specs.Cmp.{both_ways}
use Rattle.lay_point.specs.declared.point.Point.{Point}
use Rattle.snap_pixels.specs.declared.segment.Segment.{Segment}
use Rattle.lay_point.specs.Parity.{parity, xor}
use Rattle.lay_point.specs.Rising.{IsRising, pairs}
use Rattle.snap_edge_laws.specs.Rounding.{IsRoundedPath, closed_walk}
use Rattle.snap_edge_laws.specs.Undirected.{AreEdgesOf, AreRoundedRings, is_owned}
use Rattle.lay_point.specs.Edges.{IsEdgeBefore, same_edge, touches, undirected}
use Rattle.snap_edge_laws.specs.Undirected.{walked_edges}
use Rattle.snap_edge_laws.proofs.Edges.{edges_are_clean, owned_edges_are_even}
use Rattle.lay_point.proofs.Members.{Has, has, contains}
use Rattle.lay_point.proofs.Parity.{parity-append, parity-map, parity_agree, parity_none}
use Rattle.lay_point.proofs.ListLaws.{map-has}
use Rattle.lay_point.proofs.BoolLaws.{and-false, and-true}
use Rattle.snap_chains.specs.declared.owner.Owner.{Owner}
use Rattle.snap_chains.specs.Visits.{Visit}
use Rattle.snap_chains.specs.OwnedRings.{AreRounded, AreSides}
use Rattle.snap_chains.specs.Passes.{ArePassesOf, visit_at}
use Rattle.snap_chains.specs.declared.pass.Pass.{Pass}
use Rattle.snap_chains.specs.Owners.{IsOwnerBefore, owner_eq}
use Rattle.snap_chains.specs.Round.{AreOwnersOf, IsRoundOf, owner_walks}
use Rattle.snap_chains.specs.Reading.{AreOddVisitors, IsView}
use Rattle.snap_chains.specs.Rounded.{AreClean, IsRounded, is_owner_listed}
use Rattle.snap_chains.specs.Visits.{visit_eq, visits_by, visits_of}
use Rattle.snap_chains.proofs.PathLemmas.{Contains-map}
use Rattle.snap_chains.proofs.OddLemmas.{parity_permutation}
use Rattle.snap_chains.proofs.OwnerOrder.{owner_eq-Decides}

-- ---- rounded rings
-- the ring of which a walk is the rounded one
pub rounded_ring : (segments : List Segment) (rings : List (Owner × List Point)) (walks : List (List Point))
    → AllZip (λ r w. IsRoundedPath segments (closed_walk r.1) w) rings walks → (w : List Point) → Has walks w
    → (ring : List Point) × IsRoundedPath segments (closed_walk ring) w
rounded_ring segments [] [] h w m = absurd m
rounded_ring segments [] (v ∷ walks) h w m = absurd h
rounded_ring segments (r ∷ rings) [] h w m = absurd m
rounded_ring segments (r ∷ rings) (v ∷ walks) h w (inl e) = (r.1, subst (IsRoundedPath segments (closed_walk r.1)) e h.0)
rounded_ring segments (r ∷ rings) (v ∷ walks) h w (inr m) = rounded_ring segments rings walks h.1 w m

rounded_rings : (rings : List (Owner × List Point)) (walks : List (List Point)) (h : AreRounded rings walks)
    → AreRoundedRings h.segments walks
rounded_rings rings walks h w m = rounded_ring h.segments rings walks h.rounded w (has walks w m)

pub as_many_walks : (rings : List (Owner × List Point)) (walks : List (List Point)) → AreRounded rings walks → length rings ≡ length walks
as_many_walks rings walks h = sym (AllZip-long (λ r w. IsRoundedPath h.segments (closed_walk r.1) w) rings walks h.rounded)

-- ---- visits
visited : (rings : List (Owner × List Point)) (walks : List (List Point)) → length rings ≡ length walks
    → map (λ (v : Visit). v.edge) (visits_of rings walks) ≡ walked_edges undirected walks
visited [] [] e = refl
visited [] (w ∷ walks) e = absurd (omega (arith, e))
visited (r ∷ rings) [] e = absurd (omega (arith, e))
visited (r ∷ rings) (w ∷ walks) e =
    map-append (λ (v : Visit). v.edge) (visits_by r.0 w) (visits_of rings walks)
    ∙ ap₂ (λ a b. a ++ b) (edges_by (pairs w)) (visited rings walks (omega (arith, e)))
  where
    edges_by : (ps : List (Point × Point)) → map (λ (v : Visit). v.edge) (map (λ p. record { edge = undirected p; owner = r.0 }) ps)
        ≡ map undirected ps
    edges_by [] = refl
    edges_by (p ∷ ps) = ap (λ l. undirected p ∷ l) (edges_by ps)

-- the edges of the visits are those of the walks
pub edges_visited : (rings : List (Owner × List Point)) (walks : List (List Point)) (edges : List (Point × Point)) → AreRounded rings walks
    → IsRising IsEdgeBefore edges
    → ((e : Point × Point) → Contains edges e ↔ Contains (map (λ (v : Visit). v.edge) (visits_of rings walks)) e) → AreEdgesOf walks edges
edges_visited rings walks edges h up exact = record {
  rising = up;
  exact = subst (λ l. (e : Point × Point) → Contains edges e ↔ Contains l e) (visited rings walks (as_many_walks rings walks h)) exact;
}

owner_turned : (o p : Owner) → owner_eq o p ≡ owner_eq p o
owner_turned o p =
    both_ways (owner_eq o p) (owner_eq p o) (λ h. (owner_eq-Decides p o).1 (sym ((owner_eq-Decides o p).0 h)))
    (λ h. (owner_eq-Decides o p).1 (sym ((owner_eq-Decides p o).0 h)))

-- the visits of the edge by the owner are as many as the owner's walks go it, up to an even number
pub visits_by_owner : (o : Owner) (e : Point × Point) (rings : List (Owner × List Point)) (walks : List (List Point))
    → parity (visit_eq (record { edge = e; owner = o })) (visits_of rings walks) ≡ is_owned (owner_walks o rings walks) e
visits_by_owner o e [] walks = refl
visits_by_owner o e (r ∷ rings) [] = refl
visits_by_owner o e (r ∷ rings) (w ∷ walks) =
    parity-append (visit_eq (record { edge = e; owner = o })) (visits_by r.0 w) (visits_of rings walks)
    ∙ ap₂ xor (parity-map (visit_eq (record { edge = e; owner = o })) (λ p. record { edge = undirected p; owner = r.0 }) (pairs w)
    ∙ ap (λ b. parity (λ p. same_edge e (undirected p) && b) (pairs w)) (owner_turned o r.0))
    (visits_by_owner o e rings walks)
    ∙ by_test (owner_eq r.0 o) (owner_walks o rings walks)
  where
    by_test : (b : Bool) (rest : List (List Point))
        → xor (parity (λ p. same_edge e (undirected p) && b) (pairs w)) (is_owned rest e) ≡ is_owned (cond b (w ∷ rest) rest) e
    by_test true rest =
        ap (λ q. xor q (is_owned rest e)) (parity_agree (λ p. same_edge e (undirected p) && true) (λ p. same_edge e (undirected p))
        (pairs w)
        (λ p m. and-true (same_edge e (undirected p))) ∙ sym (parity-map (same_edge e) undirected (pairs w)))
        ∙ sym (parity-append (same_edge e) (map undirected (pairs w)) (walked_edges undirected rest))
    by_test false rest =
        ap (λ q. xor q (is_owned rest e)) (parity_none (λ p. same_edge e (undirected p) && false) (pairs w)
        (λ p m. and-false (same_edge e (undirected p))))

-- ---- owners
module _ {A B : Type 0} (R S : A → B → Type 0) (step : (x : A) (y : B) → R x y → S x y) where
  zip_by : (xs : List A) (ys : List B) → AllZip R xs ys → AllZip S xs ys
  zip_by [] [] h = tt
  zip_by [] (y ∷ ys) h = absurd h
  zip_by (x ∷ xs) [] h = absurd h
  zip_by (x ∷ xs) (y ∷ ys) h = (step x y h.0, zip_by xs ys h.1)

-- the visits in another order have the same edges
pub edges_in_order : (xs ys : List Visit) → IsPermutation xs ys → (e : Point × Point)
    → Contains (map (λ (v : Visit). v.edge) xs) e → Contains (map (λ (v : Visit). v.edge) ys) e
edges_in_order xs ys same e m =
    let found = map-has (λ (v : Visit). v.edge) xs e (has (map (λ (v : Visit). v.edge) xs) e m) in
    subst (Contains (map (λ (v : Visit). v.edge) ys)) found.2
    (Contains-map (λ (v : Visit). v.edge) ys found.0 (Contains-permutation xs ys found.0 same (contains xs found.0 found.1)))

-- what passes are read to, by points, is what rounding makes of the rings whose visits they are
pub round_of_view : (rings : List (Owner × List Point)) (walks : List (List Point)) (visits : List Visit) (edges : List (Point × Point))
    (owners : List (List Owner)) → AreRounded rings walks → IsPermutation (visits_of rings walks) visits → IsView visits edges owners
    → IsRoundOf rings (edges, owners)
round_of_view rings walks visits edges owners h e v = record {
  walks = walks;
  rounded = h;
  edges = edges_visited rings walks edges h v.rising
      (λ f. (
        (λ m. edges_in_order visits (visits_of rings walks) (IsPermutation-sym _ _ e) f ((v.exact f).0 m)),
        (λ m. (v.exact f).1 (edges_in_order (visits_of rings walks) visits e f m)),
      ));
  owners = zip_by (AreOddVisitors visits) (AreOwnersOf rings walks) (λ f own w. record {
    rising = w.rising;
    exact = λ o.
        let same = visits_by_owner o f rings walks in
        let moved = parity_permutation (visit_eq (record { edge = f; owner = o })) (visits_of rings walks) visits e in
        ((λ m. sym same ∙ sym moved ∙ (w.exact o).0 m), (λ t. (w.exact o).1 (moved ∙ same ∙ t)));
  }) edges owners v.owned;
}

-- where the slices that calls lend are these lists
pub round_of_passes : (rings : List (Owner × List Point)) (segments segments' : List Segment) (hot hot' : List Point) (passes : List Pass)
    (edges : List (Point × Point)) (owners : List (List Owner)) → AreSides rings segments → segments' ≡ segments → hot' ≡ hot
    → ArePassesOf segments' hot rings passes → IsView (map (visit_at hot') passes) edges owners → IsRoundOf rings (edges, owners)
round_of_passes rings segments segments' hot hot' passes edges owners sides same same_hot made view =
    round_of_view rings made.walks (map (visit_at hot) passes) edges owners
    (record { segments = segments'; sides = subst (AreSides rings) (sym same) sides; rounded = made.rounded })
    made.visits (subst (λ l. IsView (map (visit_at l) passes) edges owners) same_hot view)

-- ---- what the types keep
pub listed_has : (o : Owner) (owners : List Owner) → is_owner_listed o owners ≡ true → Has owners o
listed_has o [] h = absurd (false≢true h)
listed_has o (p ∷ owners) h = by_test (listed_has o owners) (owner_eq p o) refl h
  where
    by_test : (is_owner_listed o owners ≡ true → Has owners o) → (b : Bool) → b ≡ owner_eq p o → is_owner_listed o (p ∷ owners) ≡ true
        → Has (p ∷ owners) o
    by_test later true e t = inl ((owner_eq-Decides p o).0 (sym e))
    by_test later false e t = inr (later (rw (← e) at t))

pub has_listed : (o : Owner) (owners : List Owner) → Has owners o → is_owner_listed o owners ≡ true
has_listed o [] m = absurd m
has_listed o (p ∷ owners) (inl e) = rw ((owner_eq-Decides p o).1 e) refl
has_listed o (p ∷ owners) (inr m) = or_right (owner_eq p o) (is_owner_listed o owners) (has_listed o owners m)

module _ (rings : List (Owner × List Point)) (walks : List (List Point)) where
  parity_listed : (o : Owner) (v : Point) (edges : List (Point × Point)) (owners : List (List Owner))
      → AllZip (AreOwnersOf rings walks) edges owners
      → parity (λ p. is_owner_listed o p.1 && touches v p.0) (zip edges owners)
      ≡ parity (λ e. is_owned (owner_walks o rings walks) e && touches v e) edges
  parity_listed o v [] [] h = refl
  parity_listed o v [] (own ∷ owners) h = refl
  parity_listed o v (e ∷ edges) [] h = absurd h
  parity_listed o v (e ∷ edges) (own ∷ owners) h =
      ap₂ (λ b p. xor (b && touches v e) p)
      (both_ways (is_owner_listed o own) (is_owned (owner_walks o rings walks) e)
      (λ t. (h.0.exact o).0 (contains own o (listed_has o own t))) (λ t. has_listed o own (has own o ((h.0.exact o).1 t))))
      (parity_listed o v edges owners h.1)

  all_ordered : (edges : List (Point × Point)) (owners : List (List Owner)) → AllZip (AreOwnersOf rings walks) edges owners
      → AllByRecursion (IsRising IsOwnerBefore) owners
  all_ordered [] [] h = tt
  all_ordered [] (own ∷ owners) h = absurd h
  all_ordered (e ∷ edges) [] h = absurd h
  all_ordered (e ∷ edges) (own ∷ owners) h = (h.0.rising, all_ordered edges owners h.1)

walk_inside : (o : Owner) (rings : List (Owner × List Point)) (walks : List (List Point)) (w : List Point)
    → Has (owner_walks o rings walks) w
    → Has walks w
walk_inside o [] walks w m = absurd m
walk_inside o (r ∷ rings) [] w m = absurd m
walk_inside o (r ∷ rings) (v ∷ walks) w m = by_test (walk_inside o rings walks w) (owner_eq r.0 o) m
  where
    by_test : (Has (owner_walks o rings walks) w → Has walks w) → (b : Bool)
        → Has (cond b (v ∷ owner_walks o rings walks) (owner_walks o rings walks)) w
        → Has (v ∷ walks) w
    by_test later true (inl e) = inl e
    by_test later true (inr n) = inr (later n)
    by_test later false n = inr (later n)

-- what rounding makes of rings is what a Rounded keeps
pub round_is_rounded : (rings : List (Owner × List Point)) (edges : List (Point × Point)) (owners : List (List Owner))
    → IsRoundOf rings (edges, owners) → IsRounded (edges, owners)
round_is_rounded rings edges owners h = record {
  rising = h.edges.rising;
  paired = AllZip-long (AreOwnersOf rings h.walks) edges owners h.owners;
  ordered = All-from_recursion (IsRising IsOwnerBefore) owners (all_ordered rings h.walks edges owners h.owners);
  even = λ o v. parity_listed rings h.walks o v edges owners h.owners
      ∙ owned_edges_are_even h.rounded.segments h.walks (owner_walks o rings h.walks) edges (rounded_rings rings h.walks h.rounded) h.edges
      (λ w m. contains h.walks w (walk_inside o rings h.walks w (has (owner_walks o rings h.walks) w m))) v;
}

-- and it is clean
pub round_is_clean : (rings : List (Owner × List Point)) (edges : List (Point × Point)) (owners : List (List Owner))
    → IsRoundOf rings (edges, owners) → AreClean edges
round_is_clean rings edges owners h =
    edges_are_clean h.rounded.segments h.walks edges (rounded_rings rings h.walks h.rounded) h.edges
