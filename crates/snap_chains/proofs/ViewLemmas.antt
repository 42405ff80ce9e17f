-- What passes are read to, seen by points: the edges and owners of the visits that the passes are.
use Rattle.std.proofs.Common.{◌≡◌, ◌↔◌, inl, inr, ⊎_elim, ℕ, ◌<◌, ◌≤◌, Bool, List, [], ◌∷◌, length, map}
use Rattle.std.proofs.Common.{refl, sym, ap, subst, ◌∙◌, arith, Contains, Decides}
use Rattle.std.specs.List.{AllZip}
use Rattle.std.proofs.lemmas.Bool.{cases_lt}
use Rattle.std.proofs.lemmas.Bool.Decides.{Decides-and, Decides-eqb, Decides-like}
use Rattle.std.specs.Cmp.{both_ways}
use Rattle.lay_point.specs.declared.point.Point.{Point}
use Rattle.lay_point.specs.Points.{IsBefore}
use Rattle.lay_point.proofs.EdgeOrder.{before_is_strict}
use Rattle.lay_point.specs.Edges.{IsEdgeBefore}
use Rattle.lay_point.specs.Parity.{parity, xor}
use Rattle.lay_point.specs.Rising.{IsRising}
use Rattle.lay_point.proofs.Members.{Has, has, contains}
use Rattle.lay_point.proofs.ListLaws.{has-map, map-has}
use Rattle.snap_slabs.specs.Runs.{centre_at}
use Rattle.snap_slabs.proofs.KeyOrder.{rising-map}
use Rattle.snap_chains.specs.declared.owner.Owner.{Owner}
use Rattle.snap_chains.specs.Visits.{Visit}
use Rattle.snap_chains.specs.Visits.{visit_eq}
use Rattle.snap_chains.proofs.EdgeOrder.{edges_decide}
use Rattle.snap_chains.proofs.OwnerOrder.{owner_eq-Decides}
use Rattle.snap_chains.specs.declared.pass.Pass.{Pass}
use Rattle.snap_chains.specs.Passes.{HasCentres, visit_at}
use Rattle.snap_chains.specs.Reading.{
  NumberedEdge,
  numbered_edge,
  pass_of,
  pass_eq,
  AreEndsBefore,
  AreOddOwners,
  AreRead,
  edge_by_numbers,
  AreOddVisitors,
  IsView,
}
use Rattle.snap_chains.proofs.PassLemmas.{centre_before}

pub pass_eq-Decides : (p q : Pass) → Decides (pass_eq p q) (p ≡ q)
pass_eq-Decides p q =
    Decides-like (pass_eq p q) (λ both. λ i. record { low = both.0.0 i; high = both.0.1 i; owner = both.1 i })
    (λ e. ((ap (λ (r : Pass). r.low) e, ap (λ (r : Pass). r.high) e), ap (λ (r : Pass). r.owner) e))
    (Decides-and _ _ (Decides-and _ _ (Decides-eqb p.low q.low) (Decides-eqb p.high q.high)) (owner_eq-Decides p.owner q.owner))

visit_decides : (v w : Visit) → Decides (visit_eq v w) (v ≡ w)
visit_decides v w =
    Decides-like (visit_eq v w) (λ both. λ i. record { edge = both.0 i; owner = both.1 i })
    (λ e. (ap (λ (u : Visit). u.edge) e, ap (λ (u : Visit). u.owner) e))
    (Decides-and _ _ (edges_decide v.edge w.edge) (owner_eq-Decides v.owner w.owner))

-- the same parity of what passes the same tests
parity-through : {A B : Type 0} (f : A → B) (test : A → Bool) (test' : B → Bool) (xs : List A)
    → ((x : A) → Has xs x → test x ≡ test' (f x)) → parity test' (map f xs) ≡ parity test xs
parity-through f test test' [] h = refl
parity-through f test test' (x ∷ xs) h =
    (λ i. xor (sym (h x (inl refl)) i) (parity-through f test test' xs (λ y m. h y (inr m)) i))

module _ (hot : List Point) (up : IsRising IsBefore hot) where
  one_number : (i j : ℕ) → i < length hot → j < length hot → centre_at hot i ≡ centre_at hot j → i ≡ j
  one_number i j li lj e = ⊎_elim
      (λ (less : i < j). absurd (before_is_strict.irreflexive (centre_at hot j)
      (subst (λ p. IsBefore p (centre_at hot j)) e (centre_before hot up i j less lj))))
      (λ (ge : j ≤ i). ⊎_elim
      (λ (more : j < i). absurd (before_is_strict.irreflexive (centre_at hot i)
      (subst (λ p. IsBefore p (centre_at hot i)) (sym e) (centre_before hot up j i more li))))
      (λ (le : i ≤ j). omega (arith, ge, le))
      (cases_lt j i))
      (cases_lt i j)

  one_pass : (p q : Pass) → HasCentres hot p → HasCentres hot q → visit_at hot p ≡ visit_at hot q → p ≡ q
  one_pass p q ip iq e =
      let lows = one_number p.low q.low (omega (arith, ip.0, ip.1)) (omega (arith, iq.0, iq.1)) (ap (λ (v : Visit). v.edge.0) e) in
      let highs = one_number p.high q.high ip.1 iq.1 (ap (λ (v : Visit). v.edge.1) e) in
      let owners = ap (λ (v : Visit). v.owner) e in
      λ i. record { low = lows i; high = highs i; owner = owners i }

  -- one test by numbers and by points
  tests_agree : (p q : Pass) → HasCentres hot p → HasCentres hot q → pass_eq p q ≡ visit_eq (visit_at hot p) (visit_at hot q)
  tests_agree p q ip iq = both_ways (pass_eq p q) (visit_eq (visit_at hot p) (visit_at hot q))
      (λ t. (visit_decides (visit_at hot p) (visit_at hot q)).1 (ap (visit_at hot) ((pass_eq-Decides p q).0 t)))
      (λ t. (pass_eq-Decides p q).1 (one_pass p q ip iq ((visit_decides (visit_at hot p) (visit_at hot q)).0 t)))

  edges_before : (e f : NumberedEdge) → e.0 < length hot → e.1 < length hot → f.0 < length hot → f.1 < length hot → AreEndsBefore e f
      → IsEdgeBefore (edge_by_numbers hot e) (edge_by_numbers hot f)
  edges_before e f e0 e1 f0 f1 (inl h) = inl (centre_before hot up e.0 f.0 h f0)
  edges_before e f e0 e1 f0 f1 (inr h) = inr (ap (centre_at hot) h.0, centre_before hot up e.1 f.1 h.1 f1)

  module _ (passes : List Pass) (inside : (p : Pass) → Has passes p → HasCentres hot p) where
    visits : List Visit
    visits = map (visit_at hot) passes

    inside_edge : (e : NumberedEdge) → Has (map numbered_edge passes) e → (e.0 < e.1) × (e.1 < length hot)
    inside_edge e m =
        let r = map-has numbered_edge passes e m in
        subst (λ (d : NumberedEdge). (d.0 < d.1) × (d.1 < length hot)) r.2 (inside r.0 r.1)

    edge_members : (edges : List NumberedEdge) → ((e : NumberedEdge) → Contains edges e ↔ Contains (map numbered_edge passes) e)
        → (e : Point × Point) → Contains (map (edge_by_numbers hot) edges) e ↔ Contains (map (λ v. v.edge) (map (visit_at hot) passes)) e
    edge_members edges exact e = (
      (λ m.
          let r = map-has (edge_by_numbers hot) edges e (has (map (edge_by_numbers hot) edges) e m) in
          let there = map-has numbered_edge passes r.0 (has (map numbered_edge passes) r.0 ((exact r.0).0 (contains edges r.0 r.1))) in
          contains (map (λ v. v.edge) (map (visit_at hot) passes)) e
          (subst (Has (map (λ v. v.edge) (map (visit_at hot) passes))) (ap (edge_by_numbers hot) there.2 ∙ r.2)
          (has-map (λ v. v.edge) (map (visit_at hot) passes) (visit_at hot there.0) (has-map (visit_at hot) passes there.0 there.1)))),
      (λ m.
          let v = map-has (λ v. v.edge) (map (visit_at hot) passes) e (has (map (λ v. v.edge) (map (visit_at hot) passes)) e m) in
          let p = map-has (visit_at hot) passes v.0 v.1 in
          let there = (exact (numbered_edge p.0)).1 (contains (map numbered_edge passes) (numbered_edge p.0)
          (has-map numbered_edge passes p.0 p.1)) in
          contains (map (edge_by_numbers hot) edges) e
          (subst (Has (map (edge_by_numbers hot) edges)) (ap (λ (w : Visit). w.edge) p.2 ∙ v.2)
          (has-map (edge_by_numbers hot) edges (numbered_edge p.0) (has edges (numbered_edge p.0) there)))),
    )

    owned_through : (edges : List NumberedEdge) (owners : List (List Owner))
        → ((e : NumberedEdge) → Has edges e → (e.0 < e.1) × (e.1 < length hot))
        → AllZip (AreOddOwners passes) edges owners → AllZip (AreOddVisitors (map (visit_at hot) passes))
        (map (edge_by_numbers hot) edges) owners
    owned_through [] [] within h = tt
    owned_through [] (l ∷ owners) within h = absurd h
    owned_through (e ∷ edges) [] within h = absurd h
    owned_through (e ∷ edges) (l ∷ owners) within h = (
      record {
        rising = h.0.rising;
        exact = λ o.
            let same = parity-through (visit_at hot) (pass_eq (pass_of e o)) (visit_eq (visit_at hot (pass_of e o))) passes
            (λ q m. tests_agree (pass_of e o) q (within e (inl refl)) (inside q m)) in (
              (λ m. same ∙ (h.0.exact o).0 m),
              (λ t. (h.0.exact o).1 (sym same ∙ t)),
            );
      },
      owned_through edges owners (λ d m. within d (inr m)) h.1,
    )

    -- what is read by numbers is by points what the visits are read to
    pub view_of : (edges : List NumberedEdge) (owners : List (List Owner)) → AreRead passes edges owners
        → IsView (map (visit_at hot) passes) (map (edge_by_numbers hot) edges) owners
    view_of edges owners r =
        let within : (e : NumberedEdge) → Has edges e → (e.0 < e.1) × (e.1 < length hot) =
        λ e m. inside_edge e (has (map numbered_edge passes) e ((r.exact e).0 (contains edges e m))) in
        record {
          rising = rising-map AreEndsBefore IsEdgeBefore (edge_by_numbers hot) edges
              (λ e f m n less.
              let a = within e m in
              let b = within f n in
              edges_before e f (omega (arith, a)) a.1 (omega (arith, b)) b.1 less) r.rising;
          exact = edge_members edges r.exact;
          owned = owned_through edges owners within r.owned;
        }
