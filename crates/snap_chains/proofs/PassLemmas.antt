-- Passes between neighbours of a run are the visits of the chain.
use Rattle.std.proofs.Common.{
  ◌≡◌,
  ◌≢◌,
  inl,
  inr,
  ⊎_elim,
  ℕ,
  zero,
  suc,
  ◌+◌,
  ◌<◌,
  ◌≤◌,
  Bool,
  true,
  false,
  cond,
  List,
  [],
  ◌∷◌,
  ◌++◌,
  length,
  map,
}
use Rattle.std.proofs.Common.{refl, sym, ap, subst, ◌∙◌, arith, Contains, Decides}
use Rattle.std.specs.Prelude.{ltb, reverse}
use Rattle.std.specs.List.Sorted.{IsPermutation}
use Rattle.std.proofs.lemmas.Bool.{cases_lt, false≢true}
use Rattle.std.proofs.lemmas.Bool.Decides.{Decides-ltb}
use Rattle.std.proofs.lemmas.List.{reverse-reverse}
use Rattle.std.proofs.lemmas.List.Sorted.{IsPermutation-refl, IsPermutation-trans, IsPermutation-cons, IsPermutation-to_front}
use Rattle.lay_point.specs.declared.point.Point.{Point}
use Rattle.lay_point.specs.Points.{IsBefore}
use Rattle.lay_point.specs.Edges.{undirected}
use Rattle.lay_point.proofs.EdgeOrder.{test_by_before, undirected_lesser, undirected_back, before_is_strict, before_total}
use Rattle.lay_point.specs.Rising.{IsRising, pairs, last}
use Rattle.lay_point.proofs.Members.{Has, has, contains}
use Rattle.snap_edge_laws.proofs.ChainOrder.{below_is_strict}
use Rattle.snap_pixels.specs.declared.segment.Segment.{Segment}
use Rattle.snap_edge_laws.specs.Edges.{IsBelow}
use Rattle.snap_slabs.specs.Runs.{IsChainRun, centre_at, centres_at, no_centre}
use Rattle.snap_slabs.proofs.Stretches.{rising_back, rising_in, back_more}
use Rattle.snap_chains.specs.declared.owner.Owner.{Owner}
use Rattle.snap_chains.specs.Visits.{Visit}
use Rattle.snap_chains.specs.Visits.{visits_by}
use Rattle.snap_chains.proofs.OwnerLemmas.{map-push}
use Rattle.std.specs.List.{range_with_len}
use Rattle.std.proofs.lemmas.List.FromFn.{get_or-range_with_len, length-range_with_len}
use Rattle.lay_point.proofs.ListLaws.{before_by_number}
use Rattle.snap_chains.proofs.PathLemmas.{pairs-push}
use Rattle.snap_chains.specs.declared.pass.Pass.{Pass}
use Rattle.snap_chains.specs.Passes.{HasCentres, IsSideAdded, pass_between, passes_by, visit_at}

pub centre_before : (hot : List Point) → IsRising IsBefore hot → (i j : ℕ) → i < j → j < length hot
    → IsBefore (centre_at hot i) (centre_at hot j)
centre_before hot up i j less inside = before_by_number IsBefore before_is_strict hot i j no_centre up less inside

-- ---- one pass
module _ (hot : List Point) (up : IsRising IsBefore hot) (o : Owner) where
  pass_visit : (i j : ℕ) → i ≢ j → i < length hot → j < length hot
      → visit_at hot (pass_between o (i, j)) ≡ record { edge = undirected (centre_at hot i, centre_at hot j); owner = o }
  pass_visit i j apart li lj = ⊎_elim
      (λ (less : i < j).
      let t : ltb i j ≡ true = (Decides-ltb i j).1 less in
      let e = undirected_lesser (centre_at hot i, centre_at hot j) (test_by_before _ _ (centre_before hot up i j less lj)) in
      ap (λ b. visit_at hot (cond b (record { low = i; high = j; owner = o }) (record { low = j; high = i; owner = o }))) t
      ∙ ap (λ v. record { edge = v; owner = o }) (sym e))
      (λ (ge : j ≤ i).
      let less : j < i = omega (arith, apart, ge) in
      let t : ltb i j ≡ false = not_less (ltb i j) (Decides-ltb i j) ge in
      let e = undirected_back (centre_at hot j, centre_at hot i) (test_by_before _ _ (centre_before hot up j i less li)) in
      ap (λ b. visit_at hot (cond b (record { low = i; high = j; owner = o }) (record { low = j; high = i; owner = o }))) t
      ∙ ap (λ v. record { edge = v; owner = o }) (sym e))
      (cases_lt i j)
    where
      not_less : (b : Bool) → Decides b (i < j) → j ≤ i → b ≡ false
      not_less true d ge = absurd (omega (arith, d.0 refl, ge))
      not_less false d ge = refl

  pass_inside : (i j : ℕ) → i ≢ j → i < length hot → j < length hot → HasCentres hot (pass_between o (i, j))
  pass_inside i j apart li lj = by_test (ltb i j) (Decides-ltb i j)
    where
      by_test : (b : Bool) → Decides b (i < j)
          → HasCentres hot (cond b (record { low = i; high = j; owner = o }) (record { low = j; high = i; owner = o }))
      by_test true d = (d.0 refl, lj)
      by_test false d = ⊎_elim (λ (less : i < j). absurd (false≢true (d.1 less)))
          (λ (ge : j ≤ i). (omega (arith, apart, ge), li)) (cases_lt i j)

  -- ---- all of a run
  pub visits_forth : (numbers : List ℕ) → ((k : ℕ) → Has numbers k → k < length hot) → IsRising (λ i j. i ≢ j) numbers
      → map (visit_at hot) (passes_by o numbers) ≡ visits_by o (centres_at hot numbers)
  visits_forth [] inside apart = refl
  visits_forth (i ∷ []) inside apart = refl
  visits_forth (i ∷ j ∷ rest) inside apart = λ t.
      pass_visit i j apart.0 (inside i (inl refl)) (inside j (inr (inl refl))) t
      ∷ visits_forth (j ∷ rest) (λ k m. inside k (inr m)) apart.1 t

  pub passes_inside : (numbers : List ℕ) → ((k : ℕ) → Has numbers k → k < length hot) → IsRising (λ i j. i ≢ j) numbers
      → (p : Pass) → Has (passes_by o numbers) p → HasCentres hot p
  passes_inside [] inside apart p m = absurd m
  passes_inside (i ∷ []) inside apart p m = absurd m
  passes_inside (i ∷ j ∷ rest) inside apart p (inl e) =
      subst (HasCentres hot) e (pass_inside i j apart.0 (inside i (inl refl)) (inside j (inr (inl refl))))
  passes_inside (i ∷ j ∷ rest) inside apart p (inr m) = passes_inside (j ∷ rest) (λ k n. inside k (inr n)) apart.1 p m

-- ---- back
pairs_end : {A : Type 0} (xs : List A) (y x : A) → pairs ((xs ++ y ∷ []) ++ x ∷ []) ≡ pairs (xs ++ y ∷ []) ++ (y, x) ∷ []
pairs_end [] y x = refl
pairs_end (z ∷ []) y x = refl
pairs_end (z ∷ w ∷ ws) y x = ap (λ l. (z, w) ∷ l) (pairs_end (w ∷ ws) y x)

undirected_turn : (p q : Point) → p ≢ q → undirected (q, p) ≡ undirected (p, q)
undirected_turn p q apart = ⊎_elim (λ (e : p ≡ q). absurd (apart e))
    (λ order. ⊎_elim
    (λ (less : IsBefore p q). undirected_back (p, q) (test_by_before p q less) ∙ sym (undirected_lesser (p, q) (test_by_before p q less)))
    (λ (more : IsBefore q p). undirected_lesser (q, p) (test_by_before q p more) ∙ sym (undirected_back (q, p) (test_by_before q p more)))
    order)
    (before_total p q)

pub visits_back : (o : Owner) (ps : List Point) → IsRising (λ p q. p ≢ q) ps → IsPermutation (visits_by o (reverse ps)) (visits_by o ps)
visits_back o [] apart = IsPermutation-refl []
visits_back o (p ∷ []) apart = IsPermutation-refl []
visits_back o (p ∷ q ∷ ps) apart =
    let visit : Point × Point → Visit = λ e. record { edge = undirected e; owner = o } in
    let turned : reverse (p ∷ q ∷ ps) ≡ (reverse ps ++ q ∷ []) ++ p ∷ [] = back_more p (q ∷ ps) ∙ ap (λ l. l ++ p ∷ []) (back_more q ps) in
    let ends : visits_by o (reverse (p ∷ q ∷ ps)) ≡ visits_by o (reverse (q ∷ ps)) ++ visit (q, p) ∷ [] =
    ap (visits_by o) turned ∙ ap (map visit) (pairs_end (reverse ps) q p) ∙ map-push visit (pairs (reverse ps ++ q ∷ [])) (q, p)
    ∙ ap (λ l. visits_by o l ++ visit (q, p) ∷ []) (sym (back_more q ps)) in
    let same : visit (q, p) ≡ visit (p, q) = ap (λ e. record { edge = e; owner = o }) (undirected_turn p q apart.0) in
    subst (λ l. IsPermutation l (visits_by o (p ∷ q ∷ ps))) (sym ends)
    (IsPermutation-trans _ _ _ (IsPermutation-to_front (visits_by o (reverse (q ∷ ps))) (visit (q, p)))
    (subst (λ v. IsPermutation (visit (q, p) ∷ visits_by o (reverse (q ∷ ps))) (v ∷ visits_by o (q ∷ ps))) same
    (IsPermutation-cons (visit (q, p)) _ _ (visits_back o (q ∷ ps) apart.1))))

-- ---- a side
points_apart : (s : Segment) (ps : List Point) → IsRising (IsBelow s) ps → IsRising (λ p q. p ≢ q) ps
points_apart s ps up = rising_in (IsBelow s) (λ p q. p ≢ q) ps
    (λ p q m n less e. (below_is_strict s).irreflexive p (subst (IsBelow s p) (sym e) less)) up

points_apart_back : (s : Segment) (ps : List Point) → IsRising (λ p q. IsBelow s q p) ps → IsRising (λ p q. p ≢ q) ps
points_apart_back s ps up = rising_in (λ p q. IsBelow s q p) (λ p q. p ≢ q) ps
    (λ p q m n less e. (below_is_strict s).irreflexive p (subst (λ v. IsBelow s v p) (sym e) less)) up

numbers_apart : (hot : List Point) (numbers : List ℕ) → IsRising (λ p q. p ≢ q) (centres_at hot numbers) → IsRising (λ i j. i ≢ j) numbers
numbers_apart hot [] h = tt
numbers_apart hot (i ∷ []) h = tt
numbers_apart hot (i ∷ j ∷ rest) h = (λ e. h.0 (ap (centre_at hot) e), numbers_apart hot (j ∷ rest) h.1)

pub side_added : (hot : List Point) → IsRising IsBefore hot → (s : Segment) (o : Owner) (numbers : List ℕ) (old new : List Pass)
    → ((k : ℕ) → Contains numbers k → k < length hot) → IsChainRun hot s numbers → new ≡ old ++ passes_by o numbers
    → IsSideAdded hot s o old new
side_added hot up s o numbers old new inside (inl chain) is =
    let apart = numbers_apart hot numbers (points_apart s _ chain.rising) in
    let within : (k : ℕ) → Has numbers k → k < length hot = λ k m. inside k (contains numbers k m) in
    record {
      added = passes_by o numbers;
      new_is = is;
      inside = λ p m. passes_inside hot up o numbers within apart p (has (passes_by o numbers) p m);
      chain = centres_at hot numbers;
      is_chain = chain;
      visits = subst (IsPermutation (visits_by o (centres_at hot numbers))) (sym (visits_forth hot up o numbers within apart))
          (IsPermutation-refl (visits_by o (centres_at hot numbers)));
    }
side_added hot up s o numbers old new inside (inr chain) is =
    let points = centres_at hot numbers in
    let falling : IsRising (λ p q. IsBelow s q p) points = subst (IsRising (λ p q. IsBelow s q p)) (reverse-reverse points)
    (rising_back (λ p q. IsBelow s q p) (reverse points) chain.rising) in
    let differ = points_apart_back s points falling in
    let apart = numbers_apart hot numbers differ in
    let within : (k : ℕ) → Has numbers k → k < length hot = λ k m. inside k (contains numbers k m) in
    record {
      added = passes_by o numbers;
      new_is = is;
      inside = λ p m. passes_inside hot up o numbers within apart p (has (passes_by o numbers) p m);
      chain = reverse points;
      is_chain = chain;
      visits = subst (IsPermutation (visits_by o (reverse points))) (sym (visits_forth hot up o numbers within apart))
          (visits_back o points differ);
    }

-- ---- one more
pub passes_by-push : (o : Owner) (x : ℕ) (ys : List ℕ) (z : ℕ)
    → passes_by o (x ∷ (ys ++ z ∷ [])) ≡ passes_by o (x ∷ ys) ++ pass_between o (last x ys, z) ∷ []
passes_by-push o x ys z = ap (map (pass_between o)) (pairs-push x ys z) ∙ map-push (pass_between o) (pairs (x ∷ ys)) (last x ys, z)

pub column_more : (o : Owner) (a m i j : ℕ) → i ≡ a + m → j ≡ i + 1
    → passes_by o (range_with_len a (suc (suc m))) ≡ passes_by o (range_with_len a (suc m)) ++ pass_between o (i, j) ∷ []
column_more o a zero i j e f =
    let first : a ≡ i = omega (arith, e) in
    let second : a + 1 ≡ j = omega (arith, e, f) in
    λ t. pass_between o (first t, second t) ∷ []
column_more o a (suc m) i j e f = ap (λ l. pass_between o (a, a + 1) ∷ l) (column_more o (a + 1) m i j (omega (arith, e)) f)

pub in_range : (a n k : ℕ) → Contains (range_with_len a n) k → k < a + n
in_range a n k (i, lt, at) =
    let inside : i < n = omega (arith, lt, length-range_with_len a n) in
    let is = sym (get_or-range_with_len a n i k inside) ∙ at in
    omega (arith, is, inside)
