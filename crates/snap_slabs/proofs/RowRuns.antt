-- The runs of sides along an axis: parts of the two orders of the centres.
use Rattle.std.proofs.Common.{
  ◌≡◌,
  ◌⊎◌,
  ◌↔◌,
  inl,
  inr,
  ⊎_elim,
  ◌≢◌,
  ℕ,
  zero,
  suc,
  ◌+◌,
  ◌-◌,
  ◌<◌,
  ◌≤◌,
  List,
  ◌∷◌,
  length,
  get_or,
  map,
  take,
  drop,
  Some,
  ◌-ℤ◌,
  ◌≤ℤ◌,
  ◌<ℤ◌,
}
use Rattle.std.proofs.Common.{refl, sym, ap, subst, ◌∙◌, arith, Contains, add-one}
use Rattle.std.proofs.Math.Seq.{drop-cons}
use Rattle.std.specs.Prelude.{slice_range, slice_get, slice_index_or, reverse}
use Rattle.std.proofs.lemmas.Bool.{cases_lt}
use Rattle.std.proofs.lemmas.List.{get_or-map, take-map, drop-map, length-map, get_or_default}
use Rattle.std.proofs.lemmas.Option.{slice_get-map, slice_get_within, get_or_from_slice_get}
use Rattle.std.specs.Option.{option_map}
use Rattle.lay_point.proofs.Signs.{linear, below_or_not, below_or_same}
use Rattle.lay_point.specs.declared.point.Point.{Point}
use Rattle.lay_point.specs.Points.{IsBefore}
use Rattle.snap_pixels.specs.declared.segment.Segment.{Segment}
use Rattle.snap_edge_laws.specs.Chains.{IsChain}
use Rattle.lay_point.proofs.Rising.{IsStrictOrder}
use Rattle.lay_point.proofs.EdgeOrder.{before_is_strict, same_point}
use Rattle.lay_point.specs.Rising.{IsRising}
use Rattle.snap_slabs.specs.Runs.{AreEnds, AreRanked, no_centre, centre_at, centres_at, IsRowBefore, IsSide, IsChainRun, AreByRows}
use Rattle.std.specs.List.{range_with_len}
use Rattle.lay_point.proofs.ListLaws.{before_by_number}
use Rattle.snap_slabs.proofs.Along.{
  row_before_is_strict,
  row_falls,
  column_rises,
  chain_forth,
  chain_back,
  along_left,
  along_right,
  along_up,
  along_down,
}

-- of two elements in order the first has the lesser number
pub in_order : {A : Type 0} (Before : A → A → Type 0) → IsStrictOrder Before → (xs : List A) (i j : ℕ) (a b : A) → IsRising Before xs
    → i < length xs → j < length xs → get_or xs i a ≡ a → get_or xs j b ≡ b → Before a b → i < j
in_order Before laws xs i j a b up li lj ea eb less = ⊎_elim (λ (h : i < j). h)
    (λ (ge : j ≤ i). absurd (⊎_elim
    (λ (more : j < i). laws.irreflexive a (laws.transitive a b a less
    (subst (λ v. Before v a) (get_or_default xs j a b lj ∙ eb)
    (subst (Before (get_or xs j a)) ea (before_by_number Before laws xs j i a up more li)))))
    (λ (le : i ≤ j).
    let e : i ≡ j = omega arith in
    laws.irreflexive b (subst (λ v. Before v b) (sym ea ∙ get_or_default xs i a b li ∙ ap (λ n. get_or xs n b) e ∙ eb) less))
    (cases_lt j i)))
    (cases_lt i j)

range-map : {A B : Type 0} (f : A → B) (xs : List A) (i j : ℕ) → slice_range (map f xs) i j ≡ map f (slice_range xs i j)
range-map f xs i j = ap (take (j - i)) (drop-map f i xs) ∙ take-map f (j - i) (drop i xs)

-- ---- a side between two places of a list in which its centres are neighbours
ends_forth : (i j first last : ℕ) → AreEnds i j first last → i < j → (i ≡ first) × (j ≡ last)
ends_forth i j first last e less = (
  ⊎_elim (λ (h : first ≡ i). sym h) (λ (h : first ≡ j). absurd (omega (arith, h, less, e.first_low))) e.first_is,
  ⊎_elim (λ (h : last ≡ i). absurd (omega (arith, h, less, e.last_high))) (λ (h : last ≡ j). sym h) e.last_is,
)

ends_back : (i j first last : ℕ) → AreEnds i j first last → j < i → (j ≡ first) × (i ≡ last)
ends_back i j first last e less = (
  ⊎_elim (λ (h : first ≡ i). absurd (omega (arith, h, less, e.first_high))) (λ (h : first ≡ j). sym h) e.first_is,
  ⊎_elim (λ (h : last ≡ i). sym h) (λ (h : last ≡ j). absurd (omega (arith, h, less, e.last_low))) e.last_is,
)

pub centres_from : (hot : List Point) (a n : ℕ) → a + n ≤ length hot → centres_at hot (range_with_len a n) ≡ take n (drop a hot)
centres_from hot a zero le = refl
centres_from hot a (suc n) le =
    (λ t. centre_at hot a ∷ centres_from hot (a + 1) n (omega arith) t)
    ∙ ap (λ k. get_or hot a no_centre ∷ take n (drop k hot)) (add-one a)
    ∙ sym (ap (take (suc n)) (drop-cons hot a no_centre (omega arith)))

module _ (hot xs : List Point) (same : (c : Point) → Contains xs c ↔ Contains hot c) (s : Segment) (i j first last : ℕ)
    (e : AreEnds i j first last) (li : i < length xs) (lj : j < length xs)
    (at_a : get_or xs i s.a ≡ s.a) (at_b : get_or xs j s.b ≡ s.b) where
  pub level_run : IsRising IsRowBefore xs → s.a.y ≡ s.b.y → s.a.x ≢ s.b.x → IsChain (Contains hot) s (slice_range xs first (last + 1))
      ⊎ IsChain (Contains hot) s (reverse (slice_range xs first (last + 1)))
  level_run up level apart = ⊎_elim
      (λ (left : s.b.x <ℤ s.a.x).
      let less = in_order IsRowBefore row_before_is_strict xs i j s.a s.b up li lj at_a at_b (inr (level, left)) in
      let k = ends_forth i j first last e less in
      inl (coe 0 1 (t. IsChain (Contains hot) s (slice_range xs (k.0 t) (k.1 t + 1)))
      (chain_forth IsRowBefore row_before_is_strict hot xs up same s s.a s.b (s.a.x -ℤ s.b.x) (λ c. s.a.x -ℤ c.x) (along_left s level left)
      i j (omega (arith, less)) lj at_a at_b
      (λ c d h g before. let f = row_falls s.a s.b c d level h g before in omega (arith, linear, f)))))
      (λ (ge : s.a.x ≤ℤ s.b.x).
      let right : s.a.x <ℤ s.b.x = ⊎_elim (λ (h : s.a.x <ℤ s.b.x). h) (λ h. absurd (apart h)) (below_or_same s.a.x s.b.x ge) in
      let less = in_order IsRowBefore row_before_is_strict xs j i s.b s.a up lj li at_b at_a (inr (sym level, right)) in
      let k = ends_back i j first last e less in
      inr (coe 0 1 (t. IsChain (Contains hot) s (reverse (slice_range xs (k.0 t) (k.1 t + 1))))
      (chain_back IsRowBefore row_before_is_strict hot xs up same s s.b s.a (s.b.x -ℤ s.a.x) (λ c. c.x -ℤ s.a.x) (along_right s level right)
      j i (omega (arith, less)) li at_b at_a
      (λ c d h g before. let f = row_falls s.b s.a c d (sym level) h g before in omega (arith, linear, f)))))
      (below_or_not s.b.x s.a.x)

  pub upright_run : IsRising IsBefore xs → s.a.x ≡ s.b.x → s.a.y ≢ s.b.y → IsChain (Contains hot) s (slice_range xs first (last + 1))
      ⊎ IsChain (Contains hot) s (reverse (slice_range xs first (last + 1)))
  upright_run up upright apart = ⊎_elim
      (λ (down : s.b.y <ℤ s.a.y).
      let less = in_order IsBefore before_is_strict xs j i s.b s.a up lj li at_b at_a (inr (sym upright, down)) in
      let k = ends_back i j first last e less in
      inr (coe 0 1 (t. IsChain (Contains hot) s (reverse (slice_range xs (k.0 t) (k.1 t + 1))))
      (chain_back IsBefore before_is_strict hot xs up same s s.b s.a (s.a.y -ℤ s.b.y) (λ c. s.a.y -ℤ c.y) (along_down s upright down)
      j i (omega (arith, less)) li at_b at_a
      (λ c d h g before. let f = column_rises s.b s.a c d (sym upright) h g before in omega (arith, linear, f)))))
      (λ (ge : s.a.y ≤ℤ s.b.y).
      let rise : s.a.y <ℤ s.b.y = ⊎_elim (λ (h : s.a.y <ℤ s.b.y). h) (λ h. absurd (apart h)) (below_or_same s.a.y s.b.y ge) in
      let less = in_order IsBefore before_is_strict xs i j s.a s.b up li lj at_a at_b (inr (upright, rise)) in
      let k = ends_forth i j first last e less in
      inl (coe 0 1 (t. IsChain (Contains hot) s (slice_range xs (k.0 t) (k.1 t + 1)))
      (chain_forth IsBefore before_is_strict hot xs up same s s.a s.b (s.b.y -ℤ s.a.y) (λ c. c.y -ℤ s.a.y) (along_up s upright rise)
      i j (omega (arith, less)) lj at_a at_b
      (λ c d h g before. let f = column_rises s.a s.b c d upright h g before in omega (arith, linear, f)))))
      (below_or_not s.b.y s.a.y)

-- ---- by numbers
-- the centres by rows, and where each is among them
pub ranked : (hot : List Point) (rows places : List ℕ) → AreByRows hot rows places → AreRanked hot (centres_at hot rows) places
ranked hot rows places n = record {
  by_row = n.by_row;
  as_many = n.as_many;
  ranked = λ i less. slice_get-map (centre_at hot) rows (slice_index_or places i 0) ∙ ap (option_map (centre_at hot)) (n.placed i less);
}

module _ (hot : List Point) (rows places : List ℕ) (n : AreByRows hot rows places) (s : Segment) (i j : ℕ) (side : IsSide hot s i j) where
  in_row : (k : ℕ) (p : Point) → slice_get hot k ≡ Some p → slice_index_or places k 0 < length rows
  in_row k p here = slice_get_within rows (slice_index_or places k 0) k (n.placed k (slice_get_within hot k p here))

  in_centres : (k : ℕ) (p : Point) → slice_get hot k ≡ Some p → slice_index_or places k 0 < length (centres_at hot rows)
  in_centres k p here = omega (arith, in_row k p here, length-map rows (centre_at hot))

  at_place : (k : ℕ) (p : Point) → slice_get hot k ≡ Some p → get_or (centres_at hot rows) (slice_index_or places k 0) p ≡ p
  at_place k p here = get_or-map (centre_at hot) rows (slice_index_or places k 0) 0 p (in_row k p here)
      ∙ ap (centre_at hot) (get_or_from_slice_get rows (slice_index_or places k 0) k 0 (n.placed k (slice_get_within hot k p here)))
      ∙ get_or_from_slice_get hot k p no_centre here

  pub row_is_run : (first last : ℕ) → AreEnds (slice_index_or places i 0) (slice_index_or places j 0) first last → s.a.y ≡ s.b.y
      → IsChainRun hot s (slice_range rows first (last + 1))
  row_is_run first last e level =
      subst (λ l. IsChain (Contains hot) s l ⊎ IsChain (Contains hot) s (reverse l)) (range-map (centre_at hot) rows first (last + 1))
      (level_run hot (centres_at hot rows) n.members s (slice_index_or places i 0) (slice_index_or places j 0) first last e
      (in_centres i s.a side.0) (in_centres j s.b side.1) (at_place i s.a side.0) (at_place j s.b side.1) n.by_row level
      (λ x. s.differ (same_point s.a s.b x level)))

  pub column_is_run : (first last : ℕ) → AreEnds i j first last → s.a.x ≡ s.b.x
      → IsChainRun hot s (range_with_len first (last + 1 - first))
  column_is_run first last e upright =
      subst (λ l. IsChain (Contains hot) s l ⊎ IsChain (Contains hot) s (reverse l))
      (sym (centres_from hot first (last + 1 - first) (omega (arith, e.last_low, e.first_low, bound e.last_is))))
      (upright_run hot hot (λ c. ((λ m. m), (λ m. m))) s i j first last e
      (slice_get_within hot i s.a side.0) (slice_get_within hot j s.b side.1)
      (get_or_from_slice_get hot i s.a s.a side.0) (get_or_from_slice_get hot j s.b s.b side.1) n.rising upright
      (λ y. s.differ (same_point s.a s.b upright y)))
    where
      bound : (last ≡ i) ⊎ (last ≡ j) → last < length hot
      bound (inl h) = omega (arith, h, slice_get_within hot i s.a side.0)
      bound (inr h) = omega (arith, h, slice_get_within hot j s.b side.1)
