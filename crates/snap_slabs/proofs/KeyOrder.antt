-- The order of row keys, and the centres of sorted keys.
use Rattle.std.proofs.Common.{◌≡◌, ◌⊎◌, ◌↔◌, inl, inr, ⊎_elim, ℕ, zero, suc, ◌+◌, ◌<◌, ◌≤◌, ◌^◌, List, [], ◌∷◌, length, get_or, map, ◌<ℤ◌}
use Rattle.std.proofs.Common.{refl, sym, ap, subst, ◌∙◌, arith, Contains}
use Rattle.std.specs.List.{range_with_len}
use Rattle.std.specs.List.Sorted.{IsPermutation, IsStrictlyIncreasing}
use Rattle.snap_pixels.specs.Coordinates.{from_least}
use Rattle.std.proofs.lemmas.Bool.{cases_lt}
use Rattle.std.proofs.lemmas.List.{get_or_default}
use Rattle.std.proofs.lemmas.List.Sorted.{Contains-permutation, IsPermutation-sym}
use Rattle.std.proofs.lemmas.Simd.{map-map}
use Rattle.std.proofs.Common.{Some}
use Rattle.std.specs.Prelude.{◌*◌, ◌-◌, ◌%◌, true, false, slice_get, slice_index}
use Rattle.std.specs.List.Sorted.{IsPartitionPoint}
use Rattle.std.proofs.lemmas.Bool.{false≢true}
use Rattle.std.proofs.lemmas.Option.{slice_get-get_or}
use Rattle.lay_point.proofs.Signs.{linear}
use Rattle.lay_point.specs.declared.point.Point.{Point}
use Rattle.lay_point.specs.Points.{IsBefore}
use Rattle.snap_pixels.specs.Order.{ArePointsRising}
use Rattle.lay_point.specs.Rising.{IsRising}
use Rattle.lay_point.proofs.Members.{Has, has, contains}
use Rattle.lay_point.proofs.EdgeOrder.{before_is_strict}
use Rattle.lay_point.proofs.ListLaws.{before_by_number, has-map, map-has}
use Rattle.snap_slabs.specs.Columns.{is_lesser_point}
use Rattle.snap_slabs.proofs.ColumnLemmas.{Decides-is_lesser_point}
use Rattle.snap_slabs.specs.Runs.{HaveRows, IsRowBefore, centre_at, centres_at, no_centre, number_of, row_key}

-- what two keys tell, of rows r and s and of numbers i and j
key_parts : (r s i j : ℕ) → i < 2 ^ 32 → j < 2 ^ 32 → r * 4294967296 + (4294967295 - i) < s * 4294967296 + (4294967295 - j)
    → (r < s) ⊎ ((r ≡ s) × (j < i))
key_parts r s i j li lj h = ⊎_elim
    (λ (less : r < s). inl less)
    (λ (ge : s ≤ r). inr (omega (arith, h, ge, li, lj), omega (arith, h, ge, li, lj)))
    (cases_lt r s)

number_back : (r i : ℕ) → i < 2 ^ 32 → 4294967295 - (r * 4294967296 + (4294967295 - i)) % 4294967296 ≡ i
number_back r i lt = omega (arith, lt)

-- ---- maps of lists
pub rising-map : {A B : Type 0} (Before : A → A → Type 0) (After : B → B → Type 0) (f : A → B) (xs : List A)
    → ((x y : A) → Has xs x → Has xs y → Before x y → After (f x) (f y)) → IsRising Before xs → IsRising After (map f xs)
rising-map Before After f [] g h = tt
rising-map Before After f (x ∷ []) g h = tt
rising-map Before After f (x ∷ y ∷ ys) g h = (
  g x y (inl refl) (inr (inl refl)) h.0,
  rising-map Before After f (y ∷ ys) (λ a b m n. g a b (inr m) (inr n)) h.1,
)

pub increasing_tail : (k : ℕ) (ks : List ℕ) → IsStrictlyIncreasing (k ∷ ks) → IsStrictlyIncreasing ks
increasing_tail k ks h i lt =
    let e : suc i + 1 ≡ suc (i + 1) = omega arith in
    subst (λ n. slice_index ks i < slice_index (k ∷ ks) n) e (h (suc i) (omega arith))

rising_numbers : (ks : List ℕ) → IsStrictlyIncreasing ks → IsRising (λ j k. j < k) ks
rising_numbers [] h = tt
rising_numbers (k ∷ []) h = tt
rising_numbers (j ∷ k ∷ ks) h = (h 0 (omega arith), rising_numbers (k ∷ ks) (increasing_tail j (k ∷ ks) h))

range-has : (a n k : ℕ) → Has (range_with_len a n) k → k < a + n
range-has a zero k h = absurd h
range-has a (suc n) k (inl e) = omega (arith, e)
range-has a (suc n) k (inr h) = let r = range-has (a + 1) n k h in omega (arith, r)

has-range : (a n k : ℕ) → a ≤ k → k < a + n → Has (range_with_len a n) k
has-range a zero k low high = absurd (omega (arith, low, high))
has-range a (suc n) k low high = ⊎_elim
    (λ (less : a < k). inr (has-range (a + 1) n k (omega (arith, less)) (omega (arith, high))))
    (λ (ge : k ≤ a). inl (omega (arith, low, ge)))
    (cases_lt a k)

-- ---- centres by rows
module _ (hot : List Point) (up : IsRising IsBefore hot) (few : length hot < 2 ^ 32) (rows : HaveRows hot) where
  abbrev keys : List ℕ
  keys = map (row_key hot) (range_with_len 0 (length hot))

  key_back : (i : ℕ) → i < length hot → number_of (row_key hot i) ≡ i
  key_back i lt = number_back (from_least (centre_at hot i).y) i (omega (arith, few, lt))

  of_key : (k : ℕ) → Has keys k → (i : ℕ) × (i < length hot) × (row_key hot i ≡ k)
  of_key k m =
      let r = map-has (row_key hot) (range_with_len 0 (length hot)) k m in
      let lt = range-has 0 (length hot) r.0 r.1 in
      (r.0, omega (arith, lt), r.2)

  same_row : (i j : ℕ) → i < length hot → j < length hot → from_least (centre_at hot i).y ≡ from_least (centre_at hot j).y
      → (centre_at hot i).y ≡ (centre_at hot j).y
  same_row i j li lj e = let p = rows i li in let q = rows j lj in omega (arith, linear, p, q, e)

  centres_before : (i j : ℕ) → i < length hot → j < length hot → row_key hot i < row_key hot j
      → IsRowBefore (centre_at hot i) (centre_at hot j)
  centres_before i j li lj h = ⊎_elim
      (λ (less : from_least (centre_at hot i).y < from_least (centre_at hot j).y).
      let p = rows i li in
      let q = rows j lj in
      inl (omega (arith, linear, p, q, less)))
      (λ both.
      let row = same_row i j li lj both.0 in
      inr (
        row,
        ⊎_elim (λ (l : (centre_at hot j).x <ℤ (centre_at hot i).x). l)
            (λ (t : ((centre_at hot j).x ≡ (centre_at hot i).x) × ((centre_at hot j).y <ℤ (centre_at hot i).y)). absurd
            (omega (arith, linear, row, t.1)))
            (before_by_number IsBefore before_is_strict hot j i no_centre up both.1 li),
      ))
      (key_parts (from_least (centre_at hot i).y) (from_least (centre_at hot j).y) i j (omega (arith, few, li)) (omega (arith, few, lj)) h)

  keys_before : (j k : ℕ) → Has keys j → Has keys k → j < k → IsRowBefore (centre_at hot (number_of j)) (centre_at hot (number_of k))
  keys_before j k m n less =
      let p = of_key j m in
      let q = of_key k n in
      let a : p.0 ≡ number_of j = sym (key_back p.0 p.1) ∙ ap number_of p.2 in
      let b : q.0 ≡ number_of k = sym (key_back q.0 q.1) ∙ ap number_of q.2 in
      coe 0 1 (t. IsRowBefore (centre_at hot (a t)) (centre_at hot (b t)))
      (centres_before p.0 q.0 p.1 q.1 (coe 1 0 (t. p.2 t < q.2 t) less))

  -- what the numbers of the sorted keys are
  module _ (all sorted once : List ℕ) (is : all ≡ keys) (moved : IsPermutation all sorted) (increasing : IsStrictlyIncreasing once)
      (same : (k : ℕ) → Contains once k ↔ Contains sorted k) where
    members : (k : ℕ) → Contains once k ↔ Contains keys k
    members k = (
      (λ m. subst (λ l. Contains l k) is (Contains-permutation sorted all k (IsPermutation-sym all sorted moved) ((same k).0 m))),
      (λ m. (same k).1 (Contains-permutation all sorted k moved (subst (λ l. Contains l k) (sym is) m))),
    )

    among : (k : ℕ) → Has once k → Has keys k
    among k m = has keys k ((members k).0 (contains once k m))

    pub rows_rise : IsRising IsRowBefore (centres_at hot (map number_of once))
    rows_rise = subst (IsRising IsRowBefore) (sym (map-map (centre_at hot) number_of once))
        (rising-map (λ j k. j < k) IsRowBefore (λ k. centre_at hot (number_of k)) once
        (λ j k m n less. keys_before j k (among j m) (among k n) less)
        (rising_numbers once increasing))

    pub rows_have : (i : ℕ) → Contains (map number_of once) i ↔ i < length hot
    rows_have i = (
      (λ m.
          let r = map-has number_of once i (has (map number_of once) i m) in
          let p = of_key r.0 (among r.0 r.1) in
          let e : p.0 ≡ i = sym (key_back p.0 p.1) ∙ ap number_of p.2 ∙ r.2 in
          omega (arith, e, p.1)),
      (λ lt.
          let there = (members (row_key hot i)).1 (contains keys (row_key hot i)
          (has-map (row_key hot) (range_with_len 0 (length hot)) i (has-range 0 (length hot) i (omega arith) (omega (arith, lt))))) in
          subst (Contains (map number_of once)) (key_back i lt)
          (contains (map number_of once) (number_of (row_key hot i))
          (has-map number_of once (row_key hot i) (has once (row_key hot i) there)))),
    )

-- ---- the centres themselves
pub rising_points : (hot : List Point) → ArePointsRising hot → IsRising IsBefore hot
rising_points [] h = tt
rising_points (p ∷ []) h = tt
rising_points (p ∷ q ∷ ps) h = (h.0, rising_points (q ∷ ps) h.1)

pub row_members : (hot : List Point) (rows : List ℕ) → ((i : ℕ) → Contains rows i ↔ i < length hot)
    → (c : Point) → Contains (centres_at hot rows) c ↔ Contains hot c
row_members hot rows all c = (
  (λ m.
      let r = map-has (centre_at hot) rows c (has (centres_at hot rows) c m) in
      let lt = (all r.0).0 (contains rows r.0 r.1) in
      (r.0, lt, get_or_default hot r.0 c no_centre lt ∙ r.2)),
  (λ m.
      let e : centre_at hot m.0 ≡ c = get_or_default hot m.0 no_centre c m.1 ∙ m.2 in
      subst (Contains (centres_at hot rows)) e
      (contains (centres_at hot rows) (centre_at hot m.0) (has-map (centre_at hot) rows m.0 (has rows m.0 ((all m.0).1 m.1))))),
)

pub points_rising : (hot : List Point) → IsRising IsBefore hot → ArePointsRising hot
points_rising [] h = tt
points_rising (p ∷ []) h = tt
points_rising (p ∷ q ∷ ps) h = (h.0, points_rising (q ∷ ps) h.1)

-- ---- a centre that is there is found
-- where the centres before a point of the list end, there it is
pub found_behind : (cs : List Point) → IsRising IsBefore cs → (c : Point) (n : ℕ) → Contains cs c
    → IsPartitionPoint (λ v. is_lesser_point v c ≡ true) (λ v. is_lesser_point v c ≡ false) cs n → slice_get cs n ≡ Some c
found_behind cs up c n (k, lt, at) parts = slice_get-get_or cs n c (omega (arith, lt, same))
    ∙ ap (λ m. Some (get_or cs m c)) same ∙ ap Some at
  where
    lesser : (v : Point) → is_lesser_point v c ≡ true → IsBefore v c
    lesser v t = (Decides-is_lesser_point v c).0 t

    early : k < n → ⊥
    early less = before_is_strict.irreflexive c (subst (λ v. IsBefore v c) at (lesser (get_or cs k c) (parts.0 k c (omega arith) less)))

    late : n < k → ⊥
    late less = false≢true (sym (parts.1 n c (omega arith) (omega (arith, less, lt)))
        ∙ (Decides-is_lesser_point (get_or cs n c) c).1 (subst (IsBefore (get_or cs n c)) at
        (before_by_number IsBefore before_is_strict cs n k c up less lt)))

    same : n ≡ k
    same = ⊎_elim (λ (less : n < k). absurd (late less))
        (λ (ge : k ≤ n). ⊎_elim (λ (less : k < n). absurd (early less)) (λ (le : n ≤ k). omega (arith, ge, le)) (cases_lt k n))
        (cases_lt n k)
