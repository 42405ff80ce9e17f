-- Keys in the order of rows, the points of sorted keys, and where the keys of edges' ends are among these.
use Rattle.std.proofs.Common.{◌≡◌, inl, inr, ⊎_elim, ℕ, ◌+◌, ◌-◌, ◌/◌, ◌%◌, ◌<◌, ◌≤◌, ◌↔◌, true, false, ltb, ltb-true, ltb-false}
use Rattle.std.proofs.Common.{List, [], ◌∷◌, ◌++◌, Some, Contains, length, map, get_or, ◌<ℤ◌, ap, subst, sym, ◌∙◌, arith}
use Rattle.std.specs.Prelude.{All, slice_get}
use Rattle.std.specs.List.Sorted.{IsNonDecreasing, IsPartitionPoint, IsStrictlyIncreasing}
use Rattle.std.proofs.lemmas.Bool.{cases_lt}
use Rattle.std.proofs.lemmas.List.{get_or_append_left, get_or_default, get_or_push}
use Rattle.std.proofs.lemmas.List.Elements.{Contains-append_left, Contains-push}
use Rattle.std.proofs.lemmas.List.Kept.{AllPairs-from_increasing}
use Rattle.std.proofs.lemmas.Option.{slice_get-get_or}
use Rattle.lay_point.specs.declared.point.Point.{Point}
use Rattle.lay_point.specs.Rising.{IsRising}
use Rattle.lay_point.proofs.Signs.{linear}
use Rattle.snap_pixels.specs.Coordinates.{coordinate_from}
use Rattle.snap_pixels.proofs.GatheredLemmas.{parts_of_less}
use Rattle.snap_slabs.specs.Runs.{IsRowBefore}
use Rattle.snap_slabs.proofs.KeyOrder.{increasing_tail}
use Rattle.snap_chains.specs.RowOrder.{HasKeys, IsSpanOf, end_key, keyed_point}
use Rattle.snap_chains.specs.declared.row_order.Span.{Span}

-- ---- the order of keys
-- coordinates are in the order of their distances from the least
shifted_less : (m n : ℕ) → m < n → coordinate_from m <ℤ coordinate_from n
shifted_less m n less = omega (arith, linear)

-- the points of two keys are in the order of rows
keys_before : (a b : ℕ) → a < b → IsRowBefore (keyed_point a) (keyed_point b)
keys_before a b less = ⊎_elim
    (λ (h : (a / 4294967296 ≡ b / 4294967296) × (a % 4294967296 < b % 4294967296)).
    let lt = h.1 in
    inr (ap coordinate_from h.0, shifted_less (4294967295 - b % 4294967296) (4294967295 - a % 4294967296) (omega (arith, lt))))
    (λ (lt : a / 4294967296 < b / 4294967296). inl (shifted_less (a / 4294967296) (b / 4294967296) lt))
    (parts_of_less a b less)

-- the points of keys that rise are by rows
pub points_rise : (ks : List ℕ) → IsStrictlyIncreasing ks → IsRising IsRowBefore (map keyed_point ks)
points_rise [] h = tt
points_rise (k ∷ []) h = tt
points_rise (j ∷ k ∷ ks) h = (keys_before j k (h 0 (omega arith)), points_rise (k ∷ ks) (increasing_tail j (k ∷ ks) h))

-- ---- a key that is there is found
-- numbers that rise do not fall
pub never_falls : (ks : List ℕ) → IsStrictlyIncreasing ks → IsNonDecreasing ks
never_falls ks up i j d le lt = ⊎_elim
    (λ (less : i < j). let l = AllPairs-from_increasing ks up i j d less lt in omega (arith, l))
    (λ (ge : j ≤ i).
    let same : i ≡ j = omega (arith, le, ge) in
    let e : get_or ks i d ≡ get_or ks j d = ap (λ m. get_or ks m d) same in
    omega (arith, e))
    (cases_lt i j)

-- where the lesser keys end, there the key is
pub found_at : (ks : List ℕ) (key n : ℕ) → IsStrictlyIncreasing ks → Contains ks key
    → IsPartitionPoint (λ k. ltb k key ≡ true) (λ k. ltb k key ≡ false) ks n → slice_get ks n ≡ Some key
found_at ks key n up (k, lt, at) parts =
    slice_get-get_or ks n key (omega (arith, lt, same)) ∙ ap (λ m. Some (get_or ks m key)) same ∙ ap Some at
  where
    early : k < n → ⊥
    early less = let l = ltb-true (get_or ks k key) key (parts.0 k key (omega arith) less) in omega (arith, l, at)

    late : n < k → ⊥
    late less =
        let g = ltb-false (get_or ks n key) key (parts.1 n key (omega arith) (omega (arith, less, lt))) in
        let l = AllPairs-from_increasing ks up n k key less lt in
        omega (arith, g, l, at)

    same : n ≡ k
    same = ⊎_elim (λ (less : n < k). absurd (late less))
        (λ (ge : k ≤ n). ⊎_elim (λ (less : k < n). absurd (early less)) (λ (le : n ≤ k). omega (arith, ge, le)) (cases_lt k n))
        (cases_lt n k)

-- ---- edges so far
-- what holds of the edges so far and of the next one holds of one more
one_more : (P : Point × Point → Type 0) (edges : List (Point × Point)) (n : ℕ) (e : Point × Point) → n < length edges
    → e ≡ get_or edges n e → P e → ((k : ℕ) (d : Point × Point) → k < n → P (get_or edges k d))
    → (k : ℕ) (d : Point × Point) → k < n + 1 → P (get_or edges k d)
one_more P edges n e less is here so_far k d lt = ⊎_elim
    (λ (before : k < n). so_far k d before)
    (λ (ge : n ≤ k).
    let same : n ≡ k = omega arith in
    subst P (is ∙ get_or_default edges n e d less ∙ ap (λ i. get_or edges i d) same) here)
    (cases_lt k n)

-- with the keys of the next edge's ends those of one more edge are there
pub keys_more : (keys : List ℕ) (edges : List (Point × Point)) (n : ℕ) (e : Point × Point) → n < length edges → e ≡ get_or edges n e
    → ((k : ℕ) (d : Point × Point) → k < n → HasKeys keys (get_or edges k d))
    → (k : ℕ) (d : Point × Point) → k < n + 1 → HasKeys ((keys ++ end_key e.0 ∷ []) ++ end_key e.1 ∷ []) (get_or edges k d)
keys_more keys edges n e less is so_far = one_more (HasKeys (more ++ end_key e.1 ∷ [])) edges n e less is
    (Contains-append_left more (end_key e.1 ∷ []) (end_key e.0) (Contains-push keys (end_key e.0)), Contains-push more (end_key e.1))
    (λ k d lt. (keep (end_key (get_or edges k d).0) (so_far k d lt).0, keep (end_key (get_or edges k d).1) (so_far k d lt).1))
  where
    more : List ℕ
    more = keys ++ end_key e.0 ∷ []

    keep : (key : ℕ) → Contains keys key → Contains (more ++ end_key e.1 ∷ []) key
    keep key m = Contains-append_left more (end_key e.1 ∷ []) key (Contains-append_left keys (end_key e.0 ∷ []) key m)

-- keys of edges stay there in a list of the same numbers
pub keys_stay : (old new : List ℕ) (edges : List (Point × Point)) → ((k : ℕ) → Contains new k ↔ Contains old k)
    → All (HasKeys old) edges → All (HasKeys new) edges
keys_stay old new edges same all k d lt = (
  (same (end_key (get_or edges k d).0)).1 (all k d lt).0,
  (same (end_key (get_or edges k d).1)).1 (all k d lt).1,
)

-- with the span of the next edge one more edge has its span
pub spans_more : (points : List Point) (edges : List (Point × Point)) (spans : List Span) (n : ℕ) (e : Point × Point) (t : Span)
    → n < length edges → length spans ≡ n → e ≡ get_or edges n e → IsSpanOf points e t
    → ((k : ℕ) (d : Point × Point) (s : Span) → k < n → IsSpanOf points (get_or edges k d) (get_or spans k s))
    → (k : ℕ) (d : Point × Point) (s : Span) → k < n + 1 → IsSpanOf points (get_or edges k d) (get_or (spans ++ t ∷ []) k s)
spans_more points edges spans n e t less len is here so_far k d s lt = ⊎_elim
    (λ (before : k < n).
    subst (IsSpanOf points (get_or edges k d)) (sym (get_or_append_left spans (t ∷ []) s k (omega (arith, before, len))))
    (so_far k d s before))
    (λ (ge : n ≤ k).
    let same : n ≡ k = omega arith in
    let at : e ≡ get_or edges k d = is ∙ get_or_default edges n e d less ∙ ap (λ i. get_or edges i d) same in
    let pushed : get_or (spans ++ t ∷ []) k s ≡ t = get_or_push spans t s k (len ∙ same) in
    subst (λ f. IsSpanOf points f (get_or (spans ++ t ∷ []) k s)) at (subst (IsSpanOf points e) (sym pushed) here))
    (cases_lt k n)
