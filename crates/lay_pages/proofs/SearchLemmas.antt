-- Entries in order of their keys: what halving finds among them, and what stands on both sides of it.
use Rattle.std.proofs.Common.{◌≡◌, ◌∙◌, ◌<◌, ◌≤◌, ◌+◌, ℕ, zero, suc, List, [], ◌∷◌, Option, Some, None, Result}
use Rattle.std.proofs.Common.{Ok, Err, IfErr, IfOk, cond, refl, ap, sym, arith, take, drop, length, get_or, subst}
use Rattle.std.specs.Prelude.{filter, not}
use Rattle.std.specs.declared.cmp.Ordering.{Ordering}
use Rattle.std.specs.declared.cmp.Ordering.TheVariants.{Equal, Greater, Less}
use Rattle.std.specs.Cmp.{IsTotalOrder}
use Rattle.std.specs.FinMap.{IsAntisymmetric, find}
use Rattle.std.specs.List.{AllByRecursion, AllWithin, HoldsAt}
use Rattle.std.specs.List.Sorted.{IsBinarySearchResult, IsNonDecreasingBy, IsSearchInRange, IsStrictlySortedBy}
use Rattle.std.specs.Map.{keys_of}
use Rattle.std.specs.Ordering.{is_eq, is_lt, ordering_index, ordering_reverse}
use Rattle.lay_pages.specs.Written.{IsFoundAt, IsGapAt}

pub turned : {K : Type 0} {R : K → K → Ordering} → IsTotalOrder R → (x y : K) (o : Ordering) → R x y ≡ o → R y x ≡ ordering_reverse o
turned total x y o is = total.antisymm y x ∙ ap ordering_reverse is

module _ {K X : Type 0} {R : K → K → Ordering} (total : IsTotalOrder R) (exact : IsAntisymmetric R) where
  -- those before a key, and those after it
  abbrev pub lower : K → List (K × X) → List (K × X)
  lower k es = filter (λ e. is_lt (R e.0 k)) es

  abbrev pub upper : K → List (K × X) → List (K × X)
  upper k es = filter (λ e. is_lt (R k e.0)) es

  abbrev pub from : K → List (K × X) → List (K × X)
  from k es = filter (λ e. not (is_lt (R e.0 k))) es

  -- what stands on both sides of an index, and what is found there
  pub record IsSplit (es : List (K × X)) (k : K) (at next : ℕ) (found : Option X) : Type 0 where
    pub lower : lower k es ≡ take at es
    pub upper : upper k es ≡ drop next es
    pub from : from k es ≡ drop at es
    pub value : find R k es ≡ found

  -- an entry before the key
  low_first : (e : K × X) (es : List (K × X)) (k : K) (at next : ℕ) (found : Option X) → R e.0 k ≡ Less → IsSplit es k at next found
      → IsSplit (e ∷ es) k (suc at) (suc next) found
  low_first e es k at next found less rest = record {
    lower = ap (λ o. cond (is_lt o) (e ∷ lower k es) (lower k es)) less ∙ ap (λ xs. e ∷ xs) rest.lower;
    upper = ap (λ o. cond (is_lt o) (e ∷ upper k es) (upper k es)) (turned total e.0 k Less less) ∙ rest.upper;
    from = ap (λ o. cond (not (is_lt o)) (e ∷ from k es) (from k es)) less ∙ rest.from;
    value = ap (λ o. cond (is_eq o) (Some e.1) (find R k es)) (turned total e.0 k Less less) ∙ rest.value;
  }

  -- entries after the key
  all_upper : (es : List (K × X)) (k : K) → AllByRecursion (λ y. R k y ≡ Less) (keys_of es) → IsSplit es k 0 0 None
  all_upper [] k all = record { lower = refl; upper = refl; from = refl; value = refl }
  all_upper (e ∷ es) k all =
      let rest = all_upper es k all.1 in record {
        lower = ap (λ o. cond (is_lt o) (e ∷ lower k es) (lower k es)) (turned total k e.0 Less all.0) ∙ rest.lower;
        upper = ap (λ o. cond (is_lt o) (e ∷ upper k es) (upper k es)) all.0 ∙ ap (λ xs. e ∷ xs) rest.upper;
        from = ap (λ o. cond (not (is_lt o)) (e ∷ from k es) (from k es)) (turned total k e.0 Less all.0)
            ∙ ap (λ xs. e ∷ xs) rest.from;
        value = ap (λ o. cond (is_eq o) (Some e.1) (find R k es)) all.0 ∙ rest.value;
      }

  all_within : (es : List (K × X)) (k : K) → AllWithin (λ (e : K × X). R e.0 k ≡ Greater) es 0 (length es)
      → AllByRecursion (λ y. R k y ≡ Less) (keys_of es)
  all_within [] k all = tt
  all_within (e ∷ es) k all = (
    turned total e.0 k Greater (all 0 e (omega arith) (omega arith)),
    all_within es k (λ j d le lt. all (suc j) d (omega arith) (omega arith)),
  )

  -- where the key has none
  pub gap : (es : List (K × X)) (k : K) (at : ℕ) → at ≤ length es → AllWithin (λ (e : K × X). R e.0 k ≡ Less) es 0 at
      → AllWithin (λ (e : K × X). R e.0 k ≡ Greater) es at (length es) → IsSplit es k at at None
  gap es k zero le low high = all_upper es k (all_within es k high)
  gap [] k (suc at) le low high = absurd (omega arith)
  gap (e ∷ es) k (suc at) le low high =
      low_first e es k at at None (low 0 e (omega arith) (omega arith))
      (gap es k at (omega arith) (λ j d l h. low (suc j) d (omega arith) (omega arith))
      (λ j d l h. high (suc j) d (omega arith) (omega arith)))

  -- where it has one
  pub here : (es : List (K × X)) (k : K) (at : ℕ) (d : K × X) → IsStrictlySortedBy R (keys_of es) → at < length es
      → HoldsAt (λ (e : K × X). R e.0 k ≡ Equal) es at → IsSplit es k at (suc at) (Some (get_or es at d).1)
  unfolding IsStrictlySortedBy
  here [] k at d sorted lt equal = absurd (omega arith)
  here (e ∷ es) k zero d sorted lt equal =
      let same : e.0 ≡ k = exact e.0 k (equal e) in
      let rest = all_upper es k (subst (λ q. AllByRecursion (λ y. R q y ≡ Less) (keys_of es)) same sorted.0) in record {
        lower = ap (λ o. cond (is_lt o) (e ∷ lower k es) (lower k es)) (equal e) ∙ rest.lower;
        upper = ap (λ o. cond (is_lt o) (e ∷ upper k es) (upper k es)) (turned total e.0 k Equal (equal e)) ∙ rest.upper;
        from = ap (λ o. cond (not (is_lt o)) (e ∷ from k es) (from k es)) (equal e) ∙ ap (λ xs. e ∷ xs) rest.from;
        value = ap (λ o. cond (is_eq o) (Some e.1) (find R k es)) (turned total e.0 k Equal (equal e));
      }
  here (e ∷ es) k (suc at) d sorted lt equal =
      low_first e es k at (suc at) (Some (get_or es at d).1)
      (first_less es at (omega arith) equal sorted.0)
      (here es k at d sorted.1 (omega arith) equal)
    where
      first_less : (fs : List (K × X)) (i : ℕ) → i < length fs → HoldsAt (λ (f : K × X). R f.0 k ≡ Equal) fs i
          → AllByRecursion (λ y. R e.0 y ≡ Less) (keys_of fs) → R e.0 k ≡ Less
      first_less [] i lt eq all = absurd (omega arith)
      first_less (f ∷ fs) zero lt eq all = ap (R e.0) (sym (exact f.0 k (eq f))) ∙ all.0
      first_less (f ∷ fs) (suc i) lt eq all = first_less fs i (omega arith) eq all.1

  -- the comparisons with a key rise, as halving asks
  pub rise : (es : List (K × X)) (k : K) → IsStrictlySortedBy R (keys_of es)
      → IsNonDecreasingBy (λ (e : K × X). ordering_index (R e.0 k)) es
  unfolding IsStrictlySortedBy
  rise [] k sorted i j d le lt = absurd (omega arith)
  rise (e ∷ es) k sorted zero zero d le lt = omega arith
  rise (e ∷ es) k sorted zero (suc j) d le lt = above es j (omega arith) sorted.0 where
    above : (fs : List (K × X)) (i : ℕ) → i < length fs → AllByRecursion (λ y. R e.0 y ≡ Less) (keys_of fs)
        → ordering_index (R e.0 k) ≤ ordering_index (R (get_or fs i d).0 k)
    above [] i lt all = absurd (omega arith)
    above (f ∷ fs) zero lt all = by (R f.0 k) refl where
      by : (o : Ordering) → R f.0 k ≡ o → ordering_index (R e.0 k) ≤ ordering_index (R f.0 k)
      by Less is = omega (arith, ap ordering_index (total.trans e.0 f.0 k all.0 is), ap ordering_index is)
      by Equal is =
          let less : R e.0 k ≡ Less = ap (R e.0) (sym (exact f.0 k is)) ∙ all.0 in
          omega (arith, ap ordering_index less)
      by Greater is = at_most_two (R e.0 k) (ap ordering_index is) where
        at_most_two : (o : Ordering) → ordering_index (R f.0 k) ≡ 2 → ordering_index o ≤ ordering_index (R f.0 k)
        at_most_two Less two = omega (arith, two)
        at_most_two Equal two = omega (arith, two)
        at_most_two Greater two = omega (arith, two)
    above (f ∷ fs) (suc i) lt all = above fs i (omega arith) all.1
  rise (e ∷ es) k sorted (suc i) zero d le lt = absurd (omega arith)
  rise (e ∷ es) k sorted (suc i) (suc j) d le lt = rise es k sorted.1 i j d (omega arith) (omega arith)

  some : (fs : List (K × X)) (i : ℕ) → i < length fs → K × X
  some [] i lt = absurd (omega arith)
  some (f ∷ fs) i lt = f

  -- what a search ends at
  pub searched : (es : List (K × X)) (k : K) → IsStrictlySortedBy R (keys_of es) → (r : Result ℕ ℕ)
      → IsSearchInRange r (length es)
      → IsBinarySearchResult (λ (e : K × X). R e.0 k) es r
      → record { found : IfOk r (IsFoundAt R es k); absent : IfErr r (IsGapAt R es k) }
  searched es k sorted (Ok at) in_range equal = record {
    found = record {
      in_range = in_range;
      before = (here es k at (some es at in_range) sorted in_range equal).lower;
      from = (here es k at (some es at in_range) sorted in_range equal).from;
      after = (here es k at (some es at in_range) sorted in_range equal).upper ∙ ap (λ n. drop n es) up;
      item = λ d. (here es k at d sorted in_range equal).value;
    };
    absent = tt;
  } where
    up : suc at ≡ at + 1
    up = omega arith
  searched es k sorted (Err at) in_range parted =
      let sides = parted (rise es k sorted) in
      let split = gap es k at in_range sides.0 sides.1 in
      record {
        found = tt;
        absent = record {
          in_range = in_range;
          before = split.lower;
          after = split.upper;
          from = split.from;
          no_item =
              split.value;
        };
      }
