-- What a write leaves: how many entries, in which order, and what is found among entries in parts.
use Rattle.std.proofs.Common.{◌≡◌, ◌∙◌, ◌≤◌, ◌+◌, ◌++◌, ℕ, suc, Bool, true, false, List, [], ◌∷◌, Option, Some, None}
use Rattle.std.proofs.Common.{cond, refl, ap, sym, arith, take, drop, length, get_or, subst}
use Rattle.std.proofs.lemmas.List.{length-append}
use Rattle.std.specs.Prelude.{filter}
use Rattle.std.specs.declared.cmp.Ordering.{Ordering}
use Rattle.std.specs.declared.cmp.Ordering.TheVariants.{Equal, Greater, Less}
use Rattle.std.specs.Cmp.{IsTotalOrder, eq_by_cmp_equiv}
use Rattle.std.specs.FinMap.{IsAntisymmetric, find}
use Rattle.std.specs.List.{AllByRecursion}
use Rattle.std.specs.List.Sorted.{IsStrictlySortedBy}
use Rattle.std.specs.Map.{keys_of}
use Rattle.std.specs.Ordering.{is_eq, is_lt}
use Rattle.lay_pages.specs.Shared.{joined}
use Rattle.lay_pages.specs.Written.{AllAbove, AllBelow, IsPlace, after_write, count_of, higher, lower, written_entries}
use Rattle.lay_pages.proofs.SearchLemmas.{turned}
use Rattle.lay_pages.proofs.PlaceLemmas.{joined-at}
use Rattle.lay_pages.proofs.WrittenLemmas.{higher-above, lower-above}

less : (o : Ordering) → is_lt o ≡ true → o ≡ Less
less Less h = refl
less Equal h = absurd cc
less Greater h = absurd cc

after : {K : Type 0} {R : K → K → Ordering} (total : IsTotalOrder R) (q k : K) → R q k ≡ Less → (ks : List K)
    → AllByRecursion (λ y. R k y ≡ Less) ks → AllByRecursion (λ y. R q y ≡ Less) ks
after total q k first [] all = tt
after total q k first (y ∷ ks) all = (total.trans q k y first all.0, after total q k first ks all.1)

module _ {K X : Type 0} {R : K → K → Ordering} (total : IsTotalOrder R) (exact : IsAntisymmetric R) where
  above_all : (k : K) (es : List (K × X)) → AllByRecursion (λ y. R k y ≡ Less) (keys_of es) → AllAbove R k es
  above_all k [] all = tt
  above_all k (e ∷ es) all = (all.0, above_all k es all.1)

  find-above : (k : K) (es : List (K × X)) → AllAbove R k es → find R k es ≡ None
  find-above k [] all = refl
  find-above k (e ∷ es) all = ap (λ o. cond (is_eq o) (Some e.1) (find R k es)) all.0 ∙ find-above k es all.1

  -- an entry is before a key, after it or found under it
  sides : (k : K) (es : List (K × X)) → IsStrictlySortedBy R (keys_of es)
      → length (lower R k es) + (count_of (find R k es) + length (higher R k es)) ≡ length es
  unfolding IsStrictlySortedBy
  sides k [] sorted = omega arith
  sides k (e ∷ es) sorted = by (R e.0 k) refl (sides k es sorted.1) where
    by : (o : Ordering) → R e.0 k ≡ o → length (lower R k es) + (count_of (find R k es) + length (higher R k es)) ≡ length es
        → length (lower R k (e ∷ es)) + (count_of (find R k (e ∷ es)) + length (higher R k (e ∷ es))) ≡ length (e ∷ es)
    by Less is rest =
        (λ i. length (cond (is_lt (is i)) (e ∷ lower R k es) (lower R k es))
        + (count_of (cond (is_eq (turned total e.0 k Less is i)) (Some e.1) (find R k es))
        + length (cond (is_lt (turned total e.0 k Less is i)) (e ∷ higher R k es) (higher R k es))))
        ∙ (let one : suc (length (lower R k es)) + (count_of (find R k es) + length (higher R k es)) ≡ suc (length es) = omega
        (arith, rest) in one)
    by Greater is rest =
        (λ i. length (cond (is_lt (is i)) (e ∷ lower R k es) (lower R k es))
        + (count_of (cond (is_eq (turned total e.0 k Greater is i)) (Some e.1) (find R k es))
        + length (cond (is_lt (turned total e.0 k Greater is i)) (e ∷ higher R k es) (higher R k es))))
        ∙ (let one : length (lower R k es) + (count_of (find R k es) + suc (length (higher R k es))) ≡ suc (length es) = omega
        (arith, rest) in one)
    by Equal is rest =
        let all : AllAbove R k es = subst (λ q. AllAbove R q es) (exact e.0 k is) (above_all e.0 es sorted.0) in
        (λ i. length (cond (is_lt (is i)) (e ∷ lower R k es) (lower R k es))
        + (count_of (cond (is_eq (turned total e.0 k Equal is i)) (Some e.1) (find R k es))
        + length (cond (is_lt (turned total e.0 k Equal is i)) (e ∷ higher R k es) (higher R k es))))
        ∙ (λ i. length (lower-above total k es all i) + (1 + length (higher-above total k es all i)))
        ∙ (let one : 0 + (1 + length es) ≡ suc (length es) = omega arith in one)

  -- a write puts one more entry, and takes out what was found
  pub count-written : (k : K) (x : Option X) (es : List (K × X)) → IsStrictlySortedBy R (keys_of es)
      → length (after_write R k x es) + count_of (find R k es) ≡ length es + count_of x
  count-written k x es sorted = by x where
    by : (x : Option X) → length (after_write R k x es) + count_of (find R k es) ≡ length es + count_of x
    by None = omega (arith, sides k es sorted, length-append (lower R k es) (higher R k es))
    by (Some y) = omega (arith, sides k es sorted, length-append (lower R k es) ((k, y) ∷ higher R k es))

  pub written-full : (k : K) (x : Option X) (es : List (K × X)) → IsStrictlySortedBy R (keys_of es)
      → length (after_write R k x es) ≤ length es + 1
  written-full k x es sorted = by x (count-written k x es sorted) where
    by : (y : Option X) → length (after_write R k x es) + count_of (find R k es) ≡ length es + count_of y
        → length (after_write R k x es) ≤ length es + 1
    by None count = omega (arith, count)
    by (Some y) count = omega (arith, count)

  -- what is there, written again, changes nothing
  pub written-same : (k : K) (es : List (K × X)) → IsStrictlySortedBy R (keys_of es) → after_write R k (find R k es) es ≡ es
  unfolding IsStrictlySortedBy
  written-same k [] sorted = refl
  written-same k (e ∷ es) sorted = by (R e.0 k) refl (written-same k es sorted.1) where
    by : (o : Ordering) → R e.0 k ≡ o → after_write R k (find R k es) es ≡ es → after_write R k (find R k (e ∷ es)) (e ∷ es) ≡ e ∷ es
    by Less is rest =
        (λ i. cond (is_lt (is i)) (e ∷ lower R k es) (lower R k es)
        ++ (written_entries k (cond (is_eq (turned total e.0 k Less is i)) (Some e.1) (find R k es))
        ++ cond (is_lt (turned total e.0 k Less is i)) (e ∷ higher R k es) (higher R k es)))
        ∙ ap (λ xs. e ∷ xs) rest
    by Equal is rest =
        let same : e.0 ≡ k = exact e.0 k is in
        let all : AllAbove R k es = subst (λ q. AllAbove R q es) same (above_all e.0 es sorted.0) in
        (λ i. cond (is_lt (is i)) (e ∷ lower R k es) (lower R k es)
        ++ (written_entries k (cond (is_eq (turned total e.0 k Equal is i)) (Some e.1) (find R k es))
        ++ cond (is_lt (turned total e.0 k Equal is i)) (e ∷ higher R k es) (higher R k es)))
        ∙ (λ i. lower-above total k es all i ++ ((k, e.1) ∷ higher-above total k es all i)) ∙ ap (λ q. (q, e.1) ∷ es) (sym same)
    by Greater is rest =
        let first : R k e.0 ≡ Less = turned total e.0 k Greater is in
        let all : AllAbove R k (e ∷ es) = (first, above_all k es (after total k e.0 first (keys_of es) sorted.0)) in
        λ i. lower-above total k (e ∷ es) all i
        ++ (written_entries k (find-above k (e ∷ es) all i) ++ higher-above total k (e ∷ es) all i)

  -- ---- order

  all-kept : (p : K → Bool) (P : K → Type 0) (es : List (K × X)) → AllByRecursion P (keys_of es)
      → AllByRecursion P (keys_of (filter (λ (e : K × X). p e.0) es))
  all-kept p P [] all = tt
  all-kept p P (e ∷ es) all = by (p e.0) (all-kept p P es all.1) where
    by : (b : Bool) → AllByRecursion P (keys_of (filter (λ (e : K × X). p e.0) es))
        → AllByRecursion P (keys_of (cond b (e ∷ filter (λ (e : K × X). p e.0) es) (filter (λ (e : K × X). p e.0) es)))
    by true rest = (all.0, rest)
    by false rest = rest

  pub sorted-kept : (p : K → Bool) (es : List (K × X)) → IsStrictlySortedBy R (keys_of es)
      → IsStrictlySortedBy R (keys_of (filter (λ (e : K × X). p e.0) es))
  unfolding IsStrictlySortedBy
  sorted-kept p [] sorted = tt
  sorted-kept p (e ∷ es) sorted = by (p e.0) (sorted-kept p es sorted.1) where
    by : (b : Bool) → IsStrictlySortedBy R (keys_of (filter (λ (e : K × X). p e.0) es))
        → IsStrictlySortedBy R (keys_of (cond b (e ∷ filter (λ (e : K × X). p e.0) es) (filter (λ (e : K × X). p e.0) es)))
    by true rest = (all-kept p (λ y. R e.0 y ≡ Less) es sorted.0, rest)
    by false rest = rest

  pub all-lower : (k : K) (es : List (K × X)) → AllByRecursion (λ q. R q k ≡ Less) (keys_of (lower R k es))
  all-lower k [] = tt
  all-lower k (e ∷ es) = by (is_lt (R e.0 k)) refl (all-lower k es) where
    by : (b : Bool) → is_lt (R e.0 k) ≡ b → AllByRecursion (λ q. R q k ≡ Less) (keys_of (lower R k es))
        → AllByRecursion (λ q. R q k ≡ Less) (keys_of (cond b (e ∷ lower R k es) (lower R k es)))
    by true is rest = (less (R e.0 k) is, rest)
    by false is rest = rest

  all-higher : (k : K) (es : List (K × X)) → AllByRecursion (λ q. R k q ≡ Less) (keys_of (higher R k es))
  all-higher k [] = tt
  all-higher k (e ∷ es) = by (is_lt (R k e.0)) refl (all-higher k es) where
    by : (b : Bool) → is_lt (R k e.0) ≡ b → AllByRecursion (λ q. R k q ≡ Less) (keys_of (higher R k es))
        → AllByRecursion (λ q. R k q ≡ Less) (keys_of (cond b (e ∷ higher R k es) (higher R k es)))
    by true is rest = (less (R k e.0) is, rest)
    by false is rest = rest

  all-joined : (P : K → Type 0) (es : List (K × X)) (k : K) (x : Option X) (fs : List (K × X)) → AllByRecursion P (keys_of es)
      → P k → AllByRecursion P (keys_of fs) → AllByRecursion P (keys_of (es ++ (written_entries k x ++ fs)))
  all-joined P [] k None fs all one more = more
  all-joined P [] k (Some x) fs all one more = (one, more)
  all-joined P (e ∷ es) k x fs all one more = (all.0, all-joined P es k x fs all.1 one more)

  sorted-joined : (es : List (K × X)) (k : K) (x : Option X) (fs : List (K × X)) → IsStrictlySortedBy R (keys_of es)
      → AllByRecursion (λ q. R q k ≡ Less) (keys_of es) → AllByRecursion (λ q. R k q ≡ Less) (keys_of fs)
      → IsStrictlySortedBy R (keys_of fs) → IsStrictlySortedBy R (keys_of (es ++ (written_entries k x ++ fs)))
  unfolding IsStrictlySortedBy
  sorted-joined [] k None fs one low high two = two
  sorted-joined [] k (Some x) fs one low high two = (high, two)
  sorted-joined (e ∷ es) k x fs one low high two = (
    all-joined (λ y. R e.0 y ≡ Less) es k x fs one.0 low.0 (after total e.0 k low.0 (keys_of fs) high),
    sorted-joined es k x fs one.1 low.1 high two,
  )

  pub sorted-written : (k : K) (x : Option X) (es : List (K × X)) → IsStrictlySortedBy R (keys_of es)
      → IsStrictlySortedBy R (keys_of (after_write R k x es))
  sorted-written k x es sorted =
      sorted-joined (lower R k es) k x (higher R k es) (sorted-kept (λ q. is_lt (R q k)) es sorted) (all-lower k es) (all-higher k es)
      (sorted-kept (λ q. is_lt (R k q)) es sorted)

  -- ---- one of the joined lists

  find-below : (k : K) (es fs : List (K × X)) → AllBelow R k es → find R k (es ++ fs) ≡ find R k fs
  find-below k [] fs all = refl
  find-below k (e ∷ es) fs all =
      ap (λ o. cond (is_eq o) (Some e.1) (find R k (es ++ fs))) (turned total e.0 k Less all.0) ∙ find-below k es fs all.1

  find-first : (k : K) (es fs : List (K × X)) → AllAbove R k fs → find R k (es ++ fs) ≡ find R k es
  find-first k [] fs all = find-above k fs all
  find-first k (e ∷ es) fs all = ap (λ o. cond (is_eq (R k e.0)) (Some e.1) o) (find-first k es fs all)

  -- what is found is in the one into which a write falls
  pub find-level : (k : K) (lists : List (List (K × X))) (at : ℕ) (d : List (K × X)) → IsPlace R k lists at
      → find R k (joined lists) ≡ find R k (get_or lists at d)
  find-level k lists at d place =
      let up : at + 1 ≡ suc at = omega arith in
      ap (find R k) (joined-at lists at d place.in_range)
      ∙ find-below k (joined (take at lists)) (get_or lists at d ++ joined (drop (suc at) lists)) place.below
      ∙ find-first k (get_or lists at d) (joined (drop (suc at) lists))
      (subst (λ n. AllAbove R k (joined (drop n lists))) up place.above)

  -- entries in order are found under their keys
  pub found_sorted : (es : List (K × X)) → IsStrictlySortedBy R (keys_of es) → AllByRecursion (λ (e : K × X). find R e.0 es ≡ Some e.1) es
  unfolding IsStrictlySortedBy
  found_sorted [] sorted = tt
  found_sorted (e ∷ es) sorted = (
    ap (λ b. cond b (Some e.1) (find R e.0 es)) ((eq_by_cmp_equiv total).refl e.0),
    more es sorted.0 (found_sorted es sorted.1),
  ) where
    more : (fs : List (K × X)) → AllByRecursion (λ y. R e.0 y ≡ Less) (keys_of fs)
        → AllByRecursion (λ (f : K × X). find R f.0 es ≡ Some f.1) fs → AllByRecursion (λ (f : K × X). find R f.0 (e ∷ es) ≡ Some f.1) fs
    more [] all found = tt
    more (f ∷ fs) all found = (
      ap (λ o. cond (is_eq o) (Some e.1) (find R f.0 es)) (turned total e.0 f.0 Less all.0) ∙ found.0,
      more fs all.1 found.1,
    )
