-- The entries of a map that pass a test, in order: two maps with the same values that pass have the same.
use Rattle.std.proofs.Common.{◌≡◌, Bool, true, false, ◌&&◌, ◌||◌, cond, T, List, [], ◌∷◌, Option, None, Some, refl, ap, sym, ◌∙◌}
use Rattle.std.proofs.lemmas.Bool.{or_parts}
use Rattle.std.specs.declared.cmp.Ordering.{Ordering}
use Rattle.std.specs.declared.cmp.Ordering.TheVariants.{Equal, Greater, Less}
use Rattle.std.specs.Cmp.{IsTotalOrder, tied_itself}
use Rattle.std.specs.FinMap.{FinMap, IsAntisymmetric, entries, entries-from_sorted, entries_sorted, find, from_sorted, get, get-entries}
use Rattle.std.specs.FinMap.{get-from_sorted, is_sorted, same_map}
use Rattle.std.specs.FinMap.Entries.{below_all, find-where_key, is_sorted-where_key, where_key}
use Rattle.std.specs.List.{AllByRecursion, filter, list_any}
use Rattle.std.specs.Ordering.{eq_by_cmp, is_eq, is_lt, ordering_reverse}
use Rattle.lay_point.proofs.ListLaws.{all_weaker}
use Rattle.txn_commands.specs.Agreement.{AreAlike}
use Rattle.txn_commands.specs.Lies.{passes}
use Rattle.txn_commands.proofs.Lists.{all_both}
use Rattle.txn_commands.proofs.Maps.{same_key}

pub first_of_two : (a b : Bool) → T (a && b) → T a
first_of_two true b h = tt
first_of_two false b h = h

pub second_of_two : (a b : Bool) → T (a && b) → T b
second_of_two true b h = h
second_of_two false b h = absurd h

less : (o : Ordering) → T (is_lt o) → o ≡ Less
less Less h = refl
less Equal h = absurd h
less Greater h = absurd h

pub all_below : {K V : Type 0} (R : K → K → Ordering) (k : K) (es : List (K × V)) → T (below_all R k es) →
    AllByRecursion (λ e. R k e.0 ≡ Less) es
all_below R k [] h = tt
all_below R k (e ∷ es) h = (
  less (R k e.0) (first_of_two (is_lt (R k e.0)) (below_all R k es) h),
  all_below R k es (second_of_two (is_lt (R k e.0)) (below_all R k es) h),
)

filter-alike : {E : Type 0} (p r : E → Bool) (es : List E) → AllByRecursion (λ e. p e ≡ r e) es → filter p es ≡ filter r es
filter-alike p r [] alike = refl
filter-alike p r (e ∷ es) alike =
    let rest = filter-alike p r es alike.1 in
    ap (λ b. cond b (e ∷ filter p es) (filter p es)) alike.0 ∙ ap (λ fs. cond (r e) (e ∷ fs) fs) rest

module _ {K V : Type 0} {R : K → K → Ordering} (total : IsTotalOrder R) where
  -- entries in order are found under their keys
  pub found_each : (es : List (K × V)) → T (is_sorted R es) → AllByRecursion (λ e. find R e.0 es ≡ Some e.1) es
  found_each [] h = tt
  found_each (e ∷ es) h = (
    ap (λ o. cond (is_eq o) (Some e.1) (find R e.0 es)) (tied_itself total e.0),
    all_both (λ f. R e.0 f.0 ≡ Less) (λ f. find R f.0 es ≡ Some f.1) (λ f. find R f.0 (e ∷ es) ≡ Some f.1)
        (λ f below found. ap (λ o. cond (is_eq o) (Some e.1) (find R f.0 es)) (total.antisymm f.0 e.0 ∙ ap ordering_reverse below)
        ∙ found) es
        (all_below R e.0 es (first_of_two (below_all R e.0 es) (is_sorted R es) h))
        (found_each es (second_of_two (below_all R e.0 es) (is_sorted R es) h)),
  )

  pub entries_found : (m : FinMap R V) → AllByRecursion (λ e. get m e.0 ≡ Some e.1) (entries m)
  entries_found m = all_weaker (λ e. find R e.0 (entries m) ≡ Some e.1) (λ e. get m e.0 ≡ Some e.1) (λ e found. get-entries m e.0
      ∙ found) (entries m)
      (found_each (entries m) (entries_sorted m))

-- the value, where it passes the test
abbrev kept : {V : Type 0} → (V → Bool) → Option V → Option V
kept test x = cond (passes test x) x None

kept-alike : {V : Type 0} (test : V → Bool) (x y : Option V) → AreAlike test x y → kept test x ≡ kept test y
kept-alike {V} test None None alike = refl
kept-alike {V} test (Some v) y alike = by_test (test v) refl where
  none_kept : (y : Option V) → ((w : V) → y ≡ Some w → test w ≡ true → Some v ≡ Some w) → test v ≡ false → None ≡ kept test y
  none_kept None back fails = refl
  none_kept (Some w) back fails = by_test (test w) refl where
    by_test : (b : Bool) → test w ≡ b → None ≡ cond b (Some w) None
    by_test false is = refl
    by_test true is = let same : v ≡ w = cc (back w refl is) in absurd cc

  by_test : (b : Bool) → test v ≡ b → cond b (Some v) None ≡ kept test y
  by_test true is = let there : y ≡ Some v = alike.forth v refl is in rw there (rw is refl)
  by_test false is = none_kept y (λ w e t. alike.back w e t) is
kept-alike {V} test None (Some w) alike = by_test (test w) refl where
  by_test : (b : Bool) → test w ≡ b → None ≡ cond b (Some w) None
  by_test false is = refl
  by_test true is = absurd (cc (alike.back w refl is))

module _ {K V : Type 0} {R : K → K → Ordering} (total : IsTotalOrder R) (exact : IsAntisymmetric R) (test : K → V → Bool) where
  -- what the map has at the key passes the test
  abbrev keeps : FinMap R V → K → Bool
  keeps m k = passes (test k) (get m k)

  filtered : (m : FinMap R V) → filter (λ e. test e.0 e.1) (entries m) ≡ where_key R (keeps m) (entries m)
  filtered m = filter-alike (λ e. test e.0 e.1) (λ e. keeps m e.0) (entries m) (all_weaker (λ e. get m e.0 ≡ Some e.1)
      (λ e. test e.0 e.1 ≡ keeps m e.0) (λ e found. sym (ap (passes (test e.0)) found)) (entries m) (entries_found total m))

  -- the map of these entries
  abbrev part : FinMap R V → FinMap R V
  part m = from_sorted (where_key R (keeps m) (entries m))

  part_sorted : (m : FinMap R V) → T (is_sorted R (where_key R (keeps m) (entries m)))
  part_sorted m = is_sorted-where_key R (keeps m) (entries m) (entries_sorted m)

  get-part : (m : FinMap R V) (q : K) → get (part m) q ≡ kept (test q) (get m q)
  get-part m q =
      get-from_sorted R (where_key R (keeps m) (entries m)) q (part_sorted m)
      ∙ find-where_key R (keeps m) q (λ x tie. ap (keeps m) (sym (exact q x tie))) (entries m)
      ∙ ap (λ x. cond (keeps m q) x None) (sym (get-entries m q))

  -- maps that are alike at each key have the same entries that pass
  pub filter-alike_maps : (m n : FinMap R V) → ((q : K) → AreAlike (test q) (get m q) (get n q)) →
      filter (λ e. test e.0 e.1) (entries m) ≡ filter (λ e. test e.0 e.1) (entries n)
  filter-alike_maps m n alike =
      let same : part m ≡ part n = same_map total exact (part m) (part n) (λ q.
      get-part m q ∙ kept-alike (test q) (get m q) (get n q) (alike q) ∙ sym (get-part n q)) in
      filtered m ∙ sym (entries-from_sorted R (where_key R (keeps m) (entries m)) (part_sorted m)) ∙ ap entries same
      ∙ entries-from_sorted R (where_key R (keeps n) (entries n)) (part_sorted n) ∙ sym (filtered n)

-- there is one
abbrev pub is_some_entry : {E : Type 0} → List E → Bool
is_some_entry [] = false
is_some_entry (e ∷ es) = true

-- some element passes where the list of those that pass isn't empty
pub list_any-filter : {E : Type 0} (p : E → Bool) (es : List E) → list_any p es ≡ is_some_entry (filter p es)
list_any-filter p [] = refl
list_any-filter p (e ∷ es) = by_test (p e) (list_any-filter p es) where
  by_test : (b : Bool) → list_any p es ≡ is_some_entry (filter p es) →
      (b || list_any p es) ≡ is_some_entry (cond b (e ∷ filter p es) (filter p es))
  by_test true rest = refl
  by_test false rest = rest

module _ {K V : Type 0} {R : K → K → Ordering} (exact : IsAntisymmetric R) where
  none_passes : (p : K × V → Bool) (es : List (K × V)) (k : K) (v : V) → list_any p es ≡ false → find R k es ≡ Some v → p (k, v) ≡ false
  none_passes p [] k v none found = absurd cc
  none_passes p (e ∷ es) k v none found =
      let parts = or_parts (p e) (list_any p es) none in
      by_key (eq_by_cmp R k e.0) refl parts.0 (none_passes p es k v parts.1) found where
        by_key : (b : Bool) → eq_by_cmp R k e.0 ≡ b → p e ≡ false → (find R k es ≡ Some v → p (k, v) ≡ false) →
            cond b (Some e.1) (find R k es) ≡ Some v → p (k, v) ≡ false
        by_key true is fails rest h =
            let keys : k ≡ e.0 = same_key exact k e.0 is in
            let values : e.1 ≡ v = cc in
            ap p (λ i. (keys i, sym values i)) ∙ fails
        by_key false is fails rest h = rest h

  -- where no entry passes, no value does
  pub no_entry_passes : (p : K × V → Bool) (m : FinMap R V) (k : K) (v : V) → list_any p (entries m) ≡ false → get m k ≡ Some v →
      p (k, v) ≡ false
  no_entry_passes p m k v none found = none_passes p (entries m) k v none (sym (get-entries m k) ∙ found)
