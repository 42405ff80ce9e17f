-- The pairs of one key in a tree of pairs.
use Rattle.std.proofs.Common.{◌≡◌, ℕ, ◌==◌, ◌<◌, ◌≤◌, Bool, true, false, not, cond, ◌&&◌, List, [], ◌∷◌, Option, None, Some}
use Rattle.std.proofs.Common.{refl, sym, ap, subst, ◌∙◌, arith, slice_get}
use Rattle.std.specs.Prelude.{IfSome, IsTrue, nat_lt}
use Rattle.std.proofs.lemmas.Cmp.{nat_cmp_total, on_total, then_total}
use Rattle.std.specs.declared.cmp.Ordering.{Ordering}
use Rattle.std.specs.declared.cmp.Ordering.TheVariants.{Equal, Greater, Less}
use Rattle.std.specs.declared.ops.Bound.TheVariants.{Excluded, Included, Unbounded}
use Rattle.std.specs.BTreeMap.{is_at}
use Rattle.std.specs.BTreeMap.Range.{IsInRange, IsLeBy, range_contains}
use Rattle.std.specs.BTreeSet.{BTreeSet, IsKeyInRange}
use Rattle.std.specs.Cmp.{Equal-is, IsTotalOrder, eq_by_cmp_equiv, unsigned_tied}
use Rattle.std.specs.FinMap.{IsAntisymmetric}
use Rattle.std.specs.List.{list_any}
use Rattle.std.specs.Ordering.{eq_by_cmp, is_eq, is_gt, is_le, nat_cmp, ordering_reverse, ordering_then}
use Rattle.lay_layouts.proofs.SlotLemmas.{is_eq-then}
use Rattle.txn_marks.proofs.AnyLemmas.{any_alike}
use Rattle.undo_index.specs.First.{IsFirst}
use Rattle.undo_index.proofs.RangeLemmas.{any_and, any_filter, at_least, not_more, within_so}
use Rattle.undo_index.specs.Under.{is_under, pair_order, pairs_below}

-- ---- the order of pairs

-- pairs are equal where both parts are
pub keyed_eq : {K : Type 0} (R : K → K → Ordering) (e f : K) (p q : ℕ) →
    eq_by_cmp (pair_order R) (e, p) (f, q) ≡ (eq_by_cmp R e f && (p == q))
keyed_eq R e f p q = is_eq-then (R e f) (nat_cmp p q) ∙ ap (λ b. eq_by_cmp R e f && b) (unsigned_tied p q)

pub keyed_total : {K : Type 0} {R : K → K → Ordering} → IsTotalOrder R → IsTotalOrder (pair_order R)
keyed_total {K = K} total = then_total (on_total (λ (a : K × ℕ). a.0) total) (on_total (λ (a : K × ℕ). a.1) nat_cmp_total)

-- ---- the pairs below one

pair_within : {K : Type 0} (R : K → K → Ordering) (e : K) (b p : ℕ) (x : K × ℕ) →
    (range_contains (pair_order R) (Included (e, 0)) (Excluded (e, b)) x && (p == x.1)) ≡ (nat_lt p b && is_at (pair_order R (e, p)) x)
pair_within R e b p x =
    by (R e x.0) ∙ ap (λ c. nat_lt p b && c) (sym (keyed_eq R e x.0 p x.1)) where
      by : (o : Ordering) →
          ((is_le (ordering_then o (nat_cmp 0 x.1)) && not (is_le (ordering_then o (nat_cmp b x.1)))) && (p == x.1))
          ≡ (nat_lt p b && (is_eq o && (p == x.1)))
      by Less = sym (none (nat_lt p b)) where
        none : (c : Bool) → (c && false) ≡ false
        none true = refl
        none false = refl
      by Equal = within_so b p x.1
      by Greater = sym (none (nat_lt p b)) where
        none : (c : Bool) → (c && false) ≡ false
        none true = refl
        none false = refl

pub below_so : {K : Type 0} (R : K → K → Ordering) (pairs : BTreeSet (K × ℕ)) (e : K) (b p : ℕ) →
    list_any (λ k. p == k.1) (pairs_below R e b pairs) ≡ (nat_lt p b && is_under R pairs e p)
below_so R pairs e b p =
    any_filter (λ k. p == k.1) (range_contains (pair_order R) (Included (e, 0)) (Excluded (e, b))) pairs.keys
    ∙ any_alike (λ x. range_contains (pair_order R) (Included (e, 0)) (Excluded (e, b)) x && (p == x.1))
    (λ x. nat_lt p b && is_at (pair_order R (e, p)) x) pairs.keys (pair_within R e b p)
    ∙ any_and (nat_lt p b) (is_at (pair_order R (e, p))) pairs.keys

-- ---- the first pair from one on

-- the place of the first of these pairs, where it is of the key
abbrev pub place_of_first : {K : Type 0} → (K → K → Ordering) → K → List (K × ℕ) → Option ℕ
place_of_first R e [] = None
place_of_first R e (k ∷ ks) = cond (eq_by_cmp R k.0 e) (Some k.1) None

-- what a range from a pair on tells of its head
pub record IsFrom {K : Type 0} (R : K → K → Ordering) (pairs : BTreeSet (K × ℕ)) (e : K) (from : ℕ) (r : List (K × ℕ)) : Type 0 where
  pub within : IfSome (slice_get r 0) (IsKeyInRange (pair_order R) (Included (e, from)) Unbounded pairs)
  pub least : (q : K × ℕ) → IsInRange (pair_order R) (Included (e, from)) Unbounded q → IsTrue (is_under R pairs q.0 q.1) →
      IfSome (slice_get r 0) (λ k. IsLeBy (pair_order R) k q)
  pub none : r ≡ [] → (q : K × ℕ) → IsInRange (pair_order R) (Included (e, from)) Unbounded q → is_under R pairs q.0 q.1 ≡ false

module _ {K : Type 0} {R : K → K → Ordering} (total : IsTotalOrder R) (exact : IsAntisymmetric R) where
  itself : (e : K) → R e e ≡ Equal
  itself e = (Equal-is (R e e)).0 ((eq_by_cmp_equiv total).refl e)

  own_pair : (e : K) (a p : ℕ) → pair_order R (e, a) (e, p) ≡ nat_cmp a p
  own_pair e a p = ap (λ o. ordering_then o (nat_cmp a p)) (itself e)

  pub forward : (e : K) (b : ℕ) → is_gt (pair_order R (e, 0) (e, b)) ≡ false
  forward e b = ap is_gt (own_pair e 0 b) ∙ not_more 0 b (omega arith)

  reversed : (e f : K) → R f e ≡ ordering_reverse (R e f)
  reversed e f = total.antisymm f e

  -- a pair of another key, from a pair of this one on, is behind all of this one
  behind : (e f : K) (a p q : ℕ) → is_gt (pair_order R (e, a) (f, p)) ≡ false → eq_by_cmp R f e ≡ false →
      is_gt (pair_order R (f, p) (e, q)) ≡ false → ⊥
  behind e f a p q from apart more = by (R e f) refl from where
    by : (o : Ordering) → R e f ≡ o → is_gt (ordering_then o (nat_cmp a p)) ≡ false → ⊥
    by Less is h =
        let back : R f e ≡ Greater = reversed e f ∙ ap ordering_reverse is in
        let yes : true ≡ false = sym (ap (λ o. is_gt (ordering_then o (nat_cmp p q))) back) ∙ more in
        absurd cc
    by Equal is h =
        let back : R f e ≡ Equal = reversed e f ∙ ap ordering_reverse is in
        let yes : true ≡ false = sym (ap is_eq back) ∙ apart in
        absurd cc
    by Greater is h = absurd cc

  in_range : (e : K) (from p : ℕ) → from ≤ p → IsInRange (pair_order R) (Included (e, from)) Unbounded (e, p)
  in_range e from p less = (ap is_gt (own_pair e from p) ∙ not_more from p less, tt)

  first_from : (pairs : BTreeSet (K × ℕ)) (e : K) (from : ℕ) (r : List (K × ℕ)) → IsFrom R pairs e from r →
      IsFirst (is_under R pairs e) from (place_of_first R e r)
  first_from pairs e from [] is = λ p less. is.none refl (e, p) (in_range e from p less)
  first_from pairs e from ((f, a) ∷ r) is = by (eq_by_cmp R f e) refl where
    here : (p : ℕ) → from ≤ p → is_under R pairs e p ≡ true → is_gt (pair_order R (f, a) (e, p)) ≡ false
    here p less there = is.least (e, p) (in_range e from p less) there

    by : (b : Bool) → eq_by_cmp R f e ≡ b → IsFirst (is_under R pairs e) from (cond b (Some a) None)
    by true same =
        let equal : f ≡ e = exact f e ((Equal-is (R f e)).0 same) in (
          at_least from a (sym (ap is_gt (own_pair e from a)) ∙ ap (λ g. is_gt (pair_order R (e, from) (g, a))) (sym equal)
              ∙ is.within.0.0),
          ap (λ g. is_under R pairs g a) (sym equal) ∙ is.within.1,
          λ p less more. no (is_under R pairs e p) p refl less more equal,
        ) where
          no : (b : Bool) → (p : ℕ) → is_under R pairs e p ≡ b → from ≤ p → p < a → f ≡ e → b ≡ false
          no false p there less more equal = refl
          no true p there less more equal =
              let above : a ≤ p = at_least a p (sym (ap is_gt (own_pair e a p)) ∙ ap (λ g. is_gt (pair_order R (g, a) (e, p))) (sym equal)
              ∙ here p less there) in
              absurd (omega (arith, above, more))
    by false apart = λ p less. no (is_under R pairs e p) p refl less where
      no : (b : Bool) → (p : ℕ) → is_under R pairs e p ≡ b → from ≤ p → b ≡ false
      no false p there less = refl
      no true p there less = absurd (behind e f from a p is.within.0.0 apart (here p less there))

  pub first_same : (pairs : BTreeSet (K × ℕ)) (e : K) (from : ℕ) (r : List (K × ℕ)) → IsFrom R pairs e from r →
      (k : K × ℕ) (rest : List (K × ℕ)) → r ≡ k ∷ rest → eq_by_cmp R k.0 e ≡ true → IsFirst (is_under R pairs e) from (Some k.1)
  first_same pairs e from r is k rest at same =
      subst (IsFirst (is_under R pairs e) from) (ap (place_of_first R e) at ∙ ap (λ b. cond b (Some k.1) None) same)
      (first_from pairs e from r is)

  pub first_apart : (pairs : BTreeSet (K × ℕ)) (e : K) (from : ℕ) (r : List (K × ℕ)) → IsFrom R pairs e from r →
      (k : K × ℕ) (rest : List (K × ℕ)) → r ≡ k ∷ rest → eq_by_cmp R k.0 e ≡ false → IsFirst (is_under R pairs e) from None
  first_apart pairs e from r is k rest at apart =
      subst (IsFirst (is_under R pairs e) from) (ap (place_of_first R e) at ∙ ap (λ b. cond b (Some k.1) None) apart)
      (first_from pairs e from r is)

  pub first_empty : (pairs : BTreeSet (K × ℕ)) (e : K) (from : ℕ) (r : List (K × ℕ)) → IsFrom R pairs e from r → r ≡ [] →
      IsFirst (is_under R pairs e) from None
  first_empty pairs e from r is at =
      subst (IsFirst (is_under R pairs e) from) (ap (place_of_first R e) at) (first_from pairs e from r is)
