-- The places under one element: a sole one, or a tree of them.
use Rattle.std.proofs.Common.{◌≡◌, ℕ, ◌==◌, ◌<◌, ◌≤◌, Bool, true, false, not, cond, ◌||◌, ◌&&◌, List, [], ◌∷◌}
use Rattle.std.proofs.Common.{refl, sym, ◌∙◌, arith}
use Rattle.std.specs.Prelude.{nat_lt}
use Rattle.std.proofs.lemmas.Cmp.{nat_cmp_total}
use Rattle.std.specs.declared.ops.Bound.TheVariants.{Excluded, Included, Unbounded}
use Rattle.std.specs.BTreeMap.{is_at}
use Rattle.std.specs.BTreeMap.Range.{range_contains}
use Rattle.std.specs.BTreeSet.{BTreeSet, IsKeyRangeOf, contains, keys_between}
use Rattle.std.specs.Cmp.{eq_by_cmp_equiv, unsigned_tied}
use Rattle.std.specs.List.{list_any}
use Rattle.std.specs.Ordering.{nat_cmp}
use Rattle.undo_index.specs.First.{IsFirst, first_of, has_place}
use Rattle.undo_index.proofs.FirstLemmas.{first_alike}
use Rattle.undo_index.proofs.RangeLemmas.{any_and, any_filter, at_least, not_more, within_so}

-- ---- a sole place

-- ---- a tree

tree_has : (s : BTreeSet ℕ) (p : ℕ) → contains nat_cmp s p ≡ has_place s.keys p
tree_has s p = λ i. list_any (λ q. unsigned_tied p q i) s.keys

at_place : (place p : ℕ) → is_at (nat_cmp place) p ≡ (p == place)
at_place place p = (eq_by_cmp_equiv nat_cmp_total).symm place p ∙ unsigned_tied p place

pub set_more : (s w : BTreeSet ℕ) (place : ℕ)
    → ((p : ℕ) → contains nat_cmp w p ≡ cond (is_at (nat_cmp place) p) true (contains nat_cmp s p))
    → (p : ℕ) → has_place w.keys p ≡ ((p == place) || has_place s.keys p)
set_more s w place more p =
    sym (tree_has w p) ∙ more p ∙ by (is_at (nat_cmp place) p) (contains nat_cmp s p)
    ∙ (λ i. at_place place p i || tree_has s p i) where
      by : (b x : Bool) → cond b true x ≡ (b || x)
      by true x = refl
      by false x = refl

pub set_less : (s w : BTreeSet ℕ) (place : ℕ)
    → ((p : ℕ) → contains nat_cmp w p ≡ cond (is_at (nat_cmp place) p) false (contains nat_cmp s p))
    → (p : ℕ) → has_place w.keys p ≡ (not (p == place) && has_place s.keys p)
set_less s w place less p =
    sym (tree_has w p) ∙ less p ∙ by (is_at (nat_cmp place) p) (contains nat_cmp s p)
    ∙ (λ i. not (at_place place p i) && tree_has s p i) where
      by : (b x : Bool) → cond b false x ≡ (not b && x)
      by true x = refl
      by false x = refl

first_by : (s : BTreeSet ℕ) (from : ℕ) (r : List ℕ) → IsKeyRangeOf nat_cmp (Included from) Unbounded s r →
    IsFirst (contains nat_cmp s) from (first_of r)
first_by s from [] is = λ p low. is.5 refl p (not_more from p low, tt)
first_by s from (a ∷ r) is = (at_least from a is.1.0.0, is.1.1, λ p low less. no (contains nat_cmp s p) p refl low less) where
  no : (b : Bool) (p : ℕ) → contains nat_cmp s p ≡ b → from ≤ p → p < a → b ≡ false
  no false p there low less = refl
  no true p there low less =
      let above : a ≤ p = at_least a p (is.2 p (not_more from p low, tt) there) in
      absurd (omega (arith, above, less))

-- the first place of a range from one on
pub first_in : (s : BTreeSet ℕ) (from : ℕ) (r : List ℕ) → IsKeyRangeOf nat_cmp (Included from) Unbounded s r →
    IsFirst (has_place s.keys) from (first_of r)
first_in s from r range = first_alike (contains nat_cmp s) (has_place s.keys) from (first_of r) (tree_has s) (first_by s from r range)

-- the places below one
pub range_has : (s : BTreeSet ℕ) (below p : ℕ) →
    has_place (keys_between nat_cmp (Included 0) (Excluded below) s) p ≡ (nat_lt p below && has_place s.keys p)
range_has s below p =
    any_filter (λ k. p == k) (range_contains nat_cmp (Included 0) (Excluded below)) s.keys
    ∙ (λ i. list_any (λ y. within_so below p y i) s.keys)
    ∙ any_and (nat_lt p below) (λ y. p == y) s.keys
