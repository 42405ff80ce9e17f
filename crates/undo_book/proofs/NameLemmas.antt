-- The names of the transactions at the places that are listed.
use Rattle.std.proofs.Common.{◌≡◌, ℕ, ◌+◌, ◌-◌, ◌<◌, ◌≤◌, ◌==◌, zero, suc, Bool, true, false, cond, ◌||◌, ◌&&◌, List, [], ◌∷◌, length}
use Rattle.std.proofs.Common.{◌++◌, Option, None, Some, option_map, drop, drop-cons, get_or, refl, sym, ap, subst, ◌∙◌, arith, slice_get}
use Rattle.std.specs.Prelude.{nat_lt}
use Rattle.std.proofs.lemmas.Bool.Decides.{Decides-eqb, nat_tests}
use Rattle.std.specs.FinSet.{items}
use Rattle.std.specs.List.{AllByRecursion, cons_option, filter_map, list_any}
use Rattle.std.specs.List.Sorted.{IsStrictlySortedBy}
use Rattle.std.specs.Ordering.{nat_cmp}
use Rattle.txn_commands.specs.declared.command.TxnId.{TxnId}
use Rattle.txn_commands.specs.Elements.{Touched}
use Rattle.txn_commands.specs.Lies.{passes}
use Rattle.txn_commands.specs.Meets.{some_meets}
use Rattle.txn_marks.proofs.AnyLemmas.{any_none}
use Rattle.undo_rules.specs.Links.{Entry, links_to}
use Rattle.undo_index.specs.First.{has_place}
use Rattle.undo_index.proofs.ApartLemmas.{above, below_all, further}
use Rattle.undo_book.specs.Indexed.{is_linked, name_at, wrote}
use Rattle.undo_book.proofs.IndexedLemmas.{any_live}

-- ---- rising places

-- places that rise, from one on
abbrev pub Rise : ℕ → List ℕ → Type 0
Rise n [] = Unit {0}
Rise n (k ∷ ks) = (n ≤ k) × AllByRecursion (λ j. k < j) ks × Rise (suc k) ks

from_on : (n : ℕ) (ks : List ℕ) → AllByRecursion (λ j. n < j) ks → IsStrictlySortedBy nat_cmp ks → Rise (suc n) ks
unfolding IsStrictlySortedBy
from_on n [] all sorted = tt
from_on n (k ∷ ks) all sorted =
    (omega (arith, all.0), above k ks sorted.0, from_on k ks (above k ks sorted.0) sorted.1)

pub rise : (ks : List ℕ) → IsStrictlySortedBy nat_cmp ks → Rise 0 ks
unfolding IsStrictlySortedBy
rise [] sorted = tt
rise (k ∷ ks) sorted = (omega arith, above k ks sorted.0, from_on k ks (above k ks sorted.0) sorted.1)

-- ---- their names

module _ (fp : Touched) where
  abbrev pub test : Entry → Bool
  test entry = is_linked entry fp

  -- the places from n on at which linked transactions stand, and the names there
  pub record Tell (n : ℕ) (es : List Entry) (ks : List ℕ) (name : ℕ → Option TxnId) : Type 0 where
    pub there : (i : ℕ) → has_place ks (n + i) ≡ passes test (slice_get es i)
    pub named : (i : ℕ) (entry : Entry) → slice_get es i ≡ Some entry → name (n + i) ≡ Some entry.txn

  next : (n i : ℕ) → n + suc i ≡ suc n + i
  next n i = omega arith

  -- without the first transaction, which isn't listed
  skipped : (n : ℕ) (e : Entry) (es : List Entry) (ks : List ℕ) (name : ℕ → Option TxnId) → Tell n (e ∷ es) ks name → Tell (suc n) es ks
      name
  skipped n e es ks name tell = record {
    there = λ i. ap (λ p. has_place ks p) (sym (next n i)) ∙ tell.there (suc i);
    named = λ i entry at. ap name (sym (next n i)) ∙ tell.named (suc i) entry at;
  }

  -- or which is
  taken : (n : ℕ) (e : Entry) (es : List Entry) (k : ℕ) (ks : List ℕ) (name : ℕ → Option TxnId) → k ≡ n →
      Tell n (e ∷ es) (k ∷ ks) name → Tell (suc n) es ks name
  taken n e es k ks name same tell = record {
    there = λ i. sym (ap (λ b. b || has_place ks (suc n + i)) (apart i))
        ∙ ap (λ p. has_place (k ∷ ks) p) (sym (next n i)) ∙ tell.there (suc i);
    named = λ i entry at. ap name (sym (next n i)) ∙ tell.named (suc i) entry at;
  } where
    apart : (i : ℕ) → (suc n + i == k) ≡ false
    apart i = by (suc n + i == k) refl where
      by : (b : Bool) → (suc n + i == k) ≡ b → b ≡ false
      by true is = let equal : suc n + i ≡ k = (Decides-eqb (suc n + i) k).0 is in absurd (omega (arith, equal, same))
      by false is = refl

  from_zero : (n : ℕ) → n + 0 ≡ n
  from_zero n = omega arith

  abbrev pub Named : List Entry → List ℕ → (ℕ → Option TxnId) → Type 0
  Named es ks name = filter_map name ks ≡ links_to es fp

  nothing : (ks : List ℕ) (n : ℕ) (name : ℕ → Option TxnId) → Rise n ks → Tell n [] ks name → Named [] ks name
  nothing [] n name rises tell = refl
  nothing (k ∷ ks) n name rises tell = absurd (no (tell.there (k - n))) where
    no : has_place (k ∷ ks) (n + (k - n)) ≡ false → ⊥
    no h =
        let same : n + (k - n) ≡ k = omega (arith, rises.0) in
        let here : (n + (k - n) == k) ≡ true = (Decides-eqb (n + (k - n)) k).1 same in
        let yes : true ≡ false = sym (ap (λ b. b || has_place ks (n + (k - n))) here) ∙ h in
        absurd cc

  pub names_so : (es : List Entry) (n : ℕ) (ks : List ℕ) (name : ℕ → Option TxnId) → Rise n ks → Tell n es ks name → Named es ks name
  names_so [] n ks name rises tell = nothing ks n name rises tell
  names_so (e ∷ es) n [] name rises tell =
      let no : test e ≡ false = sym (tell.there 0) in
      names_so es (suc n) [] name tt (skipped n e es [] name tell) ∙ sym (ap (λ b. cond b (e.txn ∷ links_to es fp) (links_to es fp)) no)
  names_so (e ∷ es) n (k ∷ ks) name rises tell = by (k == n) refl
      (λ same. names_so es (suc n) ks name (subst (λ m. Rise (suc m) ks) same rises.2) (taken n e es k ks name same tell))
      (λ more. names_so es (suc n) (k ∷ ks) name (more, rises.1, rises.2) (skipped n e es (k ∷ ks) name tell)) where
        Goal : Type 0
        Goal = filter_map name (k ∷ ks) ≡ cond (test e) (e.txn ∷ links_to es fp) (links_to es fp)

        by : (b : Bool) → (k == n) ≡ b → (k ≡ n → Named es ks name) → (suc n ≤ k → Named es (k ∷ ks) name) → Goal
        by true is rest other =
            let same : k ≡ n = (Decides-eqb k n).0 is in
            let zero_on : k ≡ n + 0 = same ∙ sym (from_zero n) in
            let here : (n + 0 == k) ≡ true = (Decides-eqb (n + 0) k).1 (sym zero_on) in
            let yes : test e ≡ true =
            sym (tell.there 0) ∙ ap (λ b. b || has_place ks (n + 0)) here in
            let name_is : name k ≡ Some e.txn = ap name zero_on ∙ tell.named 0 e refl in
            ap (λ o. cons_option o (filter_map name ks)) name_is ∙ ap (λ xs. e.txn ∷ xs) (rest same)
            ∙ sym (ap (λ b. cond b (e.txn ∷ links_to es fp) (links_to es fp)) yes)
        by false is rest other =
            let more : suc n ≤ k = grind (arith, nat_tests, is, rises.0) in
            let far : AllByRecursion (λ j. n < j) (k ∷ ks) = (omega (arith, more), further ks n k (omega (arith, more)) rises.1) in
            let no : test e ≡ false =
            sym (tell.there 0) ∙ ap (λ p. has_place (k ∷ ks) p) (from_zero n) ∙ below_all n (k ∷ ks) far in
            other more ∙ sym (ap (λ b. cond b (e.txn ∷ links_to es fp) (links_to es fp)) no)

-- ---- the links of a footprint

within : (es : List Entry) (t : Entry → Bool) (i : ℕ) → (nat_lt i (length es) && passes t (slice_get es i)) ≡ passes t (slice_get es i)
within [] t i = none (nat_lt i 0) where
  none : (b : Bool) → (b && false) ≡ false
  none true = refl
  none false = refl
within (e ∷ es) t zero = ap (λ b. b && t e) (some (length es)) where
  some : (n : ℕ) → nat_lt 0 (suc n) ≡ true
  some n = grind (arith, nat_tests)
within (e ∷ es) t (suc i) = ap (λ b. b && passes t (slice_get es i)) (less i (length es)) ∙ within es t i where
  less : (i n : ℕ) → nat_lt (suc i) (suc n) ≡ nat_lt i n
  less i n = by (nat_lt (suc i) (suc n)) refl (nat_lt i n) refl where
    by : (a : Bool) → nat_lt (suc i) (suc n) ≡ a → (b : Bool) → nat_lt i n ≡ b → a ≡ b
    by true one true other = refl
    by true one false other = absurd (grind (arith, nat_tests, one, other))
    by false one true other = absurd (grind (arith, nat_tests, one, other))
    by false one false other = refl

pub links_so : (fp : Touched) (es : List Entry) (ks : List ℕ) (end : ℕ) → end ≡ length es → IsStrictlySortedBy nat_cmp ks →
    ((p : ℕ) → has_place ks p ≡ (nat_lt p end && list_any (λ e. passes (wrote e) (slice_get es p)) (items fp))) →
    filter_map (name_at es) ks ≡ links_to es fp
links_so fp es ks end last sorted are = names_so fp es 0 ks (name_at es) (rise ks sorted) (record {
  there = λ i. ap (λ p. has_place ks p) (zero_on i)
      ∙ are i ∙ (λ k. nat_lt i (last k) && linked_so (slice_get es i) k) ∙ within es (λ entry. is_linked entry fp) i;
  named = λ i entry at. ap (name_at es) (zero_on i) ∙ ap (λ o. option_map (λ (e : Entry). e.txn) o) at;
}) where
  zero_on : (i : ℕ) → 0 + i ≡ i
  zero_on i = omega arith

  linked_so : (o : Option Entry) → list_any (λ e. passes (wrote e) o) (items fp) ≡ passes (λ entry. is_linked entry fp) o
  linked_so None = any_none (items fp)
  linked_so (Some entry) = any_live entry.writes entry.live (some_meets entry.writes) (items fp)

-- ---- names gathered one by one

-- with the name at the next place
pub named_next : (name : ℕ → Option TxnId) (places : List ℕ) (i d : ℕ) (names more : List TxnId) (o : Option TxnId) → i < length places →
    o ≡ name (get_or places i d) → ((rest : List TxnId) → more ++ rest ≡ names ++ cons_option o rest) →
    names ++ filter_map name (drop i places) ≡ filter_map name places →
    more ++ filter_map name (drop (i + 1) places) ≡ filter_map name places
named_next name places i d names more o less is pushed so_far =
    let next : i + 1 ≡ suc i = omega arith in
    ap (λ j. more ++ filter_map name (drop j places)) next
    ∙ pushed (filter_map name (drop (suc i) places))
    ∙ ap (λ p. names ++ cons_option p (filter_map name (drop (suc i) places))) is
    ∙ sym (ap (λ ks. names ++ filter_map name ks) (drop-cons places i d less)) ∙ so_far
