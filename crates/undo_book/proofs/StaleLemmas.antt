-- A transaction that changes more than once is looked at where it changes first.
use Rattle.std.proofs.Common.{◌≡◌, ℕ, ◌+◌, ◌<◌, ◌≤◌, zero, suc, Bool, true, false, cond, List, [], ◌∷◌, length, take, drop, Option}
use Rattle.std.proofs.Common.{None, Some, refl, sym, ap, subst, ◌∙◌, arith, below_more, slice_get}
use Rattle.std.specs.Prelude.{nat_lt}
use Rattle.std.proofs.lemmas.Bool.Decides.{nat_tests}
use Rattle.txn_commands.specs.declared.command.TxnId.{TxnId}
use Rattle.txn_commands.specs.Elements.{Touched}
use Rattle.undo_rules.specs.declared.log.Logged.{Logged}
use Rattle.undo_rules.specs.Books.{changed_in, writes_of}
use Rattle.undo_rules.specs.Links.{Entry}
use Rattle.undo_rules.specs.Steps.{stale_by, stale_first, touching}
use Rattle.undo_rules.proofs.EqualLinks.{txn_eq-true}
use Rattle.undo_book.specs.Changes.{changed_at, changed_of, earlier_at, earlier_of, first_change, is_of, is_unchanged_since, last_change}
use Rattle.undo_book.specs.Changes.{or_first}
use Rattle.undo_book.proofs.FoundLemmas.{get_within}

-- the transaction that was changed, if any, wrote what is touched
abbrev pub wrote : List Entry → Touched → Option TxnId → Bool
wrote entries touched None = false
wrote entries touched (Some txn) = touching (writes_of entries txn) touched

-- none that the calls from one place on and before another changed wrote it
abbrev pub NoneWrote : List Entry → Touched → List Logged → ℕ → ℕ → Type 0
NoneWrote entries touched log since place =
    (k : ℕ) → k < place → since ≤ k → wrote entries touched (changed_at log k) ≡ false

-- ---- the last change

changed_so : (txn : TxnId) (changed : Option TxnId) → is_of txn changed ≡ true → changed ≡ Some txn
changed_so txn None h = absurd cc
changed_so txn (Some other) h = ap Some (txn_eq-true other txn h)

-- it lies among the calls, and changed the transaction
last_is : (txn : TxnId) (log : List Logged) (n j : ℕ) → last_change txn (take n log) ≡ Some j → (j < n) × (changed_at log j ≡ Some txn)
last_is txn [] zero j h = absurd cc
last_is txn [] (suc n) j h = absurd cc
last_is txn (x ∷ log) zero j h = absurd cc
last_is txn (x ∷ log) (suc n) j h =
    by (last_change txn (take n log)) refl (is_of txn (changed_in x)) refl h (λ k. last_is txn log n k) where
      by : (o : Option ℕ) → last_change txn (take n log) ≡ o → (b : Bool) → is_of txn (changed_in x) ≡ b → or_first o b ≡ Some j
          → ((k : ℕ) → last_change txn (take n log) ≡ Some k → (k < n) × (changed_at log k ≡ Some txn))
          → (j < suc n) × (changed_at (x ∷ log) j ≡ Some txn)
      by None none true is h rest =
          let first : 0 ≡ j = cc in
          subst (λ (k : ℕ). (k < suc n) × (changed_at (x ∷ log) k ≡ Some txn)) first
          (omega arith, changed_so txn (changed_in x) is)
      by None none false is h rest = absurd cc
      by (Some k) at b is h rest =
          let more : suc k ≡ j = cc in
          let there = rest k at in
          subst (λ (k : ℕ). (k < suc n) × (changed_at (x ∷ log) k ≡ Some txn)) more
          (let less = there.0 in omega (arith, less), there.1)

-- ---- a first change

pub first_is : (log : List Logged) (since place : ℕ) (txn : TxnId) → first_change log since place ≡ Some txn →
    changed_at log place ≡ Some txn
first_is log since place txn h = by (is_unchanged_since (earlier_at log place) since) h where
  by : (b : Bool) → cond b (changed_at log place) None ≡ Some txn → changed_at log place ≡ Some txn
  by true h = h
  by false h = absurd cc

-- a change that isn't the first is of a transaction that was looked at
pub none_again : (entries : List Entry) (touched : Touched) (log : List Logged) (since place : ℕ) →
    first_change log since place ≡ None → NoneWrote entries touched log since place → wrote entries touched (changed_at log place) ≡ false
none_again entries touched log since place h looked = by (changed_at log place) refl h where
  by : (o : Option TxnId) → changed_at log place ≡ o → cond (is_unchanged_since (earlier_of (take place log) o) since) o None ≡ None →
      wrote entries touched o ≡ false
  by None at h = refl
  by (Some txn) at h = before (last_change txn (take place log)) refl h where
    before : (e : Option ℕ) → last_change txn (take place log) ≡ e → cond (is_unchanged_since e since) (Some txn) None ≡ None
        → wrote entries touched (Some txn) ≡ false
    before None none h = absurd cc
    before (Some j) last h = test (nat_lt j since) refl h where
      test : (b : Bool) → nat_lt j since ≡ b → cond b (Some txn) None ≡ None → wrote entries touched (Some txn) ≡ false
      test true is h = absurd cc
      test false is h =
          let there = last_is txn log place j last in
          let behind : since ≤ j = grind (arith, nat_tests, is) in
          sym (ap (wrote entries touched) there.1) ∙ looked j there.0 behind

-- one place further on
pub looked_more : (entries : List Entry) (touched : Touched) (log : List Logged) (since place : ℕ) →
    NoneWrote entries touched log since place → wrote entries touched (changed_at log place) ≡ false →
    NoneWrote entries touched log since (place + 1)
looked_more entries touched log since place looked here =
    below_more (λ k. since ≤ k → wrote entries touched (changed_at log k) ≡ false) place looked (λ _. here)

-- ---- what the calls that are left decide

drop_at : {X : Type 0} (xs : List X) (i : ℕ) (x : X) → slice_get xs i ≡ Some x → drop i xs ≡ x ∷ drop (suc i) xs
drop_at [] i x at = absurd cc
drop_at (y ∷ xs) zero x at = let same : y ≡ x = cc in ap (λ z. z ∷ xs) same
drop_at (y ∷ xs) (suc i) x at = drop_at xs i x at

stale_at : (entries : List Entry) (touched : Touched) (log : List Logged) (place : ℕ) → place < length log →
    stale_by entries touched (drop place log)
    ≡ stale_first entries touched (changed_at log place) (stale_by entries touched (drop (place + 1) log))
stale_at entries touched log place less = by (slice_get log place) refl where
  by : (o : Option Logged) → slice_get log place ≡ o → stale_by entries touched (drop place log)
      ≡ stale_first entries touched (changed_of o) (stale_by entries touched (drop (place + 1) log))
  by None none = absurd (get_within log place less none)
  by (Some call) at =
      let next : suc place ≡ place + 1 = omega arith in
      ap (stale_by entries touched) (drop_at log place call at)
      ∙ ap (λ n. stale_first entries touched (changed_in call) (stale_by entries touched (drop n log))) next

-- a transaction that didn't write what is touched decides nothing
pub passed : (entries : List Entry) (touched : Touched) (log : List Logged) (place : ℕ) → place < length log →
    wrote entries touched (changed_at log place) ≡ false →
    stale_by entries touched (drop (place + 1) log) ≡ stale_by entries touched (drop place log)
passed entries touched log place less none =
    sym (stale_at entries touched log place less ∙ by (changed_at log place) none) where
      rest : Option TxnId
      rest = stale_by entries touched (drop (place + 1) log)

      by : (o : Option TxnId) → wrote entries touched o ≡ false → stale_first entries touched o rest ≡ rest
      by None h = refl
      by (Some txn) h = ap (λ b. cond b (Some txn) rest) h

-- one that did decides
pub decided : (entries : List Entry) (touched : Touched) (log : List Logged) (place : ℕ) (txn : TxnId) → place < length log →
    changed_at log place ≡ Some txn → touching (writes_of entries txn) touched ≡ true →
    stale_by entries touched (drop place log) ≡ Some txn
decided entries touched log place txn less changed wrote_it =
    stale_at entries touched log place less
    ∙ ap (λ o. stale_first entries touched o (stale_by entries touched (drop (place + 1) log))) changed
    ∙ ap (λ b. cond b (Some txn) (stale_by entries touched (drop (place + 1) log))) wrote_it
