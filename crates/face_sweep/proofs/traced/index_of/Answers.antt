-- Where the key isn't at the place that the search leads to, all those before the place are less, and the others are greater.
use Rattle.std.proofs.Common.{◌≡◌, ◌≢◌, ◌<◌, ◌≤◌, ◌-◌, ℕ, suc, true, false, length, List, ⊎_elim, get_or, rules, arith}
use Rattle.std.specs.Prelude.{nat_lt}
use Rattle.std.specs.List.Sorted.{IsStrictlyIncreasing}
use Rattle.std.proofs.lemmas.Bool.{cases_lt, ltb-false, ltb-true}
use Rattle.face_sweep.proofs.OwnLemmas.{rising_up}
use Rattle.face_sweep.proofs.traced.index_of.Goals as goal

absent : (keys : List ℕ) → IsStrictlyIncreasing keys → (key n : ℕ) → n ≤ length keys → ((k : ℕ) → suc k ≡ n → get_or keys k 0 < key)
    → (n < length keys → key < get_or keys n 0) → (i : ℕ) → i < length keys → get_or keys i 0 ≢ key
absent keys rising key n bound before behind i inside same = ⊎_elim
    (λ (less : i < n).
    let last = before (n - 1) (omega arith) in
    let up = rising_up keys rising i (n - 1) (omega arith) (omega arith) in omega arith)
    (λ (from : n ≤ i).
    let first = behind (omega arith) in
    let up = rising_up keys rising n i from inside in omega arith)
    (cases_lt i n)

pub returns-then-found-keys : goal.returns-then-found-keys
returns-then-found-keys c = λ i inside same.
    let keys = c.args.keys.now in
    let n = c.partition_from-found.result in
    absent keys c.requires c.key_of-key.result n c.partition_from-found.ensures.bound
    (λ k next.
    let post = c.partition_from-found.ensures.before k next in
    let t : nat_lt (get_or keys k 0) c.key_of-key.result ≡ true = search rules in ltb-true _ _ t)
    (λ less. absurd (omega (arith, less, c.if-found-keys.true)))
    i inside (search rules)

pub returns-then-keys-found : goal.returns-then-keys-found
returns-then-keys-found c = λ i inside same.
    let keys = c.args.keys.now in
    let n = c.partition_from-found.result in
    absent keys c.requires c.key_of-key.result n c.partition_from-found.ensures.bound
    (λ k next.
    let post = c.partition_from-found.ensures.before k next in
    let t : nat_lt (get_or keys k 0) c.key_of-key.result ≡ true = search rules in ltb-true _ _ t)
    (λ less.
    let post = c.partition_from-found.ensures.behind less in
    let t : nat_lt (get_or keys n 0) c.key_of-key.result ≡ false = search rules in
    let not_less = ltb-false _ _ t in
    let other : get_or keys n 0 ≢ c.key_of-key.result = search rules in omega (arith, not_less, other))
    i inside (search rules)
