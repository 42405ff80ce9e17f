-- The scan finds the least positive number that no symbol has: n symbols can't have all of 1 to n + 1.
use Rattle.std.proofs.Common.{◌≡◌, ◌<◌, ◌≤◌, ℕ, zero, suc, ◌+◌, Bool, true, false, not}
use Rattle.std.proofs.Common.{cond, ◌||◌, List, [], ◌∷◌, length, nat_eq, refl, ap, ◌∙◌, arith}
use Rattle.std.specs.Prelude.{filter}
use Rattle.std.proofs.lemmas.Bool.{or_left, or_right}
use Rattle.std.proofs.lemmas.Bool.Decides.{Decides-eqb, nat_tests}
use Rattle.lay_cells.specs.Symbols.{has_symbol}
use Rattle.cif_write.specs.Unused.{IsLeastUnused}
use Rattle.cif_write.specs.Wrap.{least_unused, unused_from}

-- the numbers but this one
abbrev without : ℕ → List ℕ → List ℕ
without n numbers = filter (λ m. not (nat_eq n m)) numbers

has-without : (n m : ℕ) (numbers : List ℕ) → nat_eq m n ≡ false → has_symbol numbers m ≡ true → has_symbol (without n numbers) m ≡ true
has-without n m [] other has = has
has-without n m (x ∷ xs) other has = by_first (nat_eq n x) refl (nat_eq m x) refl (has-without n m xs other) has where
  by_first : (b : Bool) → nat_eq n x ≡ b → (d : Bool) → nat_eq m x ≡ d
      → (has_symbol xs m ≡ true → has_symbol (without n xs) m ≡ true) → (d || has_symbol xs m) ≡ true
      → has_symbol (cond (not b) (x ∷ without n xs) (without n xs)) m ≡ true
  by_first true is true at rest has =
      let same : n ≡ x = (Decides-eqb n x).0 is in
      let there : nat_eq m n ≡ true = ap (nat_eq m) same ∙ at in
      absurd cc
  by_first true is false at rest has = rest has
  by_first false is true at rest has = or_left (nat_eq m x) (has_symbol (without n xs) m) at
  by_first false is false at rest has = or_right (nat_eq m x) (has_symbol (without n xs) m) (rest has)

length-without-le : (n : ℕ) (numbers : List ℕ) → length (without n numbers) ≤ length numbers
length-without-le n [] = omega arith
length-without-le n (x ∷ xs) = by_first (nat_eq n x) (length-without-le n xs) where
  by_first : (b : Bool) → length (without n xs) ≤ length xs → length (cond (not b) (x ∷ without n xs) (without n xs)) ≤ suc (length xs)
  by_first true h = omega (arith, h)
  by_first false h = omega (arith, h)

-- without one that is there they are fewer
length-without : (n : ℕ) (numbers : List ℕ) → has_symbol numbers n ≡ true → length (without n numbers) < length numbers
length-without n [] has = absurd cc
length-without n (x ∷ xs) has = by_first (nat_eq n x) (length-without-le n xs) (length-without n xs) has where
  by_first : (b : Bool) → length (without n xs) ≤ length xs → (has_symbol xs n ≡ true → length (without n xs) < length xs)
      → (b || has_symbol xs n) ≡ true → length (cond (not b) (x ∷ without n xs) (without n xs)) < suc (length xs)
  by_first true le rest has = omega (arith, le)
  by_first false le rest has = omega (arith, rest has)

other_number : (m j : ℕ) → m ≤ j → nat_eq m (suc j) ≡ false
other_number m j h = by_answer (nat_eq m (suc j)) refl where
  by_answer : (b : Bool) → nat_eq m (suc j) ≡ b → b ≡ false
  by_answer true is = absurd (omega (arith, h, (Decides-eqb m (suc j)).0 is))
  by_answer false is = refl

-- symbols that have all numbers from 1 to j are j or more
all_used : (j : ℕ) (numbers : List ℕ) → ((m : ℕ) → 1 ≤ m → m ≤ j → has_symbol numbers m ≡ true) → j ≤ length numbers
all_used zero numbers h = omega arith
all_used (suc j) numbers h =
    omega (
      arith,
      all_used j (without (suc j) numbers) (λ m low high. has-without (suc j) m numbers (other_number m j high)
          (h m low (omega (arith, high)))),
      length-without (suc j) numbers (h (suc j) (omega arith) (omega arith)),
    )

below : (m k : ℕ) → m ≤ k → nat_eq m k ≡ false → m < k
below m k h apart = grind (arith, nat_tests)

-- used before a number, and there: used up to it
up_to : (k : ℕ) (numbers : List ℕ) → ((m : ℕ) → 1 ≤ m → m < k → has_symbol numbers m ≡ true) → has_symbol numbers k ≡ true
    → (m : ℕ) → 1 ≤ m → m ≤ k → has_symbol numbers m ≡ true
up_to k numbers used is m low high = by_place (nat_eq m k) refl where
  by_place : (b : Bool) → nat_eq m k ≡ b → has_symbol numbers m ≡ true
  by_place true same = ap (has_symbol numbers) ((Decides-eqb m k).0 same) ∙ is
  by_place false apart = used m low (below m k high apart)

scan : (count k : ℕ) (numbers : List ℕ) → 1 ≤ k → ((m : ℕ) → 1 ≤ m → m < k → has_symbol numbers m ≡ true) → length numbers < k + count
    → IsLeastUnused numbers (unused_from count k numbers)
scan zero k numbers low used enough = by_answer (has_symbol numbers k) refl where
  by_answer : (b : Bool) → has_symbol numbers k ≡ b → IsLeastUnused numbers k
  by_answer true is = absurd (omega (arith, enough, all_used k numbers (up_to k numbers used is)))
  by_answer false is = record { positive = low; unused = is; least = used }
scan (suc count) k numbers low used enough = by_answer (has_symbol numbers k) refl (λ is.
    scan count (k + 1) numbers (omega (arith, low)) (λ m one less. up_to k numbers used is m one (omega (arith, less)))
    (omega (arith, enough))) where
      by_answer : (b : Bool) → has_symbol numbers k ≡ b
          → (has_symbol numbers k ≡ true → IsLeastUnused numbers (unused_from count (k + 1) numbers))
          → IsLeastUnused numbers (cond b (unused_from count (k + 1) numbers) k)
      by_answer true is rest = rest is
      by_answer false is rest = record { positive = low; unused = is; least = used }

pub least_unused_is : (numbers : List ℕ) → IsLeastUnused numbers (least_unused numbers)
least_unused_is numbers = scan (length numbers) 1 numbers (omega arith) (λ m low high. absurd (omega (arith, low, high))) (omega arith)
