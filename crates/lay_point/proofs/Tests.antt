-- Tests of whole numbers, and the orders that they tell.
use Rattle.std.proofs.Common.{◌≡◌, true, false, not, ℤ, ◌≤ℤ◌, ◌<ℤ◌, sym, ap, ◌∙◌, ⊎_elim, arith}
use Rattle.std.specs.Prelude.{int_le, int_lt}
use Rattle.std.proofs.lemmas.Int.{ints}
use Rattle.lay_point.proofs.Signs.{below_or_not}

-- ---- what a test tells
pub le_true : (a b : ℤ) → int_le a b ≡ true → a ≤ℤ b
le_true a b h = grind (arith, ints)

pub le_false : (a b : ℤ) → int_le a b ≡ false → b <ℤ a
le_false a b h = grind (arith, ints)

pub lt_true : (a b : ℤ) → int_lt a b ≡ true → a <ℤ b
lt_true a b h = grind (arith, ints)

pub lt_false : (a b : ℤ) → int_lt a b ≡ false → b ≤ℤ a
lt_false a b h = grind (arith, ints)

-- ---- what a test answers
pub true_le : (a b : ℤ) → a ≤ℤ b → int_le a b ≡ true
true_le a b h = grind (arith, ints)

pub false_le : (a b : ℤ) → b <ℤ a → int_le a b ≡ false
false_le a b h = grind (arith, ints)

pub true_lt : (a b : ℤ) → a <ℤ b → int_lt a b ≡ true
true_lt a b h = grind (arith, ints)

pub false_lt : (a b : ℤ) → b ≤ℤ a → int_lt a b ≡ false
false_lt a b h = grind (arith, ints)

pub lt_is_not_le : (a b : ℤ) → int_lt a b ≡ not (int_le b a)
lt_is_not_le a b = ⊎_elim (λ (less : a <ℤ b). true_lt a b less ∙ ap not (sym (false_le b a less)))
    (λ (le : b ≤ℤ a). false_lt a b le ∙ ap not (sym (true_le b a le))) (below_or_not a b)
