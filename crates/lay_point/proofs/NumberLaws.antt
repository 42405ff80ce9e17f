-- Laws of numbers: of products with nothing, and of equality and order.
use Rattle.std.proofs.Common.{◌≡◌, ℕ, suc, ◌<◌, true, false, [], ◌∷◌, ℤ, pos, ◌*ℤ◌, refl, ap, ◌∙◌, arith}
use Rattle.std.specs.Prelude.{◌==◌}
use Rattle.std.specs.Ordering.{int_eq}
use Rattle.std.proofs.lemmas.Bool.Decides.{Decides-int_eq, nat_tests}
use Rattle.lay_point.proofs.Polynomials.{#, lit, ◌⊗◌, identity}
use Rattle.lay_point.proofs.Rising.{IsStrictOrder}

pub none_times : (z w : ℤ) → z ≡ pos 0 → z *ℤ w ≡ pos 0
none_times z w e = ap (λ u. u *ℤ w) e ∙ identity (w ∷ []) (lit (pos 0) ⊗ # 0) (lit (pos 0)) refl

pub times_none : (z w : ℤ) → w ≡ pos 0 → z *ℤ w ≡ pos 0
times_none z w e = ap (λ u. z *ℤ u) e ∙ identity (z ∷ []) (# 0 ⊗ lit (pos 0)) (lit (pos 0)) refl

pub int_eq-same : (a b : ℤ) → a ≡ b → int_eq a b ≡ true
int_eq-same a b e = (Decides-int_eq a b).1 e

pub suc_zero : (n : ℕ) → (suc n == 0) ≡ false
suc_zero n = grind (arith, nat_tests)

pub numbers_are_strict : IsStrictOrder (λ (m n : ℕ). m < n)
numbers_are_strict = record { irreflexive = λ n h. omega arith; transitive = λ l m n h g. omega arith }
