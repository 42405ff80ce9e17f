-- Every fraction a / k lies in the half-open unit interval round some whole number.
use Rattle.std.proofs.Common.{ℕ, ◌*◌, ◌/◌, ◌<◌, [], ◌∷◌, ℤ, pos, negsuc, ◌+ℤ◌, ◌*ℤ◌, ◌≤ℤ◌, ◌<ℤ◌, refl, arith}
use borrow.Author.Differences.{product_is}
use Rattle.lay_point.proofs.Polynomials.{#, lit, ◌⊗◌, identity}
use Rattle.lay_point.proofs.Signs.{linear}

-- the quotient rounded down
pub divided : (a : ℤ) (k : ℕ) → 0 < k → (q : ℤ) × ((q *ℤ pos k) ≤ℤ a) × (a <ℤ (q *ℤ pos k +ℤ pos k))
divided (pos a) k h =
    (pos (a / k), omega (arith, linear), omega (arith, linear))
divided (negsuc a) k h =
    (negsuc (a / k), omega (arith, linear, product_is (negsuc (a / k)) (pos k)), omega (arith, linear, product_is (negsuc (a / k)) (pos k)))

-- the whole number that a / k is rounded to
pub rounded : (a k : ℤ) → pos 1 ≤ℤ k → (c : ℤ) × ((pos 2 *ℤ c *ℤ k) ≤ℤ (pos 2 *ℤ a +ℤ k)) × ((pos 2 *ℤ a) <ℤ (pos 2 *ℤ c *ℤ k +ℤ k))
rounded a (pos k) h =
    let d = divided (pos 2 *ℤ a +ℤ pos k) (2 * k) (omega (arith, linear)) in
    let e = identity (d.0 ∷ pos k ∷ []) (# 0 ⊗ (lit (pos 2) ⊗ # 1)) (lit (pos 2) ⊗ # 0 ⊗ # 1) refl in
    (d.0, omega (arith, linear, d.1, d.2, e), omega (arith, linear, d.1, d.2, e))
rounded a (negsuc k) h = absurd (omega (arith, linear))
