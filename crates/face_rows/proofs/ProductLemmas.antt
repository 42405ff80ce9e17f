-- Bounds of products, and numbers as code passes them.
use Rattle.std.proofs.Common.{◌≡◌, ◌^◌, [], ◌∷◌, ℤ, pos, neg_ℤ, ◌+ℤ◌, ◌*ℤ◌, ◌≤ℤ◌, refl, sym, subst, ◌∙◌, arith}
use Rattle.std.proofs.lemmas.Int.{ints, to_z-of_z}
use mir.Syntax.{w32, w64, w128}
use mir.Val.{to_z, of_z, SFits}
use Rattle.lay_point.proofs.Polynomials.{#, lit, ◌⊗◌, identity}
use Rattle.lay_point.proofs.Signs.{linear, times_le}

-- a product, as code computes it
pub product_is : (w x x' r : ℤ) → SFits w64 w → SFits w128 x' → x' ≡ x → r ≡ to_z w64 (of_z w64 w) *ℤ to_z w128 (of_z w128 x') → r ≡ w *ℤ x
product_is w x x' r fits_w fits_x same e = e ∙ (λ i. to_z-of_z w64 w fits_w i *ℤ to_z-of_z w128 x' fits_x i) ∙ (λ i. w *ℤ same i)

-- a weight times a coordinate is at most 2^64
pub record IsSmall (r : ℤ) : Type 0 where
  pub low : neg_ℤ (pos (2 ^ 64)) ≤ℤ r
  pub high : r ≤ℤ pos (2 ^ 64)

pub small_product : (w x : ℤ) → pos 0 ≤ℤ w → w ≤ℤ pos (2 ^ 33) → neg_ℤ (pos (2 ^ 31)) ≤ℤ x → x ≤ℤ pos (2 ^ 31) → IsSmall (w *ℤ x)
small_product w x whole small low high =
    let f = identity (w ∷ []) (# 0 ⊗ lit (pos (2 ^ 31))) (lit (pos (2 ^ 31)) ⊗ # 0) refl in
    let g = identity (w ∷ []) (# 0 ⊗ lit (neg_ℤ (pos (2 ^ 31)))) (lit (neg_ℤ (pos (2 ^ 31))) ⊗ # 0) refl in
    let above = times_le w x (pos (2 ^ 31)) whole high in
    let below = times_le w (neg_ℤ (pos (2 ^ 31))) x whole low in
    let top : (w *ℤ x) ≤ℤ (pos (2 ^ 31) *ℤ w) = omega (arith, linear) in
    let bottom : (neg_ℤ (pos (2 ^ 31)) *ℤ w) ≤ℤ (w *ℤ x) = omega (arith, linear) in
    within (w *ℤ x) w whole small bottom top
  where
    within : (r w : ℤ) → pos 0 ≤ℤ w → w ≤ℤ pos (2 ^ 33) → (neg_ℤ (pos (2 ^ 31)) *ℤ w) ≤ℤ r → r ≤ℤ (pos (2 ^ 31) *ℤ w) → IsSmall r
    within r w whole small bottom top = record { low = omega (arith, ints); high = omega (arith, ints) }

abbrev passed_sum : ℤ → ℤ → ℤ
passed_sum p q = to_z w128 (of_z w128 (to_z w128 (of_z w128 p) +ℤ to_z w128 (of_z w128 q)))

sum_is : (p q : ℤ) → IsSmall p → IsSmall q
    → (passed_sum p q ≡ p +ℤ q) × (neg_ℤ (pos (2 ^ 66)) ≤ℤ passed_sum p q) × (passed_sum p q ≤ℤ pos (2 ^ 66))
sum_is p q a b = (
  omega (arith, ints, a.low, a.high, b.low, b.high),
  omega (arith, ints, a.low, a.high, b.low, b.high),
  omega (arith, ints, a.low, a.high, b.low, b.high),
)

-- a sum of two such products, as code computes it
pub record IsWeighed (w x v y r : ℤ) : Type 0 where
  pub value : r ≡ w *ℤ x +ℤ v *ℤ y
  pub low : neg_ℤ (pos (2 ^ 66)) ≤ℤ r
  pub high : r ≤ℤ pos (2 ^ 66)

pub weighed_is : (w x v y p q : ℤ) → pos 0 ≤ℤ w → w ≤ℤ pos (2 ^ 33) → pos 0 ≤ℤ v → v ≤ℤ pos (2 ^ 33) → SFits w32 x → SFits w32 y
    → p ≡ w *ℤ x → q ≡ v *ℤ y → IsWeighed w x v y (to_z w128 (of_z w128 (to_z w128 (of_z w128 p) +ℤ to_z w128 (of_z w128 q))))
weighed_is w x v y p q w0 w1 v0 v1 fits_x fits_y first second =
    let a = small_product w x w0 w1 (omega (arith, ints)) (omega (arith, ints)) in
    let b = small_product v y v0 v1 (omega (arith, ints)) (omega (arith, ints)) in
    let both = sum_is p q (subst IsSmall (sym first) a) (subst IsSmall (sym second) b) in
    record { value = both.0 ∙ (λ i. first i +ℤ second i); low = both.1; high = both.2 }
