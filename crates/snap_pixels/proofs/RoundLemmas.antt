-- The whole number that a fraction is rounded to.
use Rattle.std.proofs.Common.{◌≡◌, ℕ, ◌-◌, ◌*◌, ◌^◌, ◌<◌, [], ◌∷◌, ℤ, pos, negsuc, neg_ℤ, ◌+ℤ◌, ◌-ℤ◌, ◌*ℤ◌, ◌≤ℤ◌, ◌<ℤ◌, refl}
use Rattle.std.proofs.Common.{ap, ◌∙◌, arith}
use Rattle.std.specs.Int.{int_div_euclid}
use Rattle.std.proofs.lemmas.Int.{ints, to_z-of_z}
use mir.Syntax.{w32, w128}
use mir.Val.{to_z, of_z, SFits}
use borrow.Author.Differences.{product_is}
use Rattle.lay_point.proofs.Polynomials.{#, lit, ◌⊕◌, ◌⊗◌, identity}
use Rattle.lay_point.proofs.Signs.{linear, cancel_le, cancel_lt, times_le, times_lt}
use Rattle.snap_pixels.specs.Pixels.{IsRoundedTo}
use Rattle.snap_pixels.specs.Segments.{along}

-- the quotient that `div_euclid` gives is rounded down
divided : (a : ℤ) (k : ℕ) → 0 < k → ((int_div_euclid a (pos k) *ℤ pos k) ≤ℤ a) × (a <ℤ (int_div_euclid a (pos k) *ℤ pos k +ℤ pos k))
divided (pos a) k h = (omega (arith, linear), omega (arith, linear))
divided (negsuc a) k h =
    let e = product_is (int_div_euclid (negsuc a) (pos k)) (pos k) in
    (omega (arith, linear, e), omega (arith, linear, e))

pub IsRoundedTo-quotient : (a k : ℤ) → pos 1 ≤ℤ k → IsRoundedTo (int_div_euclid (pos 2 *ℤ a +ℤ k) (pos 2 *ℤ k)) k a
IsRoundedTo-quotient a (pos k) h =
    let q = int_div_euclid (pos 2 *ℤ a +ℤ pos k) (pos (2 * k)) in
    let d = divided (pos 2 *ℤ a +ℤ pos k) (2 * k) (omega (arith, linear)) in
    let e = identity (q ∷ pos k ∷ []) (# 0 ⊗ (lit (pos 2) ⊗ # 1)) (lit (pos 2) ⊗ # 0 ⊗ # 1) refl in
    (omega (arith, linear, d.0, e), omega (arith, linear, d.1, e))
IsRoundedTo-quotient a (negsuc k) h = absurd (omega (arith, linear))

-- what a / k isn't below or above, the number that it is rounded to isn't either
pub IsRoundedTo-low : (low c k a : ℤ) → pos 1 ≤ℤ k → (low *ℤ k) ≤ℤ a → IsRoundedTo c k a → low ≤ℤ c
IsRoundedTo-low low c k a one h r =
    let e = identity (low ∷ k ∷ []) (# 1 ⊗ # 0) (# 0 ⊗ # 1) refl in
    let f = identity (c ∷ k ∷ []) (# 1 ⊗ (# 0 ⊕ lit (pos 1))) (# 0 ⊗ # 1 ⊕ # 1) refl in
    let g = identity (c ∷ k ∷ []) (lit (pos 2) ⊗ # 0 ⊗ # 1) (lit (pos 2) ⊗ (# 0 ⊗ # 1)) refl in
    let below = cancel_lt k low (c +ℤ pos 1) (omega (arith, linear)) (omega (arith, linear, r.1)) in
    omega (arith, linear)

pub IsRoundedTo-high : (high c k a : ℤ) → pos 1 ≤ℤ k → a ≤ℤ (high *ℤ k) → IsRoundedTo c k a → c ≤ℤ high
IsRoundedTo-high high c k a one h r =
    let e = identity (c ∷ k ∷ []) (# 1 ⊗ # 0) (# 0 ⊗ # 1) refl in
    let f = identity (high ∷ k ∷ []) (# 1 ⊗ (# 0 ⊕ lit (pos 1))) (# 0 ⊗ # 1 ⊕ # 1) refl in
    let g = identity (c ∷ k ∷ []) (lit (pos 2) ⊗ # 0 ⊗ # 1) (lit (pos 2) ⊗ (# 0 ⊗ # 1)) refl in
    let below = cancel_lt k c (high +ℤ pos 1) (omega (arith, linear)) (omega (arith, linear, r.0)) in
    omega (arith, linear)

-- a / k is rounded to one number
pub IsRoundedTo-one : (c d k a : ℤ) → pos 1 ≤ℤ k → IsRoundedTo c k a → IsRoundedTo d k a → c ≡ d
IsRoundedTo-one c d k a one r s =
    let up = below c d r s in
    let down = below d c s r in
    omega (arith, linear)
  where
    below : (c d : ℤ) → IsRoundedTo c k a → IsRoundedTo d k a → c ≤ℤ d
    below c d r s =
        let e = identity (c ∷ k ∷ []) (lit (pos 2) ⊗ # 0 ⊗ # 1) (lit (pos 2) ⊗ (# 1 ⊗ # 0)) refl in
        let f = identity (d ∷ k ∷ []) (# 1 ⊗ (# 0 ⊕ lit (pos 1))) (# 0 ⊗ # 1 ⊕ # 1) refl in
        let g = identity (d ∷ k ∷ []) (lit (pos 2) ⊗ # 0 ⊗ # 1) (lit (pos 2) ⊗ (# 0 ⊗ # 1)) refl in
        let lt = cancel_lt k c (d +ℤ pos 1) (omega (arith, linear)) (omega (arith, linear, r.0, s.1)) in
        omega (arith, linear)

-- fractions that are equal are rounded to the same number
pub IsRoundedTo-same : (c k a l b : ℤ) → pos 1 ≤ℤ k → pos 1 ≤ℤ l → l *ℤ a ≡ k *ℤ b → IsRoundedTo c k a → IsRoundedTo c l b
IsRoundedTo-same c k a l b one one' e r =
    let f = identity (c ∷ k ∷ l ∷ []) (# 2 ⊗ (lit (pos 2) ⊗ # 0 ⊗ # 1)) (# 1 ⊗ (lit (pos 2) ⊗ # 0 ⊗ # 2)) refl in
    let g = identity (a ∷ k ∷ l ∷ []) (# 2 ⊗ (lit (pos 2) ⊗ # 0 ⊕ # 1)) (lit (pos 2) ⊗ (# 2 ⊗ # 0) ⊕ # 1 ⊗ # 2) refl in
    let h = identity (b ∷ k ∷ l ∷ []) (# 1 ⊗ (lit (pos 2) ⊗ # 0 ⊕ # 2)) (lit (pos 2) ⊗ (# 1 ⊗ # 0) ⊕ # 1 ⊗ # 2) refl in
    let left = times_le l (pos 2 *ℤ c *ℤ k) (pos 2 *ℤ a +ℤ k) (omega (arith, linear)) r.0 in
    let f' = identity (c ∷ k ∷ l ∷ []) (# 2 ⊗ (lit (pos 2) ⊗ # 0 ⊗ # 1 ⊕ # 1)) (# 1 ⊗ (lit (pos 2) ⊗ # 0 ⊗ # 2 ⊕ # 2)) refl in
    let g' = identity (a ∷ l ∷ []) (# 1 ⊗ (lit (pos 2) ⊗ # 0)) (lit (pos 2) ⊗ (# 1 ⊗ # 0)) refl in
    let h' = identity (b ∷ k ∷ []) (# 1 ⊗ (lit (pos 2) ⊗ # 0)) (lit (pos 2) ⊗ (# 1 ⊗ # 0)) refl in
    let right = times_lt l (pos 2 *ℤ a) (pos 2 *ℤ c *ℤ k +ℤ k) (omega (arith, linear)) r.1 in
    (cancel_le k _ _ (omega (arith, linear)) (omega (arith, linear)), cancel_lt k _ _ (omega (arith, linear)) (omega (arith, linear)))

-- the rounded quotient, as code computes it
pub record IsNearest (a k q : ℤ) : Type 0 where
  pub fits : SFits w32 (to_z w128 (of_z w128 q))
  pub rounded : IsRoundedTo (to_z w32 (of_z w32 (to_z w128 (of_z w128 q)))) k a

pub IsNearest-quotient : (a k q : ℤ) → pos 1 ≤ℤ k → k ≤ℤ pos (2 ^ 65)
    → (neg_ℤ (pos (2 ^ 31)) *ℤ k) ≤ℤ a → a ≤ℤ (pos (2 ^ 31 - 1) *ℤ k)
    → q ≡ int_div_euclid (to_z w128 (of_z w128 (to_z w128 (of_z w128 (pos 2 *ℤ to_z w128 (of_z w128 a))) +ℤ to_z w128 (of_z w128 k))))
    (to_z w128 (of_z w128 (pos 2 *ℤ to_z w128 (of_z w128 k))))
    → IsNearest a k q
IsNearest-quotient a k q one small low high e =
    let fits_a : SFits w128 a = omega (arith, ints) in
    let fits_k : SFits w128 k = omega (arith, ints) in
    let fits_twice : SFits w128 (pos 2 *ℤ a) = omega (arith, ints) in
    let fits_sum : SFits w128 (pos 2 *ℤ a +ℤ k) = omega (arith, ints) in
    let fits_scale : SFits w128 (pos 2 *ℤ k) = omega (arith, ints) in
    let quotient : q ≡ int_div_euclid (pos 2 *ℤ a +ℤ k) (pos 2 *ℤ k) = simp to_z-of_z at e in
    let r : IsRoundedTo q k a = rw quotient (IsRoundedTo-quotient a k one) in
    let above = IsRoundedTo-low (neg_ℤ (pos (2 ^ 31))) q k a one low r in
    let below = IsRoundedTo-high (pos (2 ^ 31 - 1)) q k a one high r in
    let fits_q : SFits w128 q = omega (arith, ints) in
    let narrow : SFits w32 q = omega (arith, ints) in
    record {
      fits = rw (to_z-of_z w128 q fits_q) narrow;
      rounded = rw (to_z-of_z w128 q fits_q, to_z-of_z w32 q narrow) r;
    }

-- a coordinate times a weight, as code computes it
pub record IsWeighed (x w r : ℤ) : Type 0 where
  pub value : r ≡ x *ℤ w
  pub low : (neg_ℤ (pos (2 ^ 31)) *ℤ w) ≤ℤ r
  pub high : r ≤ℤ (pos (2 ^ 31 - 1) *ℤ w)

pub IsWeighed-product : (x x' w : ℤ) → x' ≡ x → SFits w32 x → pos 0 ≤ℤ w → w ≤ℤ pos (2 ^ 65)
    → IsWeighed x w (to_z w128 (of_z w128 (to_z w128 (of_z w128 x') *ℤ to_z w128 (of_z w128 w))))
IsWeighed-product x x' w same fits whole small =
    let f = identity (x ∷ w ∷ []) (# 0 ⊗ # 1) (# 1 ⊗ # 0) refl in
    let g = identity (w ∷ []) (lit (neg_ℤ (pos (2 ^ 31))) ⊗ # 0) (# 0 ⊗ lit (neg_ℤ (pos (2 ^ 31)))) refl in
    let h = identity (w ∷ []) (lit (pos (2 ^ 31 - 1)) ⊗ # 0) (# 0 ⊗ lit (pos (2 ^ 31 - 1))) refl in
    let above = times_le w (neg_ℤ (pos (2 ^ 31))) x whole (omega (arith, ints)) in
    let below = times_le w x (pos (2 ^ 31 - 1)) whole (omega (arith, ints)) in
    let low : (neg_ℤ (pos (2 ^ 31)) *ℤ w) ≤ℤ (x *ℤ w) = omega (arith, linear) in
    let high : (x *ℤ w) ≤ℤ (pos (2 ^ 31 - 1) *ℤ w) = omega (arith, linear) in
    let fits_x : SFits w128 x = omega (arith, ints) in
    let fits_w : SFits w128 w = omega (arith, ints) in
    let fits_both : SFits w128 (x *ℤ w) = fits_within (x *ℤ w) w whole small low high in
    rw (same, to_z-of_z w128 x fits_x, to_z-of_z w128 w fits_w, to_z-of_z w128 (x *ℤ w) fits_both)
    (record { value = refl; low = low; high = high })
  where
    fits_within : (r w : ℤ) → pos 0 ≤ℤ w → w ≤ℤ pos (2 ^ 65)
        → (neg_ℤ (pos (2 ^ 31)) *ℤ w) ≤ℤ r → r ≤ℤ (pos (2 ^ 31 - 1) *ℤ w) → SFits w128 r
    fits_within r w whole small low high = omega (arith, ints)

-- the place at the fraction t / k of the way, as code adds it up
pub record IsPlace (x y p q k t r : ℤ) : Type 0 where
  pub fits : SFits w128 (to_z w128 (of_z w128 p) +ℤ to_z w128 (of_z w128 q))
  pub value : r ≡ along k t x y
  pub low : (neg_ℤ (pos (2 ^ 31)) *ℤ k) ≤ℤ r
  pub high : r ≤ℤ (pos (2 ^ 31 - 1) *ℤ k)

pub IsPlace-sum : (x y k t x' v p y' w q : ℤ) → IsWeighed x' v p → IsWeighed y' w q → x' ≡ x → v ≡ k -ℤ t → y' ≡ y → w ≡ t
    → pos 0 ≤ℤ t → t ≤ℤ k → k ≤ℤ pos (2 ^ 65)
    → IsPlace x y p q k t (to_z w128 (of_z w128 (to_z w128 (of_z w128 p) +ℤ to_z w128 (of_z w128 q))))
IsPlace-sum x y k t x' v p y' w q hp hq ex ev ey ew zero_t t_k small =
    let fits_p : SFits w128 p = omega (arith, ints, hp.low, hp.high) in
    let fits_q : SFits w128 q = omega (arith, ints, hq.low, hq.high) in
    let fits : SFits w128 (p +ℤ q) = omega (arith, ints, hp.low, hp.high, hq.low, hq.high) in
    let low : (neg_ℤ (pos (2 ^ 31)) *ℤ k) ≤ℤ (p +ℤ q) = omega (arith, ints, hp.low, hq.low) in
    let high : (p +ℤ q) ≤ℤ (pos (2 ^ 31 - 1) *ℤ k) = omega (arith, ints, hp.high, hq.high) in
    let value : p +ℤ q ≡ along k t x y = (λ i. hp.value i +ℤ hq.value i) ∙ (λ i. ex i *ℤ ev i +ℤ ey i *ℤ ew i) in
    let e : to_z w128 (of_z w128 p) +ℤ to_z w128 (of_z w128 q) ≡ p +ℤ q = λ i. to_z-of_z w128 p fits_p i +ℤ to_z-of_z w128 q fits_q i in
    let all = ap (λ z. to_z w128 (of_z w128 z)) e ∙ to_z-of_z w128 (p +ℤ q) fits in
    record { fits = rw e fits; value = all ∙ value; low = rw all low; high = rw all high }
