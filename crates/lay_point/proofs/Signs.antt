-- Signs of products, factors that cancel, and the order's cases. The tactics know linear arithmetic alone, and take each
-- product for an unknown: these lemmas say what is so of products. `omega (arith, linear)` does the rest.
use Rattle.std.proofs.Common.{◌≡◌, ◌⊎◌, inl, inr, zero, suc, ◌+◌, [], ◌∷◌, ℤ, pos, negsuc, ◌-ℤ◌, ◌*ℤ◌, ◌≤ℤ◌, ◌<ℤ◌, refl, sym, ◌∙◌, arith}
use borrow.Author.Differences.{up, down, same_out, Apart-out, lt_out, le_out, same_in, below_in, at_most_in, sum_is_lem, neg_is, product_is}
use Rattle.std.proofs.lemmas.Int.{by_lt_z}
use Rattle.lay_point.proofs.Polynomials.{#, lit, ◌⊖◌, ◌⊗◌, identity}

-- for `omega (arith, linear)`, which takes a product of two numbers for an unknown
pub twice_is : (a : ℤ) → (up (pos 2 *ℤ a) ≡ up a + up a) × (down (pos 2 *ℤ a) ≡ down a + down a)
twice_is a = omega (arith, product_is (pos 2) a)

pub ruleset linear = (same_out, Apart-out, lt_out, le_out, same_in, below_in, at_most_in, sum_is_lem, neg_is, twice_is)

-- ---- cases of the order
pub below_or_not : (a b : ℤ) → (a <ℤ b) ⊎ (b ≤ℤ a)
below_or_not a b = by_lt_z a b inl inr

pub below_or_same : (a b : ℤ) → a ≤ℤ b → (a <ℤ b) ⊎ (a ≡ b)
below_or_same a b h = by_lt_z a b inl (λ g. inr (omega (arith, linear)))

-- ---- signs of products
pub nonnegative_product : (a b : ℤ) → pos 0 ≤ℤ a → pos 0 ≤ℤ b → pos 0 ≤ℤ (a *ℤ b)
nonnegative_product (pos a) (pos b) h g = omega (arith, linear)
nonnegative_product (pos a) (negsuc b) h g = absurd (omega (arith, linear))
nonnegative_product (negsuc a) b h g = absurd (omega (arith, linear))

pub positive_product : (a b : ℤ) → pos 0 <ℤ a → pos 0 <ℤ b → pos 0 <ℤ (a *ℤ b)
positive_product (pos zero) b h g = absurd (omega (arith, linear))
positive_product (pos (suc a)) (pos zero) h g = absurd (omega (arith, linear))
positive_product (pos (suc a)) (pos (suc b)) h g = omega (arith, linear)
positive_product (pos (suc a)) (negsuc b) h g = absurd (omega (arith, linear))
positive_product (negsuc a) b h g = absurd (omega (arith, linear))

-- k * (b - a) as a difference
pub spread : (k a b : ℤ) → k *ℤ (b -ℤ a) ≡ k *ℤ b -ℤ k *ℤ a
spread k a b = identity (k ∷ a ∷ b ∷ []) (# 0 ⊗ (# 2 ⊖ # 1)) (# 0 ⊗ # 2 ⊖ # 0 ⊗ # 1) refl

-- a factor that isn't negative keeps an order, a positive one keeps it strict
pub times_le : (k a b : ℤ) → pos 0 ≤ℤ k → a ≤ℤ b → (k *ℤ a) ≤ℤ (k *ℤ b)
times_le k a b p h =
    let e = spread k a b in
    let q = nonnegative_product k (b -ℤ a) p (omega (arith, linear)) in omega (arith, linear)

pub times_lt : (k a b : ℤ) → pos 0 <ℤ k → a <ℤ b → (k *ℤ a) <ℤ (k *ℤ b)
times_lt k a b p h =
    let e = spread k a b in
    let q = positive_product k (b -ℤ a) p (omega (arith, linear)) in omega (arith, linear)

-- a positive factor cancels
pub cancel_le : (k a b : ℤ) → pos 0 <ℤ k → (k *ℤ a) ≤ℤ (k *ℤ b) → a ≤ℤ b
cancel_le k a b p h = by_lt_z b a (λ g. absurd (clash g)) (λ g. g)
  where
    clash : b <ℤ a → ⊥
    clash g = let q = times_lt k b a p g in omega (arith, linear)

pub cancel_lt : (k a b : ℤ) → pos 0 ≤ℤ k → (k *ℤ a) <ℤ (k *ℤ b) → a <ℤ b
cancel_lt k a b p h = by_lt_z a b (λ g. g) (λ g. absurd (clash g))
  where
    clash : b ≤ℤ a → ⊥
    clash g = let q = times_le k b a p g in omega (arith, linear)

pub cancel_same : (k a b : ℤ) → pos 0 <ℤ k → k *ℤ a ≡ k *ℤ b → a ≡ b
cancel_same k a b p e =
    let forth = cancel_le k a b p (omega (arith, linear)) in
    let back = cancel_le k b a p (omega (arith, linear)) in omega (arith, linear)

-- a positive factor of a number with a sign
pub cancel_nonnegative : (k a : ℤ) → pos 0 <ℤ k → pos 0 ≤ℤ (k *ℤ a) → pos 0 ≤ℤ a
cancel_nonnegative k a p h = by_lt_z a (pos 0) (λ g. absurd (clash g)) (λ g. g)
  where
    clash : a <ℤ pos 0 → ⊥
    clash g =
        let e = identity (k ∷ a ∷ []) (# 0 ⊗ (lit (pos 0) ⊖ # 1)) (lit (pos 0) ⊖ # 0 ⊗ # 1) refl in
        let q = positive_product k (pos 0 -ℤ a) p (omega (arith, linear)) in omega (arith, linear)

pub cancel_positive : (k a : ℤ) → pos 0 ≤ℤ k → pos 0 <ℤ (k *ℤ a) → pos 0 <ℤ a
cancel_positive k a p h = by_lt_z (pos 0) a (λ g. g) (λ g. absurd (clash g))
  where
    clash : a ≤ℤ pos 0 → ⊥
    clash g =
        let e = identity (k ∷ a ∷ []) (# 0 ⊗ (lit (pos 0) ⊖ # 1)) (lit (pos 0) ⊖ # 0 ⊗ # 1) refl in
        let q = nonnegative_product k (pos 0 -ℤ a) p (omega (arith, linear)) in omega (arith, linear)

pub cancel_zero : (k a : ℤ) → pos 0 <ℤ k → k *ℤ a ≡ pos 0 → a ≡ pos 0
cancel_zero k a p e =
    let z = identity (k ∷ []) (# 0 ⊗ lit (pos 0)) (lit (pos 0)) refl in
    cancel_same k a (pos 0) p (e ∙ sym z)

-- a product is 0 where a factor is
pub zero_product : (a b : ℤ) → a *ℤ b ≡ pos 0 → (a ≡ pos 0) ⊎ (b ≡ pos 0)
zero_product (pos zero) b e = inl refl
zero_product (pos (suc a)) b e = inr (cancel_zero (pos (suc a)) b (omega (arith, linear)) e)
zero_product (negsuc a) b e =
    let z = identity (negsuc a ∷ b ∷ []) ((lit (pos 0) ⊖ # 0) ⊗ # 1) (lit (pos 0) ⊖ # 0 ⊗ # 1) refl in
    inr (cancel_zero (pos 0 -ℤ negsuc a) b (omega (arith, linear)) (omega (arith, linear)))
