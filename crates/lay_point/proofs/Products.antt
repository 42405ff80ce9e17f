-- The laws by which products and sums of whole numbers are rearranged. Each is read off the two natural parts of a number.
use Rattle.std.proofs.Common.{◌≡◌, ◌+◌, ◌*◌, ℤ, pos, ◌+ℤ◌, ◌*ℤ◌, neg_ℤ, ap, ◌∙◌, arith}
use borrow.Author.Differences.{up, down, same_in, sum_is_lem, neg_is, product_is}

up-product : (a b : ℤ) → up (a *ℤ b) ≡ up a * up b + down a * down b
up-product a b = (product_is a b).0

down-product : (a b : ℤ) → down (a *ℤ b) ≡ up a * down b + down a * up b
down-product a b = (product_is a b).1

pub *ℤ_comm : (a b : ℤ) → a *ℤ b ≡ b *ℤ a
*ℤ_comm a b = same_in (a *ℤ b) (b *ℤ a) (omega (arith, product_is a b, product_is b a))

pub *ℤ_assoc : (a b c : ℤ) → (a *ℤ b) *ℤ c ≡ a *ℤ (b *ℤ c)
*ℤ_assoc a b c = same_in _ _ (simp (up-product, down-product) (omega arith))

pub *ℤ-+ℤ : (a b c : ℤ) → a *ℤ (b +ℤ c) ≡ (a *ℤ b) +ℤ (a *ℤ c)
*ℤ-+ℤ a b c =
    let ups : up a * (up (b +ℤ c) + down b + down c) ≡ up a * (down (b +ℤ c) + up b + up c) = ap (λ n. up a * n) (sum_is_lem b c) in
    let downs : down a * (up (b +ℤ c) + down b + down c) ≡ down a * (down (b +ℤ c) + up b + up c) = ap (λ n. down a * n) (sum_is_lem b c) in
    same_in _ _ (omega (arith, sum_is_lem (a *ℤ b) (a *ℤ c), product_is a b, product_is a c, product_is a (b +ℤ c)))

pub +ℤ-*ℤ : (a b c : ℤ) → (a +ℤ b) *ℤ c ≡ (a *ℤ c) +ℤ (b *ℤ c)
+ℤ-*ℤ a b c = *ℤ_comm (a +ℤ b) c ∙ *ℤ-+ℤ c a b ∙ ap (λ x. x +ℤ (c *ℤ b)) (*ℤ_comm c a) ∙ ap (λ x. (a *ℤ c) +ℤ x) (*ℤ_comm c b)

pub neg_ℤ-*ℤ : (a b : ℤ) → neg_ℤ a *ℤ b ≡ neg_ℤ (a *ℤ b)
neg_ℤ-*ℤ a b = same_in _ _ (simp (up-product, down-product, neg_up, neg_down) (omega arith))
  where
    neg_up : (z : ℤ) → up (neg_ℤ z) ≡ down z
    neg_up z = (neg_is z).0

    neg_down : (z : ℤ) → down (neg_ℤ z) ≡ up z
    neg_down z = (neg_is z).1

pub one-*ℤ : (a : ℤ) → pos 1 *ℤ a ≡ a
one-*ℤ a = same_in _ _ (omega (arith, product_is (pos 1) a))

pub zero-*ℤ : (a : ℤ) → pos 0 *ℤ a ≡ pos 0
zero-*ℤ a = same_in _ _ (omega (arith, product_is (pos 0) a))

pub +ℤ_assoc : (a b c : ℤ) → (a +ℤ b) +ℤ c ≡ a +ℤ (b +ℤ c)
+ℤ_assoc a b c = same_in _ _ (omega (arith, sum_is_lem a b, sum_is_lem b c, sum_is_lem (a +ℤ b) c, sum_is_lem a (b +ℤ c)))

pub +ℤ_comm : (a b : ℤ) → a +ℤ b ≡ b +ℤ a
+ℤ_comm a b = same_in _ _ (omega (arith, sum_is_lem a b, sum_is_lem b a))

pub zero-+ℤ : (a : ℤ) → pos 0 +ℤ a ≡ a
zero-+ℤ a = same_in _ _ (omega (arith, sum_is_lem (pos 0) a))
