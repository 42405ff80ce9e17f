-- Bounds of products.
use Rattle.std.proofs.Common.{◌≡◌, ◌^◌, [], ◌∷◌, ℤ, pos, neg_ℤ, ◌+ℤ◌, ◌-ℤ◌, ◌*ℤ◌, ◌≤ℤ◌, ◌<ℤ◌, refl, ap, ◌∙◌, arith}
use Rattle.std.proofs.lemmas.Int.{ints, to_z-of_z}
use mir.Syntax.{w16, w32, w64, w128}
use mir.Val.{to_z, of_z, SFits}
use Rattle.lay_point.proofs.Polynomials.{#, lit, ◌⊕◌, ◌⊖◌, ◌⊗◌, identity}
use Rattle.lay_point.proofs.Signs.{linear, nonnegative_product}

-- a number between minus m and m
pub record IsUpTo (m a : ℤ) : Type 0 where
  pub low : neg_ℤ m ≤ℤ a
  pub high : a ≤ℤ m

pub IsUpTo-product : (m n a b : ℤ) → IsUpTo m a → IsUpTo n b → IsUpTo (m *ℤ n) (a *ℤ b)
IsUpTo-product m n a b h g =
    let e = identity (m ∷ n ∷ a ∷ b ∷ [])
    ((# 0 ⊖ # 2) ⊗ (# 1 ⊕ # 3) ⊕ (# 0 ⊕ # 2) ⊗ (# 1 ⊖ # 3)) (lit (pos 2) ⊗ (# 0 ⊗ # 1) ⊖ lit (pos 2) ⊗ (# 2 ⊗ # 3)) refl in
    let f = identity (m ∷ n ∷ a ∷ b ∷ [])
    ((# 0 ⊖ # 2) ⊗ (# 1 ⊖ # 3) ⊕ (# 0 ⊕ # 2) ⊗ (# 1 ⊕ # 3)) (lit (pos 2) ⊗ (# 0 ⊗ # 1) ⊕ lit (pos 2) ⊗ (# 2 ⊗ # 3)) refl in
    let p = nonnegative_product (m -ℤ a) (n +ℤ b) (omega (arith, linear, h.high)) (omega (arith, linear, g.low)) in
    let q = nonnegative_product (m +ℤ a) (n -ℤ b) (omega (arith, linear, h.low)) (omega (arith, linear, g.high)) in
    let r = nonnegative_product (m -ℤ a) (n -ℤ b) (omega (arith, linear, h.high)) (omega (arith, linear, g.high)) in
    let s = nonnegative_product (m +ℤ a) (n +ℤ b) (omega (arith, linear, h.low)) (omega (arith, linear, g.low)) in
    record { low = omega (arith, linear); high = omega (arith, linear) }

-- the product r of two differences of coordinates, as code passes them
pub record IsProduct (a b r : ℤ) : Type 0 where
  pub is : r ≡ a *ℤ b
  pub small : IsUpTo (pos (2 ^ 64)) r

pub IsProduct-differences : (a b r : ℤ) → neg_ℤ (pos (2 ^ 32)) <ℤ a → a <ℤ pos (2 ^ 32) → neg_ℤ (pos (2 ^ 32)) <ℤ b → b <ℤ pos (2 ^ 32)
    → r ≡ to_z w64 (of_z w64 a) *ℤ to_z w64 (of_z w64 b) → IsProduct a b r
IsProduct-differences a b r al ah bl bh e =
    let fits_a : SFits w64 a = omega (arith, ints) in
    let fits_b : SFits w64 b = omega (arith, ints) in
    let is : r ≡ a *ℤ b = e ∙ (λ i. to_z-of_z w64 a fits_a i *ℤ to_z-of_z w64 b fits_b i) in
    let p = IsUpTo-product (pos (2 ^ 32)) (pos (2 ^ 32)) a b (record { low = omega (arith, linear); high = omega (arith, linear) })
    (record { low = omega (arith, linear); high = omega (arith, linear) }) in
    record { is = is; small = rw is p }

-- a difference, as code passes the coordinates
pub difference_is : (a b r : ℤ) → SFits w32 a → SFits w32 b → r ≡ to_z w32 (of_z w32 b) -ℤ to_z w32 (of_z w32 a) → r ≡ b -ℤ a
difference_is a b r f g e = e ∙ (λ i. to_z-of_z w32 b g i -ℤ to_z-of_z w32 a f i)

-- the difference of two such products, as code returns it
pub record IsArea (r s t : ℤ) : Type 0 where
  pub is : t ≡ r -ℤ s
  pub small : IsUpTo (pos (2 ^ 65)) t

pub IsArea-products : (r s : ℤ) → IsUpTo (pos (2 ^ 64)) r → IsUpTo (pos (2 ^ 64)) s
    → IsArea r s (to_z w128 (of_z w128 (to_z w128 (of_z w128 r) -ℤ to_z w128 (of_z w128 s))))
IsArea-products r s h g =
    let fits_r : SFits w128 r = omega (arith, ints, h.low, h.high) in
    let fits_s : SFits w128 s = omega (arith, ints, g.low, g.high) in
    let fits : SFits w128 (r -ℤ s) = omega (arith, ints, h.low, h.high, g.low, g.high) in
    let is : to_z w128 (of_z w128 (to_z w128 (of_z w128 r) -ℤ to_z w128 (of_z w128 s))) ≡ r -ℤ s =
    ap (λ z. to_z w128 (of_z w128 z)) (λ i. to_z-of_z w128 r fits_r i -ℤ to_z-of_z w128 s fits_s i) ∙ to_z-of_z w128 (r -ℤ s) fits in
    record {
      is = is;
      small = rw is (record { low = omega (arith, linear, h.low, g.high); high = omega (arith, linear, h.high, g.low) });
    }

-- ---- how far a point is in a direction
-- a product of a part of a direction and a coordinate, as code returns it
pub IsUpTo-times : (a b x y : ℤ) → SFits w16 a → SFits w32 b → x ≡ a → y ≡ b
    → IsUpTo (pos (2 ^ 46)) (to_z w64 (of_z w64 (to_z w64 (of_z w64 x) *ℤ to_z w64 (of_z w64 y))))
IsUpTo-times a b x y f g ea eb =
    let fits_x : SFits w64 x = omega (arith, ints) in
    let fits_y : SFits w64 y = omega (arith, ints) in
    let p = IsUpTo-product (pos (2 ^ 15)) (pos (2 ^ 31)) a b (record { low = omega (arith, ints); high = omega (arith, ints) })
    (record { low = omega (arith, ints); high = omega (arith, ints) }) in
    let fits : SFits w64 (a *ℤ b) = omega (arith, ints, p.low, p.high) in
    let is : to_z w64 (of_z w64 (to_z w64 (of_z w64 x) *ℤ to_z w64 (of_z w64 y))) ≡ a *ℤ b =
    ap (λ z. to_z w64 (of_z w64 z)) (λ i. (to_z-of_z w64 x fits_x ∙ ea) i *ℤ (to_z-of_z w64 y fits_y ∙ eb) i)
    ∙ to_z-of_z w64 (a *ℤ b) fits in
    rw is p

-- the sum of two of them
pub sum_of_products : (r s : ℤ) → IsUpTo (pos (2 ^ 46)) r → IsUpTo (pos (2 ^ 46)) s
    → to_z w64 (of_z w64 (to_z w64 (of_z w64 r) +ℤ to_z w64 (of_z w64 s))) ≡ r +ℤ s
sum_of_products r s h g =
    let fits_r : SFits w64 r = omega (arith, ints, h.low, h.high) in
    let fits_s : SFits w64 s = omega (arith, ints, g.low, g.high) in
    let fits : SFits w64 (r +ℤ s) = omega (arith, ints, h.low, h.high, g.low, g.high) in
    ap (λ z. to_z w64 (of_z w64 z)) (λ i. to_z-of_z w64 r fits_r i +ℤ to_z-of_z w64 s fits_s i) ∙ to_z-of_z w64 (r +ℤ s) fits

-- a product of a part of a direction and a coordinate, as code passes these
pub product_is : (a b r : ℤ) → SFits w16 a → SFits w32 b → r ≡ to_z w16 (of_z w16 a) *ℤ to_z w32 (of_z w32 b) → r ≡ a *ℤ b
product_is a b r f g e = e ∙ (λ i. to_z-of_z w16 a f i *ℤ to_z-of_z w32 b g i)
