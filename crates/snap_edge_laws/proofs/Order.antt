-- The order of a chain is strict, and follows the segment: of two of its places the one that comes first is rounded to a
-- centre with no greater key, and centres with equal keys are one.
use Rattle.std.proofs.Common.{◌≡◌, zero, suc, [], ◌∷◌, ℤ, pos, negsuc, ◌-ℤ◌, ◌*ℤ◌, ◌≤ℤ◌, refl, ap, subst, arith}
use Rattle.std.specs.Int.{int_signum}
use Rattle.lay_point.specs.declared.point.Point.{Point}
use Rattle.snap_pixels.specs.declared.segment.Segment.{Segment}
use Rattle.snap_pixels.specs.Pixels.{IsRoundedTo, HoldsPlace}
use Rattle.snap_pixels.specs.Segments.{along}
use Rattle.snap_edge_laws.specs.Edges.{key}
use Rattle.lay_point.proofs.Polynomials.{#, lit, ◌⊕◌, ◌⊖◌, ◌⊗◌, ⊝, identity}
use Rattle.lay_point.proofs.Signs.{linear, nonnegative_product}
use Rattle.lay_point.proofs.EdgeOrder.{same_point}
use Rattle.snap_edge_laws.proofs.Rounding.{rounded_le}

-- the coordinates c and c' in a direction of this sign: c is no further, and where it is as far they are equal
record IsNoFurther (direction c c' : ℤ) : Type 0 where
  pub le : (direction *ℤ c) ≤ℤ (direction *ℤ c')
  pub same : direction *ℤ c ≡ direction *ℤ c' → c ≡ c'

by_direction : (d k t t' a b c c' : ℤ) → d ≡ b -ℤ a → pos 1 ≤ℤ k → t ≤ℤ t'
    → IsRoundedTo c k (along k t a b) → IsRoundedTo c' k (along k t' a b) → IsNoFurther (int_signum d) c c'
by_direction (pos zero) k t t' a b c c' e scale le h h' =
    let still : a ≡ b = omega (arith, linear) in
    let spread = identity (k ∷ t ∷ t' ∷ a ∷ []) (# 3 ⊗ (# 0 ⊖ # 1) ⊕ # 3 ⊗ # 1) (# 3 ⊗ (# 0 ⊖ # 2) ⊕ # 3 ⊗ # 2) refl in
    let one_place : along k t a b ≡ along k t' a b = subst (λ (z : ℤ). along k t a z ≡ along k t' a z) still spread in
    let forth = rounded_le k (along k t a b) (along k t' a b) c c' scale h h' (omega (arith, linear)) in
    let back = rounded_le k (along k t' a b) (along k t a b) c' c scale h' h (omega (arith, linear)) in
    let one : c ≡ c' = omega (arith, linear) in
    let products = ap (λ (z : ℤ). pos 0 *ℤ z) one in
    record { le = omega (arith, linear); same = λ _. one }
by_direction (pos (suc n)) k t t' a b c c' e scale le h h' =
    let spread = identity (k ∷ t ∷ t' ∷ a ∷ b ∷ [])
    ((# 4 ⊖ # 3) ⊗ (# 2 ⊖ # 1)) ((# 3 ⊗ (# 0 ⊖ # 2) ⊕ # 4 ⊗ # 2) ⊖ (# 3 ⊗ (# 0 ⊖ # 1) ⊕ # 4 ⊗ # 1)) refl in
    let further = nonnegative_product (b -ℤ a) (t' -ℤ t) (omega (arith, linear)) (omega (arith, linear)) in
    let forth = rounded_le k (along k t a b) (along k t' a b) c c' scale h h' (omega (arith, linear)) in
    let one = identity (c ∷ []) (lit (pos 1) ⊗ # 0) (# 0) refl in
    let one' = identity (c' ∷ []) (lit (pos 1) ⊗ # 0) (# 0) refl in
    let sign : pos 1 ≡ int_signum (pos (suc n)) = ap pos (omega arith) in
    subst (λ (z : ℤ). IsNoFurther z c c') sign
    (record { le = omega (arith, linear); same = λ (s : pos 1 *ℤ c ≡ pos 1 *ℤ c'). omega (arith, linear) })
by_direction (negsuc n) k t t' a b c c' e scale le h h' =
    let spread = identity (k ∷ t ∷ t' ∷ a ∷ b ∷ [])
    ((# 3 ⊖ # 4) ⊗ (# 2 ⊖ # 1)) ((# 3 ⊗ (# 0 ⊖ # 1) ⊕ # 4 ⊗ # 1) ⊖ (# 3 ⊗ (# 0 ⊖ # 2) ⊕ # 4 ⊗ # 2)) refl in
    let further = nonnegative_product (a -ℤ b) (t' -ℤ t) (omega (arith, linear)) (omega (arith, linear)) in
    let back = rounded_le k (along k t' a b) (along k t a b) c' c scale h' h (omega (arith, linear)) in
    let minus = identity (c ∷ []) (lit (negsuc 0) ⊗ # 0) (⊝ (# 0)) refl in
    let minus' = identity (c' ∷ []) (lit (negsuc 0) ⊗ # 0) (⊝ (# 0)) refl in
    record { le = omega (arith, linear); same = λ (s : negsuc 0 *ℤ c ≡ negsuc 0 *ℤ c'). omega (arith, linear) }

no_further : (k t t' a b c c' : ℤ) → pos 1 ≤ℤ k → t ≤ℤ t'
    → IsRoundedTo c k (along k t a b) → IsRoundedTo c' k (along k t' a b) → IsNoFurther (int_signum (b -ℤ a)) c c'
no_further k t t' a b c c' scale le h h' = by_direction (b -ℤ a) k t t' a b c c' refl scale le h h'

-- the pixel of c has the point of the segment at the fraction t / k
pub record IsSpot (s : Segment) (c : Point) (k t : ℤ) : Type 0 where
  pub scale : pos 1 ≤ℤ k
  pub low : pos 0 ≤ℤ t
  pub high : t ≤ℤ k
  pub holds : HoldsPlace c k (along k t s.a.x s.b.x) (along k t s.a.y s.b.y)

-- c's place comes first, so its key is no greater
pub key_le : (s : Segment) (c d : Point) (k t u : ℤ) → IsSpot s c k t → IsSpot s d k u → t ≤ℤ u → key s c ≤ℤ key s d
key_le s c d k t u h g le =
    let fx = no_further k t u s.a.x s.b.x c.x d.x h.scale le h.holds.column g.holds.column in
    let fy = no_further k t u s.a.y s.b.y c.y d.y h.scale le h.holds.row g.holds.row in
    omega (arith, linear, fx.le, fy.le)

-- centres with one key are one
pub key_same : (s : Segment) (c d : Point) (k t u : ℤ) → IsSpot s c k t → IsSpot s d k u → t ≤ℤ u → key s c ≡ key s d → c ≡ d
key_same s c d k t u h g le e =
    let fx = no_further k t u s.a.x s.b.x c.x d.x h.scale le h.holds.column g.holds.column in
    let fy = no_further k t u s.a.y s.b.y c.y d.y h.scale le h.holds.row g.holds.row in
    same_point c d (fx.same (omega (arith, linear, fx.le, fy.le))) (fy.same (omega (arith, linear, fx.le, fy.le)))
