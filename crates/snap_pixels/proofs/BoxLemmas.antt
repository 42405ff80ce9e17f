-- Points of segments whose boxes are apart.
use Rattle.std.proofs.Common.{◌≡◌, ◌↔◌, Some, None, ◌⊎◌, inl, inr, ⊎_elim, [], ◌∷◌, ℤ, pos, ◌+ℤ◌, ◌-ℤ◌, ◌*ℤ◌, ◌≤ℤ◌, ◌<ℤ◌, refl, sym, arith}
use Rattle.lay_point.proofs.Polynomials.{#, lit, ◌⊕◌, ◌⊖◌, ◌⊗◌, identity}
use Rattle.lay_point.proofs.Signs.{linear, below_or_not, nonnegative_product}
use Rattle.lay_point.specs.declared.point.Point.{Point}
use Rattle.snap_pixels.specs.Boxes.{ArePairsApart, IsPairBelow}
use Rattle.snap_pixels.specs.Pixels.{IsRoundedTo}
use Rattle.snap_pixels.specs.Segments.{Crosses, IsFraction, Meets, along}
use Rattle.snap_pixels.proofs.RoundLemmas.{IsRoundedTo-high, IsRoundedTo-low}

module _ (k t : ℤ) (f : IsFraction t k) (a b : ℤ) where
  pub along_at_most : (h : ℤ) → a ≤ℤ h → b ≤ℤ h → along k t a b ≤ℤ (h *ℤ k)
  along_at_most h p q =
      let e = identity (k ∷ t ∷ a ∷ b ∷ h ∷ [])
      ((# 4 ⊖ # 2) ⊗ (# 0 ⊖ # 1) ⊕ (# 4 ⊖ # 3) ⊗ # 1) (# 4 ⊗ # 0 ⊖ (# 2 ⊗ (# 0 ⊖ # 1) ⊕ # 3 ⊗ # 1)) refl in
      let left = nonnegative_product (h -ℤ a) (k -ℤ t) (omega (arith, linear)) (omega (arith, linear, f.high)) in
      let right = nonnegative_product (h -ℤ b) t (omega (arith, linear)) f.low in
      omega (arith, linear)

  pub along_at_least : (h : ℤ) → h ≤ℤ a → h ≤ℤ b → (h *ℤ k) ≤ℤ along k t a b
  along_at_least h p q =
      let e = identity (k ∷ t ∷ a ∷ b ∷ h ∷ [])
      ((# 2 ⊖ # 4) ⊗ (# 0 ⊖ # 1) ⊕ (# 3 ⊖ # 4) ⊗ # 1) (# 2 ⊗ (# 0 ⊖ # 1) ⊕ # 3 ⊗ # 1 ⊖ # 4 ⊗ # 0) refl in
      let left = nonnegative_product (a -ℤ h) (k -ℤ t) (omega (arith, linear)) (omega (arith, linear, f.high)) in
      let right = nonnegative_product (b -ℤ h) t (omega (arith, linear)) f.low in
      omega (arith, linear)

-- the greater of two numbers below two others
between : (a b c d : ℤ) → IsPairBelow a b c d → (h : ℤ) × (a ≤ℤ h) × (b ≤ℤ h) × (h <ℤ c) × (h <ℤ d)
between a b c d w =
    ⊎_elim
    (λ (lt : a <ℤ b). (b, omega (arith, linear), omega (arith, linear), w.2, w.3))
    (λ (ge : b ≤ℤ a). (a, omega (arith, linear), omega (arith, linear), w.0, w.1))
    (below_or_not a b)

below_apart : (k t t' a b c d : ℤ) → IsFraction t k → IsFraction t' k → IsPairBelow a b c d → along k t a b ≡ along k t' c d → ⊥
below_apart k t t' a b c d f f' w e =
    let m = between a b c d w in
    let high = along_at_most k t f a b m.0 m.1 m.2 in
    let low = along_at_least k t' f' c d (m.0 +ℤ pos 1) (omega (arith, linear, m.3)) (omega (arith, linear, m.4)) in
    let next = identity (k ∷ m.0 ∷ []) ((# 1 ⊕ lit (pos 1)) ⊗ # 0) (# 1 ⊗ # 0 ⊕ # 0) refl in
    omega (arith, linear, f.scale)

pub no_common : (k t t' a b c d : ℤ) → IsFraction t k → IsFraction t' k → ArePairsApart a b c d → along k t a b ≡ along k t' c d → ⊥
no_common k t t' a b c d f f' (inl w) e = below_apart k t t' a b c d f f' w e
no_common k t t' a b c d f f' (inr w) e = below_apart k t' t c d a b f' f w (sym e)

pub no_rounding : (k t a b c : ℤ) → IsFraction t k → ArePairsApart a b c c → IsRoundedTo c k (along k t a b) → ⊥
no_rounding k t a b c f (inl w) r =
    let m = between a b c c w in
    let high = IsRoundedTo-high m.0 c k (along k t a b) f.scale (along_at_most k t f a b m.0 m.1 m.2) r in
    omega (arith, linear, m.3)
no_rounding k t a b c f (inr w) r =
    let low = IsRoundedTo-low (c +ℤ pos 1) c k (along k t a b) f.scale
    (along_at_least k t f a b (c +ℤ pos 1) (omega (arith, linear, w.0)) (omega (arith, linear, w.1))) r in
    omega (arith, linear)

no_crossing : (a b c d p : Point) → ArePairsApart a.x b.x c.x d.x ⊎ ArePairsApart a.y b.y c.y d.y → Crosses a b c d p → ⊥
no_crossing a b c d p (inl w) (apart, k, t, t', h, place) = no_common k t t' a.x b.x c.x d.x h.first h.second w h.column
no_crossing a b c d p (inr w) (apart, k, t, t', h, place) = no_common k t t' a.y b.y c.y d.y h.first h.second w h.row

pub Crosses-apart : (a b c d : Point) → ArePairsApart a.x b.x c.x d.x ⊎ ArePairsApart a.y b.y c.y d.y
    → (p : Point) → Crosses a b c d p ↔ (None ≡ Some p)
Crosses-apart a b c d w p = ((λ h. absurd (no_crossing a b c d p w h)), (λ e. cc))

pub Meets-apart : (a b c : Point) → ArePairsApart a.x b.x c.x c.x ⊎ ArePairsApart a.y b.y c.y c.y → Meets a b c → ⊥
Meets-apart a b c (inl w) (k, t, f, place) = no_rounding k t a.x b.x c.x f w place.column
Meets-apart a b c (inr w) (k, t, f, place) = no_rounding k t a.y b.y c.y f w place.row
