-- Places in pixels and on segments.
use Rattle.std.proofs.Common.{◌≡◌, [], ◌∷◌, ℤ, pos, ◌-ℤ◌, ◌*ℤ◌, ◌≤ℤ◌, refl, sym, subst, arith}
use Rattle.lay_point.proofs.Division.{rounded}
use Rattle.lay_point.proofs.Polynomials.{#, lit, ◌⊕◌, ◌⊖◌, ◌⊗◌, identity}
use Rattle.lay_point.proofs.Signs.{linear, positive_product}
use Rattle.snap_pixels.specs.Pixels.{IsRoundedTo}
use Rattle.snap_pixels.specs.Segments.{along}
use Rattle.snap_pixels.proofs.RoundLemmas.{IsRoundedTo-one, IsRoundedTo-same}
use Rattle.snap_pixels.proofs.CrossingLemmas.{along_back}
use Rattle.snap_laws.specs.PixelLaws.{CrossingsAreMet, EitherWayMeets, EndsAreMet, PlacesHaveOnePixel, ScalesAreFree}

pub one_pixel : PlacesHaveOnePixel
one_pixel k x y one =
    let column = rounded x k one in
    let row = rounded y k one in (
      record { x = column.0; y = row.0 },
      record { column = (column.1, column.2); row = (row.1, row.2) },
      λ d h.
          let e = IsRoundedTo-one column.0 d.x k x one (column.1, column.2) h.column in
          let f = IsRoundedTo-one row.0 d.y k y one (row.1, row.2) h.row in
          λ i. record { x = e i; y = f i },
    )

module _ (m k a : ℤ) where
  up : k *ℤ (m *ℤ a) ≡ (m *ℤ k) *ℤ a
  up = identity (m ∷ k ∷ a ∷ []) (# 1 ⊗ (# 0 ⊗ # 2)) (# 0 ⊗ # 1 ⊗ # 2) refl

pub free_scales : ScalesAreFree
free_scales c m k x y one one' =
    let p = positive_product m k (omega (arith, linear)) (omega (arith, linear)) in
    let both : pos 1 ≤ℤ (m *ℤ k) = omega (arith, linear) in (
      (λ h. record {
        column = IsRoundedTo-same c.x k x (m *ℤ k) (m *ℤ x) one' both (sym (up m k x)) h.column;
        row = IsRoundedTo-same c.y k y (m *ℤ k) (m *ℤ y) one' both (sym (up m k y)) h.row;
      }),
      (λ h. record {
        column = IsRoundedTo-same c.x (m *ℤ k) (m *ℤ x) k x both one' (up m k x) h.column;
        row = IsRoundedTo-same c.y (m *ℤ k) (m *ℤ y) k y both one' (up m k y) h.row;
      }),
    )

at_start : (a b : ℤ) → a ≡ along (pos 1) (pos 0) a b
at_start a b =
    identity (a ∷ b ∷ []) (# 0) (# 0 ⊗ (lit (pos 1) ⊖ lit (pos 0)) ⊕ # 1 ⊗ lit (pos 0)) refl

at_end : (a b : ℤ) → b ≡ along (pos 1) (pos 1) a b
at_end a b =
    identity (a ∷ b ∷ []) (# 1) (# 0 ⊗ (lit (pos 1) ⊖ lit (pos 1)) ⊕ # 1 ⊗ lit (pos 1)) refl

itself : (a x : ℤ) → a ≡ x → IsRoundedTo a (pos 1) x
itself a x e = let one = identity (a ∷ []) (lit (pos 2) ⊗ # 0 ⊗ lit (pos 1)) (lit (pos 2) ⊗ # 0) refl in
    (omega (arith, linear), omega (arith, linear))

pub ends_met : EndsAreMet
ends_met a b = (
  (
    pos 1,
    pos 0,
    record { scale = omega (arith, linear); low = omega (arith, linear); high = omega (arith, linear) },
    record { column = itself a.x _ (at_start a.x b.x); row = itself a.y _ (at_start a.y b.y) },
  ),
  (
    pos 1,
    pos 1,
    record { scale = omega (arith, linear); low = omega (arith, linear); high = omega (arith, linear) },
    record { column = itself b.x _ (at_end a.x b.x); row = itself b.y _ (at_end a.y b.y) },
  ),
)

pub crossings_met : CrossingsAreMet
crossings_met a b a' b' c (apart, k, t, t', h, place) = (
  (k, t, h.first, place),
  (
    k,
    t',
    h.second,
    record {
      column = subst (λ x. IsRoundedTo c.x k x) h.column place.column;
      row = subst (λ y. IsRoundedTo c.y k y) h.row place.row;
    },
  ),
)

pub met_either_way : EitherWayMeets
met_either_way a b c (k, t, f, place) = (
  k,
  k -ℤ t,
  record { scale = f.scale; low = omega (arith, linear, f.high); high = omega (arith, linear, f.low) },
  record {
    column = subst (λ x. IsRoundedTo c.x k x) (along_back k t a.x b.x) place.column;
    row = subst (λ y. IsRoundedTo c.y k y) (along_back k t a.y b.y) place.row;
  },
)
