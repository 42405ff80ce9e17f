-- A level segment from a to b and an upright one from c to d have a common point just where x of the second is between the ends
-- of the first, and y of the first between those of the second. It is a whole point.
use Rattle.std.proofs.Common.{◌≡◌, ◌≢◌, inl, inr, ⊎_elim, ◌↔◌, Some, None, [], ◌∷◌, ℤ, pos, ◌+ℤ◌, ◌-ℤ◌, ◌*ℤ◌, ◌≤ℤ◌, ◌<ℤ◌}
use Rattle.std.proofs.Common.{refl, sym, subst, ap, ◌∙◌, arith}
use Rattle.lay_point.proofs.Polynomials.{#, lit, ◌⊕◌, ◌⊖◌, ◌⊗◌, identity}
use Rattle.lay_point.proofs.Signs.{linear, below_or_not, nonnegative_product, times_le}
use Rattle.lay_point.specs.declared.point.Point.{Point}
use Rattle.snap_pixels.specs.Boxes.{ArePairsApart, IsWithinEnds}
use Rattle.snap_pixels.specs.Pixels.{IsRoundedTo}
use Rattle.snap_pixels.specs.Segments.{AreParallel, Crosses, along, cross}
use Rattle.snap_pixels.proofs.BoxLemmas.{Crosses-apart}
use Rattle.snap_pixels.proofs.RoundLemmas.{IsRoundedTo-one}

not_between : (m a b : ℤ) → (IsWithinEnds m a b → ⊥) → ArePairsApart a b m m
not_between m a b out = ⊎_elim
    (λ (over : m <ℤ a). ⊎_elim
    (λ (over' : m <ℤ b). inr (over, over', over, over'))
    (λ (under : b ≤ℤ m). absurd (out (inr (under, omega (arith, linear)))))
    (below_or_not m b))
    (λ (under : a ≤ℤ m). ⊎_elim
    (λ (over : b <ℤ m). ⊎_elim
    (λ (less : a <ℤ m). inl (less, less, over, over))
    (λ (more : m ≤ℤ a). absurd (out (inr (omega (arith, linear), more))))
    (below_or_not a m))
    (λ (within : m ≤ℤ b). absurd (out (inl (under, within))))
    (below_or_not b m))
    (below_or_not m a)

apart_turned : (a b m : ℤ) → ArePairsApart a b m m → ArePairsApart m m a b
apart_turned a b m (inl h) = inr h
apart_turned a b m (inr h) = inl h

-- how far m is on the way, times the way
on_way : (m a b : ℤ) → IsWithinEnds m a b
    → (pos 0 ≤ℤ ((m -ℤ a) *ℤ (b -ℤ a))) × (((m -ℤ a) *ℤ (b -ℤ a)) ≤ℤ ((b -ℤ a) *ℤ (b -ℤ a)))
on_way m a b (inl h) =
    let p = nonnegative_product (m -ℤ a) (b -ℤ a) (omega (arith, linear, h.0)) (omega (arith, linear, h.0, h.1)) in
    let q = nonnegative_product (b -ℤ m) (b -ℤ a) (omega (arith, linear, h.1)) (omega (arith, linear, h.0, h.1)) in
    let e = identity (m ∷ a ∷ b ∷ []) ((# 2 ⊖ # 1) ⊗ (# 2 ⊖ # 1)) ((# 0 ⊖ # 1) ⊗ (# 2 ⊖ # 1) ⊕ (# 2 ⊖ # 0) ⊗ (# 2 ⊖ # 1)) refl in
    (p, omega (arith, linear))
on_way m a b (inr h) =
    let p = nonnegative_product (a -ℤ m) (a -ℤ b) (omega (arith, linear, h.1)) (omega (arith, linear, h.0, h.1)) in
    let q = nonnegative_product (m -ℤ b) (a -ℤ b) (omega (arith, linear, h.0)) (omega (arith, linear, h.0, h.1)) in
    let e = identity (m ∷ a ∷ b ∷ []) ((# 0 ⊖ # 1) ⊗ (# 2 ⊖ # 1)) ((# 1 ⊖ # 0) ⊗ (# 1 ⊖ # 2)) refl in
    let f = identity (m ∷ a ∷ b ∷ []) ((# 2 ⊖ # 1) ⊗ (# 2 ⊖ # 1)) ((# 0 ⊖ # 1) ⊗ (# 2 ⊖ # 1) ⊕ (# 0 ⊖ # 2) ⊗ (# 1 ⊖ # 2)) refl in
    (omega (arith, linear), omega (arith, linear))

square_some : (z : ℤ) → (z ≡ pos 0 → ⊥) → pos 1 ≤ℤ (z *ℤ z)
square_some z apart = ⊎_elim
    (λ (more : pos 0 <ℤ z).
    let p = nonnegative_product (z -ℤ pos 1) (z +ℤ pos 1) (omega (arith, linear)) (omega (arith, linear)) in
    let e = identity (z ∷ []) ((# 0 ⊖ lit (pos 1)) ⊗ (# 0 ⊕ lit (pos 1))) (# 0 ⊗ # 0 ⊖ lit (pos 1)) refl in
    omega (arith, linear))
    (λ (less : z ≤ℤ pos 0). ⊎_elim
    (λ (below : z <ℤ pos 0).
    let p = nonnegative_product (pos 0 -ℤ z -ℤ pos 1) (pos 1 -ℤ z) (omega (arith, linear)) (omega (arith, linear)) in
    let e = identity (z ∷ []) ((lit (pos 0) ⊖ # 0 ⊖ lit (pos 1)) ⊗ (lit (pos 1) ⊖ # 0)) (# 0 ⊗ # 0 ⊖ lit (pos 1)) refl in
    omega (arith, linear))
    (λ (least : pos 0 ≤ℤ z). absurd (apart (omega (arith, linear))))
    (below_or_not z (pos 0)))
    (below_or_not (pos 0) z)

-- all places of a way from a number to itself
along_flat : (k t a b : ℤ) → a ≡ b → along k t a b ≡ a *ℤ k
along_flat k t a b e = (λ i. along k t a (sym e i)) ∙ identity (k ∷ t ∷ a ∷ []) (# 2 ⊗ (# 0 ⊖ # 1) ⊕ # 2 ⊗ # 1) (# 2 ⊗ # 0) refl

-- a whole place is in its own pixel
pub rounded_centre : (m k : ℤ) → pos 1 ≤ℤ k → IsRoundedTo m k (m *ℤ k)
rounded_centre m k one =
    let e = identity (m ∷ k ∷ []) (lit (pos 2) ⊗ # 0 ⊗ # 1) (lit (pos 2) ⊗ (# 0 ⊗ # 1)) refl in
    (omega (arith, linear), omega (arith, linear))

module _ (a b c d : Point) (level : a.y ≡ b.y) (upright : c.x ≡ d.x) where
  abbrev met : Point
  met = record { x = c.x; y = a.y }

  -- there is no other crossing
  is_met : (p : Point) → Crosses a b c d p → met ≡ p
  is_met p (apart, k, t, t', h, place) =
      let one = h.first.scale in
      let at_x = h.column ∙ along_flat k t' c.x d.x upright in
      let at_y = along_flat k t a.y b.y level in
      let column = IsRoundedTo-one c.x p.x k (c.x *ℤ k) one (rounded_centre c.x k one)
      (subst (λ z. IsRoundedTo p.x k z) at_x place.column) in
      let row = IsRoundedTo-one a.y p.y k (a.y *ℤ k) one (rounded_centre a.y k one) (subst (λ z. IsRoundedTo p.y k z) at_y place.row) in
      λ i. record { x = column i; y = row i }

  module _ (differ : a ≢ b) (differ' : c ≢ d) (in_x : IsWithinEnds c.x a.x b.x) (in_y : IsWithinEnds a.y c.y d.y) where
    abbrev wide : ℤ
    wide = (b.x -ℤ a.x) *ℤ (b.x -ℤ a.x)

    abbrev high : ℤ
    high = (d.y -ℤ c.y) *ℤ (d.y -ℤ c.y)

    abbrev scale : ℤ
    scale = high *ℤ wide

    abbrev part : ℤ
    part = high *ℤ ((c.x -ℤ a.x) *ℤ (b.x -ℤ a.x))

    abbrev part' : ℤ
    part' = wide *ℤ ((a.y -ℤ c.y) *ℤ (d.y -ℤ c.y))

    wide_some : pos 1 ≤ℤ wide
    wide_some = square_some (b.x -ℤ a.x) (λ z.
        let same : a.x ≡ b.x = omega (arith, linear) in
        differ (λ i. record { x = same i; y = level i }))

    high_some : pos 1 ≤ℤ high
    high_some = square_some (d.y -ℤ c.y) (λ z.
        let same : c.y ≡ d.y = omega (arith, linear) in
        differ' (λ i. record { x = upright i; y = same i }))

    scale_some : pos 1 ≤ℤ scale
    scale_some =
        let p = nonnegative_product (high -ℤ pos 1) wide (omega (arith, linear, high_some)) (omega (arith, linear, wide_some)) in
        let e = identity (high ∷ wide ∷ []) ((# 0 ⊖ lit (pos 1)) ⊗ # 1) (# 0 ⊗ # 1 ⊖ # 1) refl in
        omega (arith, linear, wide_some)

    crossed : Crosses a b c d met
    crossed =
        let x = on_way c.x a.x b.x in_x in
        let y = on_way a.y c.y d.y in_y in
        let low = nonnegative_product high ((c.x -ℤ a.x) *ℤ (b.x -ℤ a.x)) (omega (arith, linear, high_some)) x.0 in
        let low' = nonnegative_product wide ((a.y -ℤ c.y) *ℤ (d.y -ℤ c.y)) (omega (arith, linear, wide_some)) y.0 in
        let most = times_le high ((c.x -ℤ a.x) *ℤ (b.x -ℤ a.x)) wide (omega (arith, linear, high_some)) x.1 in
        let most' = times_le wide ((a.y -ℤ c.y) *ℤ (d.y -ℤ c.y)) high (omega (arith, linear, wide_some)) y.1 in
        let turned = identity (high ∷ wide ∷ []) (# 1 ⊗ # 0) (# 0 ⊗ # 1) refl in
        let at_x = identity (a.x ∷ b.x ∷ c.x ∷ high ∷ [])
        (# 0 ⊗ (# 3 ⊗ ((# 1 ⊖ # 0) ⊗ (# 1 ⊖ # 0)) ⊖ # 3 ⊗ ((# 2 ⊖ # 0) ⊗ (# 1 ⊖ # 0))) ⊕ # 1 ⊗ (# 3 ⊗ ((# 2 ⊖ # 0) ⊗ (# 1 ⊖ # 0))))
        (# 2 ⊗ (# 3 ⊗ ((# 1 ⊖ # 0) ⊗ (# 1 ⊖ # 0)))) refl in
        let at_y = identity (c.y ∷ d.y ∷ a.y ∷ wide ∷ [])
        (# 0 ⊗ (((# 1 ⊖ # 0) ⊗ (# 1 ⊖ # 0)) ⊗ # 3 ⊖ # 3 ⊗ ((# 2 ⊖ # 0) ⊗ (# 1 ⊖ # 0))) ⊕ # 1 ⊗ (# 3 ⊗ ((# 2 ⊖ # 0) ⊗ (# 1 ⊖ # 0))))
        (# 2 ⊗ (((# 1 ⊖ # 0) ⊗ (# 1 ⊖ # 0)) ⊗ # 3)) refl in
        let first_y = along_flat scale part a.y b.y level in
        let second_x = along_flat scale part' c.x d.x upright in (
          not_parallel,
          scale,
          part,
          part',
          record {
            first = record { scale = scale_some; low = low; high = most };
            second = record { scale = scale_some; low = low'; high = omega (arith, linear) };
            column = at_x ∙ sym second_x;
            row = first_y ∙ sym at_y;
          },
          record {
            column = subst (λ z. IsRoundedTo c.x scale z) (sym at_x) (rounded_centre c.x scale scale_some);
            row = subst (λ z. IsRoundedTo a.y scale z) (sym first_y) (rounded_centre a.y scale scale_some);
          },
        )
      where
        not_parallel : AreParallel a b c d → ⊥
        not_parallel none =
            let e : cross a b c d ≡ (b.x -ℤ a.x) *ℤ (d.y -ℤ c.y) =
            (λ i. (b.x -ℤ a.x) *ℤ (d.y -ℤ c.y) -ℤ (sym level i -ℤ a.y) *ℤ (d.x -ℤ c.x))
            ∙ identity (a.x ∷ b.x ∷ c.y ∷ d.y ∷ a.y ∷ c.x ∷ d.x ∷ [])
            ((# 1 ⊖ # 0) ⊗ (# 3 ⊖ # 2) ⊖ (# 4 ⊖ # 4) ⊗ (# 6 ⊖ # 5)) ((# 1 ⊖ # 0) ⊗ (# 3 ⊖ # 2)) refl in
            let z : (b.x -ℤ a.x) *ℤ (d.y -ℤ c.y) ≡ pos 0 = sym e ∙ none in
            let square = identity (a.x ∷ b.x ∷ c.y ∷ d.y ∷ [])
            (((# 3 ⊖ # 2) ⊗ (# 3 ⊖ # 2)) ⊗ ((# 1 ⊖ # 0) ⊗ (# 1 ⊖ # 0))) (((# 1 ⊖ # 0) ⊗ (# 3 ⊖ # 2)) ⊗ ((# 1 ⊖ # 0) ⊗ (# 3 ⊖ # 2))) refl in
            let is : scale ≡ pos 0 = square ∙ (λ i. z i *ℤ z i) in
            let some = scale_some in
            absurd (omega (arith, linear))

    pub Crosses-met : (q : Point) → q.x ≡ c.x → q.y ≡ a.y → (p : Point) → Crosses a b c d p ↔ (Some q ≡ Some p)
    Crosses-met q column row p =
        let is : q ≡ met = λ i. record { x = column i; y = row i } in (
          (λ x. ap Some (is ∙ is_met p x)),
          (λ e. let same : met ≡ p = sym is ∙ cc in subst (λ r. Crosses a b c d r) same crossed),
        )

  pub Crosses-missed_x : (IsWithinEnds c.x a.x b.x → ⊥) → (p : Point) → Crosses a b c d p ↔ (None ≡ Some p)
  Crosses-missed_x out =
      Crosses-apart a b c d (inl (subst (λ z. ArePairsApart a.x b.x c.x z) upright (not_between c.x a.x b.x out)))

  pub Crosses-missed_y : (IsWithinEnds a.y c.y d.y → ⊥) → (p : Point) → Crosses a b c d p ↔ (None ≡ Some p)
  Crosses-missed_y out =
      Crosses-apart a b c d (inr (subst (λ z. ArePairsApart a.y z c.y d.y) level (apart_turned c.y d.y a.y (not_between a.y c.y d.y out))))
