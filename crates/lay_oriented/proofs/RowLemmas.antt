-- Side by side over a band of heights: where neighbours of a list from right to left are in order, the slants to the right of a
-- place are the first of the list. So where their directions take turns, they count 0 or 1.
use Rattle.std.proofs.Common.{◌≡◌, ◌⊎◌, inl, inr, Bool, true, false, not, cond, ◌&&◌, List, [], ◌∷◌}
use Rattle.std.proofs.Common.{ℤ, pos, ◌+ℤ◌, ◌-ℤ◌, ◌*ℤ◌, ◌≤ℤ◌, ◌<ℤ◌, refl, sym, ap, ◌∙◌, subst, arith}
use Rattle.std.specs.Bool.{beq}
use Rattle.std.specs.Prelude.{int_le, int_lt}
use Rattle.std.proofs.lemmas.Bool.{and_parts}
use Rattle.lay_point.proofs.Polynomials.{Expr, #, ◌⊕◌, ◌⊖◌, ◌⊗◌, identity}
use Rattle.lay_point.proofs.Signs.{linear, nonnegative_product, positive_product, times_le, cancel_lt, cancel_nonnegative, cancel_positive}
use Rattle.lay_point.proofs.Tests.{le_true, lt_false, lt_true, true_le, true_lt}
use Rattle.lay_point.specs.Parity.{is_crossed_rising, distance_right}
use Rattle.snap_pixels.specs.Segments.{cross}
use Rattle.lay_oriented.specs.declared.slant.Slant.{Slant}
use Rattle.lay_oriented.specs.Slants.{counts, gap_at_bottom, gap_at_top, is_not_left, leads, signed, slant_count, spans, take_turns}
use Rattle.lay_oriented.specs.Once.{IsZeroOrOne}

-- the two parts of how far e is to the right of f, times both rises: at height y and scale k it is level e f * k + lean e f * y
abbrev rise : Slant → ℤ
rise s = s.high.y -ℤ s.low.y

abbrev run : Slant → ℤ
run s = s.high.x -ℤ s.low.x

abbrev level : Slant → Slant → ℤ
level e f = (e.low.x *ℤ rise e -ℤ e.low.y *ℤ run e) *ℤ rise f -ℤ (f.low.x *ℤ rise f -ℤ f.low.y *ℤ run f) *ℤ rise e

abbrev lean : Slant → Slant → ℤ
lean e f = run e *ℤ rise f -ℤ run f *ℤ rise e

apart : (e f : Slant) (k x y : ℤ)
    → rise f *ℤ distance_right k x y e.low e.high -ℤ rise e *ℤ distance_right k x y f.low f.high ≡ k *ℤ level e f +ℤ y *ℤ lean e f
apart e f k x y =
    let vs = k ∷ x ∷ y ∷ e.low.x ∷ e.low.y ∷ rise e ∷ run e ∷ f.low.x ∷ f.low.y ∷ rise f ∷ run f ∷ [] in
    identity vs
    (# 9 ⊗ ((# 0 ⊗ # 3 ⊖ # 1) ⊗ # 5 ⊕ (# 2 ⊖ # 0 ⊗ # 4) ⊗ # 6) ⊖ # 5 ⊗ ((# 0 ⊗ # 7 ⊖ # 1) ⊗ # 9 ⊕ (# 2 ⊖ # 0 ⊗ # 8) ⊗ # 10))
    (# 0 ⊗ ((# 3 ⊗ # 5 ⊖ # 4 ⊗ # 6) ⊗ # 9 ⊖ (# 7 ⊗ # 9 ⊖ # 8 ⊗ # 10) ⊗ # 5) ⊕ # 2 ⊗ (# 6 ⊗ # 9 ⊖ # 10 ⊗ # 5)) refl

-- ---- at a height where one of them has an end
abbrev ends_of : Slant → Slant → List ℤ
ends_of e f = e.low.x ∷ e.low.y ∷ e.high.x ∷ e.high.y ∷ f.low.x ∷ f.low.y ∷ f.high.x ∷ f.high.y ∷ []

abbrev at_height : Expr → Expr
at_height h =
    ((# 0 ⊗ (# 3 ⊖ # 1) ⊖ # 1 ⊗ (# 2 ⊖ # 0)) ⊗ (# 7 ⊖ # 5) ⊖ (# 4 ⊗ (# 7 ⊖ # 5) ⊖ # 5 ⊗ (# 6 ⊖ # 4)) ⊗ (# 3 ⊖ # 1))
    ⊕ h ⊗ ((# 2 ⊖ # 0) ⊗ (# 7 ⊖ # 5) ⊖ (# 6 ⊖ # 4) ⊗ (# 3 ⊖ # 1))

low_by_f : (e f : Slant) → level e f +ℤ e.low.y *ℤ lean e f ≡ rise e *ℤ cross f.low e.low f.low f.high
low_by_f e f = identity (ends_of e f) (at_height (# 1))
    ((# 3 ⊖ # 1) ⊗ ((# 0 ⊖ # 4) ⊗ (# 7 ⊖ # 5) ⊖ (# 1 ⊖ # 5) ⊗ (# 6 ⊖ # 4))) refl

low_by_e : (e f : Slant) → level e f +ℤ f.low.y *ℤ lean e f ≡ rise f *ℤ cross f.low e.low e.low e.high
low_by_e e f = identity (ends_of e f) (at_height (# 5))
    ((# 7 ⊖ # 5) ⊗ ((# 0 ⊖ # 4) ⊗ (# 3 ⊖ # 1) ⊖ (# 1 ⊖ # 5) ⊗ (# 2 ⊖ # 0))) refl

high_by_f : (e f : Slant) → level e f +ℤ e.high.y *ℤ lean e f ≡ rise e *ℤ cross f.high e.high f.low f.high
high_by_f e f = identity (ends_of e f) (at_height (# 3))
    ((# 3 ⊖ # 1) ⊗ ((# 2 ⊖ # 6) ⊗ (# 7 ⊖ # 5) ⊖ (# 3 ⊖ # 7) ⊗ (# 6 ⊖ # 4))) refl

high_by_e : (e f : Slant) → level e f +ℤ f.high.y *ℤ lean e f ≡ rise f *ℤ cross f.high e.high e.low e.high
high_by_e e f = identity (ends_of e f) (at_height (# 7))
    ((# 7 ⊖ # 5) ⊗ ((# 2 ⊖ # 6) ⊗ (# 3 ⊖ # 1) ⊖ (# 3 ⊖ # 7) ⊗ (# 2 ⊖ # 0))) refl

-- the slant reaches from the one height to the other
record Reaches (low high : ℤ) (s : Slant) : Type 0 where
  from : s.low.y ≤ℤ low
  to : high ≤ℤ s.high.y

reaches : (low high : ℤ) (s : Slant) → spans low high s ≡ true → Reaches low high s
reaches low high s h =
    let parts = and_parts (int_le s.low.y low) (int_le high s.high.y) h in
    record { from = le_true s.low.y low parts.0; to = le_true high s.high.y parts.1 }

module _ (low high : ℤ) (order : low <ℤ high) (e f : Slant) (here : Reaches low high e) (there : Reaches low high f) where
  rise_e : pos 0 ≤ℤ rise e
  rise_e = omega (arith, linear, here.from, here.to)

  rise_f : pos 0 ≤ℤ rise f
  rise_f = omega (arith, linear, there.from, there.to)

  bottom : pos 0 ≤ℤ gap_at_bottom e f → (h : ℤ) × (h ≤ℤ low) × (pos 0 ≤ℤ (level e f +ℤ h *ℤ lean e f))
  bottom = elim (int_le f.low.y e.low.y) as (λ b. pos 0 ≤ℤ cond b (cross f.low e.low f.low f.high) (cross f.low e.low e.low e.high)
      → (h : ℤ) × (h ≤ℤ low) × (pos 0 ≤ℤ (level e f +ℤ h *ℤ lean e f))) [
        | true ↦ λ g. (
          e.low.y,
          here.from,
          subst (λ z. pos 0 ≤ℤ z) (sym (low_by_f e f))
              (nonnegative_product (rise e) (cross f.low e.low f.low f.high) rise_e g),
        )
        | false ↦ λ g. (
          f.low.y,
          there.from,
          subst (λ z. pos 0 ≤ℤ z) (sym (low_by_e e f))
              (nonnegative_product (rise f) (cross f.low e.low e.low e.high) rise_f g),
        )
      ]

  top : pos 0 ≤ℤ gap_at_top e f → (h : ℤ) × (high ≤ℤ h) × (pos 0 ≤ℤ (level e f +ℤ h *ℤ lean e f))
  top = elim (int_le e.high.y f.high.y) as (λ b. pos 0 ≤ℤ cond b (cross f.high e.high f.low f.high) (cross f.high e.high e.low e.high)
      → (h : ℤ) × (high ≤ℤ h) × (pos 0 ≤ℤ (level e f +ℤ h *ℤ lean e f))) [
        | true ↦ λ g. (
          e.high.y,
          here.to,
          subst (λ z. pos 0 ≤ℤ z) (sym (high_by_f e f))
              (nonnegative_product (rise e) (cross f.high e.high f.low f.high) rise_e g),
        )
        | false ↦ λ g. (
          f.high.y,
          there.to,
          subst (λ z. pos 0 ≤ℤ z) (sym (high_by_e e f))
              (nonnegative_product (rise f) (cross f.high e.high e.low e.high) rise_f g),
        )
      ]

  -- between two heights where e isn't left of f it isn't either
  between : (k y : ℤ) → pos 1 ≤ℤ k → (k *ℤ low) ≤ℤ y → y <ℤ (k *ℤ high) → is_not_left e f ≡ true
      → pos 0 ≤ℤ (k *ℤ level e f +ℤ y *ℤ lean e f)
  between k y scale from to apart =
      let parts = and_parts (int_le (pos 0) (gap_at_bottom e f)) (int_le (pos 0) (gap_at_top e f)) apart in
      let b = bottom (le_true (pos 0) (gap_at_bottom e f) parts.0) in
      let t = top (le_true (pos 0) (gap_at_top e f) parts.1) in
      mixed b.0 t.0 b.1 t.1 b.2 t.2
    where
      mixed : (h g : ℤ) → h ≤ℤ low → high ≤ℤ g → pos 0 ≤ℤ (level e f +ℤ h *ℤ lean e f) → pos 0 ≤ℤ (level e f +ℤ g *ℤ lean e f)
          → pos 0 ≤ℤ (k *ℤ level e f +ℤ y *ℤ lean e f)
      mixed h g below above low_sum high_sum =
          let positive : pos 0 ≤ℤ k = omega (arith, linear) in
          let under = times_le k h low positive below in
          let over = times_le k high g positive above in
          let one = nonnegative_product (y -ℤ k *ℤ h) (level e f +ℤ g *ℤ lean e f) (omega (arith, linear)) high_sum in
          let other = nonnegative_product (k *ℤ g -ℤ y) (level e f +ℤ h *ℤ lean e f) (omega (arith, linear)) low_sum in
          let sum = identity (k ∷ y ∷ h ∷ g ∷ level e f ∷ lean e f ∷ []) ((# 3 ⊖ # 2) ⊗ (# 0 ⊗ # 4 ⊕ # 1 ⊗ # 5))
          ((# 1 ⊖ # 0 ⊗ # 2) ⊗ (# 4 ⊕ # 3 ⊗ # 5) ⊕ (# 0 ⊗ # 3 ⊖ # 1) ⊗ (# 4 ⊕ # 2 ⊗ # 5)) refl in
          cancel_nonnegative (g -ℤ h) (k *ℤ level e f +ℤ y *ℤ lean e f) (omega (arith, linear)) (omega (arith, linear))

  -- so where f is right of a place, e is
  right_too : (k x y : ℤ) → pos 1 ≤ℤ k → (k *ℤ low) ≤ℤ y → y <ℤ (k *ℤ high) → is_not_left e f ≡ true
      → pos 0 <ℤ distance_right k x y f.low f.high → pos 0 <ℤ distance_right k x y e.low e.high
  right_too k x y scale from to apart_ right =
      let gap = between k y scale from to apart_ in
      let sum = apart e f k x y in
      let far = positive_product (rise e) (distance_right k x y f.low f.high) (omega (arith, linear, here.from, here.to)) right in
      cancel_positive (rise f) (distance_right k x y e.low e.high) rise_f (omega (arith, linear))

-- ---- a band
module _ (low high k x y : ℤ) (scale : pos 1 ≤ℤ k) (from : (k *ℤ low) ≤ℤ y) (to : y <ℤ (k *ℤ high)) where
  order : low <ℤ high
  order = cancel_lt k low high (omega (arith, linear)) (omega (arith, linear))

  abbrev distance : Slant → ℤ
  distance s = distance_right k x y s.low s.high

  -- a slant that spans the band is crossed where it is right of the place
  crossed_is : (s : Slant) → Reaches low high s → is_crossed_rising k x y s.low s.high ≡ int_lt (pos 0) (distance s)
  crossed_is s reach =
      let under = times_le k s.low.y low (omega (arith, linear)) reach.from in
      let over = times_le k high s.high.y (omega (arith, linear)) reach.to in
      ap (λ b. b && int_lt (pos 0) (distance s)) (both_so (int_le (k *ℤ s.low.y) y) (int_lt y (k *ℤ s.high.y))
      (true_le (k *ℤ s.low.y) y (omega (arith, linear))) (true_lt y (k *ℤ s.high.y) (omega (arith, linear))))
    where
      both_so : (a b : Bool) → a ≡ true → b ≡ true → (a && b) ≡ true
      both_so a b ea eb = cc

  abbrev is_right : Slant → Bool
  is_right s = int_lt (pos 0) (distance s)

  count_is : (s : Slant) → Reaches low high s → slant_count k x y s ≡ cond (is_right s) (signed s.up) (pos 0)
  count_is s reach = ap (λ b. cond b (signed s.up) (pos 0)) (crossed_is s reach)

  record IsFirst (up : Bool) (e : Slant) (es : List Slant) : Type 0 where
    reach : Reaches low high e
    same : e.up ≡ up
    lead : leads e es ≡ true
    rest : take_turns low high (not up) es ≡ true

  first_is : (up : Bool) (e : Slant) (es : List Slant) → take_turns low high up (e ∷ es) ≡ true → IsFirst up e es
  first_is up e es h =
      let c = and_parts (spans low high e && beq e.up up && leads e es) (take_turns low high (not up) es) h in
      let b = and_parts (spans low high e && beq e.up up) (leads e es) c.0 in
      let a = and_parts (spans low high e) (beq e.up up) b.0 in
      record { reach = reaches low high e a.0; same = same_bool e.up up a.1; lead = b.1; rest = c.1 }
    where
      same_bool : (p q : Bool) → beq p q ≡ true → p ≡ q
      same_bool true true h = refl
      same_bool true false h = absurd cc
      same_bool false true h = absurd cc
      same_bool false false h = refl

  -- behind one that isn't right of the place none is
  none_right : (up : Bool) (e : Slant) (es : List Slant) → take_turns low high up (e ∷ es) ≡ true → is_right e ≡ false
      → counts k x y (e ∷ es) ≡ pos 0
  none_right up e [] h misses =
      let p = first_is up e [] h in
      let one = count_is e p.reach ∙ ap (λ b. cond b (signed e.up) (pos 0)) misses in omega (arith, linear)
  none_right up e (f ∷ fs) h misses =
      let p = first_is up e (f ∷ fs) h in
      let q = first_is (not up) f fs p.rest in
      let one = count_is e p.reach ∙ ap (λ b. cond b (signed e.up) (pos 0)) misses in
      let far = lt_false (pos 0) (distance e) misses in
      let rest = none_right (not up) f fs p.rest (not_true (is_right f) (λ yes.
      let near = right_too low high order e f p.reach q.reach k x y scale from to p.lead (lt_true (pos 0) (distance f) yes) in
      omega (arith, linear))) in
      omega (arith, linear)
    where
      not_true : (b : Bool) → (b ≡ true → ⊥) → b ≡ false
      not_true true no_ = absurd (no_ refl)
      not_true false no_ = refl

  turns_count : (up : Bool) (es : List Slant) → take_turns low high up es ≡ true
      → (counts k x y es ≡ pos 0) ⊎ (counts k x y es ≡ signed up)
  turns_count up [] h = inl refl
  turns_count up (e ∷ es) h =
      let p = first_is up e es h in by_test p (turns_count (not up) es p.rest) (is_right e) refl
    where
      flipped : (up : Bool) (c : ℤ) → (c ≡ pos 0) ⊎ (c ≡ signed (not up)) → (signed up +ℤ c ≡ pos 0) ⊎ (signed up +ℤ c ≡ signed up)
      flipped true c (inl e) = inr (omega (arith, linear))
      flipped true c (inr e) = inl (omega (arith, linear))
      flipped false c (inl e) = inr (omega (arith, linear))
      flipped false c (inr e) = inl (omega (arith, linear))

      by_test : IsFirst up e es → (counts k x y es ≡ pos 0) ⊎ (counts k x y es ≡ signed (not up)) → (b : Bool) → is_right e ≡ b
          → (counts k x y (e ∷ es) ≡ pos 0) ⊎ (counts k x y (e ∷ es) ≡ signed up)
      by_test p rest true hits =
          let one : slant_count k x y e ≡ signed up = count_is e p.reach ∙ ap (λ b. cond b (signed e.up) (pos 0)) hits ∙ ap signed p.same in
          subst (λ z. (z +ℤ counts k x y es ≡ pos 0) ⊎ (z +ℤ counts k x y es ≡ signed up)) (sym one)
          (flipped up (counts k x y es) rest)
      by_test p rest false misses = inl (none_right up e es h misses)

  pub once_in_band : (es : List Slant) → take_turns low high true es ≡ true → IsZeroOrOne (counts k x y es)
  once_in_band es h = turns_count true es h
