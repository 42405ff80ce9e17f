-- A box along an axis, as distances from its centre.
use Rattle.std.proofs.Common.{◌≡◌, ◌⊎◌, inl, inr, ℕ, zero, suc, Bool, true, false, cond, ◌&&◌, ◌||◌, List, [], ◌∷◌, Option, Some, None}
use Rattle.std.proofs.Common.{Result, Ok, Err, ℤ, pos, neg_ℤ, ◌+ℤ◌, ◌-ℤ◌, ◌*ℤ◌, ◌≤ℤ◌, ◌<ℤ◌, refl, sym, subst, ◌∙◌, arith}
use Rattle.std.specs.Prelude.{◌==◌, ◌↔◌, MatchOption, not, unwrap_or}
use Rattle.std.proofs.lemmas.Bool.{and_parts, false≢true}
use Rattle.std.proofs.lemmas.Bool.Decides.{nat_tests}
use Rattle.lay_point.proofs.Polynomials.{#, lit, ◌⊕◌, ◌⊖◌, ◌⊗◌, ⊝, identity}
use Rattle.lay_point.proofs.Products.{*ℤ_comm}
use Rattle.lay_point.proofs.Signs.{cancel_le, linear, times_le}
use Rattle.lay_point.specs.declared.point.Point.{Point}
use Rattle.lay_point.specs.Points.{is_in_range}
use Rattle.lay_point.proofs.NumberLaws.{suc_zero}
use Rattle.byte_io.proofs.Steps.{chosen_of}
use Rattle.cif_grammar.specs.declared.number.Number.{Number}
use Rattle.cif_grammar.specs.declared.boxes.BoxNumbers.{BoxNumbers}
use Rattle.cif_grammar.specs.declared.definitions.Scale.{Scale}
use Rattle.cif_grammar.specs.declared.paths.Vertex.{Vertex}
use Rattle.cif_read.specs.declared.content.Content.{Content}
use Rattle.cif_read.specs.declared.fault.FaultKind.{FaultKind}
use Rattle.cif_read.specs.declared.fault.FaultKind.TheVariants.{OffGrid, TooBig}
use Rattle.cif_read.specs.Boxes.{box_at, box_between, high_coordinate, high_corner, is_askew, is_flat, is_on_axis, is_whole_box}
use Rattle.cif_read.specs.Boxes.{is_whole_side, is_zero, low_coordinate, low_corner, ring_between, side_x, side_y, some_vertex}
use Rattle.cif_read.specs.Content.{after_box, current_scale}
use Rattle.cif_read.specs.Scales.{IsRatio, doubled, is_whole, scaled}
use Rattle.cif_read.proofs.RingFacts.{taken}
use Rattle.cif_read.proofs.ScaleLemmas.{scaled_exact}
use Rattle.cif_laws.specs.Boxes.{BoxesHoldTheirPoints, HasZeroSide, IsBoxOf, IsInBox, IsInRectangle, IsWithinHalf, away}
use Rattle.cif_laws.specs.Boxes.{box_direction}
use Rattle.cif_laws.specs.Boxes.{x_axis}
use Rattle.cif_laws.specs.Directions.{IsLength, x_of, y_of}
use Rattle.cif_laws.specs.Distances.{DrawsRing}
use Rattle.cif_laws.proofs.ChangeLemmas.{askew, no_value, vertex}
use Rattle.cif_laws.proofs.DistanceLemmas.{box_drew}

-- at most this much to either side
abbrev IsWithin : ℤ → ℤ → Type 0
IsWithin reach a = (neg_ℤ reach ≤ℤ a) × (a ≤ℤ reach)

-- ---- one axis

-- a place is between the two ends of a side where it is at most half a side from the centre
record AreEnds (scale : Scale) (n : Number) (side : ℕ) (low high : ℤ) : Type 0 where
  within : (place : ℤ) → low ≤ℤ place → place ≤ℤ high → IsWithin (pos side *ℤ pos scale.numerator) (away scale n place)
  low_end : (place : ℤ) → IsWithin (pos side *ℤ pos scale.numerator) (away scale n place) → low ≤ℤ place
  high_end : (place : ℤ) → IsWithin (pos side *ℤ pos scale.numerator) (away scale n place) → place ≤ℤ high

low_end_is : (low d c s n : ℤ) → low *ℤ d ≡ (c -ℤ s) *ℤ n → d *ℤ low ≡ c *ℤ n -ℤ s *ℤ n
low_end_is low d c s n e =
    *ℤ_comm d low ∙ e ∙ identity (c ∷ s ∷ n ∷ []) ((# 0 ⊖ # 1) ⊗ # 2) (# 0 ⊗ # 2 ⊖ # 1 ⊗ # 2) refl

high_end_is : (high d c s n : ℤ) → high *ℤ d ≡ (c +ℤ s) *ℤ n → d *ℤ high ≡ c *ℤ n +ℤ s *ℤ n
high_end_is high d c s n e =
    *ℤ_comm d high ∙ e ∙ identity (c ∷ s ∷ n ∷ []) ((# 0 ⊕ # 1) ⊗ # 2) (# 0 ⊗ # 2 ⊕ # 1 ⊗ # 2) refl

-- the same of plain numbers: `low` and `high` are c - s and c + s, times n and by d
ends_forth : (low high d c s n place : ℤ) → pos 0 <ℤ d → d *ℤ low ≡ c *ℤ n -ℤ s *ℤ n → d *ℤ high ≡ c *ℤ n +ℤ s *ℤ n
    → low ≤ℤ place → place ≤ℤ high → IsWithin (s *ℤ n) (place *ℤ d -ℤ c *ℤ n)
ends_forth low high d c s n place some at_low at_high over under =
    let turned = *ℤ_comm place d in
    let above = times_le d low place (omega (arith, linear)) over in
    let below = times_le d place high (omega (arith, linear)) under in
    (omega (arith, linear), omega (arith, linear))

ends_low : (low d c s n place : ℤ) → pos 0 <ℤ d → d *ℤ low ≡ c *ℤ n -ℤ s *ℤ n → neg_ℤ (s *ℤ n) ≤ℤ (place *ℤ d -ℤ c *ℤ n)
    → low ≤ℤ place
ends_low low d c s n place some at_low h =
    let turned = *ℤ_comm place d in
    cancel_le d low place some (omega (arith, linear))

ends_high : (high d c s n place : ℤ) → pos 0 <ℤ d → d *ℤ high ≡ c *ℤ n +ℤ s *ℤ n → (place *ℤ d -ℤ c *ℤ n) ≤ℤ (s *ℤ n)
    → place ≤ℤ high
ends_high high d c s n place some at_high h =
    let turned = *ℤ_comm place d in
    cancel_le d place high some (omega (arith, linear))

positive : (scale : Scale) → IsRatio scale → pos 0 <ℤ pos scale.denominator
positive scale ratio = let some = ratio.denominator in omega (arith, linear)

are_ends : (scale : Scale) (n : Number) (side : ℕ) → IsRatio scale → is_whole_side scale n side ≡ true
    → AreEnds scale n side (scaled scale (low_coordinate n side)) (scaled scale (high_coordinate n side))
are_ends scale n side ratio whole =
    let both = and_parts (is_whole scale (low_coordinate n side)) (is_whole scale (high_coordinate n side)) whole in
    let d = pos scale.denominator in
    let low = scaled scale (low_coordinate n side) in
    let high = scaled scale (high_coordinate n side) in
    let at_low = low_end_is low d (doubled n) (pos side) (pos scale.numerator) (scaled_exact scale (low_coordinate n side) both.0) in
    let at_high = high_end_is high d (doubled n) (pos side) (pos scale.numerator) (scaled_exact scale (high_coordinate n side) both.1) in
    record {
      within = λ place over under.
          ends_forth low high d (doubled n) (pos side) (pos scale.numerator) place (positive scale ratio) at_low at_high over under;
      low_end = λ place h. ends_low low d (doubled n) (pos side) (pos scale.numerator) place (positive scale ratio) at_low h.0;
      high_end = λ place h. ends_high high d (doubled n) (pos side) (pos scale.numerator) place (positive scale ratio) at_high h.1;
    }

-- ---- along and across a direction

-- half of a side and a distance from the centre, both times the length of a direction
half : (side n k a z : ℤ) → pos 0 <ℤ k → (z ≡ a *ℤ k) ⊎ (z ≡ neg_ℤ (a *ℤ k))
    → IsWithin (side *ℤ n) a ↔ IsWithinHalf (((pos 2 *ℤ side) *ℤ n) *ℤ k) z
half side n k a z some is = (forth, back)
  where
    whole : ((pos 2 *ℤ side) *ℤ n) *ℤ k ≡ pos 2 *ℤ (k *ℤ (side *ℤ n))
    whole = identity (side ∷ n ∷ k ∷ []) (((lit (pos 2) ⊗ # 0) ⊗ # 1) ⊗ # 2) (lit (pos 2) ⊗ (# 2 ⊗ (# 0 ⊗ # 1))) refl

    minus : k *ℤ neg_ℤ (side *ℤ n) ≡ neg_ℤ (k *ℤ (side *ℤ n))
    minus = identity (side ∷ n ∷ k ∷ []) (# 2 ⊗ (⊝ (# 0 ⊗ # 1))) (⊝ (# 2 ⊗ (# 0 ⊗ # 1))) refl

    turned : a *ℤ k ≡ k *ℤ a
    turned = *ℤ_comm a k

    forth : IsWithin (side *ℤ n) a → IsWithinHalf (((pos 2 *ℤ side) *ℤ n) *ℤ k) z
    forth h =
        let above = times_le k (neg_ℤ (side *ℤ n)) a (omega (arith, linear)) h.0 in
        let below = times_le k a (side *ℤ n) (omega (arith, linear)) h.1 in
        let e = whole in
        let m = minus in
        let t = turned in
        elim is [
          | inl same ↦ (omega (arith, linear), omega (arith, linear))
          | inr same ↦ (omega (arith, linear), omega (arith, linear))
        ]

    low : (k *ℤ neg_ℤ (side *ℤ n)) ≤ℤ (k *ℤ a) → neg_ℤ (side *ℤ n) ≤ℤ a
    low h = cancel_le k (neg_ℤ (side *ℤ n)) a some h

    high : (k *ℤ a) ≤ℤ (k *ℤ (side *ℤ n)) → a ≤ℤ (side *ℤ n)
    high h = cancel_le k a (side *ℤ n) some h

    back : IsWithinHalf (((pos 2 *ℤ side) *ℤ n) *ℤ k) z → IsWithin (side *ℤ n) a
    back h =
        let under = h.0 in
        let over = h.1 in
        let e = whole in
        let m = minus in
        let t = turned in
        elim is [
          | inl same ↦ (low (omega (arith, linear)), high (omega (arith, linear)))
          | inr same ↦ (low (omega (arith, linear)), high (omega (arith, linear)))
        ]

-- what is within half the length along a direction, and within half the width across it, is within the sides along the axes
record IsAligned (v : Vertex) (length width side_x side_y : ℕ) (n : ℤ) : Type 0 where
  reach : ℤ
  is_length : IsLength v reach
  along : (a b : ℤ) → IsWithin (pos side_x *ℤ n) a → IsWithin (pos side_y *ℤ n) b
      → IsWithinHalf (((pos 2 *ℤ pos length) *ℤ n) *ℤ reach) ((a *ℤ x_of v) +ℤ (b *ℤ y_of v))
  across : (a b : ℤ) → IsWithin (pos side_x *ℤ n) a → IsWithin (pos side_y *ℤ n) b
      → IsWithinHalf (((pos 2 *ℤ pos width) *ℤ n) *ℤ reach) ((b *ℤ x_of v) -ℤ (a *ℤ y_of v))
  within_x : (a b : ℤ) → IsWithinHalf (((pos 2 *ℤ pos length) *ℤ n) *ℤ reach) ((a *ℤ x_of v) +ℤ (b *ℤ y_of v))
      → IsWithinHalf (((pos 2 *ℤ pos width) *ℤ n) *ℤ reach) ((b *ℤ x_of v) -ℤ (a *ℤ y_of v)) → IsWithin (pos side_x *ℤ n) a
  within_y : (a b : ℤ) → IsWithinHalf (((pos 2 *ℤ pos length) *ℤ n) *ℤ reach) ((a *ℤ x_of v) +ℤ (b *ℤ y_of v))
      → IsWithinHalf (((pos 2 *ℤ pos width) *ℤ n) *ℤ reach) ((b *ℤ x_of v) -ℤ (a *ℤ y_of v)) → IsWithin (pos side_y *ℤ n) b

-- a number that a direction has, up to its sign
IsSigned : ℤ → ℤ → Type 0
IsSigned k u = (u ≡ k) ⊎ (u ≡ neg_ℤ k)

-- products with the two numbers of a direction of which one is 0
first_plus : (a b k u w : ℤ) → IsSigned k u → w ≡ pos 0 → (a *ℤ u +ℤ b *ℤ w ≡ a *ℤ k) ⊎ (a *ℤ u +ℤ b *ℤ w ≡ neg_ℤ (a *ℤ k))
unfolding IsSigned
first_plus a b k u w (inl s) z =
    inl ((λ i. a *ℤ s i +ℤ b *ℤ z i) ∙ identity (a ∷ b ∷ k ∷ []) (# 0 ⊗ # 2 ⊕ # 1 ⊗ lit (pos 0)) (# 0 ⊗ # 2) refl)
first_plus a b k u w (inr s) z =
    inr ((λ i. a *ℤ s i +ℤ b *ℤ z i) ∙ identity (a ∷ b ∷ k ∷ []) (# 0 ⊗ (⊝ (# 2)) ⊕ # 1 ⊗ lit (pos 0)) (⊝ (# 0 ⊗ # 2)) refl)

first_minus : (a b k u w : ℤ) → IsSigned k u → w ≡ pos 0 → (a *ℤ u -ℤ b *ℤ w ≡ a *ℤ k) ⊎ (a *ℤ u -ℤ b *ℤ w ≡ neg_ℤ (a *ℤ k))
unfolding IsSigned
first_minus a b k u w (inl s) z =
    inl ((λ i. a *ℤ s i -ℤ b *ℤ z i) ∙ identity (a ∷ b ∷ k ∷ []) (# 0 ⊗ # 2 ⊖ # 1 ⊗ lit (pos 0)) (# 0 ⊗ # 2) refl)
first_minus a b k u w (inr s) z =
    inr ((λ i. a *ℤ s i -ℤ b *ℤ z i) ∙ identity (a ∷ b ∷ k ∷ []) (# 0 ⊗ (⊝ (# 2)) ⊖ # 1 ⊗ lit (pos 0)) (⊝ (# 0 ⊗ # 2)) refl)

last_plus : (a b k u w : ℤ) → IsSigned k w → u ≡ pos 0 → (a *ℤ u +ℤ b *ℤ w ≡ b *ℤ k) ⊎ (a *ℤ u +ℤ b *ℤ w ≡ neg_ℤ (b *ℤ k))
unfolding IsSigned
last_plus a b k u w (inl s) z =
    inl ((λ i. a *ℤ z i +ℤ b *ℤ s i) ∙ identity (a ∷ b ∷ k ∷ []) (# 0 ⊗ lit (pos 0) ⊕ # 1 ⊗ # 2) (# 1 ⊗ # 2) refl)
last_plus a b k u w (inr s) z =
    inr ((λ i. a *ℤ z i +ℤ b *ℤ s i) ∙ identity (a ∷ b ∷ k ∷ []) (# 0 ⊗ lit (pos 0) ⊕ # 1 ⊗ (⊝ (# 2))) (⊝ (# 1 ⊗ # 2)) refl)

last_minus : (a b k u w : ℤ) → IsSigned k w → u ≡ pos 0 → (b *ℤ u -ℤ a *ℤ w ≡ a *ℤ k) ⊎ (b *ℤ u -ℤ a *ℤ w ≡ neg_ℤ (a *ℤ k))
unfolding IsSigned
last_minus a b k u w (inl s) z =
    inr ((λ i. b *ℤ z i -ℤ a *ℤ s i) ∙ identity (a ∷ b ∷ k ∷ []) (# 1 ⊗ lit (pos 0) ⊖ # 0 ⊗ # 2) (⊝ (# 0 ⊗ # 2)) refl)
last_minus a b k u w (inr s) z =
    inl ((λ i. b *ℤ z i -ℤ a *ℤ s i) ∙ identity (a ∷ b ∷ k ∷ []) (# 1 ⊗ lit (pos 0) ⊖ # 0 ⊗ (⊝ (# 2))) (# 0 ⊗ # 2) refl)

-- along the x axis the length is the side along x
flat_aligned : (v : Vertex) (length width : ℕ) (n k : ℤ) → pos 0 <ℤ k → IsSigned k (x_of v) → y_of v ≡ pos 0
    → IsAligned v length width length width n
unfolding IsSigned
flat_aligned v length width n k some x y = record {
  reach = k;
  is_length = record { some = some; square = by_sign x };
  along = λ a b f g. (half (pos length) n k a _ some (first_plus a b k (x_of v) (y_of v) x y)).0 f;
  across = λ a b f g. (half (pos width) n k b _ some (first_minus b a k (x_of v) (y_of v) x y)).0 g;
  within_x = λ a b f g. (half (pos length) n k a _ some (first_plus a b k (x_of v) (y_of v) x y)).1 f;
  within_y = λ a b f g. (half (pos width) n k b _ some (first_minus b a k (x_of v) (y_of v) x y)).1 g;
}
  where
    by_sign : IsSigned k (x_of v) → k *ℤ k ≡ x_of v *ℤ x_of v +ℤ y_of v *ℤ y_of v
    by_sign (inl s) = identity (k ∷ []) (# 0 ⊗ # 0) (# 0 ⊗ # 0 ⊕ lit (pos 0) ⊗ lit (pos 0)) refl
        ∙ (λ i. sym s i *ℤ sym s i +ℤ sym y i *ℤ sym y i)
    by_sign (inr s) = identity (k ∷ []) (# 0 ⊗ # 0) ((⊝ (# 0)) ⊗ (⊝ (# 0)) ⊕ lit (pos 0) ⊗ lit (pos 0)) refl
        ∙ (λ i. sym s i *ℤ sym s i +ℤ sym y i *ℤ sym y i)

-- along the y axis it is the side along y
tall_aligned : (v : Vertex) (length width : ℕ) (n k : ℤ) → pos 0 <ℤ k → IsSigned k (y_of v) → x_of v ≡ pos 0
    → IsAligned v length width width length n
unfolding IsSigned
tall_aligned v length width n k some y x = record {
  reach = k;
  is_length = record { some = some; square = by_sign y };
  along = λ a b f g. (half (pos length) n k b _ some (last_plus a b k (x_of v) (y_of v) y x)).0 g;
  across = λ a b f g. (half (pos width) n k a _ some (last_minus a b k (x_of v) (y_of v) y x)).0 f;
  within_x = λ a b f g. (half (pos width) n k a _ some (last_minus a b k (x_of v) (y_of v) y x)).1 g;
  within_y = λ a b f g. (half (pos length) n k b _ some (last_plus a b k (x_of v) (y_of v) y x)).1 f;
}
  where
    by_sign : IsSigned k (y_of v) → k *ℤ k ≡ x_of v *ℤ x_of v +ℤ y_of v *ℤ y_of v
    by_sign (inl s) = identity (k ∷ []) (# 0 ⊗ # 0) (lit (pos 0) ⊗ lit (pos 0) ⊕ # 0 ⊗ # 0) refl
        ∙ (λ i. sym x i *ℤ sym x i +ℤ sym s i *ℤ sym s i)
    by_sign (inr s) = identity (k ∷ []) (# 0 ⊗ # 0) (lit (pos 0) ⊗ lit (pos 0) ⊕ (⊝ (# 0)) ⊗ (⊝ (# 0))) refl
        ∙ (λ i. sym x i *ℤ sym x i +ℤ sym s i *ℤ sym s i)

aligned : (x_negative : Bool) (x : ℕ) (y_negative : Bool) (y : ℕ) → is_on_axis (vertex x_negative x y_negative y) ≡ true
    → (length width : ℕ) (n : ℤ)
    → IsAligned (vertex x_negative x y_negative y) length width (cond (x == 0) width length) (cond (x == 0) length width) n
unfolding IsSigned
aligned a zero b zero h length width n = absurd cc
aligned a (suc m) b (suc j) h length width n = absurd (false≢true (sym (askew a m b j) ∙ h))
aligned false (suc m) b zero h length width n =
    subst (λ u. IsAligned (vertex false (suc m) b 0) length width (cond u width length) (cond u length width) n) (sym (suc_zero m))
    (flat_aligned (vertex false (suc m) b 0) length width n (pos (suc m)) (omega (arith, linear)) (inl refl) (no_value b))
aligned true (suc m) b zero h length width n =
    subst (λ u. IsAligned (vertex true (suc m) b 0) length width (cond u width length) (cond u length width) n) (sym (suc_zero m))
    (flat_aligned (vertex true (suc m) b 0) length width n (pos (suc m)) (omega (arith, linear)) (inr refl) (no_value b))
aligned a zero false (suc j) h length width n =
    tall_aligned (vertex a 0 false (suc j)) length width n (pos (suc j)) (omega (arith, linear)) (inl refl) (no_value a)
aligned a zero true (suc j) h length width n =
    tall_aligned (vertex a 0 true (suc j)) length width n (pos (suc j)) (omega (arith, linear)) (inr refl) (no_value a)

-- ---- boxes

upright_is : (o : Option Vertex) → some_vertex (λ v. is_zero v.x) o ≡ is_zero (unwrap_or o x_axis).x
upright_is None = refl
upright_is (Some v) = refl

straight_is : (o : Option Vertex) → some_vertex (λ v. not (is_on_axis v)) o ≡ false → is_on_axis (unwrap_or o x_axis) ≡ true
straight_is None h = refl
straight_is (Some v) h = grind (arith, nat_tests)

box_aligned : (b : BoxNumbers) (n : ℤ) → is_askew b ≡ false → IsAligned (box_direction b) b.length b.width (side_x b) (side_y b) n
box_aligned b n straight =
    let v = box_direction b in
    subst (λ u. IsAligned (box_direction b) b.length b.width (cond u b.width b.length) (cond u b.length b.width) n)
    (sym (upright_is b.direction))
    (aligned v.x.negative v.x.magnitude v.y.negative v.y.magnitude (straight_is b.direction straight) b.length b.width n)

box_points : (scale : Scale) (b : BoxNumbers) → IsRatio scale → is_askew b ≡ false → is_whole_box scale b ≡ true → (length : ℤ)
    → (al : IsAligned (box_direction b) b.length b.width (side_x b) (side_y b) (pos scale.numerator)) → (p : Point)
    → IsInRectangle (low_corner scale b) (high_corner scale b) p ↔ IsInBox scale b al.reach p
box_points scale b ratio straight whole length al p =
    let sides = and_parts (is_whole_side scale b.centre.x (side_x b)) (is_whole_side scale b.centre.y (side_y b)) whole in
    let x = are_ends scale b.centre.x (side_x b) ratio sides.0 in
    let y = are_ends scale b.centre.y (side_y b) ratio sides.1 in
    let a = away scale b.centre.x p.x in
    let c = away scale b.centre.y p.y in (
      (λ h.
          let f = x.within p.x h.left h.right in
          let g = y.within p.y h.bottom h.top in
          record { along = al.along a c f g; across = al.across a c f g }),
      (λ h.
          let f = al.within_x a c h.along h.across in
          let g = al.within_y a c h.along h.across in
          record {
            left = x.low_end p.x f;
            right = x.high_end p.x f;
            bottom = y.low_end p.y g;
            top = y.high_end p.y g;
          }),
    )

abbrev IsBoxShape : Scale → BoxNumbers → Option (List Point) → Type 0
IsBoxShape scale b ring = MatchOption ring (HasZeroSide b) (IsBoxOf scale b)

zero_side : (b : BoxNumbers) → is_flat b ≡ true → HasZeroSide b
zero_side b h = by_length (b.length == 0) refl h where
  by_length : (t : Bool) → (b.length == 0) ≡ t → (t || b.width == 0) ≡ true → HasZeroSide b
  by_length true e h = inl (grind (arith, nat_tests))
  by_length false e h = inr (grind (arith, nat_tests))

ring_box : (scale : Scale) (b : BoxNumbers) (flat : Bool) (ring : Option (List Point)) → IsRatio scale → is_askew b ≡ false
    → is_whole_box scale b ≡ true → is_flat b ≡ flat → ring_between flat (low_corner scale b) (high_corner scale b) ≡ ring
    → IsBoxShape scale b ring
ring_box scale b true ring ratio straight whole is e = subst (IsBoxShape scale b) e (zero_side b is)
ring_box scale b false ring ratio straight whole is e =
    let al = box_aligned b (pos scale.numerator) straight in
    subst (IsBoxShape scale b) e (record {
      low = low_corner scale b;
      high = high_corner scale b;
      corners = refl;
      length = al.reach;
      is_length = al.is_length;
      points = λ p. box_points scale b ratio straight whole al.reach al p;
    })

between_box : (scale : Scale) (b : BoxNumbers) (ring : Option (List Point)) → IsRatio scale → is_askew b ≡ false
    → is_whole_box scale b ≡ true → box_between (is_flat b) (low_corner scale b) (high_corner scale b) ≡ Ok ring → IsBoxShape scale b ring
between_box scale b ring ratio straight whole e =
    elim (chosen_of (is_in_range (low_corner scale b) && is_in_range (high_corner scale b)) _ _ (Ok ring) e) [
      | inl good ↦
          let same : ring_between (is_flat b) (low_corner scale b) (high_corner scale b) ≡ ring = cc in
          ring_box scale b (is_flat b) ring ratio straight whole refl same
      | inr bad ↦ absurd (no TooBig ring bad.1)
    ]
  where
    no : (e : FaultKind) (x : Option (List Point)) → ◌≡◌ {A = Result (Option (List Point)) FaultKind} (Err e) (Ok x) → ⊥
    no e x h = cc

box_shape : (scale : Scale) (b : BoxNumbers) (ring : Option (List Point)) → IsRatio scale → is_askew b ≡ false → box_at scale b ≡ Ok ring
    → IsBoxShape scale b ring
unfolding box_at
box_shape scale b ring ratio straight e =
    taken (not (is_whole_box scale b)) OffGrid _ ring e (λ whole e. between_box scale b ring ratio straight (grind (arith, nat_tests)) e)

box_law : (content next : Content) (b : BoxNumbers) → IsRatio (current_scale content.definition) → after_box content b ≡ Ok next
    → DrawsRing content next (HasZeroSide b) (IsBoxOf (current_scale content.definition) b)
box_law content next b ratio e =
    let d = box_drew content next b e in
    record {
      layer = d.drew.layer;
      set = d.drew.set;
      ring = d.drew.ring;
      next_is = d.drew.next_is;
      wanted = box_shape (current_scale content.definition) b d.drew.ring ratio d.straight d.drew.is;
    }

pub boxes_law : BoxesHoldTheirPoints
boxes_law content next offset b ratio e = box_law content next b ratio e
