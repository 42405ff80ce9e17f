-- The edges of a row: those that pass the height r + 1/2. There they have one order, and it is their order all over the row.
use Rattle.std.proofs.Common.{◌≡◌, Bool, true, false, not, ◌&&◌, [], ◌∷◌, ℤ, pos, ◌+ℤ◌, ◌-ℤ◌, ◌*ℤ◌, ◌≤ℤ◌, ◌<ℤ◌}
use Rattle.std.proofs.Common.{refl, sym, ◌∙◌, ⊎_elim, arith}
use Rattle.std.specs.Prelude.{int_lt}
use Rattle.lay_point.proofs.Polynomials.{#, identity, lit, swap_product, ◌⊕◌, ◌⊖◌, ◌⊗◌}
use Rattle.lay_point.proofs.Signs.{below_or_not, linear, nonnegative_product, positive_product, times_le, times_lt, cancel_le, cancel_lt}
use Rattle.lay_point.proofs.Tests.{false_le, le_false, le_true, lt_true, true_le, true_lt}
use Rattle.lay_point.specs.declared.point.Point.{Point}
use Rattle.lay_point.specs.Parity.{distance_right, is_crossed}
use Rattle.lay_point.proofs.Products.{*ℤ_comm}
use Rattle.snap_edge_laws.specs.Meeting.{MeetAtEnds}
use Rattle.face_side_laws.proofs.Sides.{IsWithin, at_height, height_there, no_end_outside, not_on, right_of, scale_there}
use Rattle.face_side_laws.proofs.Slide.{IsPlaceInside, rising_only, starts}

-- the edge passes the height r + 1/2
pub record Spans (r : ℤ) (e : Point × Point) : Type 0 where
  pub low : e.0.y ≤ℤ r
  pub high : r <ℤ e.1.y

-- ---- its place there
abbrev pub row_k : Point × Point → ℤ
row_k e = pos 2 *ℤ (e.1.y -ℤ e.0.y)

abbrev pub row_x : ℤ → Point × Point → ℤ
row_x r e = (pos 2 *ℤ e.1.y -ℤ (pos 2 *ℤ r +ℤ pos 1)) *ℤ e.0.x +ℤ ((pos 2 *ℤ r +ℤ pos 1) -ℤ pos 2 *ℤ e.0.y) *ℤ e.1.x

abbrev pub row_y : ℤ → Point × Point → ℤ
row_y r e = (pos 2 *ℤ r +ℤ pos 1) *ℤ (e.1.y -ℤ e.0.y)

pub rises_in : (r : ℤ) (e : Point × Point) → Spans r e → e.0.y <ℤ e.1.y
rises_in r e h = omega (arith, linear, h.low, h.high)

row_scale : (z w : ℤ) → (pos 2 *ℤ w) *ℤ z ≡ w *ℤ (pos 2 *ℤ z)
row_scale z w = identity (z ∷ w ∷ []) ((lit (pos 2) ⊗ # 1) ⊗ # 0) (# 1 ⊗ (lit (pos 2) ⊗ # 0)) refl

pub row_inside : (r : ℤ) (e : Point × Point) → Spans r e → IsPlaceInside e.0 e.1 (row_k e) (row_x r e) (row_y r e)
row_inside r e h =
    let g = e.1.y -ℤ e.0.y in
    let positive : pos 0 <ℤ g = omega (arith, linear, h.low, h.high) in
    let low = times_lt g (pos 2 *ℤ e.0.y) (pos 2 *ℤ r +ℤ pos 1) positive (omega (arith, linear, h.low)) in
    let high = times_lt g (pos 2 *ℤ r +ℤ pos 1) (pos 2 *ℤ e.1.y) positive (omega (arith, linear, h.high)) in
    record {
      scale = omega (arith, linear);
      on = identity (e.0.x ∷ e.0.y ∷ e.1.x ∷ e.1.y ∷ r ∷ [])
          (((lit (pos 2) ⊗ (# 3 ⊖ # 1)) ⊗ # 0
          ⊖ ((lit (pos 2) ⊗ # 3 ⊖ (lit (pos 2) ⊗ # 4 ⊕ lit (pos 1))) ⊗ # 0 ⊕ ((lit (pos 2) ⊗ # 4 ⊕ lit (pos 1)) ⊖ lit (pos 2) ⊗ # 1) ⊗ # 2))
          ⊗ (# 3 ⊖ # 1)
          ⊕ ((lit (pos 2) ⊗ # 4 ⊕ lit (pos 1)) ⊗ (# 3 ⊖ # 1) ⊖ (lit (pos 2) ⊗ (# 3 ⊖ # 1)) ⊗ # 1) ⊗ (# 2 ⊖ # 0))
          (lit (pos 0)) refl;
      above = omega (arith, linear, low, row_scale e.0.y g, *ℤ_comm (pos 2 *ℤ r +ℤ pos 1) g);
      below = omega (arith, linear, high, row_scale e.1.y g, *ℤ_comm (pos 2 *ℤ r +ℤ pos 1) g);
    }

-- ---- the order there
pub record IsLeft (r : ℤ) (e f : Point × Point) : Type 0 where
  pub less : (row_k f *ℤ row_x r e) <ℤ (row_k e *ℤ row_x r f)

-- twice how far f is to the right of e's place
pub row_distance : (r : ℤ) (e f : Point × Point)
    → pos 2 *ℤ distance_right (row_k e) (row_x r e) (row_y r e) f.0 f.1 ≡ row_k e *ℤ row_x r f -ℤ row_k f *ℤ row_x r e
row_distance r e f =
    let C = lit (pos 2) ⊗ # 8 ⊕ lit (pos 1) in
    let ke = lit (pos 2) ⊗ (# 3 ⊖ # 1) in
    let xe = (lit (pos 2) ⊗ # 3 ⊖ C) ⊗ # 0 ⊕ (C ⊖ lit (pos 2) ⊗ # 1) ⊗ # 2 in
    let ye = C ⊗ (# 3 ⊖ # 1) in
    let kf = lit (pos 2) ⊗ (# 7 ⊖ # 5) in
    let xf = (lit (pos 2) ⊗ # 7 ⊖ C) ⊗ # 4 ⊕ (C ⊖ lit (pos 2) ⊗ # 5) ⊗ # 6 in
    identity (e.0.x ∷ e.0.y ∷ e.1.x ∷ e.1.y ∷ f.0.x ∷ f.0.y ∷ f.1.x ∷ f.1.y ∷ r ∷ [])
    (lit (pos 2) ⊗ ((ke ⊗ # 4 ⊖ xe) ⊗ (# 7 ⊖ # 5) ⊕ (ye ⊖ ke ⊗ # 5) ⊗ (# 6 ⊖ # 4)))
    (ke ⊗ xf ⊖ kf ⊗ xe) refl

-- ---- crossed from a place of the row
three_true : (a b c : Bool) → (a && not b && c) ≡ true → (a ≡ true) × (b ≡ false) × (c ≡ true)
three_true true false true e = (refl, refl, refl)
three_true true false false e = absurd cc
three_true true true c e = absurd cc
three_true false b c e = absurd cc

all_three : (a b c : Bool) → a ≡ true → b ≡ false → c ≡ true → (a && not b && c) ≡ true
all_three a b c f g h = rw (f, g, h) refl

-- the place's height is in the row
pub record IsInRow (r k y : ℤ) : Type 0 where
  pub scale : pos 1 ≤ℤ k
  pub low : (k *ℤ r) ≤ℤ y
  pub high : y <ℤ (k *ℤ (r +ℤ pos 1))

-- an edge is crossed from a place of the row where it spans the row and is to the right
pub crossed_spans : (r k x y : ℤ) (f : Point × Point) → IsInRow r k y → f.0.y ≤ℤ f.1.y → is_crossed k x y f ≡ true
    → Spans r f × (pos 0 <ℤ distance_right k x y f.0 f.1)
crossed_spans r k x y f q up h =
    let t = three_true (starts k y f.0) (starts k y f.1) (int_lt (pos 0) (distance_right k x y f.0 f.1))
    (sym (rising_only k x y f.0 f.1 q.scale up) ∙ h) in
    let low : f.0.y <ℤ (r +ℤ pos 1) =
    cancel_lt k f.0.y (r +ℤ pos 1) (omega (arith, linear, q.scale)) (omega (arith, linear, q.high, le_true (k *ℤ f.0.y) y t.0)) in
    let high : r <ℤ f.1.y =
    cancel_lt k r f.1.y (omega (arith, linear, q.scale)) (omega (arith, linear, q.low, le_false (k *ℤ f.1.y) y t.1)) in
    (record { low = omega (arith, linear); high = high }, lt_true (pos 0) (distance_right k x y f.0 f.1) t.2)

pub spans_crossed : (r k x y : ℤ) (f : Point × Point) → IsInRow r k y → Spans r f → pos 0 <ℤ distance_right k x y f.0 f.1
    → is_crossed k x y f ≡ true
spans_crossed r k x y f q s right =
    let first = times_le k f.0.y r (omega (arith, linear, q.scale)) s.low in
    let last = times_le k (r +ℤ pos 1) f.1.y (omega (arith, linear, q.scale)) (omega (arith, linear, s.high)) in
    rising_only k x y f.0 f.1 q.scale (omega (arith, linear, s.low, s.high))
    ∙ all_three (starts k y f.0) (starts k y f.1) (int_lt (pos 0) (distance_right k x y f.0 f.1))
    (true_le (k *ℤ f.0.y) y (omega (arith, linear, q.low))) (false_le (k *ℤ f.1.y) y (omega (arith, linear, q.high)))
    (true_lt (pos 0) (distance_right k x y f.0 f.1) right)

pub row_place : (r : ℤ) (e : Point × Point) → Spans r e → IsInRow r (row_k e) (row_y r e)
row_place r e h =
    let g = e.1.y -ℤ e.0.y in
    let positive : pos 0 <ℤ g = omega (arith, linear, h.low, h.high) in
    let low = times_lt g (pos 2 *ℤ r) (pos 2 *ℤ r +ℤ pos 1) positive (omega (arith, linear)) in
    let high = times_lt g (pos 2 *ℤ r +ℤ pos 1) (pos 2 *ℤ (r +ℤ pos 1)) positive (omega (arith, linear)) in
    record {
      scale = omega (arith, linear);
      low = omega (arith, linear, low, row_scale r g, *ℤ_comm (pos 2 *ℤ r +ℤ pos 1) g);
      high = omega (arith, linear, high, row_scale (r +ℤ pos 1) g, *ℤ_comm (pos 2 *ℤ r +ℤ pos 1) g);
    }

-- the place of f there, from e
row_right : (r : ℤ) (e f : Point × Point)
    → right_of e.0 e.1 f.0 f.1 (pos 2 *ℤ f.1.y -ℤ (pos 2 *ℤ r +ℤ pos 1)) ((pos 2 *ℤ r +ℤ pos 1) -ℤ pos 2 *ℤ f.0.y)
    ≡ distance_right (row_k f) (row_x r f) (row_y r f) e.0 e.1
row_right r e f =
    let C = lit (pos 2) ⊗ # 8 ⊕ lit (pos 1) in
    let M = lit (pos 2) ⊗ # 7 ⊖ C in
    let L = C ⊖ lit (pos 2) ⊗ # 5 in
    identity (e.0.x ∷ e.0.y ∷ e.1.x ∷ e.1.y ∷ f.0.x ∷ f.0.y ∷ f.1.x ∷ f.1.y ∷ r ∷ [])
    (((M ⊕ L) ⊗ # 0 ⊖ (M ⊗ # 4 ⊕ L ⊗ # 6)) ⊗ (# 3 ⊖ # 1) ⊕ ((M ⊗ # 5 ⊕ L ⊗ # 7) ⊖ (M ⊕ L) ⊗ # 1) ⊗ (# 2 ⊖ # 0))
    (((lit (pos 2) ⊗ (# 7 ⊖ # 5)) ⊗ # 0 ⊖ (M ⊗ # 4 ⊕ L ⊗ # 6)) ⊗ (# 3 ⊖ # 1)
    ⊕ (C ⊗ (# 7 ⊖ # 5) ⊖ (lit (pos 2) ⊗ (# 7 ⊖ # 5)) ⊗ # 1) ⊗ (# 2 ⊖ # 0)) refl

-- ---- the order is that all over the row
-- the height is in the row, or at its end
pub record IsBesideRow (r k y : ℤ) : Type 0 where
  pub scale : pos 1 ≤ℤ k
  pub low : (k *ℤ r) ≤ℤ y
  pub high : y ≤ℤ (k *ℤ (r +ℤ pos 1))

pub beside : (r k y : ℤ) → IsInRow r k y → IsBesideRow r k y
beside r k y q = record { scale = q.scale; low = q.low; high = omega (arith, linear, q.high) }

module _ (r : ℤ) (e f : Point × Point) (k x y : ℤ) (q : IsBesideRow r k y) (se : Spans r e) (sf : Spans r f) (meet : MeetAtEnds e f) where
  -- where e is to the left of f, f isn't to the left of e at another height of the row
  not_exchanged : IsLeft r e f → pos 0 <ℤ right_of e.0 e.1 f.0 f.1 (k *ℤ f.1.y -ℤ y) (y -ℤ k *ℤ f.0.y) → ⊥
  not_exchanged left positive =
      let h = e.1.y -ℤ e.0.y in
      let w = f.1.y -ℤ f.0.y in
      let hp : pos 0 <ℤ h = omega (arith, linear, se.low, se.high) in
      let wp : pos 0 <ℤ w = omega (arith, linear, sf.low, sf.high) in
      let m = k *ℤ f.1.y -ℤ y in
      let l = y -ℤ k *ℤ f.0.y in
      let m' = pos 2 *ℤ f.1.y -ℤ (pos 2 *ℤ r +ℤ pos 1) in
      let l' = (pos 2 *ℤ r +ℤ pos 1) -ℤ pos 2 *ℤ f.0.y in
      let kf0 = times_le k f.0.y r (omega (arith, linear, q.scale)) sf.low in
      let kf1 = times_le k (r +ℤ pos 1) f.1.y (omega (arith, linear, q.scale)) (omega (arith, linear, sf.high)) in
      let ke0 = times_le k e.0.y r (omega (arith, linear, q.scale)) se.low in
      let ke1 = times_le k (r +ℤ pos 1) e.1.y (omega (arith, linear, q.scale)) (omega (arith, linear, se.high)) in
      let wk = positive_product w k wp (omega (arith, linear, q.scale)) in
      let whole = sum_there f.0 f.1 k y in
      let there = height_there f.0 f.1 k y in
      let w0 = times_le w (k *ℤ e.0.y) y (omega (arith, linear)) (omega (arith, linear, q.low)) in
      let w1 = times_le w y (k *ℤ e.1.y) (omega (arith, linear)) (omega (arith, linear, q.high)) in
      let wr0 = times_le w (k *ℤ r) y (omega (arith, linear)) q.low in
      let wr1 = times_le w y (k *ℤ (r +ℤ pos 1)) (omega (arith, linear)) (omega (arith, linear, q.high)) in
      let first : IsWithin e.0.y e.1.y f.0 f.1 m l = record {
        first = omega (arith, linear, q.high);
        second = omega (arith, linear, q.low);
        scale = omega (arith, linear, whole, wk);
        above = omega (arith, linear, there, scale_there f.0 f.1 k y e.0.y);
        below = omega (arith, linear, there, scale_there f.0 f.1 k y e.1.y);
      } in
      let half = height_there f.0 f.1 (pos 2) (pos 2 *ℤ r +ℤ pos 1) in
      let v0 = times_lt w (pos 2 *ℤ e.0.y) (pos 2 *ℤ r +ℤ pos 1) wp (omega (arith, linear, se.low)) in
      let v1 = times_lt w (pos 2 *ℤ r +ℤ pos 1) (pos 2 *ℤ e.1.y) wp (omega (arith, linear, se.high)) in
      let vr0 = times_lt w (pos 2 *ℤ r) (pos 2 *ℤ r +ℤ pos 1) wp (omega (arith, linear)) in
      let vr1 = times_lt w (pos 2 *ℤ r +ℤ pos 1) (pos 2 *ℤ (r +ℤ pos 1)) wp (omega (arith, linear)) in
      let second : IsWithin e.0.y e.1.y f.0 f.1 m' l' = record {
        first = omega (arith, linear, sf.high);
        second = omega (arith, linear, sf.low);
        scale = omega (arith, linear);
        above = omega (arith, linear, half, scale_there f.0 f.1 (pos 2) (pos 2 *ℤ r +ℤ pos 1) e.0.y);
        below = omega (arith, linear, half, scale_there f.0 f.1 (pos 2) (pos 2 *ℤ r +ℤ pos 1) e.1.y);
      } in
      let negative : right_of e.0 e.1 f.0 f.1 m' l' ≤ℤ pos 0 = omega (arith, linear, row_right r e f, row_distance r f e, left.less) in
      let outside = no_end_outside e.0 e.1 f.0 f.1 m l m' l' meet (rises_in r e se) first second positive negative r (r +ℤ pos 1)
      (omega (arith, linear, there, scale_there f.0 f.1 k y r)) (omega (arith, linear, there, scale_there f.0 f.1 k y (r +ℤ pos 1)))
      (omega (arith, linear, half, scale_there f.0 f.1 (pos 2) (pos 2 *ℤ r +ℤ pos 1) r))
      (omega (arith, linear, half, scale_there f.0 f.1 (pos 2) (pos 2 *ℤ r +ℤ pos 1) (r +ℤ pos 1))) in
      omega (arith, linear, outside.0, outside.1)
    where
      sum_there : (c d : Point) (k y : ℤ) → (k *ℤ d.y -ℤ y) +ℤ (y -ℤ k *ℤ c.y) ≡ (d.y -ℤ c.y) *ℤ k
      sum_there c d k y = identity (c.y ∷ d.y ∷ k ∷ y ∷ []) ((# 2 ⊗ # 1 ⊖ # 3) ⊕ (# 3 ⊖ # 2 ⊗ # 0)) ((# 1 ⊖ # 0) ⊗ # 2) refl

  zero_times : (h : ℤ) → h *ℤ pos 0 ≡ pos 0
  zero_times h = identity (h ∷ []) (# 0 ⊗ lit (pos 0)) (lit (pos 0)) refl

  pub right_in_row : IsLeft r e f → pos 0 <ℤ distance_right k x y e.0 e.1 → pos 0 <ℤ distance_right k x y f.0 f.1
  right_in_row left right = ⊎_elim (λ (so : pos 0 <ℤ distance_right k x y f.0 f.1). so)
      (λ (not_so : distance_right k x y f.0 f.1 ≤ℤ pos 0).
      let h = e.1.y -ℤ e.0.y in
      let w = f.1.y -ℤ f.0.y in
      let near = positive_product w (distance_right k x y e.0 e.1) (omega (arith, linear, sf.low, sf.high)) right in
      let far = times_le h (distance_right k x y f.0 f.1) (pos 0) (omega (arith, linear, se.low, se.high)) not_so in
      absurd (not_exchanged left (omega (arith, linear, at_height e.0 e.1 f.0 f.1 k x y, near, far, zero_times h))))
      (below_or_not (pos 0) (distance_right k x y f.0 f.1))

  pub not_left_in_row : IsLeft r e f → pos 0 ≤ℤ distance_right k x y e.0 e.1 → pos 0 ≤ℤ distance_right k x y f.0 f.1
  not_left_in_row left right = ⊎_elim
      (λ (not_so : distance_right k x y f.0 f.1 <ℤ pos 0).
      let h = e.1.y -ℤ e.0.y in
      let w = f.1.y -ℤ f.0.y in
      let near = nonnegative_product w (distance_right k x y e.0 e.1) (omega (arith, linear, sf.low, sf.high)) right in
      let far = times_lt h (distance_right k x y f.0 f.1) (pos 0) (omega (arith, linear, se.low, se.high)) not_so in
      absurd (not_exchanged left (omega (arith, linear, at_height e.0 e.1 f.0 f.1 k x y, near, far, zero_times h))))
      (λ (so : pos 0 ≤ℤ distance_right k x y f.0 f.1). so)
      (below_or_not (distance_right k x y f.0 f.1) (pos 0))

-- different edges have different places there
pub apart_in_row : (r : ℤ) (e f : Point × Point) → Spans r e → Spans r f → MeetAtEnds e f → row_k e *ℤ row_x r f ≡ row_k f *ℤ row_x r e → ⊥
apart_in_row r e f se sf meet same =
    let w = f.1.y -ℤ f.0.y in
    let wp : pos 0 <ℤ w = omega (arith, linear, sf.low, sf.high) in
    let m' = pos 2 *ℤ f.1.y -ℤ (pos 2 *ℤ r +ℤ pos 1) in
    let l' = (pos 2 *ℤ r +ℤ pos 1) -ℤ pos 2 *ℤ f.0.y in
    let half = height_there f.0 f.1 (pos 2) (pos 2 *ℤ r +ℤ pos 1) in
    let v0 = times_lt w (pos 2 *ℤ e.0.y) (pos 2 *ℤ r +ℤ pos 1) wp (omega (arith, linear, se.low)) in
    let v1 = times_lt w (pos 2 *ℤ r +ℤ pos 1) (pos 2 *ℤ e.1.y) wp (omega (arith, linear, se.high)) in
    not_on e.0 e.1 f.0 f.1 m' l' meet (rises_in r e se) (record {
      first = omega (arith, linear, sf.high);
      second = omega (arith, linear, sf.low);
      scale = omega (arith, linear);
      above = omega (arith, linear, half, scale_there f.0 f.1 (pos 2) (pos 2 *ℤ r +ℤ pos 1) e.0.y);
      below = omega (arith, linear, half, scale_there f.0 f.1 (pos 2) (pos 2 *ℤ r +ℤ pos 1) e.1.y);
    }) (omega (arith, linear, row_right r e f, row_distance r f e, same))

-- ---- fractions
pub fraction_le : (kp xp km xm kq xq : ℤ) → pos 0 <ℤ kp → pos 0 <ℤ km → pos 0 <ℤ kq
    → (km *ℤ xp) ≤ℤ (kp *ℤ xm) → (kq *ℤ xm) ≤ℤ (km *ℤ xq) → (kq *ℤ xp) ≤ℤ (kp *ℤ xq)
fraction_le kp xp km xm kq xq hp hm hq first second =
    let a = times_le kq (km *ℤ xp) (kp *ℤ xm) (omega (arith, linear)) first in
    let b = times_le kp (kq *ℤ xm) (km *ℤ xq) (omega (arith, linear)) second in
    cancel_le km (kq *ℤ xp) (kp *ℤ xq) hm (omega (arith, linear, a, b, swap_product kq km xp, swap_product kq kp xm, swap_product kp km xq))

pub fraction_lt : (kp xp km xm kq xq : ℤ) → pos 0 <ℤ kp → pos 0 <ℤ km → pos 0 <ℤ kq
    → (km *ℤ xp) <ℤ (kp *ℤ xm) → (kq *ℤ xm) <ℤ (km *ℤ xq) → (kq *ℤ xp) <ℤ (kp *ℤ xq)
fraction_lt kp xp km xm kq xq hp hm hq first second =
    let a = times_lt kq (km *ℤ xp) (kp *ℤ xm) hq first in
    let b = times_lt kp (kq *ℤ xm) (km *ℤ xq) hp second in
    cancel_lt km (kq *ℤ xp) (kp *ℤ xq) (omega (arith, linear)) (omega (
      arith,
      linear,
      a,
      b,
      swap_product kq km xp,
      swap_product kq kp xm,
      swap_product kp km xq,
    ))
