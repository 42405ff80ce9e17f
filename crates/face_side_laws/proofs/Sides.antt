-- On which side of an edge the points of another edge are. A place on the edge from c to d is c times m and d times l at
-- scale m + l; how far an edge is to the right of it is linear in (m, l). So where it changes its sign the edges have a
-- place in common.
use Rattle.std.proofs.Common.{◌≡◌, inl, inr, true, false, [], ◌∷◌, ℤ, pos, ◌+ℤ◌, ◌-ℤ◌, ◌*ℤ◌, ◌≤ℤ◌, ◌<ℤ◌, refl, sym, ap, ◌∙◌, ⊎_elim, arith}
use Rattle.lay_point.proofs.Polynomials.{#, lit, ◌⊕◌, ◌⊖◌, ◌⊗◌, identity}
use Rattle.std.specs.Prelude.{int_lt}
use Rattle.std.proofs.lemmas.Int.{ints}
use Rattle.lay_point.proofs.Signs.{below_or_not, below_or_same, cancel_lt, cancel_same}
use Rattle.lay_point.proofs.Signs.{linear, nonnegative_product, positive_product, times_le}
use Rattle.lay_point.specs.declared.point.Point.{Point}
use Rattle.lay_point.specs.Parity.{distance_right}
use Rattle.snap_edge_laws.specs.Edges.{IsBetween, IsEndpoint, IsOn}
use Rattle.snap_edge_laws.proofs.Places.{turned_on}
use Rattle.snap_edge_laws.specs.Meeting.{MeetAtEnds}

-- the place of these weights on the edge
abbrev pub mixed : ℤ → ℤ → ℤ → ℤ → ℤ
mixed m l a b = m *ℤ a +ℤ l *ℤ b

-- how far the edge from a to b is to the right of that place on the one from c to d
abbrev pub right_of : Point → Point → Point → Point → ℤ → ℤ → ℤ
right_of a b c d m l = distance_right (m +ℤ l) (mixed m l c.x d.x) (mixed m l c.y d.y) a b

between_mixed : (m l a b : ℤ) → pos 0 ≤ℤ m → pos 0 ≤ℤ l → IsBetween ((m +ℤ l) *ℤ a) (mixed m l a b) ((m +ℤ l) *ℤ b)
between_mixed m l a b hm hl = ⊎_elim
    (λ (less : a <ℤ b).
    let first = times_le l a b hl (omega (arith, linear)) in
    let second = times_le m a b hm (omega (arith, linear)) in
    inl (omega (arith, linear, sum_times m l a, first), omega (arith, linear, sum_times m l b, second)))
    (λ (le : b ≤ℤ a).
    let first = times_le l b a hl le in
    let second = times_le m b a hm le in
    inr (omega (arith, linear, sum_times m l b, second), omega (arith, linear, sum_times m l a, first)))
    (below_or_not a b)
  where
    sum_times : (m l a : ℤ) → (m +ℤ l) *ℤ a ≡ m *ℤ a +ℤ l *ℤ a
    sum_times m l a = identity (m ∷ l ∷ a ∷ []) ((# 0 ⊕ # 1) ⊗ # 2) (# 0 ⊗ # 2 ⊕ # 1 ⊗ # 2) refl

-- such a place is on the edge
pub mixed_on : (c d : Point) (m l : ℤ) → pos 0 ≤ℤ m → pos 0 ≤ℤ l → IsOn c d (m +ℤ l) (mixed m l c.x d.x) (mixed m l c.y d.y)
mixed_on c d m l hm hl = record {
  line = identity (m ∷ l ∷ c.x ∷ c.y ∷ d.x ∷ d.y ∷ [])
      ((# 0 ⊗ # 2 ⊕ # 1 ⊗ # 4 ⊖ (# 0 ⊕ # 1) ⊗ # 2) ⊗ (# 5 ⊖ # 3))
      ((# 0 ⊗ # 3 ⊕ # 1 ⊗ # 5 ⊖ (# 0 ⊕ # 1) ⊗ # 3) ⊗ (# 4 ⊖ # 2)) refl;
  column = between_mixed m l c.x d.x hm hl;
  row = between_mixed m l c.y d.y hm hl;
}

-- ---- a place in common
place_x : (a b c d : Point) (m l : ℤ) → mixed ((m +ℤ l) *ℤ b.y -ℤ mixed m l c.y d.y) (mixed m l c.y d.y -ℤ (m +ℤ l) *ℤ a.y) a.x b.x
    ≡ mixed ((b.y -ℤ a.y) *ℤ m) ((b.y -ℤ a.y) *ℤ l) c.x d.x +ℤ right_of a b c d m l
place_x a b c d m l =
    let K = # 8 ⊕ # 9 in
    let X = # 8 ⊗ # 4 ⊕ # 9 ⊗ # 6 in
    let Y = # 8 ⊗ # 5 ⊕ # 9 ⊗ # 7 in
    identity (a.x ∷ a.y ∷ b.x ∷ b.y ∷ c.x ∷ c.y ∷ d.x ∷ d.y ∷ m ∷ l ∷ [])
    ((K ⊗ # 3 ⊖ Y) ⊗ # 0 ⊕ (Y ⊖ K ⊗ # 1) ⊗ # 2)
    (((# 3 ⊖ # 1) ⊗ # 8 ⊗ # 4 ⊕ (# 3 ⊖ # 1) ⊗ # 9 ⊗ # 6) ⊕ ((K ⊗ # 0 ⊖ X) ⊗ (# 3 ⊖ # 1) ⊕ (Y ⊖ K ⊗ # 1) ⊗ (# 2 ⊖ # 0))) refl

place_y : (a b c d : Point) (m l : ℤ) → mixed ((m +ℤ l) *ℤ b.y -ℤ mixed m l c.y d.y) (mixed m l c.y d.y -ℤ (m +ℤ l) *ℤ a.y) a.y b.y
    ≡ mixed ((b.y -ℤ a.y) *ℤ m) ((b.y -ℤ a.y) *ℤ l) c.y d.y
place_y a b c d m l =
    let K = # 4 ⊕ # 5 in
    let Y = # 4 ⊗ # 2 ⊕ # 5 ⊗ # 3 in
    identity (a.y ∷ b.y ∷ c.y ∷ d.y ∷ m ∷ l ∷ [])
    ((K ⊗ # 1 ⊖ Y) ⊗ # 0 ⊕ (Y ⊖ K ⊗ # 0) ⊗ # 1)
    ((# 1 ⊖ # 0) ⊗ # 4 ⊗ # 2 ⊕ (# 1 ⊖ # 0) ⊗ # 5 ⊗ # 3) refl

place_k : (a b c d : Point) (m l : ℤ)
    → ((m +ℤ l) *ℤ b.y -ℤ mixed m l c.y d.y) +ℤ (mixed m l c.y d.y -ℤ (m +ℤ l) *ℤ a.y)
    ≡ (b.y -ℤ a.y) *ℤ m +ℤ (b.y -ℤ a.y) *ℤ l
place_k a b c d m l =
    let K = # 4 ⊕ # 5 in
    let Y = # 4 ⊗ # 2 ⊕ # 5 ⊗ # 3 in
    identity (a.y ∷ b.y ∷ c.y ∷ d.y ∷ m ∷ l ∷ [])
    ((K ⊗ # 1 ⊖ Y) ⊕ (Y ⊖ K ⊗ # 0))
    ((# 1 ⊖ # 0) ⊗ # 4 ⊕ (# 1 ⊖ # 0) ⊗ # 5) refl

scaled_y : (h m l a b : ℤ) → mixed (h *ℤ m) (h *ℤ l) a b ≡ h *ℤ mixed m l a b
scaled_y h m l a b = identity (h ∷ m ∷ l ∷ a ∷ b ∷ []) (# 0 ⊗ # 1 ⊗ # 3 ⊕ # 0 ⊗ # 2 ⊗ # 4) (# 0 ⊗ (# 1 ⊗ # 3 ⊕ # 2 ⊗ # 4)) refl

scaled_k : (h m l z : ℤ) → (h *ℤ m +ℤ h *ℤ l) *ℤ z ≡ h *ℤ ((m +ℤ l) *ℤ z)
scaled_k h m l z = identity (h ∷ m ∷ l ∷ z ∷ []) ((# 0 ⊗ # 1 ⊕ # 0 ⊗ # 2) ⊗ # 3) (# 0 ⊗ ((# 1 ⊕ # 2) ⊗ # 3)) refl

-- an end of both edges at the height of those weights
pub record IsEndAt (a b c d : Point) (m l : ℤ) : Type 0 where
  pub end : Point
  pub of_first : IsEndpoint end a b
  pub of_second : IsEndpoint end c d
  pub height : mixed m l c.y d.y ≡ (m +ℤ l) *ℤ end.y

pub common_end : (a b c d : Point) (m l : ℤ) → MeetAtEnds (a, b) (c, d) → a.y <ℤ b.y → pos 0 ≤ℤ m → pos 0 ≤ℤ l → pos 1 ≤ℤ (m +ℤ l)
    → ((m +ℤ l) *ℤ a.y) ≤ℤ mixed m l c.y d.y → mixed m l c.y d.y ≤ℤ ((m +ℤ l) *ℤ b.y) → right_of a b c d m l ≡ pos 0
    → IsEndAt a b c d m l
common_end a b c d m l meet rises hm hl scale low high zero_ =
    let h = b.y -ℤ a.y in
    let positive : pos 0 <ℤ h = omega (arith, linear) in
    let on_second = mixed_on c d (h *ℤ m) (h *ℤ l) (nonnegative_product h m (omega (arith, linear)) hm)
    (nonnegative_product h l (omega (arith, linear)) hl) in
    let first = mixed_on a b ((m +ℤ l) *ℤ b.y -ℤ mixed m l c.y d.y) (mixed m l c.y d.y -ℤ (m +ℤ l) *ℤ a.y)
    (omega (arith, linear)) (omega (arith, linear)) in
    let same_x : mixed ((m +ℤ l) *ℤ b.y -ℤ mixed m l c.y d.y) (mixed m l c.y d.y -ℤ (m +ℤ l) *ℤ a.y) a.x b.x
    ≡ mixed (h *ℤ m) (h *ℤ l) c.x d.x =
    omega (arith, linear, place_x a b c d m l, zero_) in
    let on_first = coe 0 1 (i. IsOn a b (place_k a b c d m l i) (same_x i) (place_y a b c d m l i)) first in
    let whole = positive_product h (m +ℤ l) positive (omega (arith, linear)) in
    let split : h *ℤ (m +ℤ l) ≡ h *ℤ m +ℤ h *ℤ l = identity (h ∷ m ∷ l ∷ []) (# 0 ⊗ (# 1 ⊕ # 2)) (# 0 ⊗ # 1 ⊕ # 0 ⊗ # 2) refl in
    let shared = meet (h *ℤ m +ℤ h *ℤ l) (mixed (h *ℤ m) (h *ℤ l) c.x d.x) (mixed (h *ℤ m) (h *ℤ l) c.y d.y)
    (omega (arith, linear, whole, split))
    on_first on_second in
    record {
      end = shared.end;
      of_first = shared.of_first;
      of_second = shared.of_second;
      height = cancel_same h (mixed m l c.y d.y) ((m +ℤ l) *ℤ shared.end.y) positive
          (sym (scaled_y h m l c.y d.y) ∙ shared.row ∙ scaled_k h m l shared.end.y);
    }

-- ---- between two places
right_between : (a b c d : Point) (m l m' l' x y : ℤ)
    → right_of a b c d (x *ℤ m +ℤ y *ℤ m') (x *ℤ l +ℤ y *ℤ l') ≡ x *ℤ right_of a b c d m l +ℤ y *ℤ right_of a b c d m' l'
right_between a b c d m l m' l' x y =
    let M = # 12 ⊗ # 8 ⊕ # 13 ⊗ # 10 in
    let L = # 12 ⊗ # 9 ⊕ # 13 ⊗ # 11 in
    identity (a.x ∷ a.y ∷ b.x ∷ b.y ∷ c.x ∷ c.y ∷ d.x ∷ d.y ∷ m ∷ l ∷ m' ∷ l' ∷ x ∷ y ∷ [])
    (((M ⊕ L) ⊗ # 0 ⊖ (M ⊗ # 4 ⊕ L ⊗ # 6)) ⊗ (# 3 ⊖ # 1) ⊕ ((M ⊗ # 5 ⊕ L ⊗ # 7) ⊖ (M ⊕ L) ⊗ # 1) ⊗ (# 2 ⊖ # 0))
    (# 12 ⊗ (((# 8 ⊕ # 9) ⊗ # 0 ⊖ (# 8 ⊗ # 4 ⊕ # 9 ⊗ # 6)) ⊗ (# 3 ⊖ # 1) ⊕ ((# 8 ⊗ # 5 ⊕ # 9 ⊗ # 7) ⊖ (# 8 ⊕ # 9) ⊗ # 1) ⊗ (# 2 ⊖ # 0))
    ⊕ # 13 ⊗ (((# 10 ⊕ # 11) ⊗ # 0 ⊖ (# 10 ⊗ # 4 ⊕ # 11 ⊗ # 6)) ⊗ (# 3 ⊖ # 1) ⊕ ((# 10 ⊗ # 5 ⊕ # 11 ⊗ # 7) ⊖ (# 10 ⊕ # 11) ⊗ # 1) ⊗
    (# 2 ⊖ # 0))) refl

-- a combination of what two places have
height_between : (m l m' l' x y c d : ℤ)
    → mixed (x *ℤ m +ℤ y *ℤ m') (x *ℤ l +ℤ y *ℤ l') c d ≡ x *ℤ mixed m l c d +ℤ y *ℤ mixed m' l' c d
height_between m l m' l' x y c d =
    identity (m ∷ l ∷ m' ∷ l' ∷ x ∷ y ∷ c ∷ d ∷ [])
    ((# 4 ⊗ # 0 ⊕ # 5 ⊗ # 2) ⊗ # 6 ⊕ (# 4 ⊗ # 1 ⊕ # 5 ⊗ # 3) ⊗ # 7)
    (# 4 ⊗ (# 0 ⊗ # 6 ⊕ # 1 ⊗ # 7) ⊕ # 5 ⊗ (# 2 ⊗ # 6 ⊕ # 3 ⊗ # 7)) refl

scale_between : (m l m' l' x y z : ℤ)
    → ((x *ℤ m +ℤ y *ℤ m') +ℤ (x *ℤ l +ℤ y *ℤ l')) *ℤ z ≡ x *ℤ ((m +ℤ l) *ℤ z) +ℤ y *ℤ ((m' +ℤ l') *ℤ z)
scale_between m l m' l' x y z =
    identity (m ∷ l ∷ m' ∷ l' ∷ x ∷ y ∷ z ∷ [])
    (((# 4 ⊗ # 0 ⊕ # 5 ⊗ # 2) ⊕ (# 4 ⊗ # 1 ⊕ # 5 ⊗ # 3)) ⊗ # 6)
    (# 4 ⊗ ((# 0 ⊕ # 1) ⊗ # 6) ⊕ # 5 ⊗ ((# 2 ⊕ # 3) ⊗ # 6)) refl

sum_between : (m l m' l' x y : ℤ)
    → (x *ℤ m +ℤ y *ℤ m') +ℤ (x *ℤ l +ℤ y *ℤ l') ≡ x *ℤ (m +ℤ l) +ℤ y *ℤ (m' +ℤ l')
sum_between m l m' l' x y =
    identity (m ∷ l ∷ m' ∷ l' ∷ x ∷ y ∷ [])
    ((# 4 ⊗ # 0 ⊕ # 5 ⊗ # 2) ⊕ (# 4 ⊗ # 1 ⊕ # 5 ⊗ # 3)) (# 4 ⊗ (# 0 ⊕ # 1) ⊕ # 5 ⊗ (# 2 ⊕ # 3)) refl

-- a place on the edge from c to d between the heights a and b
pub record IsWithin (low high : ℤ) (c d : Point) (m l : ℤ) : Type 0 where
  pub first : pos 0 ≤ℤ m
  pub second : pos 0 ≤ℤ l
  pub scale : pos 1 ≤ℤ (m +ℤ l)
  pub above : ((m +ℤ l) *ℤ low) ≤ℤ mixed m l c.y d.y
  pub below : mixed m l c.y d.y ≤ℤ ((m +ℤ l) *ℤ high)

module _ (a b c d : Point) (m l m' l' : ℤ) (meet : MeetAtEnds (a, b) (c, d)) (rises : a.y <ℤ b.y)
    (v : IsWithin a.y b.y c d m l) (w : IsWithin a.y b.y c d m' l')
    (right : pos 0 <ℤ right_of a b c d m l) (not_right : right_of a b c d m' l' ≤ℤ pos 0) where
  abbrev x : ℤ
  x = pos 0 -ℤ right_of a b c d m' l'

  abbrev y : ℤ
  y = right_of a b c d m l

  abbrev M : ℤ
  M = x *ℤ m +ℤ y *ℤ m'

  abbrev L : ℤ
  L = x *ℤ l +ℤ y *ℤ l'

  x_positive : pos 0 ≤ℤ x
  x_positive = omega (arith, linear)

  y_positive : pos 0 ≤ℤ y
  y_positive = omega (arith, linear)

  spread : (k z u : ℤ) → k *ℤ z -ℤ k *ℤ u ≡ k *ℤ (z -ℤ u)
  spread k z u = identity (k ∷ z ∷ u ∷ []) (# 0 ⊗ # 1 ⊖ # 0 ⊗ # 2) (# 0 ⊗ (# 1 ⊖ # 2)) refl

  -- where the side changes, the edges have an end in common, at a height between
  pub changes : IsEndAt a b c d M L
  changes =
      let xm = nonnegative_product x m x_positive v.first in
      let ym = nonnegative_product y m' y_positive w.first in
      let xl = nonnegative_product x l x_positive v.second in
      let yl = nonnegative_product y l' y_positive w.second in
      let xk = nonnegative_product x (m +ℤ l) x_positive (omega (arith, linear, v.scale)) in
      let yk = positive_product y (m' +ℤ l') right (omega (arith, linear, w.scale)) in
      let low = nonnegative_product x (mixed m l c.y d.y -ℤ (m +ℤ l) *ℤ a.y) x_positive (omega (arith, linear, v.above)) in
      let low' = nonnegative_product y (mixed m' l' c.y d.y -ℤ (m' +ℤ l') *ℤ a.y) y_positive (omega (arith, linear, w.above)) in
      let high = nonnegative_product x ((m +ℤ l) *ℤ b.y -ℤ mixed m l c.y d.y) x_positive (omega (arith, linear, v.below)) in
      let high' = nonnegative_product y ((m' +ℤ l') *ℤ b.y -ℤ mixed m' l' c.y d.y) y_positive (omega (arith, linear, w.below)) in
      common_end a b c d M L meet rises (omega (arith, linear)) (omega (arith, linear))
      (omega (arith, linear, sum_between m l m' l' x y))
      (omega (
        arith,
        linear,
        height_between m l m' l' x y c.y d.y,
        scale_between m l m' l' x y a.y,
        spread x (mixed m l c.y d.y) ((m +ℤ l) *ℤ a.y),
        spread y (mixed m' l' c.y d.y) ((m' +ℤ l') *ℤ a.y),
      ))
      (omega (
        arith,
        linear,
        height_between m l m' l' x y c.y d.y,
        scale_between m l m' l' x y b.y,
        spread x ((m +ℤ l) *ℤ b.y) (mixed m l c.y d.y),
        spread y ((m' +ℤ l') *ℤ b.y) (mixed m' l' c.y d.y),
      ))
      (right_between a b c d m l m' l' x y ∙ cancels (right_of a b c d m l) (right_of a b c d m' l'))
    where
      cancels : (p q : ℤ) → (pos 0 -ℤ q) *ℤ p +ℤ p *ℤ q ≡ pos 0
      cancels p q = identity (p ∷ q ∷ []) ((lit (pos 0) ⊖ # 1) ⊗ # 0 ⊕ # 0 ⊗ # 1) (lit (pos 0)) refl

  -- so the height of that end isn't outside the heights between which the places are, nor at one, if the second place is strictly between
  pub no_end_outside : (low high : ℤ) → ((m +ℤ l) *ℤ low) ≤ℤ mixed m l c.y d.y → mixed m l c.y d.y ≤ℤ ((m +ℤ l) *ℤ high)
      → ((m' +ℤ l') *ℤ low) <ℤ mixed m' l' c.y d.y → mixed m' l' c.y d.y <ℤ ((m' +ℤ l') *ℤ high)
      → (low <ℤ changes.end.y) × (changes.end.y <ℤ high)
  no_end_outside low high l1 h1 l2 h2 =
      let end = changes.end.y in
      let below = nonnegative_product x (mixed m l c.y d.y -ℤ (m +ℤ l) *ℤ low) x_positive (omega (arith, linear, l1)) in
      let below' = positive_product y (mixed m' l' c.y d.y -ℤ (m' +ℤ l') *ℤ low) right (omega (arith, linear, l2)) in
      let above = nonnegative_product x ((m +ℤ l) *ℤ high -ℤ mixed m l c.y d.y) x_positive (omega (arith, linear, h1)) in
      let above' = positive_product y ((m' +ℤ l') *ℤ high -ℤ mixed m' l' c.y d.y) right (omega (arith, linear, h2)) in
      let whole = height_between m l m' l' x y c.y d.y in
      let at_end = changes.height in
      let xk = nonnegative_product x (m +ℤ l) x_positive (omega (arith, linear, v.scale)) in
      let yk = positive_product y (m' +ℤ l') right (omega (arith, linear, w.scale)) in
      let scale : pos 0 ≤ℤ (M +ℤ L) = omega (arith, linear, sum_between m l m' l' x y, xk, yk) in (
        cancel_lt (M +ℤ L) low end scale (omega (
          arith,
          linear,
          whole,
          at_end,
          scale_between m l m' l' x y low,
          spread x (mixed m l c.y d.y) ((m +ℤ l) *ℤ low),
          spread y (mixed m' l' c.y d.y) ((m' +ℤ l') *ℤ low),
          below,
          below',
        )),
        cancel_lt (M +ℤ L) end high scale (omega (
          arith,
          linear,
          whole,
          at_end,
          scale_between m l m' l' x y high,
          spread x ((m +ℤ l) *ℤ high) (mixed m l c.y d.y),
          spread y ((m' +ℤ l') *ℤ high) (mixed m' l' c.y d.y),
          above,
          above',
        )),
      )

-- ---- inside the edge from a to b
-- strictly between its heights
pub record IsInside (a b c d : Point) (m l : ℤ) : Type 0 where
  pub first : pos 0 ≤ℤ m
  pub second : pos 0 ≤ℤ l
  pub scale : pos 1 ≤ℤ (m +ℤ l)
  pub above : ((m +ℤ l) *ℤ a.y) <ℤ mixed m l c.y d.y
  pub below : mixed m l c.y d.y <ℤ ((m +ℤ l) *ℤ b.y)

within : (a b c d : Point) (m l : ℤ) → IsInside a b c d m l → IsWithin a.y b.y c d m l
within a b c d m l h = record {
  first = h.first;
  second = h.second;
  scale = h.scale;
  above = omega (arith, linear, h.above);
  below = omega (arith, linear, h.below);
}

end_not_inside : (a b v : Point) → IsEndpoint v a b → a.y <ℤ v.y → v.y <ℤ b.y → ⊥
end_not_inside a b v (inl same) low high = let e = ap (λ (p : Point). p.y) same in omega (arith, linear)
end_not_inside a b v (inr same) low high = let e = ap (λ (p : Point). p.y) same in omega (arith, linear)

-- no place of the other edge there is on the edge
pub not_on : (a b c d : Point) (m l : ℤ) → MeetAtEnds (a, b) (c, d) → a.y <ℤ b.y → IsInside a b c d m l → right_of a b c d m l ≡ pos 0 → ⊥
not_on a b c d m l meet rises h zero_ =
    let common = common_end a b c d m l meet rises h.first h.second h.scale (omega (arith, linear, h.above))
    (omega (arith, linear, h.below)) zero_ in
    let scale : pos 0 ≤ℤ (m +ℤ l) = omega (arith, linear, h.scale) in
    end_not_inside a b common.end common.of_first
    (cancel_lt (m +ℤ l) a.y common.end.y scale (omega (arith, linear, h.above, common.height)))
    (cancel_lt (m +ℤ l) common.end.y b.y scale (omega (arith, linear, h.below, common.height)))

-- and all are on one side of it
pub one_side : (a b c d : Point) (m l m' l' : ℤ) → MeetAtEnds (a, b) (c, d) → a.y <ℤ b.y → IsInside a b c d m l → IsInside a b c d m' l'
    → pos 0 <ℤ right_of a b c d m l → pos 0 <ℤ right_of a b c d m' l'
one_side a b c d m l m' l' meet rises v w right = ⊎_elim (λ (yes : pos 0 <ℤ right_of a b c d m' l'). yes)
    (λ (no_ : right_of a b c d m' l' ≤ℤ pos 0).
    let vw = within a b c d m l v in
    let ww = within a b c d m' l' w in
    let outside = no_end_outside a b c d m l m' l' meet rises vw ww right no_ a.y b.y vw.above vw.below w.above w.below in
    let common = changes a b c d m l m' l' meet rises vw ww right no_ in
    absurd (end_not_inside a b common.end common.of_first outside.0 outside.1))
    (below_or_not (pos 0) (right_of a b c d m' l'))

pub same_side : (a b c d : Point) (m l m' l' : ℤ) → MeetAtEnds (a, b) (c, d) → a.y <ℤ b.y → IsInside a b c d m l → IsInside a b c d m' l'
    → int_lt (right_of a b c d m l) (pos 0) ≡ int_lt (right_of a b c d m' l') (pos 0)
same_side a b c d m l m' l' meet rises v w = by_signs (right_of a b c d m l) (right_of a b c d m' l')
    (not_on a b c d m l meet rises v) (not_on a b c d m' l' meet rises w)
    (one_side a b c d m l m' l' meet rises v w) (one_side a b c d m' l' m l meet rises w v)
  where
    by_signs : (p q : ℤ) → (p ≡ pos 0 → ⊥) → (q ≡ pos 0 → ⊥) → (pos 0 <ℤ p → pos 0 <ℤ q) → (pos 0 <ℤ q → pos 0 <ℤ p)
        → int_lt p (pos 0) ≡ int_lt q (pos 0)
    by_signs p q np nq f g = ⊎_elim
        (λ (hp : pos 0 <ℤ p). not_less p (omega (arith, linear)) ∙ sym (not_less q (let hq = f hp in omega (arith, linear))))
        (λ (lp : p ≤ℤ pos 0). ⊎_elim
        (λ (hq : pos 0 <ℤ q). let hp = g hq in not_less p (omega (arith, linear)) ∙ sym (not_less q (omega (arith, linear))))
        (λ (lq : q ≤ℤ pos 0).
        let hp = ⊎_elim (λ (less : p <ℤ pos 0). less) (λ (e : p ≡ pos 0). absurd (np e)) (below_or_same p (pos 0) lp) in
        let hq = ⊎_elim (λ (less : q <ℤ pos 0). less) (λ (e : q ≡ pos 0). absurd (nq e)) (below_or_same q (pos 0) lq) in
        less_true p hp ∙ sym (less_true q hq))
        (below_or_not (pos 0) q))
        (below_or_not (pos 0) p)
      where
        not_less : (z : ℤ) → pos 0 ≤ℤ z → int_lt z (pos 0) ≡ false
        not_less z h = grind (arith, ints)

        less_true : (z : ℤ) → z <ℤ pos 0 → int_lt z (pos 0) ≡ true
        less_true z h = grind (arith, ints)

-- ---- at the height of a place
-- how far the edge from a to b is to the right of the place on the other edge at the height of (x, y) at scale k
pub at_height : (a b c d : Point) (k x y : ℤ) → right_of a b c d (k *ℤ d.y -ℤ y) (y -ℤ k *ℤ c.y)
    ≡ (d.y -ℤ c.y) *ℤ distance_right k x y a b -ℤ (b.y -ℤ a.y) *ℤ distance_right k x y c d
at_height a b c d k x y =
    let M = # 8 ⊗ # 7 ⊖ # 10 in
    let L = # 10 ⊖ # 8 ⊗ # 5 in
    identity (a.x ∷ a.y ∷ b.x ∷ b.y ∷ c.x ∷ c.y ∷ d.x ∷ d.y ∷ k ∷ x ∷ y ∷ [])
    (((M ⊕ L) ⊗ # 0 ⊖ (M ⊗ # 4 ⊕ L ⊗ # 6)) ⊗ (# 3 ⊖ # 1) ⊕ ((M ⊗ # 5 ⊕ L ⊗ # 7) ⊖ (M ⊕ L) ⊗ # 1) ⊗ (# 2 ⊖ # 0))
    ((# 7 ⊖ # 5) ⊗ ((# 8 ⊗ # 0 ⊖ # 9) ⊗ (# 3 ⊖ # 1) ⊕ (# 10 ⊖ # 8 ⊗ # 1) ⊗ (# 2 ⊖ # 0))
    ⊖ (# 3 ⊖ # 1) ⊗ ((# 8 ⊗ # 4 ⊖ # 9) ⊗ (# 7 ⊖ # 5) ⊕ (# 10 ⊖ # 8 ⊗ # 5) ⊗ (# 6 ⊖ # 4))) refl

pub height_there : (c d : Point) (k y : ℤ) → mixed (k *ℤ d.y -ℤ y) (y -ℤ k *ℤ c.y) c.y d.y ≡ (d.y -ℤ c.y) *ℤ y
height_there c d k y =
    identity (c.y ∷ d.y ∷ k ∷ y ∷ []) ((# 2 ⊗ # 1 ⊖ # 3) ⊗ # 0 ⊕ (# 3 ⊖ # 2 ⊗ # 0) ⊗ # 1) ((# 1 ⊖ # 0) ⊗ # 3) refl

pub scale_there : (c d : Point) (k y z : ℤ) → ((k *ℤ d.y -ℤ y) +ℤ (y -ℤ k *ℤ c.y)) *ℤ z ≡ (d.y -ℤ c.y) *ℤ (k *ℤ z)
scale_there c d k y z =
    identity (c.y ∷ d.y ∷ k ∷ y ∷ z ∷ []) (((# 2 ⊗ # 1 ⊖ # 3) ⊕ (# 3 ⊖ # 2 ⊗ # 0)) ⊗ # 4) ((# 1 ⊖ # 0) ⊗ (# 2 ⊗ # 4)) refl

-- ---- from the other end
turned_end : (v a b : Point) → IsEndpoint v a b → IsEndpoint v b a
turned_end v a b (inl e) = inr e
turned_end v a b (inr e) = inl e

pub meet_first : (a b : Point) (f : Point × Point) → MeetAtEnds (a, b) f → MeetAtEnds (b, a) f
meet_first a b f h k x y scale on on' =
    let s = h k x y scale (turned_on b a k x y on) on' in
    record { end = s.end; column = s.column; row = s.row; of_first = turned_end s.end a b s.of_first; of_second = s.of_second }

pub meet_second : (e : Point × Point) (a b : Point) → MeetAtEnds e (a, b) → MeetAtEnds e (b, a)
meet_second e a b h k x y scale on on' =
    let s = h k x y scale on (turned_on b a k x y on') in
    record { end = s.end; column = s.column; row = s.row; of_first = s.of_first; of_second = turned_end s.end a b s.of_second }
