-- The parity to the right of a place on an edge is the same for all places inside the edge.
use Rattle.std.proofs.Common.{◌≡◌, Bool, true, false, not, ◌&&◌, ◌||◌, List, [], ◌∷◌, ℤ, pos, ◌+ℤ◌, ◌-ℤ◌, ◌*ℤ◌, ◌≤ℤ◌, ◌<ℤ◌}
use Rattle.std.proofs.Common.{refl, sym, ap, ap₂, subst, ◌∙◌, ⊎_elim, arith}
use Rattle.std.specs.Prelude.{int_le, int_lt}
use Rattle.std.proofs.lemmas.Int.{ints}
use Rattle.lay_point.proofs.Polynomials.{#, identity, lit, swap_product, ◌⊕◌, ◌⊖◌, ◌⊗◌}
use Rattle.lay_point.proofs.Signs.{below_or_not, linear, positive_product, times_le, times_lt, cancel_le, cancel_lt}
use Rattle.lay_point.proofs.Tests.{false_le, le_false, le_true, lt_is_not_le, true_le}
use Rattle.lay_point.specs.declared.point.Point.{Point}
use Rattle.lay_point.specs.Edges.{touches}
use Rattle.lay_point.specs.Parity.{xor, parity, distance_right, is_crossed, is_crossed_rising}
use Rattle.lay_point.proofs.Members.{Has}
use Rattle.lay_point.proofs.Parity.{parity_agree, parity-xor, xor_self}
use Rattle.lay_point.proofs.BoolLaws.{same_by_xor}
use Rattle.snap_edge_laws.specs.Meeting.{MeetAtEnds}
pub use Rattle.face_side_laws.specs.Slides.{AreUpward, IsPlaceInside}
use Rattle.face_side_laws.proofs.EvenEnds.{even_ends}
use Rattle.face_side_laws.proofs.Sides.{IsInside, at_height, height_there, mixed, right_of, same_side, scale_there}

-- ---- one place
-- how an edge that doesn't fall passes a height
abbrev pub starts : ℤ → ℤ → Point → Bool
starts k y c = int_le (k *ℤ c.y) y

-- it is crossed where it starts at the height or below it, doesn't end there, and is to the right
pub rising_only : (k x y : ℤ) (c d : Point) → pos 1 ≤ℤ k → c.y ≤ℤ d.y
    → is_crossed k x y (c, d) ≡ (starts k y c && not (starts k y d) && int_lt (pos 0) (distance_right k x y c d))
rising_only k x y c d scale rises =
    ap (λ b. is_crossed_rising k x y c d || b) (falling (starts k y d) (int_lt y (k *ℤ c.y))
    (int_lt (pos 0) (distance_right k x y d c)) (λ low high.
    let first = le_true (k *ℤ d.y) y low in
    let up = times_le k c.y d.y (omega (arith, linear)) rises in
    above_or first (omega (arith, linear)) high))
    ∙ or_false (is_crossed_rising k x y c d)
    ∙ ap (λ b. (starts k y c && b) && int_lt (pos 0) (distance_right k x y c d)) (lt_is_not_le y (k *ℤ d.y))
  where
    or_false : (b : Bool) → (b || false) ≡ b
    or_false true = refl
    or_false false = refl

    falling : (p q r : Bool) → (p ≡ true → q ≡ true → ⊥) → (p && q && r) ≡ false
    falling true true r h = absurd (h refl refl)
    falling true false r h = refl
    falling false q r h = refl

    above_or : (k *ℤ d.y) ≤ℤ y → (k *ℤ c.y) ≤ℤ y → int_lt y (k *ℤ c.y) ≡ true → ⊥
    above_or f g h = let e : int_lt y (k *ℤ c.y) ≡ not (int_le (k *ℤ c.y) y) = lt_is_not_le y (k *ℤ c.y) in
        let t = true_le (k *ℤ c.y) y g in
        let n : true ≡ false = sym h ∙ e ∙ ap not t in absurd cc

-- a point of the other edge that is inside in height
vertex_distance : (a b c d : Point) → right_of a b c d (pos 1) (pos 0) ≡ distance_right (pos 1) c.x c.y a b
vertex_distance a b c d =
    let X = lit (pos 1) ⊗ # 4 ⊕ lit (pos 0) ⊗ # 6 in
    let Y = lit (pos 1) ⊗ # 5 ⊕ lit (pos 0) ⊗ # 7 in
    let K = lit (pos 1) ⊕ lit (pos 0) in
    identity (a.x ∷ a.y ∷ b.x ∷ b.y ∷ c.x ∷ c.y ∷ d.x ∷ d.y ∷ [])
    ((K ⊗ # 0 ⊖ X) ⊗ (# 3 ⊖ # 1) ⊕ (Y ⊖ K ⊗ # 1) ⊗ (# 2 ⊖ # 0))
    ((lit (pos 1) ⊗ # 0 ⊖ # 4) ⊗ (# 3 ⊖ # 1) ⊕ (# 5 ⊖ lit (pos 1) ⊗ # 1) ⊗ (# 2 ⊖ # 0)) refl

last_distance : (a b c d : Point) → right_of a b c d (pos 0) (pos 1) ≡ distance_right (pos 1) d.x d.y a b
last_distance a b c d =
    let X = lit (pos 0) ⊗ # 4 ⊕ lit (pos 1) ⊗ # 6 in
    let Y = lit (pos 0) ⊗ # 5 ⊕ lit (pos 1) ⊗ # 7 in
    let K = lit (pos 0) ⊕ lit (pos 1) in
    identity (a.x ∷ a.y ∷ b.x ∷ b.y ∷ c.x ∷ c.y ∷ d.x ∷ d.y ∷ [])
    ((K ⊗ # 0 ⊖ X) ⊗ (# 3 ⊖ # 1) ⊕ (Y ⊖ K ⊗ # 1) ⊗ (# 2 ⊖ # 0))
    ((lit (pos 1) ⊗ # 0 ⊖ # 6) ⊗ (# 3 ⊖ # 1) ⊕ (# 7 ⊖ lit (pos 1) ⊗ # 1) ⊗ (# 2 ⊖ # 0)) refl

one_times : (z : ℤ) → (pos 1 +ℤ pos 0) *ℤ z ≡ z
one_times z = identity (z ∷ []) ((lit (pos 1) ⊕ lit (pos 0)) ⊗ # 0) (# 0) refl

times_one : (z : ℤ) → (pos 0 +ℤ pos 1) *ℤ z ≡ z
times_one z = identity (z ∷ []) ((lit (pos 0) ⊕ lit (pos 1)) ⊗ # 0) (# 0) refl

first_mixed : (u w : ℤ) → mixed (pos 1) (pos 0) u w ≡ u
first_mixed u w = identity (u ∷ w ∷ []) (lit (pos 1) ⊗ # 0 ⊕ lit (pos 0) ⊗ # 1) (# 0) refl

last_mixed : (u w : ℤ) → mixed (pos 0) (pos 1) u w ≡ w
last_mixed u w = identity (u ∷ w ∷ []) (lit (pos 0) ⊗ # 0 ⊕ lit (pos 1) ⊗ # 1) (# 1) refl

first_inside : (a b c d : Point) → a.y <ℤ c.y → c.y <ℤ b.y → IsInside a b c d (pos 1) (pos 0)
first_inside a b c d low high = record {
  first = omega (arith, linear);
  second = omega (arith, linear);
  scale = omega (arith, linear);
  above = omega (arith, linear, one_times a.y, first_mixed c.y d.y);
  below = omega (arith, linear, one_times b.y, first_mixed c.y d.y);
}

last_inside : (a b c d : Point) → a.y <ℤ d.y → d.y <ℤ b.y → IsInside a b c d (pos 0) (pos 1)
last_inside a b c d low high = record {
  first = omega (arith, linear);
  second = omega (arith, linear);
  scale = omega (arith, linear);
  above = omega (arith, linear, times_one a.y, last_mixed c.y d.y);
  below = omega (arith, linear, times_one b.y, last_mixed c.y d.y);
}

-- the other edge at the height of a place inside the first
there_inside : (a b c d : Point) (k x y : ℤ) → IsPlaceInside a b k x y → c.y <ℤ d.y → (k *ℤ c.y) ≤ℤ y → y ≤ℤ (k *ℤ d.y)
    → IsInside a b c d (k *ℤ d.y -ℤ y) (y -ℤ k *ℤ c.y)
there_inside a b c d k x y q rises low high =
    let g = d.y -ℤ c.y in
    let positive : pos 0 <ℤ g = omega (arith, linear) in
    let above = times_lt g (k *ℤ a.y) y positive q.above in
    let below = times_lt g y (k *ℤ b.y) positive q.below in
    let whole = positive_product g k positive (omega (arith, linear, q.scale)) in
    let one_scale = scale_there c d k y (pos 1) in
    record {
      first = omega (arith, linear);
      second = omega (arith, linear);
      scale = omega (arith, linear, whole, sum_there c d k y);
      above = omega (arith, linear, above, height_there c d k y, scale_there c d k y a.y);
      below = omega (arith, linear, below, height_there c d k y, scale_there c d k y b.y);
    }
  where
    sum_there : (c d : Point) (k y : ℤ) → (k *ℤ d.y -ℤ y) +ℤ (y -ℤ k *ℤ c.y) ≡ (d.y -ℤ c.y) *ℤ k
    sum_there c d k y = identity (c.y ∷ d.y ∷ k ∷ y ∷ []) ((# 2 ⊗ # 1 ⊖ # 3) ⊕ (# 3 ⊖ # 2 ⊗ # 0)) ((# 1 ⊖ # 0) ⊗ # 2) refl

-- is to the right of the place exactly where it is there on the right side of the first
right_there : (a b c d : Point) (k x y : ℤ) → a.y <ℤ b.y → IsPlaceInside a b k x y
    → int_lt (pos 0) (distance_right k x y c d) ≡ int_lt (right_of a b c d (k *ℤ d.y -ℤ y) (y -ℤ k *ℤ c.y)) (pos 0)
right_there a b c d k x y rises q =
    same_sign (b.y -ℤ a.y) (distance_right k x y c d) (right_of a b c d (k *ℤ d.y -ℤ y) (y -ℤ k *ℤ c.y)) (omega (arith, linear))
    (omega (arith, linear, at_height a b c d k x y, no_part (d.y -ℤ c.y) (distance_right k x y a b) q.on))
  where
    no_part : (g z : ℤ) → z ≡ pos 0 → g *ℤ z ≡ pos 0
    no_part g z h = ap (λ w. g *ℤ w) h ∙ identity (g ∷ []) (# 0 ⊗ lit (pos 0)) (lit (pos 0)) refl

    same_sign : (h p r : ℤ) → pos 0 <ℤ h → r ≡ pos 0 -ℤ h *ℤ p → int_lt (pos 0) p ≡ int_lt r (pos 0)
    same_sign h p r positive e = ⊎_elim
        (λ (hp : pos 0 <ℤ p). let whole = positive_product h p positive hp in yes_left p hp ∙ sym (yes_right r (omega (arith, linear))))
        (λ (lp : p ≤ℤ pos 0). let whole = times_le h p (pos 0) (omega (arith, linear)) lp in
        let none = zero_times h in not_left p lp ∙ sym (not_right r (omega (arith, linear))))
        (below_or_not (pos 0) p)
      where
        zero_times : (h : ℤ) → h *ℤ pos 0 ≡ pos 0
        zero_times h = identity (h ∷ []) (# 0 ⊗ lit (pos 0)) (lit (pos 0)) refl

        yes_left : (z : ℤ) → pos 0 <ℤ z → int_lt (pos 0) z ≡ true
        yes_left z h = grind (arith, ints)

        yes_right : (z : ℤ) → z <ℤ pos 0 → int_lt z (pos 0) ≡ true
        yes_right z h = grind (arith, ints)

        not_left : (z : ℤ) → z ≤ℤ pos 0 → int_lt (pos 0) z ≡ false
        not_left z h = grind (arith, ints)

        not_right : (z : ℤ) → pos 0 ≤ℤ z → int_lt z (pos 0) ≡ false
        not_right z h = grind (arith, ints)

-- ---- two places on one edge
slide_tests : (lo lo' end end' at at' first last : Bool) → (lo ≡ true → lo' ≡ true) → (end ≡ true → end' ≡ true)
    → (end ≡ true → lo ≡ true) → (end' ≡ true → lo' ≡ true)
    → (lo ≡ true → end ≡ false → lo' ≡ true → end' ≡ false → at ≡ at')
    → (lo ≡ false → lo' ≡ true → end' ≡ false → first ≡ at')
    → (lo ≡ true → end ≡ false → end' ≡ true → last ≡ at)
    → (lo ≡ false → lo' ≡ true → end ≡ false → end' ≡ true → first ≡ last)
    → xor (lo && not end && at) (lo' && not end' && at') ≡ xor (not lo && lo' && first) (not end && end' && last)
slide_tests true true true true at at' first last up up' in_ in' both begins ends inside = refl
slide_tests true true false false at at' first last up up' in_ in' both begins ends inside =
    ap (λ z. xor z at') (both refl refl refl refl) ∙ xor_self at'
slide_tests true true false true at at' first last up up' in_ in' both begins ends inside =
    xor_false at ∙ sym (ends refl refl refl)
  where
    xor_false : (b : Bool) → xor b false ≡ b
    xor_false true = refl
    xor_false false = refl
slide_tests true true true false at at' first last up up' in_ in' both begins ends inside = absurd (no_way (up' refl))
  where
    no_way : false ≡ true → ⊥
    no_way e = absurd cc
slide_tests true false end end' at at' first last up up' in_ in' both begins ends inside = absurd (no_way (up refl))
  where
    no_way : false ≡ true → ⊥
    no_way e = absurd cc
slide_tests false true false false at at' first last up up' in_ in' both begins ends inside =
    sym (begins refl refl refl) ∙ sym (xor_false first)
  where
    xor_false : (b : Bool) → xor b false ≡ b
    xor_false true = refl
    xor_false false = refl
slide_tests false true false true at at' first last up up' in_ in' both begins ends inside =
    sym (xor_self last) ∙ ap (λ z. xor z last) (sym (inside refl refl refl refl))
slide_tests false true true end' at at' first last up up' in_ in' both begins ends inside = absurd (no_way (in_ refl))
  where
    no_way : false ≡ true → ⊥
    no_way e = absurd cc
slide_tests false false end true at at' first last up up' in_ in' both begins ends inside = absurd (no_way (in' refl))
  where
    no_way : false ≡ true → ⊥
    no_way e = absurd cc
slide_tests false false true false at at' first last up up' in_ in' both begins ends inside = absurd (no_way (in_ refl))
  where
    no_way : false ≡ true → ⊥
    no_way e = absurd cc
slide_tests false false false false at at' first last up up' in_ in' both begins ends inside = refl

-- between the heights of the two places, and to the right of the edge from a to b
abbrev pub passes : Point → Point → ℤ → ℤ → ℤ → ℤ → Point → Bool
passes a b k y k' y' v = not (starts k y v) && starts k' y' v && int_lt (distance_right (pos 1) v.x v.y a b) (pos 0)

module _ (a b c d : Point) (k x y k' x' y' : ℤ) (rises : a.y <ℤ b.y) (up : c.y ≤ℤ d.y) (meet : MeetAtEnds (a, b) (c, d))
    (q : IsPlaceInside a b k x y) (q' : IsPlaceInside a b k' x' y') (order : (k' *ℤ y) ≤ℤ (k *ℤ y')) where
  -- what starts at the first height or below it does so at the second
  later : (v : Point) → starts k y v ≡ true → starts k' y' v ≡ true
  later v h =
      let low = times_le k' (k *ℤ v.y) y (omega (arith, linear, q'.scale)) (le_true (k *ℤ v.y) y h) in
      true_le (k' *ℤ v.y) y' (cancel_le k (k' *ℤ v.y) y' (omega (arith, linear, q.scale)) (omega (arith, linear, swap_product k k' v.y)))

  from_end : (k y : ℤ) → pos 1 ≤ℤ k → starts k y d ≡ true → starts k y c ≡ true
  from_end k y scale h =
      let first = times_le k c.y d.y (omega (arith, linear)) up in
      true_le (k *ℤ c.y) y (omega (arith, linear, le_true (k *ℤ d.y) y h))

  rises_there : (k y : ℤ) → pos 1 ≤ℤ k → starts k y c ≡ true → starts k y d ≡ false → c.y <ℤ d.y
  rises_there k y scale h g =
      cancel_lt k c.y d.y (omega (arith, linear)) (omega (arith, linear, le_true (k *ℤ c.y) y h, le_false (k *ℤ d.y) y g))

  at_first : starts k y c ≡ true → starts k y d ≡ false → IsInside a b c d (k *ℤ d.y -ℤ y) (y -ℤ k *ℤ c.y)
  at_first h g = there_inside a b c d k x y q (rises_there k y q.scale h g) (le_true (k *ℤ c.y) y h)
      (let less = le_false (k *ℤ d.y) y g in omega (arith, linear))

  at_second : starts k' y' c ≡ true → starts k' y' d ≡ false → IsInside a b c d (k' *ℤ d.y -ℤ y') (y' -ℤ k' *ℤ c.y)
  at_second h g = there_inside a b c d k' x' y' q' (rises_there k' y' q'.scale h g) (le_true (k' *ℤ c.y) y' h)
      (let less = le_false (k' *ℤ d.y) y' g in omega (arith, linear))

  above_first : (v : Point) → starts k y v ≡ false → a.y <ℤ v.y
  above_first v h = cancel_lt k a.y v.y (omega (arith, linear, q.scale)) (omega (arith, linear, q.above, le_false (k *ℤ v.y) y h))

  below_second : (v : Point) → starts k' y' v ≡ true → v.y <ℤ b.y
  below_second v h = cancel_lt k' v.y b.y (omega (arith, linear, q'.scale)) (omega (arith, linear, q'.below, le_true (k' *ℤ v.y) y' h))

  side_of_first : int_lt (distance_right (pos 1) c.x c.y a b) (pos 0) ≡ int_lt (right_of a b c d (pos 1) (pos 0)) (pos 0)
  side_of_first = ap (λ z. int_lt z (pos 0)) (sym (vertex_distance a b c d))

  side_of_last : int_lt (distance_right (pos 1) d.x d.y a b) (pos 0) ≡ int_lt (right_of a b c d (pos 0) (pos 1)) (pos 0)
  side_of_last = ap (λ z. int_lt z (pos 0)) (sym (last_distance a b c d))

  pub slide_edge : xor (is_crossed k x y (c, d)) (is_crossed k' x' y' (c, d)) ≡ xor (passes a b k y k' y' c) (passes a b k y k' y' d)
  slide_edge =
      ap₂ xor (rising_only k x y c d q.scale up) (rising_only k' x' y' c d q'.scale up)
      ∙ slide_tests (starts k y c) (starts k' y' c) (starts k y d) (starts k' y' d)
      (int_lt (pos 0) (distance_right k x y c d)) (int_lt (pos 0) (distance_right k' x' y' c d))
      (int_lt (distance_right (pos 1) c.x c.y a b) (pos 0)) (int_lt (distance_right (pos 1) d.x d.y a b) (pos 0))
      (later c) (later d) (from_end k y q.scale) (from_end k' y' q'.scale)
      (λ h g h' g'. right_there a b c d k x y rises q
      ∙ same_side a b c d _ _ _ _ meet rises (at_first h g) (at_second h' g')
      ∙ sym (right_there a b c d k' x' y' rises q'))
      (λ g h' g'. side_of_first
      ∙ same_side a b c d _ _ _ _ meet rises (first_inside a b c d (above_first c g) (below_second c h')) (at_second h' g')
      ∙ sym (right_there a b c d k' x' y' rises q'))
      (λ h g g'. side_of_last
      ∙ same_side a b c d _ _ _ _ meet rises (last_inside a b c d (above_first d g) (below_second d g')) (at_first h g)
      ∙ sym (right_there a b c d k x y rises q))
      (λ g h' g' e'. side_of_first
      ∙ same_side a b c d _ _ _ _ meet rises (first_inside a b c d (above_first c g) (below_second c h'))
      (last_inside a b c d (above_first d g') (below_second d e'))
      ∙ sym side_of_last)

-- the edge itself isn't crossed there, and its ends are outside
module _ (a b : Point) (k x y k' x' y' : ℤ) (rises : a.y <ℤ b.y) (q : IsPlaceInside a b k x y) (q' : IsPlaceInside a b k' x' y') where
  not_itself : (k x y : ℤ) → IsPlaceInside a b k x y → is_crossed k x y (a, b) ≡ false
  not_itself k x y h =
      rising_only k x y a b h.scale (omega (arith, linear)) ∙ none (starts k y a && not (starts k y b)) (distance_right k x y a b) h.on
    where
      none : (s : Bool) (z : ℤ) → z ≡ pos 0 → (s && int_lt (pos 0) z) ≡ false
      none true z e = grind (arith, ints)
      none false z e = refl

  pub slide_itself : xor (is_crossed k x y (a, b)) (is_crossed k' x' y' (a, b)) ≡ xor (passes a b k y k' y' a) (passes a b k y k' y' b)
  slide_itself =
      ap₂ xor (not_itself k x y q) (not_itself k' x' y' q')
      ∙ sym (ap₂ xor (low_out (starts k y a) (starts k' y' a) (int_lt (distance_right (pos 1) a.x a.y a b) (pos 0)) first)
      (high_out (starts k y b) (starts k' y' b) (int_lt (distance_right (pos 1) b.x b.y a b) (pos 0)) last))
    where
      first : starts k y a ≡ true
      first = true_le (k *ℤ a.y) y (let h = q.above in omega (arith, linear))

      last : starts k' y' b ≡ false
      last = false_le (k' *ℤ b.y) y' q'.below

      low_out : (s t u : Bool) → s ≡ true → (not s && t && u) ≡ false
      low_out s t u e = rw e refl

      high_out : (s t u : Bool) → t ≡ false → (not s && t && u) ≡ false
      high_out true t u e = refl
      high_out false t u e = rw e refl

-- ---- of all edges together
and_xor : (s a b : Bool) → xor (s && a) (s && b) ≡ (s && xor a b)
and_xor true a b = refl
and_xor false a b = refl

module _ {W : Type 0} (items : List ((Point × Point) × W)) (h : AreUpward items) (counts : W → Bool)
    (even : (v : Point) → parity (λ p. counts p.1 && touches v p.0) items ≡ false)
    (e : (Point × Point) × W) (given : Has items e) (rises : e.0.0.y <ℤ e.0.1.y) where
  slide_on : (k x y k' x' y' : ℤ) → IsPlaceInside e.0.0 e.0.1 k x y → IsPlaceInside e.0.0 e.0.1 k' x' y' → (k' *ℤ y) ≤ℤ (k *ℤ y')
      → parity (λ p. counts p.1 && is_crossed k x y p.0) items ≡ parity (λ p. counts p.1 && is_crossed k' x' y' p.0) items
  slide_on k x y k' x' y' q q' order =
      same_by_xor _ _ (sym (parity-xor (λ p. counts p.1 && is_crossed k x y p.0) (λ p. counts p.1 && is_crossed k' x' y' p.0) items)
      ∙ parity_agree (λ p. xor (counts p.1 && is_crossed k x y p.0) (counts p.1 && is_crossed k' x' y' p.0))
      (λ p. counts p.1 && xor (passes e.0.0 e.0.1 k y k' y' p.0.0) (passes e.0.0 e.0.1 k y k' y' p.0.1)) items (λ p m.
      and_xor (counts p.1) (is_crossed k x y p.0) (is_crossed k' x' y' p.0) ∙ ap (λ b. counts p.1 && b) (one_edge p m))
      ∙ even_ends (λ p. counts p.1) items even h.proper (passes e.0.0 e.0.1 k y k' y'))
    where
      one_edge : (p : (Point × Point) × W) → Has items p → xor (is_crossed k x y p.0) (is_crossed k' x' y' p.0)
          ≡ xor (passes e.0.0 e.0.1 k y k' y' p.0.0) (passes e.0.0 e.0.1 k y k' y' p.0.1)
      one_edge p m = ⊎_elim
          (λ (same : e.0 ≡ p.0). subst (λ (f : Point × Point). xor (is_crossed k x y f) (is_crossed k' x' y' f)
          ≡ xor (passes e.0.0 e.0.1 k y k' y' f.0) (passes e.0.0 e.0.1 k y k' y' f.1)) same
          (slide_itself e.0.0 e.0.1 k x y k' x' y' rises q q'))
          (λ (meet : MeetAtEnds e.0 p.0). slide_edge e.0.0 e.0.1 p.0.0 p.0.1 k x y k' x' y' rises (h.rises p m) meet q q' order)
          (h.meets e p given m)

  -- the parity to the right is the same for all places inside the edge
  pub slide : (k x y k' x' y' : ℤ) → IsPlaceInside e.0.0 e.0.1 k x y → IsPlaceInside e.0.0 e.0.1 k' x' y'
      → parity (λ p. counts p.1 && is_crossed k x y p.0) items ≡ parity (λ p. counts p.1 && is_crossed k' x' y' p.0) items
  slide k x y k' x' y' q q' = ⊎_elim
      (λ (less : (k' *ℤ y) <ℤ (k *ℤ y')). slide_on k x y k' x' y' q q' (omega (arith, linear)))
      (λ (le : (k *ℤ y') ≤ℤ (k' *ℤ y)). sym (slide_on k' x' y' k x y q' q le))
      (below_or_not (k' *ℤ y) (k *ℤ y'))
