-- A ring is even about a place outside its box, and boxes with a place in common touch.
use Rattle.std.proofs.Common.{◌≡◌, ◌⊎◌, inl, inr, Bool, true, false, not, ◌&&◌, ◌||◌}
use Rattle.std.proofs.Common.{List, [], ◌∷◌, ◌++◌, ℤ, pos, ◌+ℤ◌, ◌-ℤ◌, ◌*ℤ◌, ◌≤ℤ◌, ◌<ℤ◌}
use Rattle.std.proofs.Common.{refl, ap, ap₂, subst, ◌∙◌, ⊎_elim, arith}
use Rattle.std.specs.Prelude.{int_le, int_lt}
use Rattle.std.proofs.lemmas.Bool.{and_parts}
use Rattle.std.proofs.lemmas.Int.{ints}
use Rattle.lay_point.proofs.Polynomials.{#, lit, ◌⊕◌, ◌⊖◌, ◌⊗◌, identity}
use Rattle.lay_point.proofs.Signs.{cancel_le, cancel_positive, linear, nonnegative_product, positive_product, times_le}
use Rattle.lay_point.proofs.Tests.{le_false, le_true, lt_is_not_le, lt_true, true_le, true_lt}
use Rattle.lay_point.specs.declared.point.Point.{Point}
use Rattle.lay_point.specs.Parity.{xor, parity, distance_right, is_crossed, is_crossed_rising, rises_past}
use Rattle.lay_point.specs.RingEdges.{edges_of_ring}
use Rattle.lay_point.specs.Rings.{closed}
use Rattle.lay_point.specs.Rising.{last}
use Rattle.lay_point.proofs.Members.{Has, has-append}
use Rattle.lay_point.proofs.Parity.{parity_agree, parity_none, parity_of_walk, xor_self}
use Rattle.lay_point.proofs.Rising.{pair_first, pair_second}
use Rattle.lay_point.specs.declared.rect.Rect.{Rect}
use Rattle.lay_point.specs.Rects.{IsIn, grown, touch}
use Rattle.lay_point.proofs.RectLemmas.{grown_has, grown_keeps}
use Rattle.face_ring_laws.specs.Parts.{bounding_box, grown_by, is_in_box}

-- ---- the box has all points
grown_by_has : (b : Rect) (ps : List Point) (q : Point) → IsIn b q ⊎ Has ps q → IsIn (grown_by b ps) q
grown_by_has b [] q (inl h) = h
grown_by_has b [] q (inr m) = absurd m
grown_by_has b (p ∷ ps) q (inl h) = grown_by_has (grown b p) ps q (inl (grown_keeps b p q h))
grown_by_has b (p ∷ ps) q (inr (inl same)) = grown_by_has (grown b p) ps q (inl (subst (IsIn (grown b p)) same (grown_has b p)))
grown_by_has b (p ∷ ps) q (inr (inr m)) = grown_by_has (grown b p) ps q (inr m)

itself_in : (p : Point) → IsIn (record { low = p; high = p }) p
itself_in p = record { left = omega (arith, ints); right = omega (arith, ints); bottom = omega (arith, ints); top = omega (arith, ints) }

pub box_has : (ring : List Point) (q : Point) → Has ring q → IsIn (bounding_box ring) q
box_has [] q m = absurd m
box_has (p ∷ ps) q (inl same) = grown_by_has (record { low = p; high = p }) ps q
    (inl (subst (IsIn (record { low = p; high = p })) same (itself_in p)))
box_has (p ∷ ps) q (inr m) = grown_by_has (record { low = p; high = p }) ps q (inr m)

-- ---- on which side an edge passes a place
-- an edge that rises past the height with both ends not to the right of the place isn't to its right
times_distance : (k x y : ℤ) (p q : Point)
    → k *ℤ distance_right k x y p q ≡ (k *ℤ q.y -ℤ y) *ℤ (k *ℤ p.x -ℤ x) +ℤ (y -ℤ k *ℤ p.y) *ℤ (k *ℤ q.x -ℤ x)
times_distance k x y p q =
    identity (k ∷ x ∷ y ∷ p.x ∷ p.y ∷ q.x ∷ q.y ∷ [])
    (# 0 ⊗ ((# 0 ⊗ # 3 ⊖ # 1) ⊗ (# 6 ⊖ # 4) ⊕ (# 2 ⊖ # 0 ⊗ # 4) ⊗ (# 5 ⊖ # 3)))
    ((# 0 ⊗ # 6 ⊖ # 2) ⊗ (# 0 ⊗ # 3 ⊖ # 1) ⊕ (# 2 ⊖ # 0 ⊗ # 4) ⊗ (# 0 ⊗ # 5 ⊖ # 1)) refl

product_sign : (a b : ℤ) → a *ℤ (pos 0 -ℤ b) ≡ pos 0 -ℤ a *ℤ b
product_sign a b = identity (a ∷ b ∷ []) (# 0 ⊗ (lit (pos 0) ⊖ # 1)) (lit (pos 0) ⊖ # 0 ⊗ # 1) refl

not_right : (k x y : ℤ) (p q : Point) → pos 1 ≤ℤ k → (k *ℤ p.y) ≤ℤ y → y <ℤ (k *ℤ q.y) → (k *ℤ p.x) ≤ℤ x → (k *ℤ q.x) ≤ℤ x
    → pos 0 <ℤ distance_right k x y p q → ⊥
not_right k x y p q scale low high left right positive =
    let up = k *ℤ q.y -ℤ y in
    let down = y -ℤ k *ℤ p.y in
    let first = nonnegative_product up (pos 0 -ℤ (k *ℤ p.x -ℤ x)) (omega (arith, linear)) (omega (arith, linear)) in
    let second = nonnegative_product down (pos 0 -ℤ (k *ℤ q.x -ℤ x)) (omega (arith, linear)) (omega (arith, linear)) in
    let whole = positive_product k (distance_right k x y p q) (omega (arith, linear)) positive in
    omega (arith, linear, times_distance k x y p q, product_sign up (k *ℤ p.x -ℤ x), product_sign down (k *ℤ q.x -ℤ x))

on_right : (k x y : ℤ) (p q : Point) → pos 1 ≤ℤ k → (k *ℤ p.y) ≤ℤ y → y <ℤ (k *ℤ q.y) → x <ℤ (k *ℤ p.x) → x <ℤ (k *ℤ q.x)
    → pos 0 <ℤ distance_right k x y p q
on_right k x y p q scale low high left right =
    let up = k *ℤ q.y -ℤ y in
    let down = y -ℤ k *ℤ p.y in
    let first = positive_product up (k *ℤ p.x -ℤ x) (omega (arith, linear)) (omega (arith, linear)) in
    let second = nonnegative_product down (k *ℤ q.x -ℤ x) (omega (arith, linear)) (omega (arith, linear)) in
    cancel_positive k (distance_right k x y p q) (omega (arith, linear)) (omega (arith, linear, times_distance k x y p q))

-- ---- as tests
and_false : (a b : Bool) → (a ≡ true → b ≡ true → ⊥) → (a && b) ≡ false
and_false true true h = absurd (h refl refl)
and_false true false h = refl
and_false false b h = refl

and_here : (a b : Bool) → (a ≡ true → b ≡ true) → (a && b) ≡ a
and_here true b h = h refl
and_here false b h = refl

-- to the right of both ends
rising_missed : (k x y : ℤ) (p q : Point) → pos 1 ≤ℤ k → (k *ℤ p.x) ≤ℤ x → (k *ℤ q.x) ≤ℤ x → is_crossed_rising k x y p q ≡ false
rising_missed k x y p q scale left right =
    and_false (rises_past k y p q) (int_lt (pos 0) (distance_right k x y p q)) (λ rises positive.
    let both = and_parts (int_le (k *ℤ p.y) y) (int_lt y (k *ℤ q.y)) rises in
    not_right k x y p q scale (le_true (k *ℤ p.y) y both.0) (lt_true y (k *ℤ q.y) both.1) left right
    (lt_true (pos 0) (distance_right k x y p q) positive))

-- to the left of both ends
rising_met : (k x y : ℤ) (p q : Point) → pos 1 ≤ℤ k → x <ℤ (k *ℤ p.x) → x <ℤ (k *ℤ q.x)
    → is_crossed_rising k x y p q ≡ (int_le (k *ℤ p.y) y && not (int_le (k *ℤ q.y) y))
rising_met k x y p q scale left right =
    and_here (rises_past k y p q) (int_lt (pos 0) (distance_right k x y p q)) (λ rises.
    let both = and_parts (int_le (k *ℤ p.y) y) (int_lt y (k *ℤ q.y)) rises in
    true_lt (pos 0) (distance_right k x y p q)
    (on_right k x y p q scale (le_true (k *ℤ p.y) y both.0) (lt_true y (k *ℤ q.y) both.1) left right))
    ∙ ap (λ b. int_le (k *ℤ p.y) y && b) (lt_is_not_le y (k *ℤ q.y))

xor_by_parts : (a b : Bool) → ((a && not b) || (b && not a)) ≡ xor a b
xor_by_parts false false = refl
xor_by_parts false true = refl
xor_by_parts true false = refl
xor_by_parts true true = refl

-- ---- the edges of a ring have its points for ends
closed_has : (ring : List Point) (q : Point) → Has (closed ring) q → Has ring q
closed_has [] q m = m
closed_has (p ∷ ps) q (inl same) = inl same
closed_has (p ∷ ps) q (inr m) =
    ⊎_elim (λ (there : Has ps q). inr there) (λ (again : Has (p ∷ []) q). inl (only again)) (has-append ps (p ∷ []) q m)
  where
    only : Has (p ∷ []) q → p ≡ q
    only (inl same) = same
    only (inr none) = absurd none

edge_in : (ring : List Point) (e : Point × Point) → Has (edges_of_ring ring) e → IsIn (bounding_box ring) e.0 × IsIn (bounding_box ring) e.1
edge_in ring e m = (
  box_has ring e.0 (closed_has ring e.0 (pair_first (closed ring) e.0 e.1 m)),
  box_has ring e.1 (closed_has ring e.1 (pair_second (closed ring) e.0 e.1 m)),
)

last-back : (p q : Point) (ps : List Point) → last q (ps ++ p ∷ []) ≡ p
last-back p q [] = refl
last-back p q (r ∷ rs) = last-back p r rs

-- ---- outside
even_right : (k x y : ℤ) (ring : List Point) → pos 1 ≤ℤ k → (k *ℤ (bounding_box ring).high.x) <ℤ x
    → parity (is_crossed k x y) (edges_of_ring ring) ≡ false
even_right k x y ring scale out = parity_none (is_crossed k x y) (edges_of_ring ring) (λ e m.
    let ends = edge_in ring e m in
    let first = times_le k e.0.x (bounding_box ring).high.x (omega (arith, linear)) ends.0.right in
    let second = times_le k e.1.x (bounding_box ring).high.x (omega (arith, linear)) ends.1.right in
    ap₂ (λ a b. a || b) (rising_missed k x y e.0 e.1 scale (omega (arith, linear)) (omega (arith, linear)))
    (rising_missed k x y e.1 e.0 scale (omega (arith, linear)) (omega (arith, linear))))

even_left : (k x y : ℤ) (ring : List Point) → pos 1 ≤ℤ k → x <ℤ (k *ℤ (bounding_box ring).low.x)
    → parity (is_crossed k x y) (edges_of_ring ring) ≡ false
even_left k x y [] scale out = refl
even_left k x y (p ∷ ps) scale out =
    let ring = p ∷ ps in
    let under : Point → Bool = λ v. int_le (k *ℤ v.y) y in
    parity_agree (is_crossed k x y) (λ e. xor (under e.0) (under e.1)) (edges_of_ring ring) (λ e m.
    let ends = edge_in ring e m in
    let first = times_le k (bounding_box ring).low.x e.0.x (omega (arith, linear)) ends.0.left in
    let second = times_le k (bounding_box ring).low.x e.1.x (omega (arith, linear)) ends.1.left in
    ap₂ (λ a b. a || b) (rising_met k x y e.0 e.1 scale (omega (arith, linear)) (omega (arith, linear)))
    (rising_met k x y e.1 e.0 scale (omega (arith, linear)) (omega (arith, linear)))
    ∙ xor_by_parts (under e.0) (under e.1))
    ∙ parity_of_walk under p (ps ++ p ∷ [])
    ∙ ap (λ v. xor (under p) (under v)) (last-back p p ps) ∙ xor_self (under p)

-- neither end of an edge is below the place, or neither is above
level_missed : (k x y : ℤ) (p q : Point) → (y <ℤ (k *ℤ p.y)) ⊎ ((k *ℤ q.y) ≤ℤ y) → is_crossed_rising k x y p q ≡ false
level_missed k x y p q out = and_false (rises_past k y p q) (int_lt (pos 0) (distance_right k x y p q)) (λ rises positive.
    let both = and_parts (int_le (k *ℤ p.y) y) (int_lt y (k *ℤ q.y)) rises in
    let low = le_true (k *ℤ p.y) y both.0 in
    let high = lt_true y (k *ℤ q.y) both.1 in
    ⊎_elim (λ (above : y <ℤ (k *ℤ p.y)). omega (arith, linear)) (λ (below : (k *ℤ q.y) ≤ℤ y). omega (arith, linear)) out)

even_level : (k x y : ℤ) (ring : List Point) → pos 1 ≤ℤ k → (y <ℤ (k *ℤ (bounding_box ring).low.y))
    ⊎ ((k *ℤ (bounding_box ring).high.y) <ℤ y)
    → parity (is_crossed k x y) (edges_of_ring ring) ≡ false
even_level k x y ring scale out = parity_none (is_crossed k x y) (edges_of_ring ring) (λ e m.
    let ends = edge_in ring e m in
    let low = times_le k (bounding_box ring).low.y e.0.y (omega (arith, linear)) ends.0.bottom in
    let low' = times_le k (bounding_box ring).low.y e.1.y (omega (arith, linear)) ends.1.bottom in
    let high = times_le k e.0.y (bounding_box ring).high.y (omega (arith, linear)) ends.0.top in
    let high' = times_le k e.1.y (bounding_box ring).high.y (omega (arith, linear)) ends.1.top in
    ⊎_elim (λ (under : y <ℤ (k *ℤ (bounding_box ring).low.y)).
    ap₂ (λ a b. a || b) (level_missed k x y e.0 e.1 (inl (omega (arith, linear))))
    (level_missed k x y e.1 e.0 (inl (omega (arith, linear)))))
    (λ (over : (k *ℤ (bounding_box ring).high.y) <ℤ y).
    ap₂ (λ a b. a || b) (level_missed k x y e.0 e.1 (inr (omega (arith, linear))))
    (level_missed k x y e.1 e.0 (inr (omega (arith, linear)))))
    out)

-- a ring is even about a place outside its box
pub even_outside : (k x y : ℤ) (ring : List Point) → pos 1 ≤ℤ k → is_in_box k x y (bounding_box ring) ≡ false
    → parity (is_crossed k x y) (edges_of_ring ring) ≡ false
even_outside k x y ring scale out = by_tests (int_le (k *ℤ b.low.x) x) (int_le x (k *ℤ b.high.x)) (int_le (k *ℤ b.low.y) y)
    (int_le y (k *ℤ b.high.y))
    refl refl refl refl out
  where
    b : Rect
    b = bounding_box ring

    by_tests : (l r d u : Bool) → int_le (k *ℤ b.low.x) x ≡ l → int_le x (k *ℤ b.high.x) ≡ r → int_le (k *ℤ b.low.y) y ≡ d
        → int_le y (k *ℤ b.high.y) ≡ u → (l && r && d && u) ≡ false → parity (is_crossed k x y) (edges_of_ring ring) ≡ false
    by_tests false r d u hl hr hd hu o = even_left k x y ring scale (le_false (k *ℤ b.low.x) x hl)
    by_tests true false d u hl hr hd hu o = even_right k x y ring scale (le_false x (k *ℤ b.high.x) hr)
    by_tests true true false u hl hr hd hu o = even_level k x y ring scale (inl (le_false (k *ℤ b.low.y) y hd))
    by_tests true true true false hl hr hd hu o = even_level k x y ring scale (inr (le_false y (k *ℤ b.high.y) hu))
    by_tests true true true true hl hr hd hu o = absurd cc

-- ---- boxes that have a place in common touch
four_true : (a b c d : Bool) → (a && b && c && d) ≡ true → (a ≡ true) × (b ≡ true) × (c ≡ true) × (d ≡ true)
four_true true true true true e = (refl, refl, refl, refl)
four_true true true true false e = absurd cc
four_true true true false d e = absurd cc
four_true true false c d e = absurd cc
four_true false b c d e = absurd cc

all_four : (a b c d : Bool) → a ≡ true → b ≡ true → c ≡ true → d ≡ true → ((a && b) && (c && d)) ≡ true
all_four a b c d ha hb hc hd = rw (ha, hb, hc, hd) refl

pub touch_by_place : (k x y : ℤ) (b c : Rect) → pos 1 ≤ℤ k → is_in_box k x y b ≡ true → is_in_box k x y c ≡ true → touch b c ≡ true
touch_by_place k x y b c scale h g =
    let hs = four_true (int_le (k *ℤ b.low.x) x) (int_le x (k *ℤ b.high.x)) (int_le (k *ℤ b.low.y) y) (int_le y (k *ℤ b.high.y)) h in
    let gs = four_true (int_le (k *ℤ c.low.x) x) (int_le x (k *ℤ c.high.x)) (int_le (k *ℤ c.low.y) y) (int_le y (k *ℤ c.high.y)) g in
    all_four (int_le b.low.x c.high.x) (int_le b.low.y c.high.y) (int_le c.low.x b.high.x) (int_le c.low.y b.high.y)
    (between b.low.x c.high.x x hs.0 gs.1) (between b.low.y c.high.y y hs.2 gs.3) (between c.low.x b.high.x x gs.0 hs.1)
    (between c.low.y b.high.y y gs.2 hs.3)
  where
    between : (a d z : ℤ) → int_le (k *ℤ a) z ≡ true → int_le z (k *ℤ d) ≡ true → int_le a d ≡ true
    between a d z low high =
        let first = le_true (k *ℤ a) z low in
        let second = le_true z (k *ℤ d) high in
        true_le a d (cancel_le k a d (omega (arith, linear)) (omega (arith, linear)))
