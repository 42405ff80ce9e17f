-- The place on an edge at which it is judged. It divides the way from the lower end to the upper one as 1 to a weight.
use Rattle.std.proofs.Common.{◌≡◌, Bool, true, false, cond, [], ◌∷◌}
use Rattle.std.proofs.Common.{ℤ, pos, ◌+ℤ◌, ◌-ℤ◌, ◌*ℤ◌, ◌≤ℤ◌, ◌<ℤ◌, refl, ◌∙◌, arith}
use Rattle.std.specs.Prelude.{if◌then◌else◌, int_lt}
use Rattle.std.proofs.lemmas.Int.{ints}
use Rattle.lay_point.proofs.Polynomials.{#, lit, ◌⊕◌, ◌⊖◌, ◌⊗◌, identity}
use Rattle.lay_point.proofs.Signs.{linear, times_lt}
use Rattle.lay_point.specs.declared.point.Point.{Point}
use Rattle.lay_point.specs.Parity.{distance_right}
use Rattle.snap_pixels.specs.Segments.{cross}
use Rattle.face_side_laws.specs.Slides.{IsPlaceInside}
use Rattle.face_rows.specs.Rows.{rise, upward}

-- the weight of an edge's lower end: of an edge that isn't level the place is then half a unit above that end, and of a level edge it
-- is the midpoint
abbrev pub weight : Point × Point → ℤ
weight e = if int_lt (pos 0) (rise e) then rise e -ℤ pos 1 else pos 1

-- the place of this weight
abbrev pub near_k : ℤ → ℤ
near_k w = w +ℤ pos 1

abbrev pub near : ℤ → ℤ → ℤ → ℤ
near w a b = w *ℤ a +ℤ b

distance_near : (w : ℤ) (a b c d : Point)
    → distance_right (near_k w) (near w a.x b.x) (near w a.y b.y) c d ≡ w *ℤ cross a c c d +ℤ cross b c c d
distance_near w a b c d =
    identity (w ∷ a.x ∷ a.y ∷ b.x ∷ b.y ∷ c.x ∷ c.y ∷ d.x ∷ d.y ∷ [])
    (((# 0 ⊕ lit (pos 1)) ⊗ # 5 ⊖ (# 0 ⊗ # 1 ⊕ # 3)) ⊗ (# 8 ⊖ # 6) ⊕ ((# 0 ⊗ # 2 ⊕ # 4) ⊖ (# 0 ⊕ lit (pos 1)) ⊗ # 6) ⊗ (# 7 ⊖ # 5))
    (# 0 ⊗ ((# 5 ⊖ # 1) ⊗ (# 8 ⊖ # 6) ⊖ (# 6 ⊖ # 2) ⊗ (# 7 ⊖ # 5)) ⊕ ((# 5 ⊖ # 3) ⊗ (# 8 ⊖ # 6) ⊖ (# 6 ⊖ # 4) ⊗ (# 7 ⊖ # 5))) refl

-- the place at which the edge is judged
abbrev pub at_k : Point × Point → ℤ
at_k e = near_k (weight e)

abbrev pub at_x : Point × Point → ℤ
at_x e = near (weight e) (upward e).0.x (upward e).1.x

abbrev pub at_y : Point × Point → ℤ
at_y e = near (weight e) (upward e).0.y (upward e).1.y

-- ---- the weight
pub record IsWeight (a b : Point) (w : ℤ) : Type 0 where
  pub whole : pos 1 ≤ℤ w
  pub enough : (b.y -ℤ a.y) ≤ℤ w

pub weight_of : (e : Point × Point) → IsWeight (upward e).0 (upward e).1 (weight e)
weight_of e = by_test (int_lt (pos 0) (rise e)) refl
  where
    rising : (h : ℤ) → int_lt (pos 0) (pos 2 *ℤ h) ≡ true → (pos 1 ≤ℤ (pos 2 *ℤ h -ℤ pos 1)) × (h ≤ℤ (pos 2 *ℤ h -ℤ pos 1))
    rising h t = let less = positive (pos 2 *ℤ h) t in (omega (arith, linear), omega (arith, linear))
      where
        positive : (z : ℤ) → int_lt (pos 0) z ≡ true → pos 0 <ℤ z
        positive z t = grind (arith, ints)

    level : (h : ℤ) → int_lt (pos 0) (pos 2 *ℤ h) ≡ false → h ≤ℤ pos 1
    level h t = let le = none (pos 2 *ℤ h) t in omega (arith, linear)
      where
        none : (z : ℤ) → int_lt (pos 0) z ≡ false → z ≤ℤ pos 0
        none z t = grind (arith, ints)

    by_test : (b : Bool) → int_lt (pos 0) (rise e) ≡ b → IsWeight (upward e).0 (upward e).1 (cond b (rise e -ℤ pos 1) (pos 1))
    by_test true t = let h = rising ((upward e).1.y -ℤ (upward e).0.y) t in record { whole = h.0; enough = h.1 }
    by_test false t = record { whole = omega (arith, linear); enough = level ((upward e).1.y -ℤ (upward e).0.y) t }

-- ---- where the place is
next_times : (w a : ℤ) → (w +ℤ pos 1) *ℤ a ≡ w *ℤ a +ℤ a
next_times w a = identity (w ∷ a ∷ []) ((# 0 ⊕ lit (pos 1)) ⊗ # 1) (# 0 ⊗ # 1 ⊕ # 1) refl

-- inside an edge that isn't level
pub near_inside : (w : ℤ) (a b : Point) → a.y <ℤ b.y → pos 1 ≤ℤ w → IsPlaceInside a b (near_k w) (near w a.x b.x) (near w a.y b.y)
near_inside w a b rises whole =
    let up = times_lt w a.y b.y (omega (arith, linear)) rises in
    record {
      scale = omega (arith, linear);
      on = distance_near w a b a b ∙ identity (w ∷ a.x ∷ a.y ∷ b.x ∷ b.y ∷ [])
          (# 0 ⊗ ((# 1 ⊖ # 1) ⊗ (# 4 ⊖ # 2) ⊖ (# 2 ⊖ # 2) ⊗ (# 3 ⊖ # 1)) ⊕ ((# 1 ⊖ # 3) ⊗ (# 4 ⊖ # 2) ⊖ (# 2 ⊖ # 4) ⊗ (# 3 ⊖ # 1)))
          (lit (pos 0)) refl;
      above = omega (arith, linear, next_times w a.y);
      below = omega (arith, linear, next_times w b.y);
    }
