-- An edge beside the midpoint of another that is on the border of a box round both.
use Rattle.std.proofs.Common.{◌≡◌, ◌⊎◌, inl, inr, Bool, true, false, not, ◌&&◌, [], ◌∷◌, ℤ, pos, ◌+ℤ◌, ◌-ℤ◌, ◌*ℤ◌, ◌≤ℤ◌, ◌<ℤ◌}
use Rattle.std.proofs.Common.{refl, sym, ap, ap₂, ◌∙◌, ⊎_elim, arith, int_eq}
use Rattle.std.specs.Prelude.{int_lt}
use Rattle.std.proofs.lemmas.Bool.Decides.{Decides-int_eq}
use Rattle.lay_point.proofs.Polynomials.{#, lit, ◌⊕◌, ◌⊖◌, ◌⊗◌, identity}
use Rattle.lay_point.proofs.Signs.{below_or_not, below_or_same, linear, nonnegative_product, positive_product, zero_product}
use Rattle.lay_point.proofs.Tests.{false_le, false_lt, le_false, le_true, lt_false, lt_true, true_le, true_lt}
use Rattle.lay_point.specs.declared.point.Point.{Point}
use Rattle.lay_point.specs.Parity.{xor, distance_right, is_crossed}
use Rattle.lay_point.proofs.NumberLaws.{none_times, times_none}
use Rattle.snap_edge_laws.specs.Meeting.{MeetAtEnds}
use Rattle.face_side_laws.proofs.Slide.{rising_only, starts}

-- the distance from a place in the column x0, by the ends' distances from it
column_distance : (x0 X Y : ℤ) (c d : Point) → X ≡ pos 2 *ℤ x0
    → distance_right (pos 2) X Y c d ≡ (c.x -ℤ x0) *ℤ (pos 2 *ℤ d.y -ℤ Y) +ℤ (d.x -ℤ x0) *ℤ (Y -ℤ pos 2 *ℤ c.y)
column_distance x0 X Y c d e =
    ap (λ z. distance_right (pos 2) z Y c d) e
    ∙ identity (x0 ∷ Y ∷ c.x ∷ c.y ∷ d.x ∷ d.y ∷ [])
    ((lit (pos 2) ⊗ # 2 ⊖ lit (pos 2) ⊗ # 0) ⊗ (# 5 ⊖ # 3) ⊕ (# 1 ⊖ lit (pos 2) ⊗ # 3) ⊗ (# 4 ⊖ # 2))
    ((# 2 ⊖ # 0) ⊗ (lit (pos 2) ⊗ # 5 ⊖ # 1) ⊕ (# 4 ⊖ # 0) ⊗ (# 1 ⊖ lit (pos 2) ⊗ # 3)) refl

-- the line of a place, by the distance
on_line : (X Y : ℤ) (c d : Point) → distance_right (pos 2) X Y c d ≡ pos 0
    → (X -ℤ pos 2 *ℤ c.x) *ℤ (d.y -ℤ c.y) ≡ (Y -ℤ pos 2 *ℤ c.y) *ℤ (d.x -ℤ c.x)
on_line X Y c d e =
    let f = identity (X ∷ Y ∷ c.x ∷ c.y ∷ d.x ∷ d.y ∷ [])
    ((lit (pos 2) ⊗ # 2 ⊖ # 0) ⊗ (# 5 ⊖ # 3) ⊕ (# 1 ⊖ lit (pos 2) ⊗ # 3) ⊗ (# 4 ⊖ # 2))
    ((# 1 ⊖ lit (pos 2) ⊗ # 3) ⊗ (# 4 ⊖ # 2) ⊖ (# 0 ⊖ lit (pos 2) ⊗ # 2) ⊗ (# 5 ⊖ # 3)) refl in
    omega (arith, linear, f, e)

-- ---- upright, on the left side
module _ (x0 X Y : ℤ) (a b c d : Point) (is_x : X ≡ pos 2 *ℤ x0) (is_y : Y ≡ a.y +ℤ b.y) (up : c.y ≤ℤ d.y) where
  -- no edge whose ends are in the column or left of it is right of it
  pub none_right : c.x ≤ℤ x0 → d.x ≤ℤ x0 → is_crossed (pos 2) X Y (c, d) ≡ false
  none_right hc hd = rising_only (pos 2) X Y c d (omega (arith, linear)) up ∙ by_tests (starts (pos 2) Y c) (starts (pos 2) Y d) refl refl
    where
      by_tests : (s t : Bool) → starts (pos 2) Y c ≡ s → starts (pos 2) Y d ≡ t
          → (s && not t && int_lt (pos 0) (distance_right (pos 2) X Y c d)) ≡ false
      by_tests false t e f = refl
      by_tests true true e f = refl
      by_tests true false e f =
          let low = le_true (pos 2 *ℤ c.y) Y e in
          let high = le_false (pos 2 *ℤ d.y) Y f in
          let first = nonnegative_product (x0 -ℤ c.x) (pos 2 *ℤ d.y -ℤ Y) (omega (arith, linear)) (omega (arith, linear)) in
          let second = nonnegative_product (x0 -ℤ d.x) (Y -ℤ pos 2 *ℤ c.y) (omega (arith, linear)) (omega (arith, linear)) in
          false_lt (pos 0) (distance_right (pos 2) X Y c d) (omega (
            arith,
            linear,
            column_distance x0 X Y c d is_x,
            first,
            second,
            turned x0 c.x (pos 2 *ℤ d.y -ℤ Y),
            turned x0 d.x (Y -ℤ pos 2 *ℤ c.y),
          ))
        where
          turned : (u v w : ℤ) → (u -ℤ v) *ℤ w ≡ pos 0 -ℤ (v -ℤ u) *ℤ w
          turned u v w = identity (u ∷ v ∷ w ∷ []) ((# 0 ⊖ # 1) ⊗ # 2) (lit (pos 0) ⊖ (# 1 ⊖ # 0) ⊗ # 2) refl

  -- an edge whose ends are in the column or right of it is right of the midpoint of one in the column, if it passes that height
  pub all_right : a.x ≡ x0 → b.x ≡ x0 → a.y <ℤ b.y → x0 ≤ℤ c.x → x0 ≤ℤ d.x → MeetAtEnds (a, b) (c, d)
      → is_crossed (pos 2) X Y (c, d) ≡ xor (starts (pos 2) Y c) (starts (pos 2) Y d)
  all_right ha hb rises hc hd meet =
      rising_only (pos 2) X Y c d (omega (arith, linear)) up ∙ by_tests (starts (pos 2) Y c) (starts (pos 2) Y d) refl refl
    where
      by_tests : (s t : Bool) → starts (pos 2) Y c ≡ s → starts (pos 2) Y d ≡ t
          → (s && not t && int_lt (pos 0) (distance_right (pos 2) X Y c d)) ≡ xor s t
      by_tests false false e f = refl
      by_tests true true e f = refl
      by_tests false true e f =
          let high = le_false (pos 2 *ℤ c.y) Y e in
          let low = le_true (pos 2 *ℤ d.y) Y f in
          absurd (omega (arith, linear))
      by_tests true false e f =
          let low = le_true (pos 2 *ℤ c.y) Y e in
          let high = le_false (pos 2 *ℤ d.y) Y f in
          let first = nonnegative_product (c.x -ℤ x0) (pos 2 *ℤ d.y -ℤ Y) (omega (arith, linear)) (omega (arith, linear)) in
          let second = nonnegative_product (d.x -ℤ x0) (Y -ℤ pos 2 *ℤ c.y) (omega (arith, linear)) (omega (arith, linear)) in
          let sum = column_distance x0 X Y c d is_x in
          ⊎_elim (λ (less : pos 0 <ℤ distance_right (pos 2) X Y c d). true_lt (pos 0) (distance_right (pos 2) X Y c d) less)
          (λ (same : pos 0 ≡ distance_right (pos 2) X Y c d).
          absurd (clash low high (omega (arith, linear, first, second, sum, same)) (sym same)))
          (below_or_same (pos 0) (distance_right (pos 2) X Y c d) (omega (arith, linear, first, second, sum)))
        where
          clash : (pos 2 *ℤ c.y) ≤ℤ Y → Y <ℤ (pos 2 *ℤ d.y) → (c.x -ℤ x0) *ℤ (pos 2 *ℤ d.y -ℤ Y) ≡ pos 0
              → distance_right (pos 2) X Y c d ≡ pos 0 → ⊥
          clash low high product none =
              let there : c.x -ℤ x0 ≡ pos 0 = ⊎_elim (λ (z : c.x -ℤ x0 ≡ pos 0). z)
              (λ (z : pos 2 *ℤ d.y -ℤ Y ≡ pos 0). absurd (omega (arith, linear)))
              (zero_product (c.x -ℤ x0) (pos 2 *ℤ d.y -ℤ Y) product) in
              let shared = meet (pos 2) X Y (omega (arith, linear))
              (record {
                line = none_times (X -ℤ pos 2 *ℤ a.x) (b.y -ℤ a.y) (omega (arith, linear))
                    ∙ sym (times_none (Y -ℤ pos 2 *ℤ a.y) (b.x -ℤ a.x) (omega (arith, linear)));
                column = inl (omega (arith, linear), omega (arith, linear));
                row = inl (omega (arith, linear), omega (arith, linear));
              })
              (record {
                line = on_line X Y c d none;
                column = inl (omega (arith, linear), omega (arith, linear));
                row = inl (omega (arith, linear), omega (arith, linear));
              }) in
              let row = shared.row in
              ⊎_elim (λ (same : shared.end ≡ a). let e = ap (λ (p : Point). p.y) same in omega (arith, linear))
              (λ (same : shared.end ≡ b). let e = ap (λ (p : Point). p.y) same in omega (arith, linear)) shared.of_first

-- the edge itself
pub itself_there : (x0 X Y : ℤ) (a b : Point) → X ≡ pos 2 *ℤ x0 → Y ≡ a.y +ℤ b.y → a.x ≡ x0 → b.x ≡ x0 → a.y <ℤ b.y
    → (is_crossed (pos 2) X Y (a, b) ≡ false) × (xor (starts (pos 2) Y a) (starts (pos 2) Y b) ≡ true)
itself_there x0 X Y a b is_x is_y ha hb rises = (
  none_right x0 X Y a b a b is_x is_y (omega (arith, linear)) (omega (arith, linear)) (omega (arith, linear)),
  ap₂ xor (true_le (pos 2 *ℤ a.y) Y (omega (arith, linear))) (false_le (pos 2 *ℤ b.y) Y (omega (arith, linear))),
)

-- ---- level
-- points of the height y0, right of X / 2
abbrev pub past : ℤ → ℤ → Point → Bool
past X y0 v = int_eq v.y y0 && int_lt X (pos 2 *ℤ v.x)

module _ (y0 X Y : ℤ) (c d : Point) (is_y : Y ≡ pos 2 *ℤ y0) (up : c.y ≤ℤ d.y) where
  -- no edge whose ends are at the height or below it crosses it
  pub none_above : d.y ≤ℤ y0 → is_crossed (pos 2) X Y (c, d) ≡ false
  none_above h = rising_only (pos 2) X Y c d (omega (arith, linear)) up
      ∙ ended (starts (pos 2) Y c) (int_lt (pos 0) (distance_right (pos 2) X Y c d)) (true_le (pos 2 *ℤ d.y) Y (omega (arith, linear)))
    where
      ended : (s u : Bool) {t : Bool} → t ≡ true → (s && not t && u) ≡ false
      ended true u e = rw e refl
      ended false u e = refl

  same_height : (v : Point) → v.y ≡ y0 → past X y0 v ≡ int_lt X (pos 2 *ℤ v.x)
  same_height v e = ap (λ b. b && int_lt X (pos 2 *ℤ v.x)) ((Decides-int_eq v.y y0).1 e)

  other_height : (v : Point) → (v.y ≡ y0 → ⊥) → past X y0 v ≡ false
  other_height v e = by_test (int_eq v.y y0) refl
    where
      by_test : (t : Bool) → int_eq v.y y0 ≡ t → (t && int_lt X (pos 2 *ℤ v.x)) ≡ false
      by_test true f = absurd (e ((Decides-int_eq v.y y0).0 f))
      by_test false f = refl

  -- of those from the height upward, the ones whose lower end is past; a level one has both ends past, or none
  pub all_above : (a b : Point) → X ≡ a.x +ℤ b.x → a.y ≡ y0 → b.y ≡ y0 → a.x <ℤ b.x → y0 ≤ℤ c.y → MeetAtEnds (a, b) (c, d)
      → is_crossed (pos 2) X Y (c, d) ≡ xor (past X y0 c) (past X y0 d)
  all_above a b is_x ha hb rises hc meet =
      rising_only (pos 2) X Y c d (omega (arith, linear)) up
      ∙ ⊎_elim
      (λ (above : y0 <ℤ c.y).
      ap (λ s. s && not (starts (pos 2) Y d) && int_lt (pos 0) (distance_right (pos 2) X Y c d))
      (false_le (pos 2 *ℤ c.y) Y (omega (arith, linear)))
      ∙ sym (ap₂ xor (other_height c (λ e. omega (arith, linear))) (other_height d (λ e. omega (arith, linear)))))
      (λ (at : y0 ≡ c.y). ap (λ s. s && not (starts (pos 2) Y d) && int_lt (pos 0) (distance_right (pos 2) X Y c d))
      (true_le (pos 2 *ℤ c.y) Y (omega (arith, linear)))
      ∙ ⊎_elim (λ (more : y0 <ℤ d.y). rising (sym at) more) (λ (level_ : y0 ≡ d.y). level (sym at) (sym level_))
      (below_or_same y0 d.y (omega (arith, linear))))
      (below_or_same y0 c.y hc)
    where
      rising : c.y ≡ y0 → y0 <ℤ d.y
          → (not (starts (pos 2) Y d) && int_lt (pos 0) (distance_right (pos 2) X Y c d)) ≡ xor (past X y0 c) (past X y0 d)
      rising at more =
          ap (λ s. not s && int_lt (pos 0) (distance_right (pos 2) X Y c d)) (false_le (pos 2 *ℤ d.y) Y (omega (arith, linear)))
          ∙ ⊎_elim
          (λ (less : X <ℤ (pos 2 *ℤ c.x)).
          let whole = positive_product (pos 2 *ℤ c.x -ℤ X) (d.y -ℤ c.y) (omega (arith, linear)) (omega (arith, linear)) in
          true_lt (pos 0) (distance_right (pos 2) X Y c d) (omega (arith, linear, whole, rest))
          ∙ sym (ap₂ xor (same_height c at ∙ true_lt X (pos 2 *ℤ c.x) less) (other_height d (λ e. omega (arith, linear)))))
          (λ (le : (pos 2 *ℤ c.x) ≤ℤ X).
          let whole = nonnegative_product (X -ℤ pos 2 *ℤ c.x) (d.y -ℤ c.y) (omega (arith, linear)) (omega (arith, linear)) in
          false_lt (pos 0) (distance_right (pos 2) X Y c d) (omega (arith, linear, whole, rest, turned X (pos 2 *ℤ c.x) (d.y -ℤ c.y)))
          ∙ sym (ap₂ xor (same_height c at ∙ false_lt X (pos 2 *ℤ c.x) le) (other_height d (λ e. omega (arith, linear)))))
          (below_or_not X (pos 2 *ℤ c.x))
        where
          rest : (Y -ℤ pos 2 *ℤ c.y) *ℤ (d.x -ℤ c.x) ≡ pos 0
          rest = none_times (Y -ℤ pos 2 *ℤ c.y) (d.x -ℤ c.x) (omega (arith, linear))

          turned : (u v w : ℤ) → (u -ℤ v) *ℤ w ≡ pos 0 -ℤ (v -ℤ u) *ℤ w
          turned u v w = identity (u ∷ v ∷ w ∷ []) ((# 0 ⊖ # 1) ⊗ # 2) (lit (pos 0) ⊖ (# 1 ⊖ # 0) ⊗ # 2) refl

      -- a level one through the midpoint would have it for an end
      clash : c.y ≡ y0 → d.y ≡ y0 → ((pos 2 *ℤ c.x) ≤ℤ X) × (X ≤ℤ (pos 2 *ℤ d.x)) ⊎ ((pos 2 *ℤ d.x) ≤ℤ X) × (X ≤ℤ (pos 2 *ℤ c.x)) → ⊥
      clash at level_ between =
          let shared = meet (pos 2) X Y (omega (arith, linear))
          (record {
            line = times_none (X -ℤ pos 2 *ℤ a.x) (b.y -ℤ a.y) (omega (arith, linear))
                ∙ sym (none_times (Y -ℤ pos 2 *ℤ a.y) (b.x -ℤ a.x) (omega (arith, linear)));
            column = inl (omega (arith, linear), omega (arith, linear));
            row = inl (omega (arith, linear), omega (arith, linear));
          })
          (record {
            line = times_none (X -ℤ pos 2 *ℤ c.x) (d.y -ℤ c.y) (omega (arith, linear))
                ∙ sym (none_times (Y -ℤ pos 2 *ℤ c.y) (d.x -ℤ c.x) (omega (arith, linear)));
            column = between;
            row = inl (omega (arith, linear), omega (arith, linear));
          }) in
          let column = shared.column in
          ⊎_elim (λ (same : shared.end ≡ a). let e = ap (λ (p : Point). p.x) same in omega (arith, linear))
          (λ (same : shared.end ≡ b). let e = ap (λ (p : Point). p.x) same in omega (arith, linear)) shared.of_first

      level : c.y ≡ y0 → d.y ≡ y0
          → (not (starts (pos 2) Y d) && int_lt (pos 0) (distance_right (pos 2) X Y c d)) ≡ xor (past X y0 c) (past X y0 d)
      level at level_ =
          ap (λ s. not s && int_lt (pos 0) (distance_right (pos 2) X Y c d)) (true_le (pos 2 *ℤ d.y) Y (omega (arith, linear)))
          ∙ sym (ap₂ xor (same_height c at) (same_height d level_)
          ∙ by_tests (int_lt X (pos 2 *ℤ c.x)) (int_lt X (pos 2 *ℤ d.x)) refl refl)
        where
          by_tests : (s t : Bool) → int_lt X (pos 2 *ℤ c.x) ≡ s → int_lt X (pos 2 *ℤ d.x) ≡ t → xor s t ≡ false
          by_tests true true e f = refl
          by_tests false false e f = refl
          by_tests true false e f = absurd (clash at level_
              (inr (lt_false X (pos 2 *ℤ d.x) f, let less = lt_true X (pos 2 *ℤ c.x) e in omega (arith, linear))))
          by_tests false true e f = absurd (clash at level_
              (inl (lt_false X (pos 2 *ℤ c.x) e, let less = lt_true X (pos 2 *ℤ d.x) f in omega (arith, linear))))

pub level_itself : (y0 X Y : ℤ) (a b : Point) → Y ≡ pos 2 *ℤ y0 → X ≡ a.x +ℤ b.x → a.y ≡ y0 → b.y ≡ y0 → a.x <ℤ b.x
    → (is_crossed (pos 2) X Y (a, b) ≡ false) × (xor (past X y0 a) (past X y0 b) ≡ true)
level_itself y0 X Y a b is_y is_x ha hb rises = (
  none_above y0 X Y a b is_y (omega (arith, linear)) (omega (arith, linear)),
  ap₂ xor (same_height y0 X Y a b is_y (omega (arith, linear)) a ha ∙ false_lt X (pos 2 *ℤ a.x) (omega (arith, linear)))
      (same_height y0 X Y a b is_y (omega (arith, linear)) b hb ∙ true_lt X (pos 2 *ℤ b.x) (omega (arith, linear))),
)
