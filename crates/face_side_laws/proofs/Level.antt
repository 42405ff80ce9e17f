-- At the height of a point: which edges are to its right or through it, in the row above and in the row below; and level
-- edges that end there.
use Rattle.std.proofs.Common.{◌≡◌, ◌⊎◌, inl, inr, Bool, true, false, not, ◌&&◌, [], ◌∷◌, ℤ, pos, ◌+ℤ◌, ◌-ℤ◌, ◌*ℤ◌, ◌≤ℤ◌, ◌<ℤ◌}
use Rattle.std.proofs.Common.{refl, sym, ap, ap₂, ◌∙◌, ⊎_elim, arith, int_eq}
use Rattle.std.specs.Prelude.{int_le, int_lt}
use Rattle.std.proofs.lemmas.Int.{ints}
use Rattle.std.proofs.lemmas.Bool.Decides.{Decides-int_eq}
use Rattle.lay_point.proofs.Polynomials.{#, lit, ◌⊕◌, ◌⊖◌, ◌⊗◌, identity}
use Rattle.lay_point.proofs.Signs.{below_or_not, below_or_same, linear, nonnegative_product, positive_product}
use Rattle.lay_point.proofs.Tests.{false_le, false_lt, true_le, true_lt}
use Rattle.lay_point.specs.declared.point.Point.{Point}
use Rattle.lay_point.specs.Parity.{xor, distance_right}
use Rattle.lay_point.specs.Points.{point_eq}
use Rattle.lay_point.proofs.NumberLaws.{int_eq-same, none_times}
use Rattle.lay_point.proofs.BoolLaws.{and-false}
use Rattle.lay_point.proofs.Parity.{xor-false, xor_self}

abbrev pub Edge : Type 0
Edge = Point × Point

-- the edge passes the height r + 1/2
abbrev pub in_row : ℤ → Edge → Bool
in_row r f = int_le f.0.y r && int_lt r f.1.y

abbrev pub right_of_point : Point → Edge → ℤ
right_of_point v f = distance_right (pos 1) v.x v.y f.0 f.1

-- of the row, to the right of the point; or through it
abbrev pub beyond : ℤ → Point → Edge → Bool
beyond r v f = in_row r f && int_lt (pos 0) (right_of_point v f)

abbrev pub from_on : ℤ → Point → Edge → Bool
from_on r v f = in_row r f && int_le (pos 0) (right_of_point v f)

-- points at the height of the point, from it on to the right; or behind it
abbrev pub from_here : Point → Point → Bool
from_here v u = int_eq u.y v.y && int_le v.x u.x

abbrev pub behind_here : Point → Point → Bool
behind_here v u = int_eq u.y v.y && int_lt v.x u.x

-- a level edge with one end among them
abbrev pub left_arm : Point → Edge → Bool
left_arm v f = int_eq f.0.y f.1.y && xor (from_here v f.0) (from_here v f.1)

abbrev pub right_arm : Point → Edge → Bool
right_arm v f = int_eq f.0.y f.1.y && xor (behind_here v f.0) (behind_here v f.1)

-- ---- distances at an end
at_start : (v a b : Point) → right_of_point v (a, b) ≡ (a.x -ℤ v.x) *ℤ (b.y -ℤ a.y) +ℤ (v.y -ℤ a.y) *ℤ (b.x -ℤ a.x)
at_start v a b = identity (v.x ∷ v.y ∷ a.x ∷ a.y ∷ b.x ∷ b.y ∷ [])
    ((lit (pos 1) ⊗ # 2 ⊖ # 0) ⊗ (# 5 ⊖ # 3) ⊕ (# 1 ⊖ lit (pos 1) ⊗ # 3) ⊗ (# 4 ⊖ # 2))
    ((# 2 ⊖ # 0) ⊗ (# 5 ⊖ # 3) ⊕ (# 1 ⊖ # 3) ⊗ (# 4 ⊖ # 2)) refl

at_finish : (v a b : Point) → right_of_point v (a, b) ≡ (b.x -ℤ v.x) *ℤ (b.y -ℤ a.y) +ℤ (v.y -ℤ b.y) *ℤ (b.x -ℤ a.x)
at_finish v a b = identity (v.x ∷ v.y ∷ a.x ∷ a.y ∷ b.x ∷ b.y ∷ [])
    ((lit (pos 1) ⊗ # 2 ⊖ # 0) ⊗ (# 5 ⊖ # 3) ⊕ (# 1 ⊖ lit (pos 1) ⊗ # 3) ⊗ (# 4 ⊖ # 2))
    ((# 4 ⊖ # 0) ⊗ (# 5 ⊖ # 3) ⊕ (# 1 ⊖ # 5) ⊗ (# 4 ⊖ # 2)) refl

-- the sign of a difference times a positive number
le_by_times : (z x h : ℤ) → pos 0 <ℤ h → int_le (pos 0) ((z -ℤ x) *ℤ h) ≡ int_le x z
le_by_times z x h positive = ⊎_elim
    (λ (less : z <ℤ x).
    let whole = positive_product (x -ℤ z) h (omega (arith, linear)) positive in
    false_le (pos 0) ((z -ℤ x) *ℤ h) (omega (arith, linear, whole, turned)) ∙ sym (false_le x z less))
    (λ (le : x ≤ℤ z).
    let whole = nonnegative_product (z -ℤ x) h (omega (arith, linear)) (omega (arith, linear)) in
    true_le (pos 0) ((z -ℤ x) *ℤ h) whole ∙ sym (true_le x z le))
    (below_or_not z x)
  where
    turned : (z -ℤ x) *ℤ h ≡ pos 0 -ℤ (x -ℤ z) *ℤ h
    turned = identity (z ∷ x ∷ h ∷ []) ((# 0 ⊖ # 1) ⊗ # 2) (lit (pos 0) ⊖ (# 1 ⊖ # 0) ⊗ # 2) refl

lt_by_times : (z x h : ℤ) → pos 0 <ℤ h → int_lt (pos 0) ((z -ℤ x) *ℤ h) ≡ int_lt x z
lt_by_times z x h positive = ⊎_elim
    (λ (less : x <ℤ z).
    let whole = positive_product (z -ℤ x) h (omega (arith, linear)) positive in
    true_lt (pos 0) ((z -ℤ x) *ℤ h) whole ∙ sym (true_lt x z less))
    (λ (le : z ≤ℤ x).
    let whole = nonnegative_product (x -ℤ z) h (omega (arith, linear)) (omega (arith, linear)) in
    false_lt (pos 0) ((z -ℤ x) *ℤ h) (omega (arith, linear, whole, turned)) ∙ sym (false_lt x z le))
    (below_or_not x z)
  where
    turned : (z -ℤ x) *ℤ h ≡ pos 0 -ℤ (x -ℤ z) *ℤ h
    turned = identity (z ∷ x ∷ h ∷ []) ((# 0 ⊖ # 1) ⊗ # 2) (lit (pos 0) ⊖ (# 1 ⊖ # 0) ⊗ # 2) refl

-- ---- through the height
same_false : (a b : ℤ) → (a ≡ b → ⊥) → int_eq a b ≡ false
same_false a b h = by_test (int_eq a b) refl
  where
    by_test : (t : Bool) → int_eq a b ≡ t → t ≡ false
    by_test true e = absurd (h ((Decides-int_eq a b).0 e))
    by_test false e = refl

row_true : (r : ℤ) (f : Edge) → f.0.y ≤ℤ r → r <ℤ f.1.y → in_row r f ≡ true
row_true r f low high = grind (arith, ints)

row_false : (r : ℤ) (f : Edge) → (r <ℤ f.0.y) ⊎ (f.1.y ≤ℤ r) → in_row r f ≡ false
row_false r f (inl above) = grind (arith, ints)
row_false r f (inr below) = grind (arith, ints)

-- an edge that isn't level: how its ends and its rows at the height go together, for either kind of "to the right"
module _ (v a b : Point) (rises : a.y <ℤ b.y) (side : ℤ → Bool) (point : ℤ → Bool)
    (by_times : (z h : ℤ) → pos 0 <ℤ h → side ((z -ℤ v.x) *ℤ h) ≡ point z) where
  abbrev here : ℤ → Bool
  here r = in_row r (a, b) && side (right_of_point v (a, b))

  abbrev at : Point → Bool
  at u = int_eq u.y v.y && point u.x

  not_at : (u : Point) → (u.y ≡ v.y → ⊥) → at u ≡ false
  not_at u h = ap (λ t. t && point u.x) (same_false u.y v.y h)

  not_here : (r : ℤ) → (r <ℤ a.y) ⊎ (b.y ≤ℤ r) → here r ≡ false
  not_here r out = ap (λ t. t && side (right_of_point v (a, b))) (row_false r (a, b) out)

  start_here : a.y ≡ v.y → here v.y ≡ at a
  start_here e =
      let h : pos 0 <ℤ (b.y -ℤ a.y) = omega (arith, linear) in
      let distance : right_of_point v (a, b) ≡ (a.x -ℤ v.x) *ℤ (b.y -ℤ a.y) =
      omega (arith, linear, at_start v a b, none_times (v.y -ℤ a.y) (b.x -ℤ a.x) (omega (arith, linear, e))) in
      ap₂ (λ s t. s && t) (row_true v.y (a, b) (omega (arith, linear, e)) (omega (arith, linear, e)))
      (ap side distance ∙ by_times a.x (b.y -ℤ a.y) h)
      ∙ sym (ap (λ t. t && point a.x) (int_eq-same a.y v.y e))

  finish_here : b.y ≡ v.y → here (v.y -ℤ pos 1) ≡ at b
  finish_here e =
      let h : pos 0 <ℤ (b.y -ℤ a.y) = omega (arith, linear) in
      let distance : right_of_point v (a, b) ≡ (b.x -ℤ v.x) *ℤ (b.y -ℤ a.y) =
      omega (arith, linear, at_finish v a b, none_times (v.y -ℤ b.y) (b.x -ℤ a.x) (omega (arith, linear, e))) in
      ap₂ (λ s t. s && t) (row_true (v.y -ℤ pos 1) (a, b) (omega (arith, linear, e)) (omega (arith, linear, e)))
      (ap side distance ∙ by_times b.x (b.y -ℤ a.y) h)
      ∙ sym (ap (λ t. t && point b.x) (int_eq-same b.y v.y e))

  both_rows : a.y <ℤ v.y → v.y <ℤ b.y → here v.y ≡ here (v.y -ℤ pos 1)
  both_rows low high = ap (λ t. t && side (right_of_point v (a, b)))
      (row_true v.y (a, b) (omega (arith, linear)) high ∙ sym (row_true (v.y -ℤ pos 1) (a, b) (omega (arith, linear))
      (omega (arith, linear))))

  pub rows_and_ends : xor (at a) (at b) ≡ xor (here v.y) (here (v.y -ℤ pos 1))
  rows_and_ends = ⊎_elim
      (λ (low : a.y <ℤ v.y). ⊎_elim
      (λ (high : v.y <ℤ b.y).
      ap₂ xor (not_at a (λ e. omega (arith, linear, e))) (not_at b (λ e. omega (arith, linear, e)))
      ∙ sym (ap (λ t. xor t (here (v.y -ℤ pos 1))) (both_rows low high) ∙ xor_self (here (v.y -ℤ pos 1))))
      (λ (le : b.y ≤ℤ v.y). ⊎_elim
      (λ (under : b.y <ℤ v.y).
      ap₂ xor (not_at a (λ e. omega (arith, linear, e))) (not_at b (λ e. omega (arith, linear, e)))
      ∙ sym (ap₂ xor (not_here v.y (inr le)) (not_here (v.y -ℤ pos 1) (inr (omega (arith, linear))))))
      (λ (e : b.y ≡ v.y).
      ap₂ xor (not_at a (λ g. omega (arith, linear, g))) (sym (finish_here e))
      ∙ sym (ap (λ t. xor t (here (v.y -ℤ pos 1))) (not_here v.y (inr le))))
      (below_or_same b.y v.y le))
      (below_or_not v.y b.y))
      (λ (ge : v.y ≤ℤ a.y). ⊎_elim
      (λ (over : v.y <ℤ a.y).
      ap₂ xor (not_at a (λ e. omega (arith, linear, e))) (not_at b (λ e. omega (arith, linear, e)))
      ∙ sym (ap₂ xor (not_here v.y (inl over)) (not_here (v.y -ℤ pos 1) (inl (omega (arith, linear))))))
      (λ (e : v.y ≡ a.y).
      ap₂ xor (sym (start_here (sym e))) (not_at b (λ g. omega (arith, linear, g, e)))
      ∙ sym (ap (λ t. xor (here v.y) t) (not_here (v.y -ℤ pos 1) (inl (omega (arith, linear, e))))))
      (below_or_same v.y a.y ge))
      (below_or_not a.y v.y)

-- ---- for all edges that don't fall
level_or_rises : (f : Edge) → f.0.y ≤ℤ f.1.y → (f.0.y ≡ f.1.y) ⊎ (f.0.y <ℤ f.1.y)
level_or_rises f le = ⊎_elim (λ (less : f.0.y <ℤ f.1.y). inr less) (λ (e : f.0.y ≡ f.1.y). inl e) (below_or_same f.0.y f.1.y le)

pub level_no_row : (r : ℤ) (f : Edge) → f.0.y ≡ f.1.y → in_row r f ≡ false
level_no_row r f e =
    ⊎_elim (λ (less : r <ℤ f.0.y). row_false r f (inl less)) (λ (le : f.0.y ≤ℤ r). row_false r f (inr (omega (arith, linear, e))))
    (below_or_not r f.0.y)

pub ends_from_here : (v : Point) (f : Edge) → f.0.y ≤ℤ f.1.y
    → xor (from_here v f.0) (from_here v f.1) ≡ xor (xor (from_on v.y v f) (from_on (v.y -ℤ pos 1) v f)) (left_arm v f)
ends_from_here v f up = ⊎_elim
    (λ (e : f.0.y ≡ f.1.y).
    sym (ap₂ xor (ap₂ (λ s t. xor (s && int_le (pos 0) (right_of_point v f)) (t && int_le (pos 0) (right_of_point v f)))
    (level_no_row v.y f e) (level_no_row (v.y -ℤ pos 1) f e))
    (ap (λ t. t && xor (from_here v f.0) (from_here v f.1)) (int_eq-same f.0.y f.1.y e))))
    (λ (rises : f.0.y <ℤ f.1.y).
    rows_and_ends v f.0 f.1 rises (int_le (pos 0)) (int_le v.x) (λ z h positive. le_by_times z v.x h positive)
    ∙ sym (xor-false (xor (from_on v.y v f) (from_on (v.y -ℤ pos 1) v f)))
    ∙ ap (λ t. xor (xor (from_on v.y v f) (from_on (v.y -ℤ pos 1) v f)) (t && xor (from_here v f.0) (from_here v f.1)))
    (sym (same_false f.0.y f.1.y (λ e. omega (arith, linear, e)))))
    (level_or_rises f up)

pub ends_behind_here : (v : Point) (f : Edge) → f.0.y ≤ℤ f.1.y
    → xor (behind_here v f.0) (behind_here v f.1) ≡ xor (xor (beyond v.y v f) (beyond (v.y -ℤ pos 1) v f)) (right_arm v f)
ends_behind_here v f up = ⊎_elim
    (λ (e : f.0.y ≡ f.1.y).
    sym (ap₂ xor (ap₂ (λ s t. xor (s && int_lt (pos 0) (right_of_point v f)) (t && int_lt (pos 0) (right_of_point v f)))
    (level_no_row v.y f e) (level_no_row (v.y -ℤ pos 1) f e))
    (ap (λ t. t && xor (behind_here v f.0) (behind_here v f.1)) (int_eq-same f.0.y f.1.y e))))
    (λ (rises : f.0.y <ℤ f.1.y).
    rows_and_ends v f.0 f.1 rises (int_lt (pos 0)) (int_lt v.x) (λ z h positive. lt_by_times z v.x h positive)
    ∙ sym (xor-false (xor (beyond v.y v f) (beyond (v.y -ℤ pos 1) v f)))
    ∙ ap (λ t. xor (xor (beyond v.y v f) (beyond (v.y -ℤ pos 1) v f)) (t && xor (behind_here v f.0) (behind_here v f.1)))
    (sym (same_false f.0.y f.1.y (λ e. omega (arith, linear, e)))))
    (level_or_rises f up)

-- the point itself is from here on, and not behind
here_or_behind : (v u : Point) → xor (from_here v u) (behind_here v u) ≡ point_eq u v
here_or_behind v u = by_test (int_eq u.y v.y)
  where
    by_x : xor (int_le v.x u.x) (int_lt v.x u.x) ≡ int_eq u.x v.x
    by_x = ⊎_elim
        (λ (less : v.x <ℤ u.x). ap₂ xor (le_yes (omega (arith, linear))) (lt_yes less)
        ∙ sym (same_false u.x v.x (λ e. omega (arith, linear, e))))
        (λ (le : u.x ≤ℤ v.x). ⊎_elim
        (λ (more : u.x <ℤ v.x). ap₂ xor (le_no more) (lt_no le) ∙ sym (same_false u.x v.x (λ e. omega (arith, linear, e))))
        (λ (e : u.x ≡ v.x). ap₂ xor (le_yes (omega (arith, linear, e))) (lt_no le) ∙ sym (int_eq-same u.x v.x e))
        (below_or_same u.x v.x le))
        (below_or_not v.x u.x)
      where
        le_yes : v.x ≤ℤ u.x → int_le v.x u.x ≡ true
        le_yes h = grind (arith, ints)

        le_no : u.x <ℤ v.x → int_le v.x u.x ≡ false
        le_no h = grind (arith, ints)

        lt_yes : v.x <ℤ u.x → int_lt v.x u.x ≡ true
        lt_yes h = grind (arith, ints)

        lt_no : u.x ≤ℤ v.x → int_lt v.x u.x ≡ false
        lt_no h = grind (arith, ints)

    by_test : (b : Bool) → xor (b && int_le v.x u.x) (b && int_lt v.x u.x) ≡ (int_eq u.x v.x && b)
    by_test true = by_x ∙ sym (and_true (int_eq u.x v.x))
      where
        and_true : (c : Bool) → (c && true) ≡ c
        and_true true = refl
        and_true false = refl
    by_test false = sym (and-false (int_eq u.x v.x))

regroup : (a b c d : Bool) → xor (xor a c) (xor b d) ≡ xor (xor a b) (xor c d)
regroup false false c d = refl
regroup false true false d = refl
regroup false true true d = twice d
  where
    twice : (d : Bool) → xor true (xor true d) ≡ xor true (not d)
    twice true = refl
    twice false = refl
regroup true false c false = third c
  where
    third : (c : Bool) → xor (xor true c) false ≡ xor true (xor c false)
    third true = refl
    third false = refl
regroup true false c true = fourth c
  where
    fourth : (c : Bool) → xor (xor true c) true ≡ xor true (xor c true)
    fourth true = refl
    fourth false = refl
regroup true true true d = fifth d
  where
    fifth : (d : Bool) → xor false (xor true d) ≡ xor false (not d)
    fifth true = refl
    fifth false = refl
regroup true true false true = refl
regroup true true false false = refl

-- an end at the point, counted by the edges that begin or end there and by the level ones
pub touches_here : (v : Point) (f : Edge) → f.0.y ≤ℤ f.1.y → xor (point_eq f.0 v) (point_eq f.1 v)
    ≡ xor (xor (xor (from_on v.y v f) (from_on (v.y -ℤ pos 1) v f)) (left_arm v f))
    (xor (xor (beyond v.y v f) (beyond (v.y -ℤ pos 1) v f)) (right_arm v f))
touches_here v f up =
    ap₂ xor (sym (here_or_behind v f.0)) (sym (here_or_behind v f.1))
    ∙ regroup (from_here v f.0) (from_here v f.1) (behind_here v f.0) (behind_here v f.1)
    ∙ ap₂ xor (ends_from_here v f up) (ends_behind_here v f up)
