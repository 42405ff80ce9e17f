-- Ways that are parallel or not, and places on lines.
use Rattle.std.proofs.Common.{◌≡◌, inl, inr, [], ◌∷◌, ℤ, pos, ◌+ℤ◌, ◌-ℤ◌, ◌*ℤ◌, ◌≤ℤ◌, ◌<ℤ◌, refl, sym, subst, ◌∙◌, arith, ⊎_elim}
use Rattle.lay_point.specs.declared.point.Point.{Point}
use Rattle.lay_point.specs.Points.{IsBefore}
use Rattle.snap_edge_laws.specs.Edges.{IsBetween, IsEndpoint, IsOn}
use Rattle.lay_point.proofs.Polynomials.{#, lit, ◌⊕◌, ◌⊖◌, ◌⊗◌, identity}
use Rattle.lay_point.proofs.Signs.{linear, below_or_not, nonnegative_product, cancel_nonnegative, zero_product}
use Rattle.snap_edge_laws.proofs.Places.{turned_on}

zero_sum : (p q s t v : ℤ) → v ≡ p *ℤ s +ℤ q *ℤ t → s ≡ pos 0 → t ≡ pos 0 → v ≡ pos 0
zero_sum p q s t v e hs ht =
    e ∙ (λ i. p *ℤ hs i +ℤ q *ℤ ht i) ∙ identity (p ∷ q ∷ []) (# 0 ⊗ lit (pos 0) ⊕ # 1 ⊗ lit (pos 0)) (lit (pos 0)) refl

difference_is_none : (a b : ℤ) → a ≡ b → a -ℤ b ≡ pos 0
difference_is_none a b e = omega (arith, linear)

-- g is parallel to u, and u, which isn't nothing, to w: so g is parallel to w
pub parallels : (ux uy wx wy gx gy : ℤ) → ux *ℤ wy -ℤ uy *ℤ wx ≡ pos 0 → gx *ℤ uy ≡ gy *ℤ ux → ¬ ((ux ≡ pos 0) × (uy ≡ pos 0))
    → gx *ℤ wy ≡ gy *ℤ wx
parallels ux uy wx wy gx gy e f some =
    let vs = ux ∷ uy ∷ wx ∷ wy ∷ gx ∷ gy ∷ [] in
    let d = gx *ℤ wy -ℤ gy *ℤ wx in
    let g = difference_is_none _ _ f in
    let by_x : ux *ℤ d ≡ pos 0 = zero_sum gx wx _ _ (ux *ℤ d)
    (identity vs (# 0 ⊗ (# 4 ⊗ # 3 ⊖ # 5 ⊗ # 2)) (# 4 ⊗ (# 0 ⊗ # 3 ⊖ # 1 ⊗ # 2) ⊕ # 2 ⊗ (# 4 ⊗ # 1 ⊖ # 5 ⊗ # 0)) refl) e g in
    let by_y : uy *ℤ d ≡ pos 0 = zero_sum gy wy _ _ (uy *ℤ d)
    (identity vs (# 1 ⊗ (# 4 ⊗ # 3 ⊖ # 5 ⊗ # 2)) (# 5 ⊗ (# 0 ⊗ # 3 ⊖ # 1 ⊗ # 2) ⊕ # 3 ⊗ (# 4 ⊗ # 1 ⊖ # 5 ⊗ # 0)) refl) e g in
    let none : d ≡ pos 0 = ⊎_elim
    (λ (ex : ux ≡ pos 0). ⊎_elim (λ (ey : uy ≡ pos 0). absurd (some (ex, ey))) (λ (z : d ≡ pos 0). z) (zero_product uy d by_y))
    (λ (z : d ≡ pos 0). z) (zero_product ux d by_x) in
    omega (arith, linear)

-- what is parallel to two ways that aren't parallel is nothing
pub only_zero : (gx gy ux uy wx wy : ℤ) → gx *ℤ uy ≡ gy *ℤ ux → gx *ℤ wy ≡ gy *ℤ wx → ¬ (ux *ℤ wy -ℤ uy *ℤ wx ≡ pos 0)
    → (gx ≡ pos 0) × (gy ≡ pos 0)
only_zero gx gy ux uy wx wy e f slanted =
    let vs = ux ∷ uy ∷ wx ∷ wy ∷ gx ∷ gy ∷ [] in
    let d = ux *ℤ wy -ℤ uy *ℤ wx in
    let g = difference_is_none _ _ e in
    let h = difference_is_none _ _ (sym f) in
    let by_x : gx *ℤ d ≡ pos 0 = zero_sum (pos 0 -ℤ wx) (pos 0 -ℤ ux) _ _ (gx *ℤ d)
    (identity vs (# 4 ⊗ (# 0 ⊗ # 3 ⊖ # 1 ⊗ # 2))
    ((lit (pos 0) ⊖ # 2) ⊗ (# 4 ⊗ # 1 ⊖ # 5 ⊗ # 0) ⊕ (lit (pos 0) ⊖ # 0) ⊗ (# 5 ⊗ # 2 ⊖ # 4 ⊗ # 3)) refl) g h in
    let by_y : gy *ℤ d ≡ pos 0 = zero_sum (pos 0 -ℤ wy) (pos 0 -ℤ uy) _ _ (gy *ℤ d)
    (identity vs (# 5 ⊗ (# 0 ⊗ # 3 ⊖ # 1 ⊗ # 2))
    ((lit (pos 0) ⊖ # 3) ⊗ (# 4 ⊗ # 1 ⊖ # 5 ⊗ # 0) ⊕ (lit (pos 0) ⊖ # 1) ⊗ (# 5 ⊗ # 2 ⊖ # 4 ⊗ # 3)) refl) g h in (
      ⊎_elim (λ (z : gx ≡ pos 0). z) (λ z. absurd (slanted z)) (zero_product gx d by_x),
      ⊎_elim (λ (z : gy ≡ pos 0). z) (λ z. absurd (slanted z)) (zero_product gy d by_y),
    )

flip : (p q r : ℤ) → p *ℤ (q -ℤ r) ≡ pos 0 -ℤ p *ℤ (r -ℤ q)
flip p q r = identity (p ∷ q ∷ r ∷ []) (# 0 ⊗ (# 1 ⊖ # 2)) (lit (pos 0) ⊖ # 0 ⊗ (# 2 ⊖ # 1)) refl

-- a place on an edge is on the line from either end
pub through : (a b v : Point) (k x y : ℤ) → IsEndpoint v a b → IsOn a b k x y
    → (x -ℤ k *ℤ v.x) *ℤ (b.y -ℤ a.y) ≡ (y -ℤ k *ℤ v.y) *ℤ (b.x -ℤ a.x)
through a b v k x y (inl e) h =
    subst (λ (p : Point). (x -ℤ k *ℤ p.x) *ℤ (b.y -ℤ a.y) ≡ (y -ℤ k *ℤ p.y) *ℤ (b.x -ℤ a.x)) (sym e) h.line
through a b v k x y (inr e) h =
    let back = (turned_on a b k x y h).line in
    let f = flip (x -ℤ k *ℤ b.x) b.y a.y in
    let g = flip (y -ℤ k *ℤ b.y) b.x a.x in
    subst (λ (p : Point). (x -ℤ k *ℤ p.x) *ℤ (b.y -ℤ a.y) ≡ (y -ℤ k *ℤ p.y) *ℤ (b.x -ℤ a.x)) (sym e) (omega (arith, linear))

pub one : (z : ℤ) → pos 1 *ℤ z ≡ z
one z = identity (z ∷ []) (lit (pos 1) ⊗ # 0) (# 0) refl

-- a point as a place
pub at_one : (a b v : Point) → (v.x -ℤ a.x) *ℤ (b.y -ℤ a.y) ≡ (v.y -ℤ a.y) *ℤ (b.x -ℤ a.x) → IsBetween a.x v.x b.x → IsBetween a.y v.y b.y
    → IsOn a b (pos 1) v.x v.y
at_one a b v line column row = record {
  line = (λ i. (v.x -ℤ one a.x i) *ℤ (b.y -ℤ a.y)) ∙ line ∙ sym (λ i. (v.y -ℤ one a.y i) *ℤ (b.x -ℤ a.x));
  column = coe 1 0 (i. IsBetween (one a.x i) v.x (one b.x i)) column;
  row = coe 1 0 (i. IsBetween (one a.y i) v.y (one b.y i)) row;
}

between_first : (a b : ℤ) → IsBetween a a b
between_first a b = ⊎_elim (λ (less : a <ℤ b). inl (omega (arith, linear), omega (arith, linear)))
    (λ (ge : b ≤ℤ a). inr (ge, omega (arith, linear))) (below_or_not a b)

between_last : (a b : ℤ) → IsBetween a b b
between_last a b = ⊎_elim (λ (less : a <ℤ b). inl (omega (arith, linear), omega (arith, linear)))
    (λ (ge : b ≤ℤ a). inr (omega (arith, linear), ge)) (below_or_not a b)

pub first_on : (a b : Point) → IsOn a b (pos 1) a.x a.y
first_on a b = at_one a b a
    (identity (a.x ∷ a.y ∷ b.x ∷ b.y ∷ []) ((# 0 ⊖ # 0) ⊗ (# 3 ⊖ # 1)) ((# 1 ⊖ # 1) ⊗ (# 2 ⊖ # 0)) refl)
    (between_first a.x b.x) (between_first a.y b.y)

pub last_on : (a b : Point) → IsOn a b (pos 1) b.x b.y
last_on a b = at_one a b b
    (identity (a.x ∷ a.y ∷ b.x ∷ b.y ∷ []) ((# 2 ⊖ # 0) ⊗ (# 3 ⊖ # 1)) ((# 3 ⊖ # 1) ⊗ (# 2 ⊖ # 0)) refl)
    (between_last a.x b.x) (between_last a.y b.y)

-- ---- between in one coordinate and on the line, so between in the other
between_part : (p d r s : ℤ) → pos 0 <ℤ d → pos 0 ≤ℤ p → p ≤ℤ d → p *ℤ s ≡ r *ℤ d → IsBetween (pos 0) r s
between_part p d r s wide low high e =
    let swap = identity (r ∷ d ∷ []) (# 0 ⊗ # 1) (# 1 ⊗ # 0) refl in
    let vs = p ∷ d ∷ r ∷ s ∷ [] in
    let rest = identity vs ((# 1 ⊖ # 0) ⊗ # 3) (# 1 ⊗ # 3 ⊖ # 0 ⊗ # 3) refl in
    let gap = identity vs (# 1 ⊗ (# 3 ⊖ # 2)) (# 1 ⊗ # 3 ⊖ # 1 ⊗ # 2) refl in
    let rest' = identity vs ((# 1 ⊖ # 0) ⊗ (lit (pos 0) ⊖ # 3)) (# 0 ⊗ # 3 ⊖ # 1 ⊗ # 3) refl in
    let gap' = identity vs (# 1 ⊗ (# 2 ⊖ # 3)) (# 1 ⊗ # 2 ⊖ # 1 ⊗ # 3) refl in
    let minus = identity vs (# 0 ⊗ (lit (pos 0) ⊖ # 3)) (lit (pos 0) ⊖ # 0 ⊗ # 3) refl in
    let minus' = identity vs (# 1 ⊗ (lit (pos 0) ⊖ # 2)) (lit (pos 0) ⊖ # 1 ⊗ # 2) refl in
    ⊎_elim
    (λ (down : s <ℤ pos 0).
    let f = nonnegative_product p (pos 0 -ℤ s) low (omega (arith, linear)) in
    let g = nonnegative_product (d -ℤ p) (pos 0 -ℤ s) (omega (arith, linear)) (omega (arith, linear)) in
    let h = cancel_nonnegative d (pos 0 -ℤ r) wide (omega (arith, linear)) in
    let k = cancel_nonnegative d (r -ℤ s) wide (omega (arith, linear)) in
    inr (omega (arith, linear), omega (arith, linear)))
    (λ (up : pos 0 ≤ℤ s).
    let f = nonnegative_product p s low up in
    let g = nonnegative_product (d -ℤ p) s (omega (arith, linear)) up in
    let h = cancel_nonnegative d r wide (omega (arith, linear)) in
    let k = cancel_nonnegative d (s -ℤ r) wide (omega (arith, linear)) in
    inl (omega (arith, linear), omega (arith, linear)))
    (below_or_not s (pos 0))

column_le : (p q : Point) → IsBefore p q → p.x ≤ℤ q.x
column_le p q (inl less) = omega (arith, linear)
column_le p q (inr tie) = omega (arith, linear, tie.0)

row_lt : (p q : Point) → IsBefore p q → q.x ≤ℤ p.x → p.y <ℤ q.y
row_lt p q (inl less) le = absurd (omega (arith, linear))
row_lt p q (inr tie) le = tie.1

-- between the ends in the order of points, and on their line
pub inside : (a v b : Point) → IsBefore a v → IsBefore v b → (v.x -ℤ a.x) *ℤ (b.y -ℤ a.y) ≡ (v.y -ℤ a.y) *ℤ (b.x -ℤ a.x)
    → IsOn a b (pos 1) v.x v.y
inside a v b early late line =
    let left = column_le a v early in
    let right = column_le v b late in
    at_one a b v line (inl (left, right)) (⊎_elim
    (λ (wide : a.x <ℤ b.x). ⊎_elim
    (λ (z : (pos 0 ≤ℤ (v.y -ℤ a.y)) × ((v.y -ℤ a.y) ≤ℤ (b.y -ℤ a.y))). inl (omega (arith, linear, z.0), omega (arith, linear, z.1)))
    (λ (z : ((b.y -ℤ a.y) ≤ℤ (v.y -ℤ a.y)) × ((v.y -ℤ a.y) ≤ℤ pos 0)). inr (omega (arith, linear, z.0), omega (arith, linear, z.1)))
    (between_part (v.x -ℤ a.x) (b.x -ℤ a.x) (v.y -ℤ a.y) (b.y -ℤ a.y) (omega (arith, linear)) (omega (arith, linear))
    (omega (arith, linear)) line))
    (λ (thin : b.x ≤ℤ a.x).
    let up = row_lt a v early (omega (arith, linear)) in
    let up' = row_lt v b late (omega (arith, linear)) in
    inl (omega (arith, linear), omega (arith, linear)))
    (below_or_not a.x b.x))
