-- Areas of triangles, and the identities that hold of the four of a quadrilateral p q r t: its diagonals are from p to r and from
-- q to t. Two opposite areas add up to as much as the other two; the areas weigh the point where the diagonals meet.
use Rattle.std.proofs.Common.{◌≡◌, List, [], ◌∷◌, ℤ, pos, ◌+ℤ◌, ◌-ℤ◌, ◌*ℤ◌, refl, ap, arith}
use Rattle.lay_point.specs.declared.point.Point.{Point}
use Rattle.snap_pixels.specs.Segments.{along, cross}
use Rattle.snap_edge_laws.specs.Areas.{area}
use Rattle.snap_edge_laws.specs.Pieces.{sideways, with_x}
use Rattle.lay_point.proofs.Polynomials.{Expr, #, lit, ◌⊕◌, ◌⊖◌, ◌⊗◌, identity}
use Rattle.lay_point.proofs.Signs.{linear}

-- the area, of expressions for the coordinates
abbrev turn : Expr → Expr → Expr → Expr → Expr → Expr → Expr
turn px py qx qy rx ry = (qx ⊖ px) ⊗ (ry ⊖ qy) ⊖ (qy ⊖ py) ⊗ (rx ⊖ qx)

abbrev corners : Point → Point → Point → Point → List ℤ
corners p q r t = p.x ∷ p.y ∷ q.x ∷ q.y ∷ r.x ∷ r.y ∷ t.x ∷ t.y ∷ []

-- the areas at p, q, r and t, where these are the variables
abbrev at_p : Expr
at_p = turn (# 6) (# 7) (# 0) (# 1) (# 2) (# 3)

abbrev at_q : Expr
at_q = turn (# 0) (# 1) (# 2) (# 3) (# 4) (# 5)

abbrev at_r : Expr
at_r = turn (# 2) (# 3) (# 4) (# 5) (# 6) (# 7)

abbrev at_t : Expr
at_t = turn (# 4) (# 5) (# 6) (# 7) (# 0) (# 1)

pub areas_balance : (p q r t : Point) → area t p q +ℤ area q r t ≡ area p q r +ℤ area r t p
unfolding area
areas_balance p q r t = identity (corners p q r t) (at_p ⊕ at_r) (at_q ⊕ at_t) refl

pub areas_weigh_x : (p q r t : Point)
    → area t p q *ℤ r.x +ℤ area q r t *ℤ p.x ≡ area p q r *ℤ t.x +ℤ area r t p *ℤ q.x
unfolding area
areas_weigh_x p q r t =
    identity (corners p q r t) (at_p ⊗ # 4 ⊕ at_r ⊗ # 0) (at_q ⊗ # 6 ⊕ at_t ⊗ # 2) refl

pub areas_weigh_y : (p q r t : Point)
    → area t p q *ℤ r.y +ℤ area q r t *ℤ p.y ≡ area p q r *ℤ t.y +ℤ area r t p *ℤ q.y
unfolding area
areas_weigh_y p q r t =
    identity (corners p q r t) (at_p ⊗ # 5 ⊕ at_r ⊗ # 1) (at_q ⊗ # 7 ⊕ at_t ⊗ # 3) refl

-- a point with its coordinates exchanged
abbrev pub flipped : Point → Point
flipped p = record { x = p.y; y = p.x }

-- exchanged coordinates and the other direction make the same area
pub area-flipped : (p q r : Point) → area (flipped r) (flipped q) (flipped p) ≡ area p q r
unfolding area
area-flipped p q r = identity (p.x ∷ p.y ∷ q.x ∷ q.y ∷ r.x ∷ r.y ∷ [])
    (turn (# 5) (# 4) (# 3) (# 2) (# 1) (# 0)) (turn (# 0) (# 1) (# 2) (# 3) (# 4) (# 5)) refl

pub area-turned : (p q r : Point) → area r q p ≡ pos 0 -ℤ area p q r
unfolding area
area-turned p q r = identity (p.x ∷ p.y ∷ q.x ∷ q.y ∷ r.x ∷ r.y ∷ [])
    (turn (# 4) (# 5) (# 2) (# 3) (# 0) (# 1)) (lit (pos 0) ⊖ turn (# 0) (# 1) (# 2) (# 3) (# 4) (# 5)) refl

-- the centre at scale k
abbrev pub scaled : ℤ → Point → Point
scaled k p = record { x = p.x *ℤ k; y = p.y *ℤ k }

pub area-scaled : (k : ℤ) (p q r : Point) → area (scaled k p) (scaled k q) (scaled k r) ≡ k *ℤ (k *ℤ area p q r)
unfolding area
area-scaled k p q r = identity (p.x ∷ p.y ∷ q.x ∷ q.y ∷ r.x ∷ r.y ∷ k ∷ [])
    (turn (# 0 ⊗ # 6) (# 1 ⊗ # 6) (# 2 ⊗ # 6) (# 3 ⊗ # 6) (# 4 ⊗ # 6) (# 5 ⊗ # 6))
    (# 6 ⊗ (# 6 ⊗ turn (# 0) (# 1) (# 2) (# 3) (# 4) (# 5))) refl

-- an area changes evenly while the points move sideways
pub area-sideways : (n t : ℤ) (p q r : Point) (px qx rx : ℤ)
    → area (sideways n t p px) (sideways n t q qx) (sideways n t r rx)
    ≡ along n t (area p q r) (area (with_x p px) (with_x q qx) (with_x r rx))
unfolding area
area-sideways n t p q r px qx rx = identity (p.x ∷ p.y ∷ q.x ∷ q.y ∷ r.x ∷ r.y ∷ px ∷ qx ∷ rx ∷ n ∷ t ∷ [])
    (turn (moved (# 0) (# 6)) (# 1) (moved (# 2) (# 7)) (# 3) (moved (# 4) (# 8)) (# 5))
    (turn (# 0) (# 1) (# 2) (# 3) (# 4) (# 5) ⊗ (# 9 ⊖ # 10) ⊕ turn (# 6) (# 1) (# 7) (# 3) (# 8) (# 5) ⊗ # 10) refl
  where
    moved : Expr → Expr → Expr
    moved a b = a ⊗ (# 9 ⊖ # 10) ⊕ b ⊗ # 10

-- with q at the height that is so far from p to r
pub area_off : (p q r : Point)
    → (r.y -ℤ p.y) *ℤ q.x ≡ along (r.y -ℤ p.y) (q.y -ℤ p.y) p.x r.x +ℤ area p q r
unfolding area
area_off p q r = identity (p.x ∷ p.y ∷ q.x ∷ q.y ∷ r.x ∷ r.y ∷ [])
    ((# 5 ⊖ # 1) ⊗ # 2)
    (# 0 ⊗ ((# 5 ⊖ # 1) ⊖ (# 3 ⊖ # 1)) ⊕ # 4 ⊗ (# 3 ⊖ # 1) ⊕ turn (# 0) (# 1) (# 2) (# 3) (# 4) (# 5)) refl

part_of_area : (p q r t : Point) (m l l' : ℤ)
    → m *ℤ area t p q +ℤ ((t.y -ℤ q.y) *ℤ along m l p.x r.x +ℤ (t.x -ℤ q.x) *ℤ along m l' q.y t.y)
    ≡ l *ℤ (area t p q +ℤ area q r t) +ℤ ((t.y -ℤ q.y) *ℤ along m l' q.x t.x +ℤ (t.x -ℤ q.x) *ℤ along m l p.y r.y)
unfolding area
part_of_area p q r t m l l' = identity (p.x ∷ p.y ∷ q.x ∷ q.y ∷ r.x ∷ r.y ∷ t.x ∷ t.y ∷ m ∷ l ∷ l' ∷ [])
    (# 8 ⊗ at_p ⊕ ((# 7 ⊖ # 3) ⊗ between (# 9) (# 0) (# 4) ⊕ (# 6 ⊖ # 2) ⊗ between (# 10) (# 3) (# 7)))
    (# 9 ⊗ (at_p ⊕ at_r) ⊕ ((# 7 ⊖ # 3) ⊗ between (# 10) (# 2) (# 6) ⊕ (# 6 ⊖ # 2) ⊗ between (# 9) (# 1) (# 5))) refl
  where
    between : Expr → Expr → Expr → Expr
    between i a b = a ⊗ (# 8 ⊖ i) ⊕ b ⊗ i

-- where the diagonals have a point in common, l / m of the way from p to r and l' / m of the way from q to t, the area at p is
-- l / m of that of the quadrilateral
pub area_in_part : (p q r t : Point) (m l l' : ℤ) → along m l p.x r.x ≡ along m l' q.x t.x → along m l p.y r.y ≡ along m l' q.y t.y
    → m *ℤ area t p q ≡ l *ℤ (area t p q +ℤ area q r t)
area_in_part p q r t m l l' ex ey =
    let e = part_of_area p q r t m l l' in
    let columns = ap (λ (z : ℤ). (t.y -ℤ q.y) *ℤ z) ex in
    let rows = ap (λ (z : ℤ). (t.x -ℤ q.x) *ℤ z) ey in omega (arith, linear)

-- the quadrilateral's area by the directions of its diagonals, which are parts of two segments
pub area-of_cross : (k i j i' j' : ℤ) (a b a' b' : Point)
    → area (record { x = along k j' a'.x b'.x; y = along k j' a'.y b'.y })
    (record { x = along k i a.x b.x; y = along k i a.y b.y })
    (record { x = along k i' a'.x b'.x; y = along k i' a'.y b'.y })
    +ℤ area (record { x = along k i' a'.x b'.x; y = along k i' a'.y b'.y })
    (record { x = along k j a.x b.x; y = along k j a.y b.y })
    (record { x = along k j' a'.x b'.x; y = along k j' a'.y b'.y })
    ≡ cross a b a' b' *ℤ ((j -ℤ i) *ℤ (j' -ℤ i'))
unfolding area
area-of_cross k i j i' j' a b a' b' =
    identity (k ∷ i ∷ j ∷ i' ∷ j' ∷ a.x ∷ a.y ∷ b.x ∷ b.y ∷ a'.x ∷ a'.y ∷ b'.x ∷ b'.y ∷ [])
    (turn (on' (# 4) (# 9) (# 11)) (on' (# 4) (# 10) (# 12)) (on' (# 1) (# 5) (# 7)) (on' (# 1) (# 6) (# 8))
    (on' (# 3) (# 9) (# 11)) (on' (# 3) (# 10) (# 12))
    ⊕ turn (on' (# 3) (# 9) (# 11)) (on' (# 3) (# 10) (# 12)) (on' (# 2) (# 5) (# 7)) (on' (# 2) (# 6) (# 8))
    (on' (# 4) (# 9) (# 11)) (on' (# 4) (# 10) (# 12)))
    (((# 7 ⊖ # 5) ⊗ (# 12 ⊖ # 10) ⊖ (# 8 ⊖ # 6) ⊗ (# 11 ⊖ # 9)) ⊗ ((# 2 ⊖ # 1) ⊗ (# 4 ⊖ # 3))) refl
  where
    on' : Expr → Expr → Expr → Expr
    on' t a b = a ⊗ (# 0 ⊖ t) ⊕ b ⊗ t
