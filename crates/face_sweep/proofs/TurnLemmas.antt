-- The order of edges that begin at one point, by how they are turned.
use Rattle.std.proofs.Common.{◌≡◌, ℕ, [], ◌∷◌, ℤ, pos, ◌+ℤ◌, ◌-ℤ◌, ◌*ℤ◌, ◌<ℤ◌, refl, sym, arith}
use Rattle.lay_point.proofs.Polynomials.{#, lit, ◌⊕◌, ◌⊖◌, ◌⊗◌, identity}
use Rattle.lay_point.proofs.Signs.{linear}
use Rattle.lay_point.specs.declared.point.Point.{Point}
use Rattle.face_rows.specs.Lines.{edge_at}
use Rattle.snap_chains.specs.Rounded.{Owned}
use Rattle.face_rows.specs.Rows.{CrossesRow, IsLeftOf, upward}
use Rattle.face_rows.specs.Sound.{AreSound}
use Rattle.face_sweep.specs.Points.{HasLow, IsTurnedLeft}
use Rattle.face_sweep.proofs.StatusLemmas.{before}

-- edges from p to a and to b, in the row where they begin
in_begin : (p a b : Point)
    → (pos 2 *ℤ (b.y -ℤ p.y)) *ℤ ((pos 2 *ℤ a.y -ℤ (pos 2 *ℤ p.y +ℤ pos 1)) *ℤ p.x +ℤ ((pos 2 *ℤ p.y +ℤ pos 1) -ℤ pos 2 *ℤ p.y) *ℤ a.x)
    -ℤ (pos 2 *ℤ (a.y -ℤ p.y)) *ℤ ((pos 2 *ℤ b.y -ℤ (pos 2 *ℤ p.y +ℤ pos 1)) *ℤ p.x +ℤ ((pos 2 *ℤ p.y +ℤ pos 1) -ℤ pos 2 *ℤ p.y) *ℤ b.x)
    ≡ pos 2 *ℤ ((a.x -ℤ p.x) *ℤ (b.y -ℤ p.y) -ℤ (a.y -ℤ p.y) *ℤ (b.x -ℤ p.x))
in_begin p a b =
    let C = lit (pos 2) ⊗ # 1 ⊕ lit (pos 1) in
    identity (p.x ∷ p.y ∷ a.x ∷ a.y ∷ b.x ∷ b.y ∷ [])
    ((lit (pos 2) ⊗ (# 5 ⊖ # 1)) ⊗ ((lit (pos 2) ⊗ # 3 ⊖ C) ⊗ # 0 ⊕ (C ⊖ lit (pos 2) ⊗ # 1) ⊗ # 2)
    ⊖ (lit (pos 2) ⊗ (# 3 ⊖ # 1)) ⊗ ((lit (pos 2) ⊗ # 5 ⊖ C) ⊗ # 0 ⊕ (C ⊖ lit (pos 2) ⊗ # 1) ⊗ # 4))
    (lit (pos 2) ⊗ ((# 2 ⊖ # 0) ⊗ (# 5 ⊖ # 1) ⊖ (# 3 ⊖ # 1) ⊗ (# 4 ⊖ # 0))) refl

less_by : (s t u v : ℤ) → s -ℤ t ≡ pos 2 *ℤ (u -ℤ v) → u <ℤ v → s <ℤ t
less_by s t u v e less = omega (arith, linear)

pub turns_order : (r : Owned) (p : Point) (m n : ℕ) → AreSound r → CrossesRow r.0 p.y m → CrossesRow r.0 p.y n → HasLow r p m → HasLow r p n
    → IsTurnedLeft r p m n → IsLeftOf r.0 p.y m n
turns_order r p m n sound hm hn at_m at_n turned =
    before r sound p.y m n hm hn (by_low (upward (edge_at r m)).0 (upward (edge_at r n)).0 (sym at_m) (sym at_n))
  where
    a : Point
    a = (upward (edge_at r m)).1

    b : Point
    b = (upward (edge_at r n)).1

    by_low : (u v : Point) → p ≡ u → p ≡ v
        → ((pos 2 *ℤ (b.y -ℤ v.y)) *ℤ ((pos 2 *ℤ a.y -ℤ (pos 2 *ℤ p.y +ℤ pos 1)) *ℤ u.x +ℤ ((pos 2 *ℤ p.y +ℤ pos 1) -ℤ pos 2 *ℤ u.y)
        *ℤ a.x))
        <ℤ ((pos 2 *ℤ (a.y -ℤ u.y)) *ℤ ((pos 2 *ℤ b.y -ℤ (pos 2 *ℤ p.y +ℤ pos 1)) *ℤ v.x +ℤ ((pos 2 *ℤ p.y +ℤ pos 1) -ℤ pos 2 *ℤ v.y)
        *ℤ b.x))
    by_low u v e f =
        coe 0 1 (i. ((pos 2 *ℤ (b.y -ℤ (f i).y)) *ℤ ((pos 2 *ℤ a.y -ℤ (pos 2 *ℤ p.y +ℤ pos 1)) *ℤ (e i).x
        +ℤ ((pos 2 *ℤ p.y +ℤ pos 1) -ℤ pos 2 *ℤ (e i).y) *ℤ a.x))
        <ℤ ((pos 2 *ℤ (a.y -ℤ (e i).y)) *ℤ ((pos 2 *ℤ b.y -ℤ (pos 2 *ℤ p.y +ℤ pos 1)) *ℤ (f i).x
        +ℤ ((pos 2 *ℤ p.y +ℤ pos 1) -ℤ pos 2 *ℤ (f i).y) *ℤ b.x)))
        (less_by _ _ ((a.x -ℤ p.x) *ℤ (b.y -ℤ p.y)) ((a.y -ℤ p.y) *ℤ (b.x -ℤ p.x)) (in_begin p a b) turned)
