-- Edges that aren't parallel: a common place is at one fraction of the way along each, and at a shared end where they have one.
use Rattle.std.proofs.Common.{◌≡◌, ◌≢◌, ◌↔◌, inl, inr, Option, Some, None, Bool, true, false, not, [], ◌∷◌, ℤ, pos, ◌-ℤ◌, ◌*ℤ◌, ◌≤ℤ◌, ◌<ℤ◌}
use Rattle.std.proofs.Common.{refl, sym, subst, ◌∙◌, arith, ⊎_elim, Decides}
use Rattle.std.specs.Prelude.{is_some}
use Rattle.std.proofs.lemmas.Bool.{false≢true}
use Rattle.lay_point.specs.declared.point.Point.{Point}
use Rattle.snap_pixels.specs.Segments.{along, AreParallel, Crosses, IsCommon, IsFraction}
use Rattle.snap_edge_laws.specs.Edges.{IsBetween, IsEndpoint, IsOn, IsSharedEnd}
use Rattle.lay_point.proofs.Division.{rounded}
use Rattle.lay_point.proofs.Polynomials.{#, ◌⊕◌, ◌⊖◌, ◌⊗◌, identity}
use Rattle.lay_point.proofs.Signs.{linear, below_or_not, nonnegative_product, cancel_same}
use Rattle.snap_edge_laws.proofs.Places.{IsAlong, along_at_multiple, somewhere}
use Rattle.snap_edge_laws.specs.Meeting.{HaveCommon, MeetAtEnds, ShareEnd}
use Rattle.snap_edge_laws.proofs.Lines.{only_zero, through}

pub at_shared : (a b c d v : Point) (k x y : ℤ) → ¬ (AreParallel a b c d) → IsEndpoint v a b → IsEndpoint v c d → IsOn a b k x y
    → IsOn c d k x y
    → IsSharedEnd a b c d k x y
at_shared a b c d v k x y slanted va vc on_first on_second =
    let z = only_zero (x -ℤ k *ℤ v.x) (y -ℤ k *ℤ v.y) (b.x -ℤ a.x) (b.y -ℤ a.y) (d.x -ℤ c.x) (d.y -ℤ c.y)
    (through a b v k x y va on_first) (through c d v k x y vc on_second) slanted in
    record { end = v; column = omega (arith, linear, z.0); row = omega (arith, linear, z.1); of_first = va; of_second = vc }

pub shared_end_only : (a b c d : Point) → ¬ (AreParallel a b c d) → ShareEnd a b c d → MeetAtEnds (a, b) (c, d)
shared_end_only a b c d slanted (inl h) k x y scale f g = at_shared a b c d a k x y slanted (inl refl) h f g
shared_end_only a b c d slanted (inr h) k x y scale f g = at_shared a b c d b k x y slanted (inr refl) h f g

-- ---- places as fractions
between_along : (k t a b : ℤ) → IsFraction t k → IsBetween (k *ℤ a) (along k t a b) (k *ℤ b)
between_along k t a b f =
    let vs = k ∷ t ∷ a ∷ b ∷ [] in
    let low = identity vs (# 1 ⊗ (# 3 ⊖ # 2)) ((# 2 ⊗ (# 0 ⊖ # 1) ⊕ # 3 ⊗ # 1) ⊖ # 0 ⊗ # 2) refl in
    let high = identity vs ((# 0 ⊖ # 1) ⊗ (# 3 ⊖ # 2)) (# 0 ⊗ # 3 ⊖ (# 2 ⊗ (# 0 ⊖ # 1) ⊕ # 3 ⊗ # 1)) refl in
    let low' = identity vs (# 1 ⊗ (# 2 ⊖ # 3)) (# 0 ⊗ # 2 ⊖ (# 2 ⊗ (# 0 ⊖ # 1) ⊕ # 3 ⊗ # 1)) refl in
    let high' = identity vs ((# 0 ⊖ # 1) ⊗ (# 2 ⊖ # 3)) ((# 2 ⊗ (# 0 ⊖ # 1) ⊕ # 3 ⊗ # 1) ⊖ # 0 ⊗ # 3) refl in
    ⊎_elim
    (λ (less : a <ℤ b).
    let p = nonnegative_product t (b -ℤ a) f.low (omega (arith, linear)) in
    let q = nonnegative_product (k -ℤ t) (b -ℤ a) (omega (arith, linear, f.high)) (omega (arith, linear)) in
    inl (omega (arith, linear), omega (arith, linear)))
    (λ (ge : b ≤ℤ a).
    let p = nonnegative_product t (a -ℤ b) f.low (omega (arith, linear)) in
    let q = nonnegative_product (k -ℤ t) (a -ℤ b) (omega (arith, linear, f.high)) (omega (arith, linear)) in
    inr (omega (arith, linear), omega (arith, linear)))
    (below_or_not a b)

on_along : (a b : Point) (k t : ℤ) → IsFraction t k → IsOn a b k (along k t a.x b.x) (along k t a.y b.y)
on_along a b k t f = record {
  line = identity (a.x ∷ a.y ∷ b.x ∷ b.y ∷ k ∷ t ∷ [])
      (((# 0 ⊗ (# 4 ⊖ # 5) ⊕ # 2 ⊗ # 5) ⊖ # 4 ⊗ # 0) ⊗ (# 3 ⊖ # 1)) (((# 1 ⊗ (# 4 ⊖ # 5) ⊕ # 3 ⊗ # 5) ⊖ # 4 ⊗ # 1) ⊗ (# 2 ⊖ # 0)) refl;
  column = between_along k t a.x b.x f;
  row = between_along k t a.y b.y f;
}

place_of_crossing : (a b c d p : Point) → Crosses a b c d p → HaveCommon a b c d
place_of_crossing a b c d p (apart, k, t, t', h, place) = (
  k,
  along k t a.x b.x,
  along k t a.y b.y,
  h.first.scale,
  on_along a b k t h.first,
  coe 1 0 (i. IsOn c d k (h.column i) (h.row i)) (on_along c d k t' h.second),
)

crossing_of_place : (a b c d : Point) (k x y : ℤ) → ¬ (AreParallel a b c d) → ¬ (a ≡ b) → ¬ (c ≡ d) → pos 1 ≤ℤ k
    → IsOn a b k x y → IsOn c d k x y → (p : Point) × Crosses a b c d p
crossing_of_place a b c d k x y slanted first second scale on_first on_second =
    let s = somewhere a b k x y scale first on_first in
    let r = somewhere c d k x y scale second on_second in
    let f = along_at_multiple a b k x y s.m s.l r.m r.is_along.part.scale s.is_along in
    let g = along_at_multiple c d k x y r.m r.l s.m s.is_along.part.scale r.is_along in
    let n = s.m *ℤ r.m in
    let t = s.l *ℤ r.m in
    let t' = r.l *ℤ s.m in
    let turn : r.m *ℤ s.m ≡ n = identity (r.m ∷ s.m ∷ []) (# 0 ⊗ # 1) (# 1 ⊗ # 0) refl in
    let g' : IsAlong c d k x y n t' = subst (λ (z : ℤ). IsAlong c d k x y z t') turn g in
    let common : IsCommon a b c d n t t' = record {
      first = f.part;
      second = g'.part;
      column = cancel_same k (along n t a.x b.x) (along n t' c.x d.x) (omega (arith, linear)) (sym f.column ∙ g'.column);
      row = cancel_same k (along n t a.y b.y) (along n t' c.y d.y) (omega (arith, linear)) (sym f.row ∙ g'.row);
    } in
    let rx = rounded (along n t a.x b.x) n f.part.scale in
    let ry = rounded (along n t a.y b.y) n f.part.scale in
    let p : Point = record { x = rx.0; y = ry.0 } in
    (p, (slanted, n, t, t', common, record { column = (rx.1, rx.2); row = (ry.1, ry.2) }))

pub common_by_crossing : (a b c d : Point) (r : Option Point) → a ≢ b → c ≢ d → ¬ (AreParallel a b c d)
    → ((p : Point) → Crosses a b c d p ↔ (r ≡ Some p)) → Decides (is_some r) (HaveCommon a b c d)
common_by_crossing a b c d None first second slanted exact = (
  (λ e. absurd (false≢true e)),
  (λ (k, x, y, scale, f, g). let w = crossing_of_place a b c d k x y slanted first second scale f g in
      absurd (nothing w.0 ((exact w.0).0 w.1))),
)
  where
    nothing : (p : Point) → None ≡ Some p → ⊥
    nothing p e = cc
common_by_crossing a b c d (Some p) first second slanted exact =
    ((λ _. place_of_crossing a b c d p ((exact p).1 refl)), (λ _. refl))

-- a common place that is a shared end makes one
shared_by_place : (a b c d : Point) (k x y : ℤ) → IsSharedEnd a b c d k x y → ShareEnd a b c d
shared_by_place a b c d k x y h = ⊎_elim
    (λ (e : h.end ≡ a). inl (subst (λ (v : Point). IsEndpoint v c d) e h.of_second))
    (λ (e : h.end ≡ b). inr (subst (λ (v : Point). IsEndpoint v c d) e h.of_second)) h.of_first

pub slanted_Decides : (a b c d : Point) (r : Bool) → ¬ (ShareEnd a b c d) → Decides r (HaveCommon a b c d)
    → Decides (not r) (MeetAtEnds (a, b) (c, d))
slanted_Decides a b c d true apart h = (
  (λ e. absurd (false≢true e)),
  (λ meet. let w = h.0 refl in absurd (apart (shared_by_place a b c d w.0 w.1 w.2 (meet w.0 w.1 w.2 w.3 w.4 w.5)))),
)
slanted_Decides a b c d false apart h =
    ((λ _ k x y scale f g. absurd (false≢true (h.1 (k, x, y, scale, f, g)))), (λ _. refl))
