-- Edges whose ends are in order, and parallel ones. Of two edges in the order of points one of which ends before the other starts, a
-- common place is that end. Parallel ones that overlap in this order have a common place that is no shared end, just where they are on
-- one line.
use Rattle.std.proofs.Common.{◌≡◌, ◌⊎◌, inl, inr, Bool, true, false, not, [], ◌∷◌, ℤ, pos, ◌-ℤ◌, ◌*ℤ◌, ◌≤ℤ◌, ◌<ℤ◌}
use Rattle.std.proofs.Common.{refl, sym, ap, subst, ◌∙◌, arith, ⊎_elim, Decides}
use Rattle.std.proofs.lemmas.Bool.{false≢true}
use Rattle.lay_point.specs.declared.point.Point.{Point}
use Rattle.lay_point.specs.Points.{IsBefore}
use Rattle.snap_pixels.specs.Segments.{AreParallel}
use Rattle.snap_edge_laws.specs.Edges.{IsEndpoint, IsOn, IsSharedEnd}
use Rattle.lay_point.proofs.Polynomials.{#, lit, ◌⊕◌, ◌⊖◌, ◌⊗◌, identity}
use Rattle.lay_point.proofs.Signs.{linear, below_or_same, times_lt, cancel_same, cancel_zero}
use Rattle.lay_point.proofs.EdgeOrder.{before_is_strict, before_total, same_point}
use Rattle.snap_edge_laws.specs.Meeting.{MeetAtEnds}
use Rattle.snap_edge_laws.proofs.Lines.{parallels, one, first_on, last_on, inside}

-- ---- before the last end, and behind the first
up_to_last : (a b : Point) (k x y : ℤ) → pos 1 ≤ℤ k → IsBefore a b → IsOn a b k x y
    → (x <ℤ (k *ℤ b.x)) ⊎ ((x ≡ k *ℤ b.x) × (y ≤ℤ (k *ℤ b.y)))
up_to_last a b k x y scale (inl wide) h =
    let far = times_lt k a.x b.x (omega (arith, linear)) wide in
    let le : x ≤ℤ (k *ℤ b.x) = ⊎_elim (λ (z : ((k *ℤ a.x) ≤ℤ x) × (x ≤ℤ (k *ℤ b.x))). z.1)
    (λ (z : ((k *ℤ b.x) ≤ℤ x) × (x ≤ℤ (k *ℤ a.x))). absurd (omega (arith, linear, z.0, z.1))) h.column in
    ⊎_elim inl (λ (e : x ≡ k *ℤ b.x). inr (e, at_last e)) (below_or_same x (k *ℤ b.x) le)
  where
    at_last : x ≡ k *ℤ b.x → y ≤ℤ (k *ℤ b.y)
    at_last e =
        let line = subst (λ (z : ℤ). (z -ℤ k *ℤ a.x) *ℤ (b.y -ℤ a.y) ≡ (y -ℤ k *ℤ a.y) *ℤ (b.x -ℤ a.x)) e h.line in
        let vs = a.x ∷ a.y ∷ b.x ∷ b.y ∷ k ∷ y ∷ [] in
        let left = identity vs ((# 4 ⊗ # 2 ⊖ # 4 ⊗ # 0) ⊗ (# 3 ⊖ # 1)) ((# 2 ⊖ # 0) ⊗ (# 4 ⊗ # 3 ⊖ # 4 ⊗ # 1)) refl in
        let right = identity vs ((# 5 ⊖ # 4 ⊗ # 1) ⊗ (# 2 ⊖ # 0)) ((# 2 ⊖ # 0) ⊗ (# 5 ⊖ # 4 ⊗ # 1)) refl in
        let same = cancel_same (b.x -ℤ a.x) (k *ℤ b.y -ℤ k *ℤ a.y) (y -ℤ k *ℤ a.y) (omega (arith, linear)) (sym left ∙ line ∙ right) in
        omega (arith, linear)
up_to_last a b k x y scale (inr tie) h =
    let high = times_lt k a.y b.y (omega (arith, linear)) tie.1 in
    let e = ap (λ (z : ℤ). k *ℤ z) tie.0 in
    let here : x ≡ k *ℤ b.x = ⊎_elim (λ (z : ((k *ℤ a.x) ≤ℤ x) × (x ≤ℤ (k *ℤ b.x))). omega (arith, linear, z.0, z.1))
    (λ (z : ((k *ℤ b.x) ≤ℤ x) × (x ≤ℤ (k *ℤ a.x))). omega (arith, linear, z.0, z.1)) h.column in
    inr (
      here,
      ⊎_elim (λ (z : ((k *ℤ a.y) ≤ℤ y) × (y ≤ℤ (k *ℤ b.y))). z.1)
          (λ (z : ((k *ℤ b.y) ≤ℤ y) × (y ≤ℤ (k *ℤ a.y))). absurd (omega (arith, linear, z.0, z.1))) h.row,
    )

from_first : (a b : Point) (k x y : ℤ) → pos 1 ≤ℤ k → IsBefore a b → IsOn a b k x y
    → ((k *ℤ a.x) <ℤ x) ⊎ ((k *ℤ a.x ≡ x) × ((k *ℤ a.y) ≤ℤ y))
from_first a b k x y scale (inl wide) h =
    let far = times_lt k a.x b.x (omega (arith, linear)) wide in
    let le : (k *ℤ a.x) ≤ℤ x = ⊎_elim (λ (z : ((k *ℤ a.x) ≤ℤ x) × (x ≤ℤ (k *ℤ b.x))). z.0)
    (λ (z : ((k *ℤ b.x) ≤ℤ x) × (x ≤ℤ (k *ℤ a.x))). absurd (omega (arith, linear, z.0, z.1))) h.column in
    ⊎_elim inl (λ (e : k *ℤ a.x ≡ x). inr (e, at_first e)) (below_or_same (k *ℤ a.x) x le)
  where
    at_first : k *ℤ a.x ≡ x → (k *ℤ a.y) ≤ℤ y
    at_first e =
        let line = subst (λ (z : ℤ). (z -ℤ k *ℤ a.x) *ℤ (b.y -ℤ a.y) ≡ (y -ℤ k *ℤ a.y) *ℤ (b.x -ℤ a.x)) (sym e) h.line in
        let vs = a.x ∷ a.y ∷ b.x ∷ b.y ∷ k ∷ y ∷ [] in
        let left = identity vs ((# 4 ⊗ # 0 ⊖ # 4 ⊗ # 0) ⊗ (# 3 ⊖ # 1)) ((# 2 ⊖ # 0) ⊗ lit (pos 0)) refl in
        let right = identity vs ((# 5 ⊖ # 4 ⊗ # 1) ⊗ (# 2 ⊖ # 0)) ((# 2 ⊖ # 0) ⊗ (# 5 ⊖ # 4 ⊗ # 1)) refl in
        let same = cancel_same (b.x -ℤ a.x) (pos 0) (y -ℤ k *ℤ a.y) (omega (arith, linear)) (sym left ∙ line ∙ right) in
        omega (arith, linear)
from_first a b k x y scale (inr tie) h =
    let high = times_lt k a.y b.y (omega (arith, linear)) tie.1 in
    let e = ap (λ (z : ℤ). k *ℤ z) tie.0 in
    let here : k *ℤ a.x ≡ x = ⊎_elim (λ (z : ((k *ℤ a.x) ≤ℤ x) × (x ≤ℤ (k *ℤ b.x))). omega (arith, linear, z.0, z.1))
    (λ (z : ((k *ℤ b.x) ≤ℤ x) × (x ≤ℤ (k *ℤ a.x))). omega (arith, linear, z.0, z.1)) h.column in
    inr (
      here,
      ⊎_elim (λ (z : ((k *ℤ a.y) ≤ℤ y) × (y ≤ℤ (k *ℤ b.y))). z.0)
          (λ (z : ((k *ℤ b.y) ≤ℤ y) × (y ≤ℤ (k *ℤ a.y))). absurd (omega (arith, linear, z.0, z.1))) h.row,
    )

no_place_between : (b c : Point) (k x y : ℤ) → pos 1 ≤ℤ k → IsBefore b c
    → (x <ℤ (k *ℤ b.x)) ⊎ ((x ≡ k *ℤ b.x) × (y ≤ℤ (k *ℤ b.y))) → ((k *ℤ c.x) <ℤ x) ⊎ ((k *ℤ c.x ≡ x) × ((k *ℤ c.y) ≤ℤ y)) → ⊥
no_place_between b c k x y scale (inl wide) f g =
    let far = times_lt k b.x c.x (omega (arith, linear)) wide in
    let le : x ≤ℤ (k *ℤ b.x) = ⊎_elim (λ (z : x <ℤ (k *ℤ b.x)). omega (arith, linear)) (λ z. omega (arith, linear, z.0)) f in
    let ge : (k *ℤ c.x) ≤ℤ x = ⊎_elim (λ (z : (k *ℤ c.x) <ℤ x). omega (arith, linear)) (λ z. omega (arith, linear, z.0)) g in
    omega (arith, linear)
no_place_between b c k x y scale (inr tie) f g =
    let e = ap (λ (z : ℤ). k *ℤ z) tie.0 in
    let far = times_lt k b.y c.y (omega (arith, linear)) tie.1 in
    ⊎_elim
    (λ (z : x <ℤ (k *ℤ b.x)). ⊎_elim (λ (w : (k *ℤ c.x) <ℤ x). omega (arith, linear)) (λ w. omega (arith, linear, w.0)) g)
    (λ (z : (x ≡ k *ℤ b.x) × (y ≤ℤ (k *ℤ b.y))). ⊎_elim (λ (w : (k *ℤ c.x) <ℤ x). omega (arith, linear, z.0))
    (λ w. omega (arith, linear, z.1, w.1)) g) f

end_of_both : (b : Point) (k x y : ℤ)
    → (x <ℤ (k *ℤ b.x)) ⊎ ((x ≡ k *ℤ b.x) × (y ≤ℤ (k *ℤ b.y))) → ((k *ℤ b.x) <ℤ x) ⊎ ((k *ℤ b.x ≡ x) × ((k *ℤ b.y) ≤ℤ y))
    → (x ≡ k *ℤ b.x) × (y ≡ k *ℤ b.y)
end_of_both b k x y (inl f) (inl g) = absurd (omega (arith, linear))
end_of_both b k x y (inl f) (inr g) = absurd (omega (arith, linear, g.0))
end_of_both b k x y (inr f) (inl g) = absurd (omega (arith, linear, f.0))
end_of_both b k x y (inr f) (inr g) = (f.0, omega (arith, linear, f.1, g.1))

-- the one edge ends before or where the other starts
pub one_after_other : (a b c d : Point) → IsBefore a b → IsBefore c d → ¬ (IsBefore c b) → MeetAtEnds (a, b) (c, d)
one_after_other a b c d first second apart k x y scale f g =
    let high = up_to_last a b k x y scale first f in
    let low = from_first c d k x y scale second g in
    ⊎_elim
    (λ (e : b ≡ c).
    let low' = subst (λ (v : Point). ((k *ℤ v.x) <ℤ x) ⊎ ((k *ℤ v.x ≡ x) × ((k *ℤ v.y) ≤ℤ y))) (sym e) low in
    let z = end_of_both b k x y high low' in
    let met : IsSharedEnd a b c d k x y = record { end = b; column = z.0; row = z.1; of_first = inr refl; of_second = inl e } in met)
    (λ order. absurd (⊎_elim (λ (less : IsBefore b c). no_place_between b c k x y scale less high low) (λ more. apart more) order))
    (before_total b c)

pub other_way_round : (a b c d : Point) → MeetAtEnds (c, d) (a, b) → MeetAtEnds (a, b) (c, d)
other_way_round a b c d h k x y scale f g =
    let s = h k x y scale g f in
    record { end = s.end; column = s.column; row = s.row; of_first = s.of_second; of_second = s.of_first }

-- ---- parallel
differ : (a b : Point) → IsBefore a b → ¬ ((b.x -ℤ a.x ≡ pos 0) × (b.y -ℤ a.y ≡ pos 0))
differ a b (inl less) z = omega (arith, linear, z.0)
differ a b (inr tie) z = omega (arith, linear, tie.1, z.1)

-- a common place puts both on one line
pub one_line : (a b c d : Point) (k x y : ℤ) → pos 1 ≤ℤ k → IsBefore c d → AreParallel a b c d → IsOn a b k x y → IsOn c d k x y
    → AreParallel a b a c
one_line a b c d k x y scale second parallel f g =
    let turned = identity (a.x ∷ a.y ∷ b.x ∷ b.y ∷ c.x ∷ c.y ∷ d.x ∷ d.y ∷ [])
    ((# 6 ⊖ # 4) ⊗ (# 3 ⊖ # 1) ⊖ (# 7 ⊖ # 5) ⊗ (# 2 ⊖ # 0)) (lit (pos 0) ⊖ ((# 2 ⊖ # 0) ⊗ (# 7 ⊖ # 5) ⊖ (# 3 ⊖ # 1) ⊗ (# 6 ⊖ # 4))) refl in
    let along_second = parallels (d.x -ℤ c.x) (d.y -ℤ c.y) (b.x -ℤ a.x) (b.y -ℤ a.y) (x -ℤ k *ℤ c.x) (y -ℤ k *ℤ c.y)
    (turned ∙ (λ i. pos 0 -ℤ parallel i)) g.line (differ c d second) in
    let e = identity (a.x ∷ a.y ∷ b.x ∷ b.y ∷ c.x ∷ c.y ∷ k ∷ x ∷ y ∷ [])
    (# 6 ⊗ ((# 2 ⊖ # 0) ⊗ (# 5 ⊖ # 1) ⊖ (# 3 ⊖ # 1) ⊗ (# 4 ⊖ # 0)))
    (((# 8 ⊖ # 6 ⊗ # 1) ⊗ (# 2 ⊖ # 0) ⊖ (# 7 ⊖ # 6 ⊗ # 0) ⊗ (# 3 ⊖ # 1))
    ⊖ ((# 8 ⊖ # 6 ⊗ # 5) ⊗ (# 2 ⊖ # 0) ⊖ (# 7 ⊖ # 6 ⊗ # 4) ⊗ (# 3 ⊖ # 1))) refl in
    cancel_zero k ((b.x -ℤ a.x) *ℤ (c.y -ℤ a.y) -ℤ (b.y -ℤ a.y) *ℤ (c.x -ℤ a.x)) (omega (arith, linear)) (omega (arith, linear, f.line))

pub off_one_line : (a b c d : Point) → IsBefore c d → AreParallel a b c d → ¬ (AreParallel a b a c) → MeetAtEnds (a, b) (c, d)
off_one_line a b c d second parallel off k x y scale f g = absurd (off (one_line a b c d k x y scale second parallel f g))

-- a point on both that isn't an end of both
not_at_end : (a b c d v : Point) → IsOn a b (pos 1) v.x v.y → IsOn c d (pos 1) v.x v.y → ¬ (IsEndpoint v a b × IsEndpoint v c d)
    → MeetAtEnds (a, b) (c, d) → ⊥
not_at_end a b c d v f g no_end h =
    let s = h (pos 1) v.x v.y (omega (arith, linear)) f g in
    let e : s.end ≡ v = sym (same_point v s.end (s.column ∙ one s.end.x) (s.row ∙ one s.end.y)) in
    no_end (subst (λ (w : Point). IsEndpoint w a b) e s.of_first, subst (λ (w : Point). IsEndpoint w c d) e s.of_second)

pub not_itself : (p q : Point) → IsBefore p q → ¬ (p ≡ q)
not_itself p q h e = before_is_strict.irreflexive q (subst (λ (v : Point). IsBefore v q) e h)

-- strictly inside the first edge: no end of it
not_end : (a v b : Point) → IsBefore a v → IsBefore v b → ¬ (IsEndpoint v a b)
not_end a v b early late (inl e) = not_itself a v early (sym e)
not_end a v b early late (inr e) = not_itself v b late e

module _ (a b c d : Point) (first : IsBefore a b) (second : IsBefore c d) (parallel : AreParallel a b c d) where
  d_on_first : AreParallel a b a c → (d.x -ℤ a.x) *ℤ (b.y -ℤ a.y) ≡ (d.y -ℤ a.y) *ℤ (b.x -ℤ a.x)
  d_on_first level =
      let e = identity (a.x ∷ a.y ∷ b.x ∷ b.y ∷ c.x ∷ c.y ∷ d.x ∷ d.y ∷ [])
      ((# 7 ⊖ # 1) ⊗ (# 2 ⊖ # 0) ⊖ (# 6 ⊖ # 0) ⊗ (# 3 ⊖ # 1))
      (((# 2 ⊖ # 0) ⊗ (# 7 ⊖ # 5) ⊖ (# 3 ⊖ # 1) ⊗ (# 6 ⊖ # 4)) ⊕ ((# 2 ⊖ # 0) ⊗ (# 5 ⊖ # 1) ⊖ (# 3 ⊖ # 1) ⊗ (# 4 ⊖ # 0))) refl in
      omega (arith, linear)

  c_on_first : AreParallel a b a c → (c.x -ℤ a.x) *ℤ (b.y -ℤ a.y) ≡ (c.y -ℤ a.y) *ℤ (b.x -ℤ a.x)
  c_on_first level =
      let e = identity (a.x ∷ a.y ∷ b.x ∷ b.y ∷ c.x ∷ c.y ∷ [])
      ((# 5 ⊖ # 1) ⊗ (# 2 ⊖ # 0) ⊖ (# 4 ⊖ # 0) ⊗ (# 3 ⊖ # 1)) ((# 2 ⊖ # 0) ⊗ (# 5 ⊖ # 1) ⊖ (# 3 ⊖ # 1) ⊗ (# 4 ⊖ # 0)) refl in
      omega (arith, linear)

  a_on_second : AreParallel a b a c → (a.x -ℤ c.x) *ℤ (d.y -ℤ c.y) ≡ (a.y -ℤ c.y) *ℤ (d.x -ℤ c.x)
  a_on_second level =
      let e = identity (a.x ∷ a.y ∷ b.x ∷ b.y ∷ c.x ∷ c.y ∷ [])
      ((# 1 ⊖ # 5) ⊗ (# 2 ⊖ # 0) ⊖ (# 0 ⊖ # 4) ⊗ (# 3 ⊖ # 1)) (lit (pos 0) ⊖ ((# 2 ⊖ # 0) ⊗ (# 5 ⊖ # 1) ⊖ (# 3 ⊖ # 1) ⊗ (# 4 ⊖ # 0)))
      refl in
      parallels (b.x -ℤ a.x) (b.y -ℤ a.y) (d.x -ℤ c.x) (d.y -ℤ c.y) (a.x -ℤ c.x) (a.y -ℤ c.y) parallel (omega (arith, linear))
      (differ a b first)

  b_on_second : AreParallel a b a c → (b.x -ℤ c.x) *ℤ (d.y -ℤ c.y) ≡ (b.y -ℤ c.y) *ℤ (d.x -ℤ c.x)
  b_on_second level =
      let e = identity (a.x ∷ a.y ∷ b.x ∷ b.y ∷ c.x ∷ c.y ∷ [])
      ((# 3 ⊖ # 5) ⊗ (# 2 ⊖ # 0) ⊖ (# 2 ⊖ # 4) ⊗ (# 3 ⊖ # 1)) (lit (pos 0) ⊖ ((# 2 ⊖ # 0) ⊗ (# 5 ⊖ # 1) ⊖ (# 3 ⊖ # 1) ⊗ (# 4 ⊖ # 0)))
      refl in
      parallels (b.x -ℤ a.x) (b.y -ℤ a.y) (d.x -ℤ c.x) (d.y -ℤ c.y) (b.x -ℤ c.x) (b.y -ℤ c.y) parallel (omega (arith, linear))
      (differ a b first)

  overlap : AreParallel a b a c → ¬ ((a ≡ c) × (b ≡ d)) → IsBefore c b → IsBefore a d → MeetAtEnds (a, b) (c, d) → ⊥
  overlap level two left right h = ⊎_elim
      (λ (e : a ≡ c). ⊎_elim
      (λ (e' : b ≡ d). two (e, e'))
      (⊎_elim
      (λ (short : IsBefore b d). not_at_end a b c d b (last_on a b) (inside c b d left short (b_on_second level))
      (λ z. not_end c b d left short z.1) h)
      (λ (long : IsBefore d b). not_at_end a b c d d (inside a d b right long (d_on_first level)) (last_on c d)
      (λ z. not_end a d b right long z.0) h))
      (before_total b d))
      (⊎_elim
      (λ (early : IsBefore a c). not_at_end a b c d c (inside a c b early left (c_on_first level)) (first_on c d)
      (λ z. not_end a c b early left z.0) h)
      (λ (late : IsBefore c a). not_at_end a b c d a (first_on a b) (inside c a d late right (a_on_second level))
      (λ z. not_end c a d late right z.1) h))
      (before_total a c)

  pub level_Decides : (r : Bool) → Decides r (AreParallel a b a c) → ¬ ((a ≡ c) × (b ≡ d)) → IsBefore c b → IsBefore a d
      → Decides (not r) (MeetAtEnds (a, b) (c, d))
  level_Decides true line two left right =
      ((λ w. absurd (false≢true w)), (λ h. absurd (overlap (line.0 refl) two left right h)))
  level_Decides false line two left right =
      ((λ _. off_one_line a b c d second parallel (λ on. false≢true (line.1 on))), (λ _. refl))
