-- A level edge that begins at a point: nothing passes between the point and the edge's midpoint, so above it holds what the
-- edges right of the point tell.
use Rattle.std.proofs.Common.{◌≡◌, ◌≢◌, inl, inr, ⊎_elim, ℕ, Bool, true, false, cond, List, [], ◌∷◌}
use Rattle.std.proofs.Common.{ℤ, pos, ◌+ℤ◌, ◌-ℤ◌, ◌*ℤ◌, ◌≤ℤ◌, ◌<ℤ◌, refl, sym, ap, subst, ◌∙◌, arith}
use Rattle.std.specs.Prelude.{int_le}
use Rattle.std.proofs.lemmas.Int.{ints}
use Rattle.lay_point.proofs.Polynomials.{#, lit, ◌⊕◌, ◌⊖◌, ◌⊗◌, identity}
use Rattle.lay_point.proofs.Signs.{below_or_not, linear, positive_product, spread}
use Rattle.lay_point.specs.declared.point.Point.{Point}
use Rattle.lay_point.specs.Parity.{distance_right}
use Rattle.lay_point.specs.Points.{IsBefore}
use Rattle.lay_point.proofs.EdgeOrder.{before_by_test}
use Rattle.lay_point.proofs.Members.{contains, has}
use Rattle.lay_point.proofs.ListLaws.{has_get}
use Rattle.lay_point.proofs.NumberLaws.{none_times, times_none}
use Rattle.lay_point.proofs.Products.{+ℤ_comm}
use Rattle.snap_edge_laws.specs.Meeting.{MeetAtEnds}
use Rattle.face_side_laws.proofs.Sides.{mixed, mixed_on}
use Rattle.face_rows.proofs.UpwardLemmas.{either}
use Rattle.face_rows.proofs.JudgeLemmas.{before_rising}
use Rattle.snap_chains.specs.declared.owner.Owner.{Owner}
use Rattle.face_rows.specs.Labels.{odd_of, owned_items}
use Rattle.face_rows.specs.Lines.{edge_at, nowhere}
use Rattle.snap_chains.specs.Rounded.{Owned}
use Rattle.face_rows.specs.Rows.{CrossesRow, upward}
use Rattle.face_sweep.specs.Sides.{holds_beside, is_odd_in}
use Rattle.face_rows.specs.Sound.{AreSound}
use Rattle.face_sweep.specs.Points.{IsLevelFrom, IsStatus, distance_from}
use Rattle.face_sweep.proofs.BehindLemmas.{odd_right}
use Rattle.face_sweep.proofs.PointLemmas.{meets, span}

-- from the midpoint of a level edge, by the distance_from from its left end
from_middle : (x x' y : ℤ) (a b : Point)
    → distance_right (pos 2) (x +ℤ x') (pos 2 *ℤ y) a b ≡ pos 2 *ℤ distance_right (pos 1) x y a b -ℤ (b.y -ℤ a.y) *ℤ (x' -ℤ x)
from_middle x x' y a b = identity (x ∷ x' ∷ y ∷ a.x ∷ a.y ∷ b.x ∷ b.y ∷ [])
    ((lit (pos 2) ⊗ # 3 ⊖ (# 0 ⊕ # 1)) ⊗ (# 6 ⊖ # 4) ⊕ (lit (pos 2) ⊗ # 2 ⊖ lit (pos 2) ⊗ # 4) ⊗ (# 5 ⊖ # 3))
    (lit (pos 2) ⊗ ((lit (pos 1) ⊗ # 3 ⊖ # 0) ⊗ (# 6 ⊖ # 4) ⊕ (# 2 ⊖ lit (pos 1) ⊗ # 4) ⊗ (# 5 ⊖ # 3)) ⊖ (# 6 ⊖ # 4) ⊗ (# 1 ⊖ # 0)) refl

-- the place of the other edge at that height
place_there : (x y : ℤ) (a b : Point)
    → mixed (b.y -ℤ y) (y -ℤ a.y) a.x b.x ≡ distance_right (pos 1) x y a b +ℤ (b.y -ℤ a.y) *ℤ x
place_there x y a b = identity (x ∷ y ∷ a.x ∷ a.y ∷ b.x ∷ b.y ∷ [])
    ((# 5 ⊖ # 1) ⊗ # 2 ⊕ (# 1 ⊖ # 3) ⊗ # 4)
    (((lit (pos 1) ⊗ # 2 ⊖ # 0) ⊗ (# 5 ⊖ # 3) ⊕ (# 1 ⊖ lit (pos 1) ⊗ # 3) ⊗ (# 4 ⊖ # 2)) ⊕ (# 5 ⊖ # 3) ⊗ # 0) refl

scale_of : (y : ℤ) (a b : Point) → (b.y -ℤ y) +ℤ (y -ℤ a.y) ≡ b.y -ℤ a.y
scale_of y a b = omega (arith, linear)

height_of : (y : ℤ) (a b : Point) → mixed (b.y -ℤ y) (y -ℤ a.y) a.y b.y ≡ (b.y -ℤ a.y) *ℤ y
height_of y a b = identity (y ∷ a.y ∷ b.y ∷ []) ((# 2 ⊖ # 0) ⊗ # 1 ⊕ (# 0 ⊖ # 1) ⊗ # 2) ((# 2 ⊖ # 1) ⊗ # 0) refl

-- of an edge from a to b that is right of the left end p of a level edge, the place at that height is beyond the midpoint
beyond : (p q a b : Point) → p.y ≡ q.y → p.x <ℤ q.x → a.y ≤ℤ p.y → p.y <ℤ b.y → MeetAtEnds (p, q) (a, b)
    → pos 0 <ℤ distance_right (pos 1) p.x p.y a b
    → ((b.y -ℤ a.y) *ℤ (q.x -ℤ p.x)) ≤ℤ distance_right (pos 1) p.x p.y a b
beyond p q a b level wide low high meet far = ⊎_elim
    (λ (near : distance_right (pos 1) p.x p.y a b <ℤ ((b.y -ℤ a.y) *ℤ (q.x -ℤ p.x))).
    let k = b.y -ℤ a.y in
    let m = b.y -ℤ p.y in
    let l = p.y -ℤ a.y in
    let x = mixed m l a.x b.x in
    let whole = place_there p.x p.y a b in
    let sum = spread k p.x q.x in
    let from : (k *ℤ p.x) <ℤ x = omega (arith, linear, whole) in
    let to : x <ℤ (k *ℤ q.x) = omega (arith, linear, whole, sum) in
    let on = mixed_on a b m l (omega (arith, linear)) (omega (arith, linear)) in
    let there = coe 0 1 (i. Rattle.snap_edge_laws.specs.Edges.IsOn a b (scale_of p.y a b i) x (height_of p.y a b i)) on in
    let shared = meet k x (k *ℤ p.y) (omega (arith, linear))
    (record {
      line = times_none (x -ℤ k *ℤ p.x) (q.y -ℤ p.y) (omega (arith, linear))
          ∙ sym (none_times (k *ℤ p.y -ℤ k *ℤ p.y) (q.x -ℤ p.x) (omega (arith, linear)));
      column = inl (omega (arith, linear), omega (arith, linear));
      row = inl (omega (arith, linear), let e = ap (λ z. k *ℤ z) level in omega (arith, linear, e));
    })
    there in
    let column = shared.column in
    absurd (⊎_elim (λ (same : shared.end ≡ p). let e = ap (λ (v : Point). k *ℤ v.x) same in omega (arith, linear))
    (λ (same : shared.end ≡ q). let e = ap (λ (v : Point). k *ℤ v.x) same in omega (arith, linear)) shared.of_first))
    (λ (so : ((b.y -ℤ a.y) *ℤ (q.x -ℤ p.x)) ≤ℤ distance_right (pos 1) p.x p.y a b). so)
    (below_or_not (distance_right (pos 1) p.x p.y a b) ((b.y -ℤ a.y) *ℤ (q.x -ℤ p.x)))

pub level_behind : (r : Owned) (p : Point) (numbers : List ℕ) (n : ℕ) → AreSound r → IsLevelFrom r p n → (s : IsStatus r p numbers)
    → (o : Owner)
    → is_odd_in r s.above o ≡ holds_beside r n o
level_behind r p numbers n sound h s o =
    odd_right r sound p.y (pos 2) (a.x +ℤ q.x) (pos 2 *ℤ a.y) place s.above (record {
      rising = before_rising r.0 p.y s.above (λ m f. s.row_above.members m (contains s.above m f)) s.row_above.rising;
      members = λ m f. s.row_above.members m (contains s.above m f);
      right = λ m f.
          let g = contains s.above m f in
          let c = s.row_above.members m g in
          let t = span r sound p.y m c in
          let far = far_from m (s.right m g) in
          let k = positive_product ((upward (edge_at r m)).1.y -ℤ (upward (edge_at r m)).0.y) (q.x -ℤ a.x)
          (omega (arith, linear, t.low, t.high))
          (omega (arith, linear, wide)) in
          let b = beyond a q (upward (edge_at r m)).0 (upward (edge_at r m)).1 flat wide (omega (arith, linear, t.low, is_y))
          (omega (arith, linear, t.high, is_y))
          (meets r sound n m (other m c) h.given c.0) far in
          omega (arith, linear, b, k, far, from_middle a.x q.x a.y (upward (edge_at r m)).0 (upward (edge_at r m)).1);
      all = λ m c far.
          let t = span r sound p.y m c in
          let k = positive_product ((upward (edge_at r m)).1.y -ℤ (upward (edge_at r m)).0.y) (q.x -ℤ a.x)
          (omega (arith, linear, t.low, t.high))
          (omega (arith, linear, wide)) in
          let near : pos 0 <ℤ distance_right (pos 1) a.x a.y (upward (edge_at r m)).0 (upward (edge_at r m)).1 =
          omega (arith, linear, k, far, from_middle a.x q.x a.y (upward (edge_at r m)).0 (upward (edge_at r m)).1) in
          has s.above m (s.all_right m c
          (subst (λ (v : Point). pos 0 <ℤ distance_right (pos 1) v.x v.y (upward (edge_at r m)).0 (upward (edge_at r m)).1) h.begins near));
    }) o
    ∙ (λ i. odd_of (owned_items r) o (pos 2) (a.x +ℤ q.x) (double i))
    ∙ either (λ (f : Point × Point). odd_of (owned_items r) o (pos 2) (f.0.x +ℤ f.1.x) (f.0.y +ℤ f.1.y)) (λ u v. λ i.
    odd_of (owned_items r) o (pos 2) (+ℤ_comm u.x v.x i) (+ℤ_comm u.y v.y i)) (edge_at r n)
  where
    a : Point
    a = (upward (edge_at r n)).0

    q : Point
    q = (upward (edge_at r n)).1

    is_y : a.y ≡ p.y
    is_y = ap (λ (v : Point). v.y) h.begins

    flat : a.y ≡ q.y
    flat = is_y ∙ sym h.level

    double : pos 2 *ℤ a.y ≡ a.y +ℤ q.y
    double = omega (arith, linear, flat)

    place : Rattle.face_side_laws.proofs.Rows.IsInRow p.y (pos 2) (pos 2 *ℤ a.y)
    place = record {
      scale = omega (arith, linear);
      low = omega (arith, linear, is_y);
      high = omega (arith, linear, is_y);
    }

    wide : a.x <ℤ q.x
    wide = by_test (int_le (edge_at r n).0.y (edge_at r n).1.y) refl flat
      where
        before : IsBefore (edge_at r n).0 (edge_at r n).1
        before = before_by_test (edge_at r n).0 (edge_at r n).1
            (sound.lesser (edge_at r n) (contains r.0 (edge_at r n) (has_get r.0 n nowhere h.given)))

        by_test : (b : Bool) → int_le (edge_at r n).0.y (edge_at r n).1.y ≡ b
            → (cond b (edge_at r n) ((edge_at r n).1, (edge_at r n).0)).0.y ≡ (cond b (edge_at r n) ((edge_at r n).1, (edge_at r n).0)).1.y
            → (cond b (edge_at r n) ((edge_at r n).1, (edge_at r n).0)).0.x <ℤ (cond b (edge_at r n) ((edge_at r n).1, (edge_at r n).0)).1.x
        by_test true t e = by_way before
          where
            by_way : IsBefore (edge_at r n).0 (edge_at r n).1 → (edge_at r n).0.x <ℤ (edge_at r n).1.x
            by_way (inl less) = less
            by_way (inr more) = absurd (let f = more.1 in omega (arith, linear, e))
        by_test false t e = absurd (not_level (edge_at r n).0.y (edge_at r n).1.y t e)
          where
            not_level : (u v : ℤ) → int_le u v ≡ false → v ≡ u → ⊥
            not_level u v t e = grind (arith, ints)

    far_from : (m : ℕ) → pos 0 <ℤ distance_from r p m → pos 0 <ℤ distance_right (pos 1) a.x a.y (upward (edge_at r m)).0
        (upward (edge_at r m)).1
    far_from m far =
        subst (λ (v : Point). pos 0 <ℤ distance_right (pos 1) v.x v.y (upward (edge_at r m)).0 (upward (edge_at r m)).1) (sym h.begins) far

    other : (m : ℕ) → CrossesRow r.0 p.y m → n ≢ m
    other m c same =
        let t = span r sound p.y m c in
        let e = ap (λ k. (upward (edge_at r k)).1.y) same in
        let f = h.level in
        omega (arith, linear, t.high)
