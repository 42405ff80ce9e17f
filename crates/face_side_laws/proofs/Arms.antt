-- Level edges that end at a point which is an end of some edge: what is to the right of their midpoints, and that one at
-- most comes from each side.
use Rattle.std.proofs.Common.{◌≡◌, ◌⊎◌, inl, inr, Bool, true, false, not, ◌&&◌, ◌||◌, [], ◌∷◌, ℤ, pos, ◌+ℤ◌, ◌-ℤ◌, ◌*ℤ◌, ◌≤ℤ◌, ◌<ℤ◌}
use Rattle.std.proofs.Common.{refl, sym, ap, subst, ◌∙◌, ⊎_elim, arith}
use Rattle.std.specs.Prelude.{int_le, int_lt}
use Rattle.std.proofs.lemmas.Bool.{and_from, and_parts}
use Rattle.std.proofs.lemmas.Int.{ints}
use Rattle.std.specs.Cmp.{both_ways}
use Rattle.lay_point.proofs.Polynomials.{#, lit, ◌⊕◌, ◌⊖◌, ◌⊗◌, identity}
use Rattle.lay_point.proofs.Signs.{below_or_not, linear, positive_product}
use Rattle.lay_point.proofs.Tests.{le_true, lt_true, true_le, true_lt}
use Rattle.lay_point.specs.declared.point.Point.{Point}
use Rattle.lay_point.specs.Edges.{touches}
use Rattle.lay_point.specs.Parity.{distance_right, is_crossed}
use Rattle.lay_point.specs.Points.{point_eq}
use Rattle.lay_point.proofs.EdgeOrder.{same_point}
use Rattle.lay_point.proofs.RingLemmas.{point_eq-true}
use Rattle.lay_point.proofs.NumberLaws.{none_times}
use Rattle.snap_edge_laws.specs.Edges.{IsBetween, IsEndpoint, IsOn}
use Rattle.snap_edge_laws.specs.Meeting.{MeetAtEnds}
use Rattle.snap_edge_laws.proofs.Lines.{first_on, last_on}
use Rattle.face_side_laws.proofs.Level.{Edge, beyond, from_on, in_row, level_no_row, right_of_point}
use Rattle.face_side_laws.proofs.Rows.{IsInRow, Spans, crossed_spans, spans_crossed}
use Rattle.face_side_laws.proofs.Sides.{height_there, mixed, mixed_on}
use Rattle.face_side_laws.proofs.Slide.{rising_only, starts}

-- ---- places on a level edge
level_on : (p q : Point) (k x y : ℤ) → p.y ≡ q.y → y ≡ k *ℤ q.y → IsBetween (k *ℤ p.x) x (k *ℤ q.x) → IsOn p q k x y
level_on p q k x y level height between = record {
  line = flat (x -ℤ k *ℤ p.x) (q.y -ℤ p.y) (y -ℤ k *ℤ p.y) (q.x -ℤ p.x) (omega (arith, linear, level))
      (omega (arith, linear, height, same));
  column = between;
  row = inl (omega (arith, linear, height, same), omega (arith, linear, height));
}
  where
    same : k *ℤ p.y ≡ k *ℤ q.y
    same = ap (λ z. k *ℤ z) level

    flat : (a b c d : ℤ) → b ≡ pos 0 → c ≡ pos 0 → a *ℤ b ≡ c *ℤ d
    flat a b c d eb ec =
        ap (λ z. a *ℤ z) eb ∙ identity (a ∷ d ∷ []) (# 0 ⊗ lit (pos 0)) (lit (pos 0) ⊗ # 1) refl ∙ ap (λ z. z *ℤ d) (sym ec)

pub one_times : (z : ℤ) → pos 1 *ℤ z ≡ z
one_times z = identity (z ∷ []) (lit (pos 1) ⊗ # 0) (# 0) refl

-- an end of an edge that is on a level edge is an end of that one
pub level_end : (p q v : Point) (w : Edge) → p.y ≡ q.y → v.y ≡ q.y → IsBetween p.x v.x q.x → touches v w ≡ true
    → ((p, q) ≡ w) ⊎ MeetAtEnds (p, q) w → IsEndpoint v p q
level_end p q v w level height between touching (inl same) = ends_of p q (subst (λ f. touches v f ≡ true) (sym same) touching)
  where
    ends_of : (a b : Point) → touches v (a, b) ≡ true → IsEndpoint v a b
    ends_of a b t = by_test (point_eq a v) refl t
      where
        by_test : (s : Bool) → point_eq a v ≡ s → (s || point_eq b v) ≡ true → IsEndpoint v a b
        by_test true e g = inl (sym (point_eq-true a v e))
        by_test false e g = inr (sym (point_eq-true b v g))
level_end p q v w level height between touching (inr meet) =
    let on = level_on p q (pos 1) v.x v.y level (height ∙ sym (one_times q.y)) (scaled between) in
    let shared = meet (pos 1) v.x v.y (omega (arith, linear)) on (end_on (point_eq w.0 v) refl touching) in
    let same : v ≡ shared.end = same_point v shared.end (shared.column ∙ one_times shared.end.x) (shared.row ∙ one_times shared.end.y) in
    subst (λ z. IsEndpoint z p q) (sym same) shared.of_first
  where
    scaled : IsBetween p.x v.x q.x → IsBetween (pos 1 *ℤ p.x) v.x (pos 1 *ℤ q.x)
    scaled (inl h) = inl (omega (arith, linear, one_times p.x, h.0), omega (arith, linear, one_times q.x, h.1))
    scaled (inr h) = inr (omega (arith, linear, one_times q.x, h.0), omega (arith, linear, one_times p.x, h.1))

    end_on : (s : Bool) → point_eq w.0 v ≡ s → (s || point_eq w.1 v) ≡ true → IsOn w.0 w.1 (pos 1) v.x v.y
    end_on true e g = let same = point_eq-true w.0 v e in subst (λ (z : Point). IsOn w.0 w.1 (pos 1) z.x z.y) same (first_on w.0 w.1)
    end_on false e g = let same = point_eq-true w.1 v g in subst (λ (z : Point). IsOn w.0 w.1 (pos 1) z.x z.y) same (last_on w.0 w.1)

-- ---- another edge at the height of a level one
there_x : (v c d : Point) → right_of_point v (c, d)
    ≡ mixed (pos 1 *ℤ d.y -ℤ v.y) (v.y -ℤ pos 1 *ℤ c.y) c.x d.x -ℤ (d.y -ℤ c.y) *ℤ v.x
there_x v c d = identity (v.x ∷ v.y ∷ c.x ∷ c.y ∷ d.x ∷ d.y ∷ [])
    ((lit (pos 1) ⊗ # 2 ⊖ # 0) ⊗ (# 5 ⊖ # 3) ⊕ (# 1 ⊖ lit (pos 1) ⊗ # 3) ⊗ (# 4 ⊖ # 2))
    (((lit (pos 1) ⊗ # 5 ⊖ # 1) ⊗ # 2 ⊕ (# 1 ⊖ lit (pos 1) ⊗ # 3) ⊗ # 4) ⊖ (# 5 ⊖ # 3) ⊗ # 0) refl

there_sum : (v c d : Point) → (pos 1 *ℤ d.y -ℤ v.y) +ℤ (v.y -ℤ pos 1 *ℤ c.y) ≡ d.y -ℤ c.y
there_sum v c d = identity (v.y ∷ c.y ∷ d.y ∷ []) ((lit (pos 1) ⊗ # 2 ⊖ # 0) ⊕ (# 0 ⊖ lit (pos 1) ⊗ # 1)) (# 2 ⊖ # 1) refl

-- it isn't strictly between its ends
pub inside_level : (u v c d : Point) → u.y ≡ v.y → c.y ≤ℤ v.y → v.y ≤ℤ d.y → c.y <ℤ d.y → MeetAtEnds (u, v) (c, d)
    → let x = mixed (pos 1 *ℤ d.y -ℤ v.y) (v.y -ℤ pos 1 *ℤ c.y) c.x d.x in
    ((((d.y -ℤ c.y) *ℤ u.x) <ℤ x) × (x <ℤ ((d.y -ℤ c.y) *ℤ v.x))) ⊎ ((((d.y -ℤ c.y) *ℤ v.x) <ℤ x) × (x <ℤ ((d.y -ℤ c.y) *ℤ u.x))) → ⊥
inside_level u v c d level low high rises meet between =
    let w = d.y -ℤ c.y in
    let m = pos 1 *ℤ d.y -ℤ v.y in
    let l = v.y -ℤ pos 1 *ℤ c.y in
    let other = mixed_on c d m l (omega (arith, linear, one_times d.y)) (omega (arith, linear, one_times c.y)) in
    let whole : m +ℤ l ≡ w = there_sum v c d in
    let height : mixed m l c.y d.y ≡ w *ℤ v.y = height_there c d (pos 1) v.y in
    let on_second = coe 0 1 (i. IsOn c d (whole i) (mixed m l c.x d.x) (height i)) other in
    let on_first = level_on u v w (mixed m l c.x d.x) (w *ℤ v.y) level refl (weak w u.x v.x (mixed m l c.x d.x) between) in
    let shared = meet w (mixed m l c.x d.x) (w *ℤ v.y) (omega (arith, linear)) on_first on_second in
    not_end w u v (mixed m l c.x d.x) between shared.end shared.of_first shared.column
  where
    weak : (w a b x : ℤ) → (((w *ℤ a) <ℤ x) × (x <ℤ (w *ℤ b))) ⊎ (((w *ℤ b) <ℤ x) × (x <ℤ (w *ℤ a))) → IsBetween (w *ℤ a) x (w *ℤ b)
    weak w a b x (inl h) = inl (omega (arith, linear, h.0), omega (arith, linear, h.1))
    weak w a b x (inr h) = inr (omega (arith, linear, h.0), omega (arith, linear, h.1))

    not_end : (w : ℤ) (u v : Point) (x : ℤ) → (((w *ℤ u.x) <ℤ x) × (x <ℤ (w *ℤ v.x))) ⊎ (((w *ℤ v.x) <ℤ x) × (x <ℤ (w *ℤ u.x)))
        → (e : Point) → IsEndpoint e u v → x ≡ w *ℤ e.x → ⊥
    not_end w u v x between e (inl same) at =
        let there = at ∙ ap (λ (p : Point). w *ℤ p.x) same in
        ⊎_elim (λ (h : ((w *ℤ u.x) <ℤ x) × (x <ℤ (w *ℤ v.x))). omega (arith, linear, there, h.0))
        (λ (h : ((w *ℤ v.x) <ℤ x) × (x <ℤ (w *ℤ u.x))). omega (arith, linear, there, h.1)) between
    not_end w u v x between e (inr same) at =
        let there = at ∙ ap (λ (p : Point). w *ℤ p.x) same in
        ⊎_elim (λ (h : ((w *ℤ u.x) <ℤ x) × (x <ℤ (w *ℤ v.x))). omega (arith, linear, there, h.1))
        (λ (h : ((w *ℤ v.x) <ℤ x) × (x <ℤ (w *ℤ u.x))). omega (arith, linear, there, h.0)) between

-- ---- the midpoint of a level edge
from_middle : (u v c d : Point) → distance_right (pos 2) (u.x +ℤ v.x) (u.y +ℤ v.y) c d
    ≡ pos 2 *ℤ right_of_point v (c, d) +ℤ (v.x -ℤ u.x) *ℤ (d.y -ℤ c.y) +ℤ (u.y -ℤ v.y) *ℤ (d.x -ℤ c.x)
from_middle u v c d = identity (u.x ∷ u.y ∷ v.x ∷ v.y ∷ c.x ∷ c.y ∷ d.x ∷ d.y ∷ [])
    ((lit (pos 2) ⊗ # 4 ⊖ (# 0 ⊕ # 2)) ⊗ (# 7 ⊖ # 5) ⊕ ((# 1 ⊕ # 3) ⊖ lit (pos 2) ⊗ # 5) ⊗ (# 6 ⊖ # 4))
    (lit (pos 2) ⊗ ((lit (pos 1) ⊗ # 4 ⊖ # 2) ⊗ (# 7 ⊖ # 5) ⊕ (# 3 ⊖ lit (pos 1) ⊗ # 5) ⊗ (# 6 ⊖ # 4))
    ⊕ (# 2 ⊖ # 0) ⊗ (# 7 ⊖ # 5) ⊕ (# 1 ⊖ # 3) ⊗ (# 6 ⊖ # 4)) refl

spread : (a b w : ℤ) → (a -ℤ b) *ℤ w ≡ w *ℤ a -ℤ w *ℤ b
spread a b w = identity (a ∷ b ∷ w ∷ []) ((# 0 ⊖ # 1) ⊗ # 2) (# 2 ⊗ # 0 ⊖ # 2 ⊗ # 1) refl

middle_row : (u v : Point) → u.y ≡ v.y → IsInRow v.y (pos 2) (u.y +ℤ v.y)
middle_row u v level = record {
  scale = omega (arith, linear);
  low = omega (arith, linear, level);
  high = omega (arith, linear, level);
}

pub row_spans : (r : ℤ) (f : Edge) → in_row r f ≡ true → Spans r f
row_spans r f h =
    let both = and_parts (int_le f.0.y r) (int_lt r f.1.y) h in
    record { low = le_true f.0.y r both.0; high = lt_true r f.1.y both.1 }

pub spans_row : (r : ℤ) (f : Edge) → Spans r f → in_row r f ≡ true
spans_row r f h = and_from (int_le f.0.y r) (int_lt r f.1.y) (true_le f.0.y r h.low) (true_lt r f.1.y h.high)

pub le_zero : (z : ℤ) → pos 0 ≤ℤ z → int_le (pos 0) z ≡ true
le_zero z e = grind (arith, ints)

pub zero_le : (z : ℤ) → int_le (pos 0) z ≡ true → pos 0 ≤ℤ z
zero_le z e = grind (arith, ints)

pub lt_zero : (z : ℤ) → pos 0 <ℤ z → int_lt (pos 0) z ≡ true
lt_zero z e = grind (arith, ints)

pub zero_lt : (z : ℤ) → int_lt (pos 0) z ≡ true → pos 0 <ℤ z
zero_lt z e = grind (arith, ints)

-- to the right of the middle of one that comes from the left: what is from the point on
pub middle_left : (u v : Point) (f : Edge) → u.y ≡ v.y → u.x <ℤ v.x → f.0.y ≤ℤ f.1.y → MeetAtEnds (u, v) f
    → is_crossed (pos 2) (u.x +ℤ v.x) (u.y +ℤ v.y) f ≡ from_on v.y v f
middle_left u v f level less up meet =
    let q = middle_row u v level in
    let w = f.1.y -ℤ f.0.y in
    let middle = from_middle u v f.0 f.1 in
    let flat = none_times (u.y -ℤ v.y) (f.1.x -ℤ f.0.x) (omega (arith, linear, level)) in
    both_ways (is_crossed (pos 2) (u.x +ℤ v.x) (u.y +ℤ v.y) f) (from_on v.y v f)
    (λ t.
    let c = crossed_spans v.y (pos 2) (u.x +ℤ v.x) (u.y +ℤ v.y) f q up t in
    and_from (in_row v.y f) (int_le (pos 0) (right_of_point v f)) (spans_row v.y f c.0)
    (le_zero (right_of_point v f) (⊎_elim
    (λ (outside : right_of_point v f <ℤ pos 0).
    let gap = positive_product (v.x -ℤ u.x) w (omega (arith, linear)) (omega (arith, linear, c.0.low, c.0.high)) in
    absurd (inside_level u v f.0 f.1 level c.0.low (omega (arith, linear, c.0.high)) (omega (arith, linear, c.0.low, c.0.high)) meet
    (inl (
      omega (arith, linear, there_x v f.0 f.1, middle, flat, c.1, gap, spread v.x u.x w),
      omega (arith, linear, there_x v f.0 f.1, outside),
    ))))
    (λ (on : pos 0 ≤ℤ right_of_point v f). on)
    (below_or_not (right_of_point v f) (pos 0)))))
    (λ t.
    let both = and_parts (in_row v.y f) (int_le (pos 0) (right_of_point v f)) t in
    let s = row_spans v.y f both.0 in
    let gap = positive_product (v.x -ℤ u.x) w (omega (arith, linear)) (omega (arith, linear, s.low, s.high)) in
    spans_crossed v.y (pos 2) (u.x +ℤ v.x) (u.y +ℤ v.y) f q s (omega (
      arith,
      linear,
      middle,
      flat,
      gap,
      zero_le (right_of_point v f) both.1,
    )))

-- to the right of the middle of one that comes from the right: what is behind the point
pub middle_right : (u v : Point) (f : Edge) → u.y ≡ v.y → v.x <ℤ u.x → f.0.y ≤ℤ f.1.y → MeetAtEnds (u, v) f
    → is_crossed (pos 2) (u.x +ℤ v.x) (u.y +ℤ v.y) f ≡ beyond v.y v f
middle_right u v f level less up meet =
    let q = middle_row u v level in
    let w = f.1.y -ℤ f.0.y in
    let middle = from_middle u v f.0 f.1 in
    let flat = none_times (u.y -ℤ v.y) (f.1.x -ℤ f.0.x) (omega (arith, linear, level)) in
    both_ways (is_crossed (pos 2) (u.x +ℤ v.x) (u.y +ℤ v.y) f) (beyond v.y v f)
    (λ t.
    let c = crossed_spans v.y (pos 2) (u.x +ℤ v.x) (u.y +ℤ v.y) f q up t in
    let gap = positive_product (u.x -ℤ v.x) w (omega (arith, linear)) (omega (arith, linear, c.0.low, c.0.high)) in
    and_from (in_row v.y f) (int_lt (pos 0) (right_of_point v f)) (spans_row v.y f c.0)
    (lt_zero (right_of_point v f) (omega (arith, linear, middle, flat, c.1, gap, spread v.x u.x w, spread u.x v.x w))))
    (λ t.
    let both = and_parts (in_row v.y f) (int_lt (pos 0) (right_of_point v f)) t in
    let s = row_spans v.y f both.0 in
    let gap = positive_product (u.x -ℤ v.x) w (omega (arith, linear)) (omega (arith, linear, s.low, s.high)) in
    let right = zero_lt (right_of_point v f) both.1 in
    spans_crossed v.y (pos 2) (u.x +ℤ v.x) (u.y +ℤ v.y) f q s (⊎_elim
    (λ (so : pos 0 <ℤ distance_right (pos 2) (u.x +ℤ v.x) (u.y +ℤ v.y) f.0 f.1). so)
    (λ (not_so : distance_right (pos 2) (u.x +ℤ v.x) (u.y +ℤ v.y) f.0 f.1 ≤ℤ pos 0).
    absurd (inside_level u v f.0 f.1 level s.low (omega (arith, linear, s.high)) (omega (arith, linear, s.low, s.high)) meet
    (inr (
      omega (arith, linear, there_x v f.0 f.1, right),
      omega (arith, linear, there_x v f.0 f.1, middle, flat, gap, not_so, spread v.x u.x w, spread u.x v.x w),
    ))))
    (below_or_not (pos 0) (distance_right (pos 2) (u.x +ℤ v.x) (u.y +ℤ v.y) f.0 f.1))))

-- a level edge has nothing to its right
pub middle_level : (k x y : ℤ) (v : Point) (f : Edge) → pos 1 ≤ℤ k → f.0.y ≡ f.1.y
    → (is_crossed k x y f ≡ false) × (from_on v.y v f ≡ false) × (beyond v.y v f ≡ false)
middle_level k x y v f scale e = (
  rising_only k x y f.0 f.1 scale (omega (arith, linear, e))
      ∙ ap (λ (z : ℤ). starts k y f.0 && not (int_le (k *ℤ z) y) && int_lt (pos 0) (distance_right k x y f.0 f.1)) (sym e)
      ∙ never (starts k y f.0) (int_lt (pos 0) (distance_right k x y f.0 f.1)),
  ap (λ t. t && int_le (pos 0) (right_of_point v f)) (level_no_row v.y f e),
  ap (λ t. t && int_lt (pos 0) (right_of_point v f)) (level_no_row v.y f e),
)
  where
    never : (s t : Bool) → (s && not s && t) ≡ false
    never true t = refl
    never false t = refl

-- ---- one from each side
-- of two level edges to a point from one side the one with the nearer end is part of the other
pub not_nested : (u u' v : Point) → u.y ≡ v.y → u'.y ≡ v.y → ((u.x ≤ℤ u'.x) × (u'.x <ℤ v.x)) ⊎ ((u'.x ≤ℤ u.x) × (v.x <ℤ u'.x))
    → MeetAtEnds (u, v) (u', v) → ⊥
not_nested u u' v level level' order meet =
    let on = level_on u v (pos 2) (u'.x +ℤ v.x) (pos 2 *ℤ v.y) level refl (far order) in
    let on' = level_on u' v (pos 2) (u'.x +ℤ v.x) (pos 2 *ℤ v.y) level' refl (near order) in
    let shared = meet (pos 2) (u'.x +ℤ v.x) (pos 2 *ℤ v.y) (omega (arith, linear)) on on' in
    not_end order shared.end shared.of_second shared.column
  where
    far : ((u.x ≤ℤ u'.x) × (u'.x <ℤ v.x)) ⊎ ((u'.x ≤ℤ u.x) × (v.x <ℤ u'.x)) → IsBetween (pos 2 *ℤ u.x) (u'.x +ℤ v.x) (pos 2 *ℤ v.x)
    far (inl h) = inl (omega (arith, linear, h.0, h.1), omega (arith, linear, h.1))
    far (inr h) = inr (omega (arith, linear, h.1), omega (arith, linear, h.0, h.1))

    near : ((u.x ≤ℤ u'.x) × (u'.x <ℤ v.x)) ⊎ ((u'.x ≤ℤ u.x) × (v.x <ℤ u'.x)) → IsBetween (pos 2 *ℤ u'.x) (u'.x +ℤ v.x) (pos 2 *ℤ v.x)
    near (inl h) = inl (omega (arith, linear, h.1), omega (arith, linear, h.1))
    near (inr h) = inr (omega (arith, linear, h.1), omega (arith, linear, h.1))

    not_end : ((u.x ≤ℤ u'.x) × (u'.x <ℤ v.x)) ⊎ ((u'.x ≤ℤ u.x) × (v.x <ℤ u'.x)) → (e : Point) → IsEndpoint e u' v
        → u'.x +ℤ v.x ≡ pos 2 *ℤ e.x → ⊥
    not_end (inl h) e (inl same) at = let there = at ∙ ap (λ (p : Point). pos 2 *ℤ p.x) same in omega (arith, linear, there, h.1)
    not_end (inl h) e (inr same) at = let there = at ∙ ap (λ (p : Point). pos 2 *ℤ p.x) same in omega (arith, linear, there, h.1)
    not_end (inr h) e (inl same) at = let there = at ∙ ap (λ (p : Point). pos 2 *ℤ p.x) same in omega (arith, linear, there, h.1)
    not_end (inr h) e (inr same) at = let there = at ∙ ap (λ (p : Point). pos 2 *ℤ p.x) same in omega (arith, linear, there, h.1)
