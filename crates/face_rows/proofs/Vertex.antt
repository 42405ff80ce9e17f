-- An even number of an operation's edges stands at each point: those that begin or end there are counted by the answers
-- beside them in the row above and in the row below, and a level one by the answers above it and below it.
use Rattle.std.proofs.Common.{◌≡◌, ◌⊎◌, inl, inr, suc, Bool, true, false, ◌&&◌, List, [], ◌∷◌}
use Rattle.std.proofs.Common.{ℤ, pos, ◌+ℤ◌, ◌-ℤ◌, ◌≤ℤ◌, ◌<ℤ◌, refl, sym, ap, ap₂, subst, ◌∙◌, ⊎_elim, arith, int_eq}
use Rattle.std.specs.Prelude.{int_le, int_lt}
use Rattle.std.proofs.lemmas.Bool.{and_from, and_parts}
use Rattle.std.proofs.lemmas.Int.{ints}
use Rattle.std.proofs.lemmas.Bool.Decides.{Decides-int_eq}
use Rattle.std.specs.Cmp.{both_ways}
use Rattle.lay_point.proofs.Signs.{below_or_not, below_or_same, linear}
use Rattle.lay_point.proofs.Tests.{le_false, le_true, lt_false, lt_true}
use Rattle.lay_point.specs.declared.point.Point.{Point}
use Rattle.lay_point.specs.Edges.{same_edge, touches}
use Rattle.lay_point.specs.Parity.{xor, parity, is_crossed}
use Rattle.lay_point.proofs.EdgeOrder.{one_end, point_x}
use Rattle.lay_point.proofs.Members.{Has}
use Rattle.lay_point.proofs.Parity.{parity_agree, parity_none, parity-xor, xor_self}
use Rattle.lay_point.proofs.BoolLaws.{and-false, and_over_xor, same_by_xor}
use Rattle.lay_point.proofs.NumberLaws.{int_eq-same}
use Rattle.snap_edge_laws.specs.Edges.{IsBetween, IsEndpoint}
use Rattle.snap_edge_laws.specs.Meeting.{MeetAtEnds}
use Rattle.snap_edge_laws.proofs.Level.{other_way_round}
use Rattle.snap_chains.specs.declared.owner.Owner.{Owner}
use Rattle.snap_chains.specs.Rounded.{is_owner_listed}
use Rattle.snap_chains.proofs.EdgeOrder.{edges_decide}
use Rattle.face_rows.specs.Labels.{Item, answer_on, differs, listed_shapes, odd_of}
use Rattle.face_side_laws.proofs.Arms.{le_zero, level_end, lt_zero}
use Rattle.face_side_laws.proofs.Arms.{middle_left, middle_level, middle_right, not_nested, one_times}
use Rattle.face_side_laws.proofs.Arms.{row_spans, spans_row, zero_le, zero_lt}
use Rattle.face_rows.proofs.CutLaw.{IsCut, cut_law}
use Rattle.face_rows.proofs.Cuts.{AreDistinct, count_of, parity_of_one}
use Rattle.face_side_laws.proofs.EvenEnds.{even_ends}
use Rattle.face_side_laws.proofs.Level.{Edge, behind_here, beyond, ends_behind_here, ends_from_here}
use Rattle.face_side_laws.proofs.Level.{from_here, from_on, in_row, left_arm, right_arm, right_of_point, touches_here}
use Rattle.face_side_laws.proofs.Rows.{IsBesideRow, not_left_in_row, right_in_row}
use Rattle.face_side_laws.proofs.Sides.{meet_first}
use Rattle.face_side_laws.proofs.Slide.{AreUpward}

-- ---- truth values
other_of : (a b l : Bool) → xor a b ≡ l → b ≡ xor l a
other_of true true l e = ap (λ z. xor z true) e
other_of true false l e = ap (λ z. xor z true) e
other_of false true l e = ap (λ z. xor z false) e
other_of false false l e = ap (λ z. xor z false) e

one_of : (a b : Bool) → xor a b ≡ true → ((a ≡ true) × (b ≡ false)) ⊎ ((a ≡ false) × (b ≡ true))
one_of true false e = inl (refl, refl)
one_of false true e = inr (refl, refl)
one_of true true e = absurd cc
one_of false false e = absurd cc

all_cancel : (a b c d : Bool) → xor (xor (xor a b) (xor a b)) (xor (xor c d) (xor c d)) ≡ false
all_cancel a b c d = ap₂ xor (xor_self (xor a b)) (xor_self (xor c d))

-- ---- arms
-- the edge goes from u to v or from v to u
abbrev Joins : Edge → Point → Point → Type 0
Joins g u v = (g ≡ (u, v)) ⊎ (g ≡ (v, u))

abbrev EndsIt : Edge → Point → Type 0
EndsIt g v = g.0.y ≡ g.1.y → v.y ≡ g.1.y → IsBetween g.0.x v.x g.1.x → IsEndpoint v g.0 g.1

eq_true : (a b : ℤ) → int_eq a b ≡ true → a ≡ b
eq_true a b e = (Decides-int_eq a b).0 e

second_false : (a b : Bool) → a ≡ true → (a && b) ≡ false → b ≡ false
second_false true b h e = e
second_false false b h e = absurd cc

pub record IsLeftArm (v : Point) (g : Edge) : Type 0 where
  pub other : Point
  pub joins : Joins g other v
  pub level : other.y ≡ v.y
  pub left : other.x <ℤ v.x

pub record IsRightArm (v : Point) (g : Edge) : Type 0 where
  pub other : Point
  pub joins : Joins g other v
  pub level : other.y ≡ v.y
  pub right : v.x <ℤ other.x

left_arm_is : (v a b : Point) → left_arm v (a, b) ≡ true → EndsIt (a, b) v → IsLeftArm v (a, b)
left_arm_is v a b h ends =
    let both = and_parts (int_eq a.y b.y) (xor (from_here v a) (from_here v b)) h in
    let level = eq_true a.y b.y both.0 in
    ⊎_elim
    (λ (one : (from_here v a ≡ true) × (from_here v b ≡ false)).
    let here = and_parts (int_eq a.y v.y) (int_le v.x a.x) one.0 in
    let at_a = eq_true a.y v.y here.0 in
    let less = le_false v.x b.x (second_false (int_eq b.y v.y) (int_le v.x b.x) (int_eq-same b.y v.y (sym level ∙ at_a)) one.1) in
    let more = le_true v.x a.x here.1 in
    ⊎_elim
    (λ (same : v ≡ a). record { other = b; joins = inr (λ i. (sym same i, b)); level = sym level ∙ at_a; left = less })
    (λ (same : v ≡ b). absurd (omega (arith, linear, less, point_x v b same)))
    (ends level (sym at_a ∙ level) (inr (omega (arith, linear, less), more))))
    (λ (one : (from_here v a ≡ false) × (from_here v b ≡ true)).
    let here = and_parts (int_eq b.y v.y) (int_le v.x b.x) one.1 in
    let at_b = eq_true b.y v.y here.0 in
    let less = le_false v.x a.x (second_false (int_eq a.y v.y) (int_le v.x a.x) (int_eq-same a.y v.y (level ∙ at_b)) one.0) in
    let more = le_true v.x b.x here.1 in
    ⊎_elim
    (λ (same : v ≡ a). absurd (omega (arith, linear, less, point_x v a same)))
    (λ (same : v ≡ b). record { other = a; joins = inl (λ i. (a, sym same i)); level = level ∙ at_b; left = less })
    (ends level (sym at_b) (inl (omega (arith, linear, less), more))))
    (one_of (from_here v a) (from_here v b) both.1)

right_arm_is : (v a b : Point) → right_arm v (a, b) ≡ true → EndsIt (a, b) v → IsRightArm v (a, b)
right_arm_is v a b h ends =
    let both = and_parts (int_eq a.y b.y) (xor (behind_here v a) (behind_here v b)) h in
    let level = eq_true a.y b.y both.0 in
    ⊎_elim
    (λ (one : (behind_here v a ≡ true) × (behind_here v b ≡ false)).
    let here = and_parts (int_eq a.y v.y) (int_lt v.x a.x) one.0 in
    let at_a = eq_true a.y v.y here.0 in
    let less = lt_false v.x b.x (second_false (int_eq b.y v.y) (int_lt v.x b.x) (int_eq-same b.y v.y (sym level ∙ at_a)) one.1) in
    let more = lt_true v.x a.x here.1 in
    ⊎_elim
    (λ (same : v ≡ a). absurd (omega (arith, linear, more, point_x v a same)))
    (λ (same : v ≡ b). record { other = a; joins = inl (λ i. (a, sym same i)); level = at_a; right = more })
    (ends level (sym at_a ∙ level) (inr (less, omega (arith, linear, more)))))
    (λ (one : (behind_here v a ≡ false) × (behind_here v b ≡ true)).
    let here = and_parts (int_eq b.y v.y) (int_lt v.x b.x) one.1 in
    let at_b = eq_true b.y v.y here.0 in
    let less = lt_false v.x a.x (second_false (int_eq a.y v.y) (int_lt v.x a.x) (int_eq-same a.y v.y (level ∙ at_b)) one.0) in
    let more = lt_true v.x b.x here.1 in
    ⊎_elim
    (λ (same : v ≡ a). record { other = b; joins = inr (λ i. (sym same i, b)); level = at_b; right = more })
    (λ (same : v ≡ b). absurd (omega (arith, linear, more, point_x v b same)))
    (ends level (sym at_b) (inl (less, omega (arith, linear, more)))))
    (one_of (behind_here v a) (behind_here v b) both.1)

-- what holds from u to v holds of the edge
joined_meet : (g : Edge) (u v : Point) (f : Edge) → Joins g u v → MeetAtEnds g f → MeetAtEnds (u, v) f
joined_meet g u v f (inl same) h = subst (λ z. MeetAtEnds z f) same h
joined_meet g u v f (inr same) h = meet_first v u f (subst (λ z. MeetAtEnds z f) same h)

middle_of : (g : Edge) (u v : Point) (P : ℤ → ℤ → Type 0) → Joins g u v → P (u.x +ℤ v.x) (u.y +ℤ v.y) → P (g.0.x +ℤ g.1.x) (g.0.y +ℤ g.1.y)
middle_of g u v P (inl same) h = subst (λ (z : Edge). P (z.0.x +ℤ z.1.x) (z.0.y +ℤ z.1.y)) (sym same) h
middle_of g u v P (inr same) h =
    subst (λ (z : Edge). P (z.0.x +ℤ z.1.x) (z.0.y +ℤ z.1.y)) (sym same) (coe 0 1 (i. P (turned u.x v.x i) (turned u.y v.y i)) h)
  where
    turned : (a b : ℤ) → a +ℤ b ≡ b +ℤ a
    turned a b = omega (arith, ints)

module _ (op : Bool → Bool → Bool) (none : op false false ≡ false) (items : List Item) (h : AreUpward items) (distinct : AreDistinct items)
    (even : (o : Owner) (v : Point) → parity (λ p. is_owner_listed o p.1 && touches v p.0) items ≡ false) where
  abbrev shapes : List Owner
  shapes = listed_shapes items

  abbrev odds : (Item → Bool) → Owner → Bool
  odds test o = parity (λ p. is_owner_listed o p.1 && test p) items

  abbrev labels : (Item → Bool) → Bool
  labels test = parity (λ p. differs op items p && test p) items

  -- one level edge at most from a side, with the answers above it and below it
  module _ (arm : Edge → Bool) (above below : Item → Bool)
      (sum : (o : Owner) → xor (odds above o) (odds below o) ≡ odds (λ p. arm p.0) o)
      (middle : (g : Item) → Has items g → arm g.0 ≡ true → (p : Item) → Has items p
      → is_crossed (pos 2) (g.0.0.x +ℤ g.0.1.x) (g.0.0.y +ℤ g.0.1.y) p.0 ≡ above p)
      (alone : (p g : Item) → Has items p → Has items g → arm p.0 ≡ true → arm g.0 ≡ true → p.0 ≡ g.0) where
    some_arm : (ps : List Item) → ((g : Item) × Has ps g × (arm g.0 ≡ true)) ⊎ ((p : Item) → Has ps p → arm p.0 ≡ false)
    some_arm [] = inr (λ p m. absurd m)
    some_arm (p ∷ ps) = by_test (arm p.0) refl (some_arm ps)
      where
        Found : List Item → Type 0
        Found xs = (g : Item) × Has xs g × (arm g.0 ≡ true)

        None : List Item → Type 0
        None xs = (q : Item) → Has xs q → arm q.0 ≡ false

        none_more : arm p.0 ≡ false → None ps → None (p ∷ ps)
        none_more e others q (inl same) = ap (λ (z : Item). arm z.0) (sym same) ∙ e
        none_more e others q (inr m) = others q m

        by_test : (b : Bool) → arm p.0 ≡ b → Found ps ⊎ None ps → Found (p ∷ ps) ⊎ None (p ∷ ps)
        by_test true e further = inl (p, inl refl, e)
        by_test false e (inl (g, m, t)) = inl (g, inr m, t)
        by_test false e (inr others) = inr (none_more e others)

    arm_label : (g : Item) → Has items g → arm g.0 ≡ true
        → labels (λ p. arm p.0) ≡ xor (answer_on op shapes (odds above)) (answer_on op shapes (odds below))
    unfolding differs
    arm_label g given t =
        let only : (test : Item → Bool) → parity (λ p. test p && arm p.0) items ≡ test g =
        λ test. parity_agree (λ p. test p && arm p.0) (λ p. test p && same_edge p.0 g.0) items
        (λ p m. ap (λ b. test p && b) (both_ways (arm p.0) (same_edge p.0 g.0)
        (λ s. (edges_decide p.0 g.0).1 (alone p g m given s t))
        (λ s. ap arm ((edges_decide p.0 g.0).0 s) ∙ t)))
        ∙ parity_of_one test items g distinct given in
        let there : (o : Owner) → odd_of items o (pos 2) (g.0.0.x +ℤ g.0.1.x) (g.0.0.y +ℤ g.0.1.y) ≡ odds above o =
        λ o. parity_agree (λ p. is_owner_listed o p.1 && is_crossed (pos 2) (g.0.0.x +ℤ g.0.1.x) (g.0.0.y +ℤ g.0.1.y) p.0)
        (λ p. is_owner_listed o p.1 && above p) items (λ p m. ap (λ b. is_owner_listed o p.1 && b) (middle g given t p m)) in
        let behind : (o : Owner) → xor (is_owner_listed o g.1) (odds above o) ≡ odds below o =
        λ o. sym (other_of (odds above o) (odds below o) (is_owner_listed o g.1) (sum o ∙ only (λ p. is_owner_listed o p.1))) in
        only (differs op items)
        ∙ (λ i. xor (answer_on op shapes (λ o. there o i)) (answer_on op shapes (λ o. xor (is_owner_listed o g.1) (there o i))))
        ∙ (λ i. xor (answer_on op shapes (odds above)) (answer_on op shapes (λ o. behind o i)))

    pub arms_sum : labels (λ p. arm p.0) ≡ xor (answer_on op shapes (odds above)) (answer_on op shapes (odds below))
    arms_sum = ⊎_elim
        (λ (found : (g : Item) × Has items g × (arm g.0 ≡ true)). arm_label found.0 found.1 found.2)
        (λ (out : (p : Item) → Has items p → arm p.0 ≡ false).
        let same : (o : Owner) → odds above o ≡ odds below o =
        λ o. same_by_xor (odds above o) (odds below o) (sum o ∙ parity_none (λ p. is_owner_listed o p.1 && arm p.0) items
        (λ p m. ap (λ b. is_owner_listed o p.1 && b) (out p m) ∙ and-false (is_owner_listed o p.1))) in
        parity_none (λ p. differs op items p && arm p.0) items
        (λ p m. ap (λ b. differs op items p && b) (out p m) ∙ and-false (differs op items p))
        ∙ sym ((λ i. xor (answer_on op shapes (λ o. same o i)) (answer_on op shapes (odds below)))
        ∙ xor_self (answer_on op shapes (odds below))))
        (some_arm items)

  -- ---- the cuts at a point
  module _ (v : Point) where
    upper : IsBesideRow v.y (pos 1) v.y
    upper = record {
      scale = omega (arith, linear);
      low = omega (arith, linear, one_times v.y);
      high = omega (arith, linear, one_times (v.y +ℤ pos 1));
    }

    lower : IsBesideRow (v.y -ℤ pos 1) (pos 1) v.y
    lower = record {
      scale = omega (arith, linear);
      low = omega (arith, linear, one_times (v.y -ℤ pos 1));
      high = omega (arith, linear, one_times ((v.y -ℤ pos 1) +ℤ pos 1));
    }

    beyond_cut : (r : ℤ) → IsBesideRow r (pos 1) v.y → IsCut r items (λ p. beyond r v p.0)
    beyond_cut r q = record {
      spans = λ p m t. row_spans r p.0 (and_parts (in_row r p.0) (int_lt (pos 0) (right_of_point v p.0)) t).0;
      closed = λ p s m n t span left.
          let both = and_parts (in_row r p.0) (int_lt (pos 0) (right_of_point v p.0)) t in
          ⊎_elim (λ (same : p.0 ≡ s.0). ap (beyond r v) (sym same) ∙ t)
          (λ (meet : MeetAtEnds p.0 s.0). and_from (in_row r s.0) (int_lt (pos 0) (right_of_point v s.0)) (spans_row r s.0 span)
          (lt_zero (right_of_point v s.0) (right_in_row r p.0 s.0 (pos 1) v.x v.y q (row_spans r p.0 both.0) span meet left
          (zero_lt (right_of_point v p.0) both.1))))
          (h.meets p s m n);
    }

    on_cut : (r : ℤ) → IsBesideRow r (pos 1) v.y → IsCut r items (λ p. from_on r v p.0)
    on_cut r q = record {
      spans = λ p m t. row_spans r p.0 (and_parts (in_row r p.0) (int_le (pos 0) (right_of_point v p.0)) t).0;
      closed = λ p s m n t span left.
          let both = and_parts (in_row r p.0) (int_le (pos 0) (right_of_point v p.0)) t in
          ⊎_elim (λ (same : p.0 ≡ s.0). ap (from_on r v) (sym same) ∙ t)
          (λ (meet : MeetAtEnds p.0 s.0). and_from (in_row r s.0) (int_le (pos 0) (right_of_point v s.0)) (spans_row r s.0 span)
          (le_zero (right_of_point v s.0) (not_left_in_row r p.0 s.0 (pos 1) v.x v.y q (row_spans r p.0 both.0) span meet left
          (zero_le (right_of_point v p.0) both.1))))
          (h.meets p s m n);
    }

    cut_labels : (r : ℤ) (test : Item → Bool) → IsCut r items test → labels test ≡ answer_on op shapes (odds test)
    cut_labels r test cut = cut_law op none items h distinct even (suc (count_of test items)) r test (omega arith) cut

    left_sum : (o : Owner) → xor (odds (λ p. from_on v.y v p.0) o) (odds (λ p. from_on (v.y -ℤ pos 1) v p.0) o)
        ≡ odds (λ p. left_arm v p.0) o
    left_sum o = same_by_xor _ _ (sym (
        parity_agree (λ p. is_owner_listed o p.1 && xor (from_here v p.0.0) (from_here v p.0.1))
        (λ p. xor (xor (is_owner_listed o p.1 && from_on v.y v p.0) (is_owner_listed o p.1 && from_on (v.y -ℤ pos 1) v p.0))
        (is_owner_listed o p.1 && left_arm v p.0))
        items (λ p m. ap (λ b. is_owner_listed o p.1 && b) (ends_from_here v p.0 (h.rises p m))
        ∙ and_over_xor (is_owner_listed o p.1) (xor (from_on v.y v p.0) (from_on (v.y -ℤ pos 1) v p.0)) (left_arm v p.0)
        ∙ ap (λ b. xor b (is_owner_listed o p.1 && left_arm v p.0)) (and_over_xor (is_owner_listed o p.1) (from_on v.y v p.0)
        (from_on (v.y -ℤ pos 1) v p.0)))
        ∙ parity-xor (λ p. xor (is_owner_listed o p.1 && from_on v.y v p.0) (is_owner_listed o p.1 && from_on (v.y -ℤ pos 1) v p.0))
        (λ p. is_owner_listed o p.1 && left_arm v p.0) items
        ∙ ap (λ b. xor b (odds (λ p. left_arm v p.0) o))
        (parity-xor (λ p. is_owner_listed o p.1 && from_on v.y v p.0) (λ p. is_owner_listed o p.1 && from_on (v.y -ℤ pos 1) v p.0) items))
        ∙ even_ends (λ p. is_owner_listed o p.1) items (even o) h.proper (from_here v))

    right_sum : (o : Owner) → xor (odds (λ p. beyond v.y v p.0) o) (odds (λ p. beyond (v.y -ℤ pos 1) v p.0) o)
        ≡ odds (λ p. right_arm v p.0) o
    right_sum o = same_by_xor _ _ (sym (
        parity_agree (λ p. is_owner_listed o p.1 && xor (behind_here v p.0.0) (behind_here v p.0.1))
        (λ p. xor (xor (is_owner_listed o p.1 && beyond v.y v p.0) (is_owner_listed o p.1 && beyond (v.y -ℤ pos 1) v p.0))
        (is_owner_listed o p.1 && right_arm v p.0))
        items (λ p m. ap (λ b. is_owner_listed o p.1 && b) (ends_behind_here v p.0 (h.rises p m))
        ∙ and_over_xor (is_owner_listed o p.1) (xor (beyond v.y v p.0) (beyond (v.y -ℤ pos 1) v p.0)) (right_arm v p.0)
        ∙ ap (λ b. xor b (is_owner_listed o p.1 && right_arm v p.0)) (and_over_xor (is_owner_listed o p.1) (beyond v.y v p.0)
        (beyond (v.y -ℤ pos 1) v p.0)))
        ∙ parity-xor (λ p. xor (is_owner_listed o p.1 && beyond v.y v p.0) (is_owner_listed o p.1 && beyond (v.y -ℤ pos 1) v p.0))
        (λ p. is_owner_listed o p.1 && right_arm v p.0) items
        ∙ ap (λ b. xor b (odds (λ p. right_arm v p.0) o))
        (parity-xor (λ p. is_owner_listed o p.1 && beyond v.y v p.0) (λ p. is_owner_listed o p.1 && beyond (v.y -ℤ pos 1) v p.0) items))
        ∙ even_ends (λ p. is_owner_listed o p.1) items (even o) h.proper (behind_here v))

    -- where some edge ends at the point
    module _ (w : Item) (given : Has items w) (touching : touches v w.0 ≡ true) where
      ends_it : (g : Item) → Has items g → EndsIt g.0 v
      ends_it g m level height between = level_end g.0.0 g.0.1 v w.0 level height between touching (h.meets g w m given)

      left_of : (g : Item) → Has items g → left_arm v g.0 ≡ true → IsLeftArm v g.0
      left_of g m t = left_arm_is v g.0.0 g.0.1 t (ends_it g m)

      right_of : (g : Item) → Has items g → right_arm v g.0 ≡ true → IsRightArm v g.0
      right_of g m t = right_arm_is v g.0.0 g.0.1 t (ends_it g m)

      level_edge : (g : Edge) (u : Point) → Joins g u v → u.y ≡ v.y → g.0.y ≡ g.1.y
      level_edge g u (inl same) e = subst (λ (z : Edge). z.0.y ≡ z.1.y) (sym same) e
      level_edge g u (inr same) e = subst (λ (z : Edge). z.0.y ≡ z.1.y) (sym same) (sym e)

      left_middle : (g : Item) → Has items g → left_arm v g.0 ≡ true → (p : Item) → Has items p
          → is_crossed (pos 2) (g.0.0.x +ℤ g.0.1.x) (g.0.0.y +ℤ g.0.1.y) p.0 ≡ from_on v.y v p.0
      left_middle g m t p n =
          let arm = left_of g m t in
          middle_of g.0 arm.other v (λ x y. is_crossed (pos 2) x y p.0 ≡ from_on v.y v p.0) arm.joins (⊎_elim
          (λ (rises : p.0.0.y <ℤ p.0.1.y). middle_left arm.other v p.0 arm.level arm.left (h.rises p n)
          (joined_meet g.0 arm.other v p.0 arm.joins (⊎_elim
          (λ (same : g.0 ≡ p.0). let flat = subst (λ (z : Edge). z.0.y ≡ z.1.y) same (level_edge g.0 arm.other arm.joins arm.level) in
          absurd (omega (arith, linear, rises, flat)))
          (λ (meet : MeetAtEnds g.0 p.0). meet) (h.meets g p m n))))
          (λ (flat : p.0.0.y ≡ p.0.1.y).
          let both =
          middle_level (pos 2) (arm.other.x +ℤ v.x) (arm.other.y +ℤ v.y) v p.0 (omega (arith, linear)) flat in both.0 ∙ sym both.1)
          (below_or_same p.0.0.y p.0.1.y (h.rises p n)))

      right_middle : (g : Item) → Has items g → right_arm v g.0 ≡ true → (p : Item) → Has items p
          → is_crossed (pos 2) (g.0.0.x +ℤ g.0.1.x) (g.0.0.y +ℤ g.0.1.y) p.0 ≡ beyond v.y v p.0
      right_middle g m t p n =
          let arm = right_of g m t in
          middle_of g.0 arm.other v (λ x y. is_crossed (pos 2) x y p.0 ≡ beyond v.y v p.0) arm.joins (⊎_elim
          (λ (rises : p.0.0.y <ℤ p.0.1.y). middle_right arm.other v p.0 arm.level arm.right (h.rises p n)
          (joined_meet g.0 arm.other v p.0 arm.joins (⊎_elim
          (λ (same : g.0 ≡ p.0). let flat = subst (λ (z : Edge). z.0.y ≡ z.1.y) same (level_edge g.0 arm.other arm.joins arm.level) in
          absurd (omega (arith, linear, rises, flat)))
          (λ (meet : MeetAtEnds g.0 p.0). meet) (h.meets g p m n))))
          (λ (flat : p.0.0.y ≡ p.0.1.y).
          let both =
          middle_level (pos 2) (arm.other.x +ℤ v.x) (arm.other.y +ℤ v.y) v p.0 (omega (arith, linear)) flat in both.0 ∙ sym both.2)
          (below_or_same p.0.0.y p.0.1.y (h.rises p n)))

      -- both to the point
      arms_meet : (f g : Edge) (u u' : Point) → Joins f u v → Joins g u' v → MeetAtEnds f g → MeetAtEnds (u, v) (u', v)
      arms_meet f g u u' jf jg meet =
          other_way_round u v u' v (joined_meet g u' v (u, v) jg
          (other_way_round g.0 g.1 u v (joined_meet f u v g jf meet)))

      left_alone : (p g : Item) → Has items p → Has items g → left_arm v p.0 ≡ true → left_arm v g.0 ≡ true → p.0 ≡ g.0
      left_alone p g m n s t = ⊎_elim (λ (same : p.0 ≡ g.0). same)
          (λ (meet : MeetAtEnds p.0 g.0).
          let a = left_of p m s in
          let b = left_of g n t in
          let both = arms_meet p.0 g.0 a.other b.other a.joins b.joins meet in
          ⊎_elim
          (λ (less : a.other.x <ℤ b.other.x). absurd (not_nested a.other b.other v a.level b.level
          (inl (omega (arith, linear, less), b.left)) both))
          (λ (le : b.other.x ≤ℤ a.other.x). absurd (not_nested b.other a.other v b.level a.level (inl (le, a.left))
          (other_way_round b.other v a.other v both)))
          (below_or_not a.other.x b.other.x))
          (h.meets p g m n)

      right_alone : (p g : Item) → Has items p → Has items g → right_arm v p.0 ≡ true → right_arm v g.0 ≡ true → p.0 ≡ g.0
      right_alone p g m n s t = ⊎_elim (λ (same : p.0 ≡ g.0). same)
          (λ (meet : MeetAtEnds p.0 g.0).
          let a = right_of p m s in
          let b = right_of g n t in
          let both = arms_meet p.0 g.0 a.other b.other a.joins b.joins meet in
          ⊎_elim
          (λ (less : a.other.x <ℤ b.other.x). absurd (not_nested b.other a.other v b.level a.level
          (inr (omega (arith, linear, less), a.right))
          (other_way_round b.other v a.other v both)))
          (λ (le : b.other.x ≤ℤ a.other.x). absurd (not_nested a.other b.other v a.level b.level (inr (le, b.right)) both))
          (below_or_not a.other.x b.other.x))
          (h.meets p g m n)

      even_there : labels (λ p. touches v p.0) ≡ false
      even_there =
          let c2 : Item → Bool = λ p. from_on v.y v p.0 in
          let c4 : Item → Bool = λ p. from_on (v.y -ℤ pos 1) v p.0 in
          let c1 : Item → Bool = λ p. beyond v.y v p.0 in
          let c3 : Item → Bool = λ p. beyond (v.y -ℤ pos 1) v p.0 in
          let al : Item → Bool = λ p. left_arm v p.0 in
          let ar : Item → Bool = λ p. right_arm v p.0 in
          parity_agree (λ p. differs op items p && touches v p.0)
          (λ p. xor (xor (xor (differs op items p && c2 p) (differs op items p && c4 p)) (differs op items p && al p))
          (xor (xor (differs op items p && c1 p) (differs op items p && c3 p)) (differs op items p && ar p))) items
          (λ p m. ap (λ b. differs op items p && b) (sym (one_end v p.0 (h.proper p m)) ∙ touches_here v p.0 (h.rises p m))
          ∙ six_parts (differs op items p) (c2 p) (c4 p) (al p) (c1 p) (c3 p) (ar p))
          ∙ parity-xor (λ p. xor (xor (differs op items p && c2 p) (differs op items p && c4 p)) (differs op items p && al p))
          (λ p. xor (xor (differs op items p && c1 p) (differs op items p && c3 p)) (differs op items p && ar p)) items
          ∙ ap₂ xor (three_parts c2 c4 al) (three_parts c1 c3 ar)
          ∙ ap₂ xor
          (ap₂ xor (ap₂ xor (cut_labels v.y c2 (on_cut v.y upper)) (cut_labels (v.y -ℤ pos 1) c4 (on_cut (v.y -ℤ pos 1) lower)))
          (arms_sum (left_arm v) c2 c4 left_sum left_middle left_alone))
          (ap₂ xor (ap₂ xor (cut_labels v.y c1 (beyond_cut v.y upper)) (cut_labels (v.y -ℤ pos 1) c3 (beyond_cut (v.y -ℤ pos 1) lower)))
          (arms_sum (right_arm v) c1 c3 right_sum right_middle right_alone))
          ∙ all_cancel (answer_on op shapes (odds c2)) (answer_on op shapes (odds c4)) (answer_on op shapes (odds c1))
          (answer_on op shapes (odds c3))
        where
          six_parts : (s a b c d e f : Bool) → (s && xor (xor (xor a b) c) (xor (xor d e) f))
              ≡ xor (xor (xor (s && a) (s && b)) (s && c)) (xor (xor (s && d) (s && e)) (s && f))
          six_parts true a b c d e f = refl
          six_parts false a b c d e f = refl

          three_parts : (f g k : Item → Bool)
              → parity (λ p. xor (xor (differs op items p && f p) (differs op items p && g p)) (differs op items p && k p)) items
              ≡ xor (xor (labels f) (labels g)) (labels k)
          three_parts f g k =
              parity-xor (λ p. xor (differs op items p && f p) (differs op items p && g p)) (λ p. differs op items p && k p) items
              ∙ ap (λ b. xor b (labels k)) (parity-xor (λ p. differs op items p && f p) (λ p. differs op items p && g p) items)

    touched : (ps : List Item) → ((w : Item) × Has ps w × (touches v w.0 ≡ true)) ⊎ ((p : Item) → Has ps p → touches v p.0 ≡ false)
    touched [] = inr (λ p m. absurd m)
    touched (p ∷ ps) = by_test (touches v p.0) refl (touched ps)
      where
        Found : List Item → Type 0
        Found xs = (g : Item) × Has xs g × (touches v g.0 ≡ true)

        None : List Item → Type 0
        None xs = (q : Item) → Has xs q → touches v q.0 ≡ false

        none_more : touches v p.0 ≡ false → None ps → None (p ∷ ps)
        none_more e others q (inl same) = ap (λ (z : Item). touches v z.0) (sym same) ∙ e
        none_more e others q (inr m) = others q m

        by_test : (b : Bool) → touches v p.0 ≡ b → Found ps ⊎ None ps → Found (p ∷ ps) ⊎ None (p ∷ ps)
        by_test true e further = inl (p, inl refl, e)
        by_test false e (inl (g, m, t)) = inl (g, inr m, t)
        by_test false e (inr others) = inr (none_more e others)

    -- an even number of the operation's edges stands at the point
    pub even_law : labels (λ p. touches v p.0) ≡ false
    even_law = ⊎_elim
        (λ (found : (w : Item) × Has items w × (touches v w.0 ≡ true)). even_there found.0 found.1 found.2)
        (λ (out : (p : Item) → Has items p → touches v p.0 ≡ false).
        parity_none (λ p. differs op items p && touches v p.0) items
        (λ p m. ap (λ b. differs op items p && b) (out p m) ∙ and-false (differs op items p)))
        (touched items)
