-- The law of cuts, and with it the law of places: a place is to the left of an odd number of the operation's edges exactly
-- where the operation holds of the shapes that have it inside.
use Rattle.std.proofs.Common.{◌≡◌, ℕ, zero, suc, ◌<◌, Bool, true, false, not, ◌&&◌, ◌||◌, List, [], ◌∷◌}
use Rattle.std.proofs.Common.{ℤ, pos, ◌+ℤ◌, ◌*ℤ◌, ◌<ℤ◌, refl, sym, ap, ap₂, ◌∙◌, ⊎_elim, arith}
use Rattle.std.specs.Prelude.{int_lt}
use Rattle.std.proofs.lemmas.Int.{ints}
use Rattle.std.specs.Cmp.{both_ways}
use Rattle.lay_point.proofs.Polynomials.{#, lit, ◌⊕◌, ◌⊖◌, ◌⊗◌, identity}
use Rattle.lay_point.proofs.Signs.{below_or_same, linear}
use Rattle.lay_point.specs.declared.point.Point.{Point}
use Rattle.lay_point.specs.Edges.{same_edge, touches}
use Rattle.lay_point.specs.Parity.{xor, parity, distance_right, is_crossed}
use Rattle.lay_point.proofs.Members.{Has}
use Rattle.lay_point.proofs.Parity.{parity-xor, parity_agree, parity_none, xor-false}
use Rattle.lay_point.proofs.BoolLaws.{and-false, and_over_xor, true_false}
use Rattle.snap_edge_laws.specs.Meeting.{MeetAtEnds}
use Rattle.snap_chains.specs.declared.owner.Input.{Input}
use Rattle.snap_chains.specs.declared.owner.Input.TheVariants.{First, Second}
use Rattle.snap_chains.specs.declared.owner.Owner.{Owner}
use Rattle.snap_chains.specs.Owners.{input_eq}
use Rattle.snap_chains.specs.Rounded.{is_owner_listed}
use Rattle.snap_chains.proofs.EdgeOrder.{edges_decide}
use Rattle.face_rows.specs.Labels.{Item, answer_on, differs, differs_at, listed_shapes, odd_of, some_of}
use Rattle.face_rows.proofs.Cuts.{AreDistinct, IsLeftmost, count_less, count_of}
use Rattle.face_rows.proofs.Cuts.{leftmost, one_item, parity_of_one, row_positive}
use Rattle.face_side_laws.proofs.Rows.{IsLeft, Spans, apart_in_row, crossed_spans, fraction_lt, rises_in, row_distance}
use Rattle.face_side_laws.proofs.Rows.{row_inside, row_k, row_place, row_x, row_y, spans_crossed}
use Rattle.face_side_laws.proofs.Slide.{AreUpward, IsPlaceInside, rising_only, slide, starts}

-- some of a row's edges, and with each all that are to its right
pub record IsCut (r : ℤ) (items : List Item) (test : Item → Bool) : Type 0 where
  pub spans : (p : Item) → Has items p → test p ≡ true → Spans r p.0
  pub closed : (p q : Item) → Has items p → Has items q → test p ≡ true → Spans r q.0 → IsLeft r p.0 q.0 → test q ≡ true

-- ---- no shape
no_shape : (op : Bool → Bool → Bool) → op false false ≡ false → (shapes : List Owner) → answer_on op shapes (λ o. false) ≡ false
no_shape op none shapes = ap₂ op (none_of First shapes) (none_of Second shapes) ∙ none
  where
    none_of : (i : Input) (os : List Owner) → some_of i os (λ o. false) ≡ false
    none_of i [] = refl
    none_of i (o ∷ os) = ap₂ (λ a b. a || b) (and-false (input_eq o.input i)) (none_of i os)

cancel : (a b : Bool) → xor (xor a b) a ≡ b
cancel false b = xor-false b
cancel true true = refl
cancel true false = refl

module _ (op : Bool → Bool → Bool) (none : op false false ≡ false) (items : List Item) (h : AreUpward items) (distinct : AreDistinct items)
    (even : (o : Owner) (v : Point) → parity (λ p. is_owner_listed o p.1 && touches v p.0) items ≡ false) where
  abbrev shapes : List Owner
  shapes = listed_shapes items

  -- ---- labels in a row
  midpoint_inside : (e : Point × Point) → e.0.y <ℤ e.1.y → IsPlaceInside e.0 e.1 (pos 2) (e.0.x +ℤ e.1.x) (e.0.y +ℤ e.1.y)
  midpoint_inside e rises = record {
    scale = omega (arith, linear);
    on = identity (e.0.x ∷ e.0.y ∷ e.1.x ∷ e.1.y ∷ [])
        ((lit (pos 2) ⊗ # 0 ⊖ (# 0 ⊕ # 2)) ⊗ (# 3 ⊖ # 1) ⊕ ((# 1 ⊕ # 3) ⊖ lit (pos 2) ⊗ # 1) ⊗ (# 2 ⊖ # 0)) (lit (pos 0)) refl;
    above = omega (arith, linear);
    below = omega (arith, linear);
  }

  label_there : (p : Item) → Has items p → (r : ℤ) → Spans r p.0
      → differs op items p ≡ differs_at op items p (row_k p.0) (row_x r p.0) (row_y r p.0)
  unfolding differs
  label_there p given r s =
      let same : (o : Owner) → odd_of items o (pos 2) (p.0.0.x +ℤ p.0.1.x) (p.0.0.y +ℤ p.0.1.y)
      ≡ odd_of items o (row_k p.0) (row_x r p.0) (row_y r p.0) =
      λ o. slide items h (is_owner_listed o) (even o) p given (rises_in r p.0 s) (pos 2) (p.0.0.x +ℤ p.0.1.x) (p.0.0.y +ℤ p.0.1.y)
      (row_k p.0) (row_x r p.0) (row_y r p.0) (midpoint_inside p.0 (rises_in r p.0 s)) (row_inside r p.0 s) in
      λ i. xor (answer_on op shapes (λ o. same o i)) (answer_on op shapes (λ o. xor (is_owner_listed o p.1) (same o i)))

  -- ---- one edge of a cut, and those to its right
  module _ (r : ℤ) (test : Item → Bool) (cut : IsCut r items test) (m : Item) (left : IsLeftmost r test items m) where
    abbrev right : Item → Bool
    right p = is_crossed (row_k m.0) (row_x r m.0) (row_y r m.0) p.0

    m_spans : Spans r m.0
    m_spans = cut.spans m left.given left.passes

    right_is : (p : Item) → Has items p → right p ≡ true → Spans r p.0 × IsLeft r m.0 p.0
    right_is p given t =
        let c = crossed_spans r (row_k m.0) (row_x r m.0) (row_y r m.0) p.0 (row_place r m.0 m_spans) (h.rises p given) t in
        (c.0, record { less = omega (arith, linear, c.1, row_distance r m.0 p.0) })

    from_right : (p : Item) → Has items p → right p ≡ true → test p ≡ true
    from_right p given t = let c = right_is p given t in cut.closed m p left.given given left.passes c.0 c.1

    to_right : (p : Item) → Has items p → ¬ (p.0 ≡ m.0) → test p ≡ true → right p ≡ true
    to_right p given other t =
        let s = cut.spans p given t in
        let le = left.first p given t in
        let meet = ⊎_elim (λ (same : m.0 ≡ p.0). absurd (other (sym same))) (λ (g : MeetAtEnds m.0 p.0). g)
        (h.meets m p left.given given) in
        ⊎_elim
        (λ (less : (row_k p.0 *ℤ row_x r m.0) <ℤ (row_k m.0 *ℤ row_x r p.0)).
        spans_crossed r (row_k m.0) (row_x r m.0) (row_y r m.0) p.0 (row_place r m.0 m_spans) s
        (omega (arith, linear, less, row_distance r m.0 p.0)))
        (λ (same : row_k p.0 *ℤ row_x r m.0 ≡ row_k m.0 *ℤ row_x r p.0). absurd (apart_in_row r m.0 p.0 m_spans s meet (sym same)))
        (below_or_same (row_k p.0 *ℤ row_x r m.0) (row_k m.0 *ℤ row_x r p.0) le)

    not_right : (p : Item) → p.0 ≡ m.0 → right p ≡ false
    not_right p same =
        let q = row_inside r m.0 m_spans in
        ap (is_crossed (row_k m.0) (row_x r m.0) (row_y r m.0)) same
        ∙ rising_only (row_k m.0) (row_x r m.0) (row_y r m.0) m.0.0 m.0.1 q.scale (h.rises m left.given)
        ∙ none_there (starts (row_k m.0) (row_y r m.0) m.0.0 && not (starts (row_k m.0) (row_y r m.0) m.0.1))
        (distance_right (row_k m.0) (row_x r m.0) (row_y r m.0) m.0.0 m.0.1) q.on
      where
        none_there : (s : Bool) (z : ℤ) → z ≡ pos 0 → (s && int_lt (pos 0) z) ≡ false
        none_there true z e = grind (arith, ints)
        none_there false z e = refl

    -- of the cut, the edge itself or one to its right
    split : (p : Item) → Has items p → test p ≡ xor (same_edge p.0 m.0) (right p)
    split p given = by_same (same_edge p.0 m.0) refl
      where
        by_same : (s : Bool) → same_edge p.0 m.0 ≡ s → test p ≡ xor s (right p)
        by_same true e =
            let same = (edges_decide p.0 m.0).0 e in
            ap test (one_item items p m distinct given left.given same) ∙ left.passes ∙ ap not (sym (not_right p same))
        by_same false e =
            both_ways (test p) (right p) (to_right p given (λ same. true_false (same_edge p.0 m.0) ((edges_decide p.0 m.0).1 same) e))
            (from_right p given)

    split_parity : (g : Item → Bool) → parity (λ p. g p && test p) items ≡ xor (g m) (parity (λ p. g p && right p) items)
    split_parity g =
        parity_agree (λ p. g p && test p) (λ p. xor (g p && same_edge p.0 m.0) (g p && right p)) items
        (λ p given. ap (λ b. g p && b) (split p given) ∙ and_over_xor (g p) (same_edge p.0 m.0) (right p))
        ∙ parity-xor (λ p. g p && same_edge p.0 m.0) (λ p. g p && right p) items
        ∙ ap (λ b. xor b (parity (λ p. g p && right p) items)) (parity_of_one g items m distinct left.given)

    right_cut : IsCut r items right
    right_cut = record {
      spans = λ p given t. (right_is p given t).0;
      closed = λ p q gp gq t s less.
          let c = right_is p gp t in
          let further = fraction_lt (row_k m.0) (row_x r m.0) (row_k p.0) (row_x r p.0) (row_k q.0) (row_x r q.0)
          (row_positive r m.0 m_spans) (row_positive r p.0 c.0) (row_positive r q.0 s) c.1.less less.less in
          spans_crossed r (row_k m.0) (row_x r m.0) (row_y r m.0) q.0 (row_place r m.0 m_spans) s
          (omega (arith, linear, further, row_distance r m.0 q.0));
    }

    fewer : count_of right items < count_of test items
    fewer = count_less right test items m from_right left.given (not_right m refl) left.passes

  -- ---- the law of cuts
  pub cut_law : (n : ℕ) (r : ℤ) (test : Item → Bool) → count_of test items < n → IsCut r items test
      → parity (λ p. differs op items p && test p) items ≡ answer_on op shapes (λ o. parity (λ p. is_owner_listed o p.1 && test p) items)
  cut_law zero r test less cut = absurd (omega arith)
  cut_law (suc n) r test less cut = ⊎_elim
      (λ (found : (m : Item) × IsLeftmost r test items m).
      let m = found.0 in
      let left = found.1 in
      let fewer_here = fewer r test cut m left in
      let rest = cut_law n r (right r test cut m left) (omega arith) (right_cut r test cut m left) in
      let shapes_split : (o : Owner) → parity (λ p. is_owner_listed o p.1 && test p) items
      ≡ xor (is_owner_listed o m.1) (odd_of items o (row_k m.0) (row_x r m.0) (row_y r m.0)) =
      λ o. split_parity r test cut m left (λ p. is_owner_listed o p.1) in
      split_parity r test cut m left (differs op items)
      ∙ ap₂ xor (label_there m left.given r (m_spans r test cut m left)) rest
      ∙ cancel (answer_on op shapes (λ o. odd_of items o (row_k m.0) (row_x r m.0) (row_y r m.0)))
      (answer_on op shapes (λ o. xor (is_owner_listed o m.1) (odd_of items o (row_k m.0) (row_x r m.0) (row_y r m.0))))
      ∙ sym (λ i. answer_on op shapes (λ o. shapes_split o i)))
      (λ (empty : (q : Item) → Has items q → test q ≡ false).
      parity_none (λ p. differs op items p && test p) items (λ p given. ap (λ b. differs op items p && b) (empty p given)
      ∙ and-false (differs op items p))
      ∙ sym ((λ i. answer_on op shapes (λ o.
      parity_none (λ p. is_owner_listed o p.1 && test p) items (λ p given. ap (λ b. is_owner_listed o p.1 && b) (empty p given)
      ∙ and-false (is_owner_listed o p.1)) i))
      ∙ no_shape op none shapes))
      (leftmost r test items cut.spans)
