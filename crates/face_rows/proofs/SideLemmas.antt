-- The shapes that hold beside an edge hold at the place at which it is judged, and in each row that it crosses.
use Rattle.std.proofs.Common.{◌≡◌, ◌⊎◌, inl, inr, Bool, true, false, ◌&&◌, cond, List, [], ◌∷◌, map}
use Rattle.std.proofs.Common.{ℤ, pos, ◌+ℤ◌, ◌-ℤ◌, ◌*ℤ◌, ◌≤ℤ◌, ◌<ℤ◌, refl, sym, ap, subst, ◌∙◌, ⊎_elim, arith}
use Rattle.std.specs.Prelude.{int_le, int_lt}
use Rattle.std.proofs.lemmas.Int.{ints}
use Rattle.lay_point.proofs.Polynomials.{#, lit, ◌⊕◌, ◌⊗◌, identity}
use Rattle.lay_point.proofs.Signs.{below_or_not, linear}
use Rattle.lay_point.specs.declared.point.Point.{Point}
use Rattle.lay_point.specs.Edges.{is_before, same_edge, touches}
use Rattle.lay_point.specs.Parity.{parity, is_crossed}
use Rattle.lay_point.proofs.EdgeOrder.{before_by_test, before_is_strict}
use Rattle.lay_point.proofs.Members.{Has, contains}
use Rattle.lay_point.proofs.Parity.{parity-map, parity_agree}
use Rattle.lay_point.proofs.ListLaws.{has-map, map-has}
use Rattle.snap_edge_laws.specs.Meeting.{MeetAtEnds}
use Rattle.face_side_laws.specs.Slides.{AreUpward, IsPlaceInside}
use Rattle.face_side_laws.proofs.Rows.{Spans, rises_in, row_inside, row_k, row_x, row_y}
use Rattle.face_side_laws.proofs.Slide.{slide}
use Rattle.snap_chains.specs.declared.owner.Owner.{Owner}
use Rattle.snap_chains.specs.Rounded.{AreClean, AreEven, Owned, is_owner_listed}
use Rattle.snap_chains.proofs.EdgeOrder.{edges_decide}
use Rattle.face_rows.specs.Labels.{Item, odd_of, owned_items}
use Rattle.face_rows.specs.Laws.{AreLesserFirst}
use Rattle.face_rows.proofs.UpwardLemmas.{either, up_crossed, up_meet, up_rises, up_touches}
use Rattle.face_rows.specs.Rows.{upward}
use Rattle.face_rows.proofs.NearLemmas.{at_k, at_x, at_y, near, near_inside, near_k, weight, weight_of}
use Rattle.face_rows.proofs.ItemLemmas.{zip_first}

module _ (r : Owned) (even : AreEven r) (clean : AreClean r.0) (lesser : AreLesserFirst r.0) where
  abbrev items : List Item
  items = owned_items r

  abbrev risen : List Item
  risen = map (λ (p : Item). (upward p.0, p.1)) items

  proper : (e : Point × Point) → Has r.0 e → ¬ (e.0 ≡ e.1)
  proper e m same =
      before_is_strict.irreflexive e.1 (before_by_test e.1 e.1 (subst (λ v. is_before v e.1 ≡ true) same (lesser e (contains r.0 e m))))

  upward_proper : (e : Point × Point) → ¬ (e.0 ≡ e.1) → ¬ ((upward e).0 ≡ (upward e).1)
  upward_proper e h = by_test (int_le e.0.y e.1.y)
    where
      by_test : (b : Bool) → ¬ ((cond b e (e.1, e.0)).0 ≡ (cond b e (e.1, e.0)).1)
      by_test true same = h same
      by_test false same = h (sym same)

  are_upward : AreUpward risen
  are_upward = record {
    rises = λ q m. let p = map-has (λ (p : Item). (upward p.0, p.1)) items q m in subst (λ (z : Item). z.0.0.y ≤ℤ z.0.1.y) p.2
        (up_rises p.0.0);
    proper = λ q m.
        let p = map-has (λ (p : Item). (upward p.0, p.1)) items q m in
        subst (λ (z : Item). ¬ (z.0.0 ≡ z.0.1)) p.2 (upward_proper p.0.0 (proper p.0.0 (zip_first r.0 r.1 p.0 p.1)));
    meets = λ q s m n.
        let p = map-has (λ (p : Item). (upward p.0, p.1)) items q m in
        let t = map-has (λ (p : Item). (upward p.0, p.1)) items s n in
        let two = both p.0.0 t.0.0 (zip_first r.0 r.1 p.0 p.1) (zip_first r.0 r.1 t.0 t.1) (same_edge p.0.0 t.0.0) refl in
        coe 0 1 (i. ((p.2 i).0 ≡ (t.2 i).0) ⊎ MeetAtEnds (p.2 i).0 (t.2 i).0) two;
  }
    where
      both : (e f : Point × Point) → Has r.0 e → Has r.0 f → (b : Bool) → same_edge e f ≡ b
          → (upward e ≡ upward f) ⊎ MeetAtEnds (upward e) (upward f)
      both e f m n true t = inl (ap upward ((edges_decide e f).0 t))
      both e f m n false t = inr (up_meet e f (clean e f (contains r.0 e m) (contains r.0 f n) (λ same.
          let t' = (edges_decide e f).1 same in absurd cc)))

  even_upward : (o : Owner) (v : Point) → parity (λ p. is_owner_listed o p.1 && touches v p.0) risen ≡ false
  even_upward o v =
      parity-map (λ p. is_owner_listed o p.1 && touches v p.0) (λ (p : Item). (upward p.0, p.1)) items
      ∙ parity_agree (λ p. is_owner_listed o p.1 && touches v (upward p.0)) (λ p. is_owner_listed o p.1 && touches v p.0) items
      (λ p m. ap (λ b. is_owner_listed o p.1 && b) (up_touches v p.0))
      ∙ even o v

  odd_upward : (o : Owner) (k x y : ℤ) → parity (λ p. is_owner_listed o p.1 && is_crossed k x y p.0) risen ≡ odd_of items o k x y
  odd_upward o k x y =
      parity-map (λ p. is_owner_listed o p.1 && is_crossed k x y p.0) (λ (p : Item). (upward p.0, p.1)) items
      ∙ parity_agree (λ p. is_owner_listed o p.1 && is_crossed k x y (upward p.0))
      (λ p. is_owner_listed o p.1 && is_crossed k x y p.0) items
      (λ p m. ap (λ b. is_owner_listed o p.1 && b) (up_crossed k x y p.0))

  one_times : (a b : ℤ) → a +ℤ b ≡ near (pos 1) a b
  one_times a b = identity (a ∷ b ∷ []) (# 0 ⊕ # 1) (lit (pos 1) ⊗ # 0 ⊕ # 1) refl

  sum_turned : (a b : ℤ) → a +ℤ b ≡ b +ℤ a
  sum_turned a b = omega (arith, ints)

  -- the midpoint has the weight 1
  at_midpoint : (o : Owner) (e : Point × Point) → odd_of items o (pos 2) (e.0.x +ℤ e.1.x) (e.0.y +ℤ e.1.y)
      ≡ odd_of items o (near_k (pos 1)) (near (pos 1) (upward e).0.x (upward e).1.x) (near (pos 1) (upward e).0.y (upward e).1.y)
  at_midpoint o e =
      sym (either (λ f. odd_of items o (pos 2) (f.0.x +ℤ f.1.x) (f.0.y +ℤ f.1.y)) (λ a b. λ i.
      odd_of items o (pos 2) (sum_turned a.x b.x i) (sum_turned a.y b.y i)) e)
      ∙ (λ i. odd_of items o (pos 2) (one_times (upward e).0.x (upward e).1.x i) (one_times (upward e).0.y (upward e).1.y i))

  -- and all along an edge that isn't level the parities are the same
  along : (o : Owner) (p : Item) → Has items p → (upward p.0).0.y <ℤ (upward p.0).1.y → (k x y : ℤ)
      → IsPlaceInside (upward p.0).0 (upward p.0).1 k x y
      → odd_of items o k x y ≡ odd_of items o (pos 2) (p.0.0.x +ℤ p.0.1.x) (p.0.0.y +ℤ p.0.1.y)
  along o p m rises k x y q =
      let a = (upward p.0).0 in
      let b = (upward p.0).1 in
      sym (odd_upward o k x y)
      ∙ slide risen are_upward (is_owner_listed o) (even_upward o) (upward p.0, p.1)
      (has-map (λ (q : Item). (upward q.0, q.1)) items p m) rises
      k x y (near_k (pos 1)) (near (pos 1) a.x b.x) (near (pos 1) a.y b.y) q (near_inside (pos 1) a b rises (omega (arith, linear)))
      ∙ odd_upward o (near_k (pos 1)) (near (pos 1) a.x b.x) (near (pos 1) a.y b.y)
      ∙ sym (at_midpoint o p.0)

  -- at the place where it is judged
  pub judged_beside : (o : Owner) (p : Item) → Has items p
      → odd_of items o (at_k p.0) (at_x p.0) (at_y p.0) ≡ odd_of items o (pos 2) (p.0.0.x +ℤ p.0.1.x) (p.0.0.y +ℤ p.0.1.y)
  judged_beside o p m = ⊎_elim
      (λ (rises : (upward p.0).0.y <ℤ (upward p.0).1.y). along o p m rises (at_k p.0) (at_x p.0) (at_y p.0)
      (near_inside (weight p.0) (upward p.0).0 (upward p.0).1 rises (weight_of p.0).whole))
      (λ (le : (upward p.0).1.y ≤ℤ (upward p.0).0.y).
      ap (λ w. odd_of items o (near_k w) (near w (upward p.0).0.x (upward p.0).1.x) (near w (upward p.0).0.y (upward p.0).1.y))
      (level_weight (upward p.0).0.y (upward p.0).1.y le)
      ∙ sym (at_midpoint o p.0))
      (below_or_not (upward p.0).0.y (upward p.0).1.y)
    where
      level_weight : (a b : ℤ) → b ≤ℤ a → cond (int_lt (pos 0) (pos 2 *ℤ (b -ℤ a))) (pos 2 *ℤ (b -ℤ a) -ℤ pos 1) (pos 1) ≡ pos 1
      level_weight a b le = ap (λ t. cond t (pos 2 *ℤ (b -ℤ a) -ℤ pos 1) (pos 1)) (not_less (pos 2 *ℤ (b -ℤ a)) (omega (arith, linear)))
        where
          not_less : (z : ℤ) → z ≤ℤ pos 0 → int_lt (pos 0) z ≡ false
          not_less z h = grind (arith, ints)

  -- and in each row that it crosses
  pub crossed_beside : (o : Owner) (p : Item) → Has items p → (row : ℤ) → Spans row (upward p.0)
      → odd_of items o (row_k (upward p.0)) (row_x row (upward p.0)) (row_y row (upward p.0))
      ≡ odd_of items o (pos 2) (p.0.0.x +ℤ p.0.1.x) (p.0.0.y +ℤ p.0.1.y)
  crossed_beside o p m row s =
      along o p m (rises_in row (upward p.0) s) (row_k (upward p.0)) (row_x row (upward p.0)) (row_y row (upward p.0))
      (row_inside row (upward p.0) s)
