-- What the box round a shape's edges tells of those on its border: right of a place in the column of its left side are all edges of the
-- shape that pass the place's height, and right of one in the column of its right side none; and so for the bottom and the top.
use Rattle.std.proofs.Common.{◌≡◌, inl, inr, ℕ, zero, suc, ◌<◌, Bool, true, false, ◌&&◌, ◌||◌, List, [], ◌∷◌, length, get_or}
use Rattle.std.proofs.Common.{None, Option, Some, ℤ, pos, ◌+ℤ◌, ◌*ℤ◌, ◌<ℤ◌, refl, sym, ap, subst, ◌∙◌, arith, cond}
use Rattle.std.specs.Prelude.{int_le}
use Rattle.std.specs.List.{zip}
use Rattle.std.specs.Ordering.{int_eq}
use Rattle.std.proofs.lemmas.Bool.{and_parts}
use Rattle.std.proofs.lemmas.Bool.Decides.{Decides-int_eq}
use Rattle.lay_point.proofs.Signs.{linear}
use Rattle.lay_point.specs.declared.point.Point.{Point}
use Rattle.lay_point.specs.declared.rect.Rect.{Rect}
use Rattle.lay_point.specs.Edges.{is_before, same_edge}
use Rattle.lay_point.specs.Parity.{xor, is_crossed}
use Rattle.lay_point.specs.Points.{IsBefore}
use Rattle.lay_point.proofs.EdgeOrder.{before_by_test, before_is_strict}
use Rattle.lay_point.proofs.Members.{Has, contains}
use Rattle.lay_point.proofs.Parity.{parity-xor, parity_agree, parity_none, xor-false, xor_comm}
use Rattle.snap_edge_laws.specs.Meeting.{MeetAtEnds}
use Rattle.face_side_laws.proofs.Borders.{all_above, all_right, itself_there, level_itself, none_above, none_right, past}
use Rattle.face_side_laws.proofs.EvenEnds.{even_ends}
use Rattle.face_side_laws.proofs.Sides.{meet_second}
use Rattle.face_side_laws.proofs.Slide.{starts}
use Rattle.snap_chains.specs.declared.owner.Owner.{Owner}
use Rattle.snap_chains.specs.Rounded.{Owned, is_owner_listed}
use Rattle.snap_chains.proofs.EdgeOrder.{edges_decide}
use Rattle.face_rows.specs.Labels.{Item, odd_of, owned_items}
use Rattle.face_rows.specs.Lines.{edge_at, nowhere, owned_item_at, owners_at}
use Rattle.face_rows.specs.Sound.{AreSound}
use Rattle.face_rows.proofs.Cuts.{parity_of_one}
use Rattle.face_rows.proofs.UpwardLemmas.{either, up, up_crossed, up_rises}
use Rattle.face_rows.proofs.ItemLemmas.{distinct_zip, zip_first}
use Rattle.face_sweep.specs.Reaches.{AreBoxes, IsEdgeIn, extent_of, is_level_at, is_upright_at, told_by}
use Rattle.face_sweep.specs.declared.boxes.Boxes.{Boxes}
use Rattle.face_sweep.specs.Sides.{holds_beside}
use Rattle.face_sweep.proofs.LabelLemmas.{zip_at}

-- ---- items and their numbers
zip_item : (es : List (Point × Point)) (os : List (List Owner)) (p : Item) → Has (zip es os) p
    → (n : ℕ) × (n < length es) × (get_or es n nowhere ≡ p.0) × (get_or os n [] ≡ p.1)
zip_item [] os p m = absurd m
zip_item (e ∷ es) [] p m = absurd m
zip_item (e ∷ es) (o ∷ os) p (inl same) =
    (zero, omega arith, ap (λ (q : Item). q.0) same, ap (λ (q : Item). q.1) same)
zip_item (e ∷ es) (o ∷ os) p (inr m) = let h = zip_item es os p m in (suc h.0, omega (arith, h.1), h.2, h.3)

-- ---- of a list of tests
xor_true_swap : (a b c : Bool) → a ≡ xor b c → b ≡ false → c ≡ true → a ≡ true
xor_true_swap a b c e f g = e ∙ (λ i. xor (f i) (g i))

some_same : (a b : Bool) → Some a ≡ Some b → a ≡ b
some_same a b e = cc

none_is : (b : Bool) → None ≡ Some b → ⊥
none_is b e = absurd cc

-- ---- the box
-- an edge of the shape, which has this box
record IsBoxed (r : Owned) (o : Owner) (box : Rect) (n : ℕ) : Type 0 where
  pub sound : AreSound r
  pub within : (m : ℕ) → m < length r.0 → is_owner_listed o (owners_at r m) ≡ true → IsEdgeIn box (edge_at r m)
  pub given : n < length r.0
  pub listed : is_owner_listed o (owners_at r n) ≡ true

-- both ends of the edge are in the column, or at the height
abbrev IsUprightAt : ℤ → Point × Point → Type 0
IsUprightAt x e = (e.0.x ≡ x) × (e.1.x ≡ x)

abbrev IsLevelAt : ℤ → Point × Point → Type 0
IsLevelAt y e = (e.0.y ≡ y) × (e.1.y ≡ y)

module _ (r : Owned) (o : Owner) (box : Rect) (n : ℕ) (h : IsBoxed r o box n) where
  abbrev items : List Item
  items = owned_items r

  abbrev e : Point × Point
  e = edge_at r n

  abbrev own : Item
  own = owned_item_at r n

  given : Has items own
  given = zip_at r.0 r.1 n h.sound.paired h.given

  before : (p : Item) → Has items p → is_before p.0.0 p.0.1 ≡ true
  before p m = h.sound.lesser p.0 (contains r.0 p.0 (zip_first r.0 r.1 p m))

  proper : (p : Item) → Has items p → ¬ (p.0.0 ≡ p.0.1)
  proper p m same = before_is_strict.irreflexive p.0.1
      (before_by_test p.0.1 p.0.1 (subst (λ v. is_before v p.0.1 ≡ true) same (before p m)))

  boxed : (p : Item) → Has items p → is_owner_listed o p.1 ≡ true → IsEdgeIn box p.0
  boxed p m listed =
      let z = zip_item r.0 r.1 p m in
      subst (IsEdgeIn box) z.2 (h.within z.0 z.1 (ap (is_owner_listed o) z.3 ∙ listed))

  up_boxed : (p : Item) → Has items p → is_owner_listed o p.1 ≡ true → IsEdgeIn box (up p.0)
  up_boxed p m listed = by_test (int_le p.0.0.y p.0.1.y) (boxed p m listed)
    where
      by_test : (b : Bool) → IsEdgeIn box p.0 → IsEdgeIn box (cond b p.0 (p.0.1, p.0.0))
      by_test true both = both
      by_test false both = (both.1, both.0)

  meets : (p : Item) → Has items p → same_edge p.0 e ≡ false → MeetAtEnds e p.0
  meets p m apart = h.sound.clean e p.0 (contains r.0 e (zip_first r.0 r.1 own given)) (contains r.0 p.0 (zip_first r.0 r.1 p m))
      (λ same. let t = (edges_decide p.0 e).1 (sym same) in absurd cc)

  -- the edge is e itself, not turned, and the other is from its lower end to its upper one
  up_meets : (p : Item) → Has items p → same_edge p.0 e ≡ false → MeetAtEnds (e.0, e.1) ((up p.0).0, (up p.0).1)
  up_meets p m apart = by_test (int_le p.0.0.y p.0.1.y) (meets p m apart)
    where
      by_test : (b : Bool) → MeetAtEnds e p.0 → MeetAtEnds e (cond b p.0 (p.0.1, p.0.0))
      by_test true meet = meet
      by_test false meet = meet_second e p.0.0 p.0.1 meet

  -- a test of places that each edge of the owner but this one answers as two tests of its ends
  by_ends : (k x y : ℤ) (test : Point → Bool)
      → ((p : Item) → Has items p → is_owner_listed o p.1 ≡ true → same_edge p.0 e ≡ false
      → is_crossed k x y p.0 ≡ xor (test p.0.0) (test p.0.1))
      → is_crossed k x y e ≡ false → xor (test e.0) (test e.1) ≡ true
      → odd_of items o k x y ≡ true
  by_ends k x y test others not_own ends =
      xor_true_swap _ _ _
      (parity_agree (λ p. is_owner_listed o p.1 && is_crossed k x y p.0)
      (λ p. xor (is_owner_listed o p.1 && xor (test p.0.0) (test p.0.1)) (is_owner_listed o p.1 && same_edge p.0 e)) items
      (λ p m. each p m (is_owner_listed o p.1) refl)
      ∙ parity-xor (λ p. is_owner_listed o p.1 && xor (test p.0.0) (test p.0.1)) (λ p. is_owner_listed o p.1 && same_edge p.0 e) items)
      (even_ends (λ (p : Item). is_owner_listed o p.1) items (h.sound.even o) proper test)
      (parity_of_one (λ (p : Item). is_owner_listed o p.1) items own (distinct_zip r.0 r.1 h.sound.rising) given ∙ h.listed)
    where
      this : (p : Item) → p.0 ≡ e → is_crossed k x y p.0 ≡ xor (xor (test p.0.0) (test p.0.1)) true
      this p same = subst (λ (f : Point × Point). is_crossed k x y f ≡ xor (xor (test f.0) (test f.1)) true) (sym same)
          (not_own ∙ ap (λ b. xor b true) (sym ends))

      by_same : (p : Item) → Has items p → is_owner_listed o p.1 ≡ true → (s : Bool) → same_edge p.0 e ≡ s
          → is_crossed k x y p.0 ≡ xor (xor (test p.0.0) (test p.0.1)) s
      by_same p m listed true t = this p ((edges_decide p.0 e).0 t)
      by_same p m listed false t = others p m listed t ∙ sym (xor-false (xor (test p.0.0) (test p.0.1)))

      each : (p : Item) → Has items p → (l : Bool) → is_owner_listed o p.1 ≡ l
          → (l && is_crossed k x y p.0) ≡ xor (l && xor (test p.0.0) (test p.0.1)) (l && same_edge p.0 e)
      each p m true listed = by_same p m listed (same_edge p.0 e) refl
      each p m false listed = refl

  none_crossed : (k x y : ℤ) → ((p : Item) → Has items p → is_owner_listed o p.1 ≡ true → is_crossed k x y p.0 ≡ false)
      → odd_of items o k x y ≡ false
  none_crossed k x y none =
      parity_none (λ p. is_owner_listed o p.1 && is_crossed k x y p.0) items (λ p m. each p m (is_owner_listed o p.1) refl)
    where
      each : (p : Item) → Has items p → (l : Bool) → is_owner_listed o p.1 ≡ l → (l && is_crossed k x y p.0) ≡ false
      each p m true listed = none p m listed
      each p m false listed = refl

  abbrev X : ℤ
  X = e.0.x +ℤ e.1.x

  abbrev Y : ℤ
  Y = e.0.y +ℤ e.1.y

  -- by the edge from its lower end to its upper one
  by_up : (test : Point → Bool) (p : Item) → is_crossed (pos 2) X Y (up p.0) ≡ xor (test (up p.0).0) (test (up p.0).1)
      → is_crossed (pos 2) X Y p.0 ≡ xor (test p.0.0) (test p.0.1)
  by_up test p f = sym (up_crossed (pos 2) X Y p.0) ∙ f
      ∙ either (λ (g : Point × Point). xor (test g.0) (test g.1)) (λ a b. xor_comm (test a) (test b)) p.0

  right_side : IsUprightAt box.high.x e → holds_beside r n o ≡ false
  right_side at = none_crossed (pos 2) X Y (λ p m listed.
      let b = up_boxed p m listed in
      sym (up_crossed (pos 2) X Y p.0)
      ∙ none_right box.high.x X Y e.0 e.1 (up p.0).0 (up p.0).1 (omega (arith, linear, at.0, at.1)) refl (up_rises p.0) b.0.right b.1.right)

  top_side : IsLevelAt box.high.y e → holds_beside r n o ≡ false
  top_side at = none_crossed (pos 2) X Y (λ p m listed.
      let b = up_boxed p m listed in
      sym (up_crossed (pos 2) X Y p.0)
      ∙ none_above box.high.y X Y (up p.0).0 (up p.0).1 (omega (arith, linear, at.0, at.1)) (up_rises p.0) b.1.top)

  -- the edge goes up, or to the right
  goes : IsBefore e.0 e.1
  goes = before_by_test e.0 e.1 (before own given)

  left_side : IsUprightAt box.low.x e → holds_beside r n o ≡ true
  left_side at =
      let is_x : X ≡ pos 2 *ℤ box.low.x = omega (arith, linear, at.0, at.1) in
      let own_there = itself_there box.low.x X Y e.0 e.1 is_x refl at.0 at.1 rises in
      by_ends (pos 2) X Y (starts (pos 2) Y) (λ p m listed apart.
      let b = up_boxed p m listed in
      by_up (starts (pos 2) Y) p
      (all_right box.low.x X Y e.0 e.1 (up p.0).0 (up p.0).1 is_x refl (up_rises p.0) at.0 at.1 rises b.0.left b.1.left
      (up_meets p m apart)))
      own_there.0 own_there.1
    where
      rises : e.0.y <ℤ e.1.y
      rises = by_way goes
        where
          by_way : IsBefore e.0 e.1 → e.0.y <ℤ e.1.y
          by_way (inl less) = absurd (omega (arith, linear, at.0, at.1))
          by_way (inr more) = more.1

  bottom_side : IsLevelAt box.low.y e → holds_beside r n o ≡ true
  bottom_side at =
      let is_y : Y ≡ pos 2 *ℤ box.low.y = omega (arith, linear, at.0, at.1) in
      let own_there = level_itself box.low.y X Y e.0 e.1 is_y refl at.0 at.1 further in
      by_ends (pos 2) X Y (past X box.low.y) (λ p m listed apart.
      let b = up_boxed p m listed in
      by_up (past X box.low.y) p
      (all_above box.low.y X Y (up p.0).0 (up p.0).1 is_y (up_rises p.0) e.0 e.1 refl at.0 at.1 further b.0.bottom
      (up_meets p m apart)))
      own_there.0 own_there.1
    where
      further : e.0.x <ℤ e.1.x
      further = by_way goes
        where
          by_way : IsBefore e.0 e.1 → e.0.x <ℤ e.1.x
          by_way (inl less) = less
          by_way (inr more) = absurd (let l = more.1 in omega (arith, linear, at.0, at.1))

  told_upright : (x : ℤ) → is_upright_at x e ≡ true → IsUprightAt x e
  told_upright x t =
      let both = and_parts (int_eq e.0.x x) (int_eq e.1.x x) t in
      ((Decides-int_eq e.0.x x).0 both.0, (Decides-int_eq e.1.x x).0 both.1)

  told_level : (y : ℤ) → is_level_at y e ≡ true → IsLevelAt y e
  told_level y t =
      let both = and_parts (int_eq e.0.y y) (int_eq e.1.y y) t in
      ((Decides-int_eq e.0.y y).0 both.0, (Decides-int_eq e.1.y y).0 both.1)

  told_is : (holds : Bool) → told_by (Some box) e ≡ Some holds → holds_beside r n o ≡ holds
  told_is holds t = by_tests (is_upright_at box.low.x e) (is_level_at box.low.y e) (is_upright_at box.high.x e) (is_level_at box.high.y e)
      refl refl refl refl t
    where
      by_tests : (left bottom right top : Bool) → is_upright_at box.low.x e ≡ left → is_level_at box.low.y e ≡ bottom
          → is_upright_at box.high.x e ≡ right → is_level_at box.high.y e ≡ top
          → cond (left || bottom) (Some true) (cond (right || top) (Some false) None) ≡ Some holds → holds_beside r n o ≡ holds
      by_tests true bottom right top el eb er et t = left_side (told_upright box.low.x el) ∙ some_same true holds t
      by_tests false true right top el eb er et t = bottom_side (told_level box.low.y eb) ∙ some_same true holds t
      by_tests false false true top el eb er et t = right_side (told_upright box.high.x er) ∙ some_same false holds t
      by_tests false false false true el eb er et t = top_side (told_level box.high.y et) ∙ some_same false holds t
      by_tests false false false false el eb er et t = absurd (none_is holds t)

-- what the box tells is what holds beside the edge
pub told_beside : (r : Owned) (boxes : Boxes) (o : Owner) (n : ℕ) (holds : Bool) → AreSound r → AreBoxes r boxes
    → n < length r.0 → is_owner_listed o (owners_at r n) ≡ true → told_by (extent_of boxes o) (edge_at r n) ≡ Some holds
    → holds_beside r n o ≡ holds
told_beside r boxes o n holds sound all given listed told = by_extent (extent_of boxes o) refl told
  where
    by_extent : (extent : Option Rect) → extent_of boxes o ≡ extent → told_by extent (edge_at r n) ≡ Some holds
        → holds_beside r n o ≡ holds
    by_extent None e t = absurd (none_is holds t)
    by_extent (Some box) e t = told_is r o box n
        (record { sound = sound; within = λ m inside own. all m inside o box own e; given = given; listed = listed }) holds t
