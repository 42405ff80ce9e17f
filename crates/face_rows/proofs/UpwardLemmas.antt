-- The edges of rounded inputs, each from its lower end to its upper one: what is crossed, listed and labelled is the same.
use Rattle.std.proofs.Common.{Contains, ◌≡◌, ◌⊎◌, inl, inr, Bool, true, false, ◌&&◌, cond, List, [], ◌∷◌, ◌++◌, map, filter}
use Rattle.std.proofs.Common.{ℤ, pos, ◌+ℤ◌, ◌≤ℤ◌, refl, sym, ap, ap₂, subst, ◌∙◌, arith}
use Rattle.std.specs.Prelude.{int_le}
use Rattle.std.specs.List.{zip}
use Rattle.std.proofs.lemmas.Int.{ints}
use Rattle.lay_point.specs.declared.point.Point.{Point}
use Rattle.lay_point.specs.Edges.{is_before, same_edge, touches, undirected, IsEdgeBefore}
use Rattle.lay_point.specs.Parity.{xor, parity, is_crossed, is_crossed_rising, odd}
use Rattle.lay_point.specs.Points.{point_eq}
use Rattle.lay_point.specs.Rising.{IsRising}
use Rattle.lay_point.proofs.EdgeOrder.{before_by_test, before_is_strict, edges_are_strict, undirected_back, undirected_lesser}
use Rattle.lay_point.proofs.Members.{Has, has, contains}
use Rattle.lay_point.proofs.Parity.{parity-map, parity_agree}
use Rattle.lay_point.proofs.Rising.{before_rest, rising_rest}
use Rattle.lay_point.proofs.BoolLaws.{or_comm}
use Rattle.lay_point.proofs.Products.{+ℤ_comm}
use Rattle.lay_point.proofs.ListLaws.{map-has}
use Rattle.snap_edge_laws.specs.Meeting.{MeetAtEnds}
use Rattle.snap_chains.specs.declared.owner.Owner.{Owner}
use Rattle.snap_chains.specs.Rounded.{AreClean, IsRounded, Owned, is_owner_listed}
use Rattle.snap_chains.proofs.EdgeOrder.{edges_decide}
use Rattle.face_rows.specs.Labels.{Item, answer_at, answer_on, differs, differs_at, edges_of_operation, listed_shapes, odd_of}
use Rattle.face_rows.specs.Labels.{owned_items}
use Rattle.face_rows.specs.Laws.{AreLesserFirst}
use Rattle.face_rows.proofs.Cuts.{AreDistinct}
use Rattle.face_rows.proofs.Places.{place_law}
use Rattle.face_side_laws.proofs.Sides.{meet_first, meet_second}
use Rattle.face_side_laws.proofs.Slide.{AreUpward}
use Rattle.face_rows.proofs.Vertex.{even_law}
use Rattle.face_rows.proofs.ItemLemmas.{zip_first}

-- from the lower end to the upper one
abbrev pub up : Point × Point → Point × Point
up e = cond (int_le e.0.y e.1.y) e (e.1, e.0)

abbrev pub up_item : Item → Item
up_item p = (up p.0, p.1)

-- what doesn't depend on the order of the ends
pub either : {A : Type 0} (f : Point × Point → A) → ((a b : Point) → f (a, b) ≡ f (b, a)) → (e : Point × Point) → f (up e) ≡ f e
either f same e = by_test (int_le e.0.y e.1.y)
  where
    by_test : (b : Bool) → f (cond b e (e.1, e.0)) ≡ f e
    by_test true = refl
    by_test false = same e.1 e.0

pub up_crossed : (k x y : ℤ) (e : Point × Point) → is_crossed k x y (up e) ≡ is_crossed k x y e
up_crossed k x y = either (is_crossed k x y) (λ a b. or_comm (is_crossed_rising k x y a b) (is_crossed_rising k x y b a))

pub up_touches : (v : Point) (e : Point × Point) → touches v (up e) ≡ touches v e
up_touches v = either (touches v) (λ a b. or_comm (point_eq a v) (point_eq b v))

-- ---- the same shapes, parities and labels
shapes_same : (items : List Item) → listed_shapes (map up_item items) ≡ listed_shapes items
shapes_same [] = refl
shapes_same (p ∷ ps) = ap (λ os. p.1 ++ os) (shapes_same ps)

odd_same : (items : List Item) (o : Owner) (k x y : ℤ) → odd_of (map up_item items) o k x y ≡ odd_of items o k x y
odd_same items o k x y =
    parity-map (λ p. is_owner_listed o p.1 && is_crossed k x y p.0) up_item items
    ∙ parity_agree (λ p. is_owner_listed o p.1 && is_crossed k x y (up p.0)) (λ p. is_owner_listed o p.1 && is_crossed k x y p.0) items
    (λ p m. ap (λ b. is_owner_listed o p.1 && b) (up_crossed k x y p.0))

answer_same : (op : Bool → Bool → Bool) (items : List Item) (k x y : ℤ) → answer_at op (map up_item items) k x y ≡ answer_at op items k x y
unfolding answer_at
answer_same op items k x y = λ i. answer_on op (shapes_same items i) (λ o. odd_same items o k x y i)

label_same : (op : Bool → Bool → Bool) (items : List Item) (p : Item) → differs op (map up_item items) (up_item p) ≡ differs op items p
unfolding differs
label_same op items p =
    (λ i. xor (answer_on op (shapes_same items i) (λ o. odd_same items o (pos 2) ((up p.0).0.x +ℤ (up p.0).1.x)
    ((up p.0).0.y +ℤ (up p.0).1.y) i))
    (answer_on op (shapes_same items i)
    (λ o. xor (is_owner_listed o p.1) (odd_same items o (pos 2) ((up p.0).0.x +ℤ (up p.0).1.x) ((up p.0).0.y +ℤ (up p.0).1.y) i))))
    ∙ either (λ e. differs_at op items (e, p.1) (pos 2) (e.0.x +ℤ e.1.x) (e.0.y +ℤ e.1.y)) (λ a b. λ i.
    differs_at op items (p.0, p.1) (pos 2) (+ℤ_comm a.x b.x i) (+ℤ_comm a.y b.y i)) p.0

-- ---- clean edges stay clean
pub up_meet : (e f : Point × Point) → MeetAtEnds e f → MeetAtEnds (up e) (up f)
up_meet e f h = by_tests (int_le e.0.y e.1.y) (int_le f.0.y f.1.y)
  where
    by_tests : (b c : Bool) → MeetAtEnds (cond b e (e.1, e.0)) (cond c f (f.1, f.0))
    by_tests true true = h
    by_tests true false = meet_second e f.0 f.1 h
    by_tests false true = meet_first e.0 e.1 f h
    by_tests false false = meet_first e.0 e.1 (f.1, f.0) (meet_second e f.0 f.1 h)

pub up_rises : (e : Point × Point) → (up e).0.y ≤ℤ (up e).1.y
up_rises e = by_test (int_le e.0.y e.1.y) refl
  where
    by_test : (b : Bool) → int_le e.0.y e.1.y ≡ b → (cond b e (e.1, e.0)).0.y ≤ℤ (cond b e (e.1, e.0)).1.y
    by_test true t = grind (arith, ints)
    by_test false t = grind (arith, ints)

-- an edge with its lesser end first is that of the turned one
up_again : (e : Point × Point) → is_before e.0 e.1 ≡ true → undirected (up e) ≡ e
up_again e h = by_test (int_le e.0.y e.1.y)
  where
    by_test : (b : Bool) → undirected (cond b e (e.1, e.0)) ≡ e
    by_test true = undirected_lesser e h
    by_test false = undirected_back e h

up_proper : (e : Point × Point) → ¬ (e.0 ≡ e.1) → ¬ ((up e).0 ≡ (up e).1)
up_proper e h = by_test (int_le e.0.y e.1.y)
  where
    by_test : (b : Bool) → ¬ ((cond b e (e.1, e.0)).0 ≡ (cond b e (e.1, e.0)).1)
    by_test true same = h same
    by_test false same = h (sym same)

-- ---- all items
distinct_up : (es : List (Point × Point)) (os : List (List Owner)) → IsRising IsEdgeBefore es
    → ((e : Point × Point) → Has es e → is_before e.0 e.1 ≡ true)
    → AreDistinct (map up_item (zip es os))
distinct_up [] os up_ lesser = tt
distinct_up (e ∷ es) [] up_ lesser = tt
distinct_up (e ∷ es) (o ∷ os) rising lesser = (
  (λ q m same.
      let p = map-has up_item (zip es os) q m in
      let mp = zip_first es os p.0 p.1 in
      let ups : up e ≡ up p.0.0 = same ∙ sym (ap (λ (z : Item). z.0) p.2) in
      let one : e ≡ p.0.0 = sym (up_again e (lesser e (inl refl))) ∙ ap undirected ups ∙ up_again p.0.0 (lesser p.0.0 (inr mp)) in
      edges_are_strict.irreflexive e (subst (IsEdgeBefore e) (sym one) (before_rest IsEdgeBefore edges_are_strict e es p.0.0 rising mp))),
  distinct_up es os (rising_rest IsEdgeBefore e es rising) (λ f m. lesser f (inr m)),
)

module _ (r : Owned) (rounded : IsRounded r) (clean : AreClean r.0) (lesser : AreLesserFirst r.0) where
  edge_of : (p : Item) → Has (owned_items r) p → Has r.0 p.0
  edge_of p m = zip_first r.0 r.1 p m

  upward : AreUpward (map up_item (owned_items r))
  upward = record {
    rises = λ q m. let p = map-has up_item (owned_items r) q m in subst (λ (z : Item). z.0.0.y ≤ℤ z.0.1.y) p.2 (up_rises p.0.0);
    proper = λ q m.
        let p = map-has up_item (owned_items r) q m in
        let l = lesser p.0.0 (contains r.0 p.0.0 (edge_of p.0 p.1)) in
        subst (λ (z : Item). ¬ (z.0.0 ≡ z.0.1)) p.2 (up_proper p.0.0 (λ same.
        before_is_strict.irreflexive p.0.0.1 (before_by_test p.0.0.1 p.0.0.1 (subst (λ v. is_before v p.0.0.1 ≡ true) same l))));
    meets = λ q s m n.
        let p = map-has up_item (owned_items r) q m in
        let t = map-has up_item (owned_items r) s n in
        let two = both p.0.0 t.0.0 (edge_of p.0 p.1) (edge_of t.0 t.1) (same_edge p.0.0 t.0.0) refl in
        coe 0 1 (i. ((p.2 i).0 ≡ (t.2 i).0) ⊎ MeetAtEnds (p.2 i).0 (t.2 i).0) two;
  }
    where
      both : (e f : Point × Point) → Has r.0 e → Has r.0 f → (b : Bool) → same_edge e f ≡ b → (up e ≡ up f) ⊎ MeetAtEnds (up e) (up f)
      both e f m n true t = inl (ap up ((edges_decide e f).0 t))
      both e f m n false t = inr (up_meet e f (clean e f (contains r.0 e m) (contains r.0 f n) (λ same.
          let t' = (edges_decide e f).1 same in absurd cc)))

  even_up : (o : Owner) (v : Point) → parity (λ p. is_owner_listed o p.1 && touches v p.0) (map up_item (owned_items r)) ≡ false
  even_up o v =
      parity-map (λ p. is_owner_listed o p.1 && touches v p.0) up_item (owned_items r)
      ∙ parity_agree (λ p. is_owner_listed o p.1 && touches v (up p.0)) (λ p. is_owner_listed o p.1 && touches v p.0) (owned_items r)
      (λ p m. ap (λ b. is_owner_listed o p.1 && b) (up_touches v p.0))
      ∙ rounded.even o v

  distinct : AreDistinct (map up_item (owned_items r))
  distinct = distinct_up r.0 r.1 rounded.rising (λ e m. lesser e (contains r.0 e m))

  filtered : (f : Item → Bool) (test : Point × Point → Bool) (items : List Item)
      → parity test (map (λ p. p.0) (filter f items)) ≡ parity (λ p. f p && test p.0) items
  filtered f test [] = refl
  filtered f test (p ∷ ps) = by_test (f p) (filtered f test ps)
    where
      by_test : (b : Bool) → parity test (map (λ p. p.0) (filter f ps)) ≡ parity (λ q. f q && test q.0) ps
          → parity test (map (λ p. p.0) (cond b (p ∷ filter f ps) (filter f ps)))
          ≡ xor (b && test p.0) (parity (λ q. f q && test q.0) ps)
      by_test true h = ap (xor (test p.0)) h
      by_test false h = h

  -- of the operation's edges an odd number is to the right of a place exactly where the operation holds there
  pub operation_law : (op : Bool → Bool → Bool) → op false false ≡ false → (k x y : ℤ) → pos 1 ≤ℤ k
      → odd (edges_of_operation op (owned_items r)) k x y ≡ answer_at op (owned_items r) k x y
  unfolding odd
  operation_law op none k x y scale =
      filtered (differs op (owned_items r)) (is_crossed k x y) (owned_items r)
      ∙ sym (parity-map (λ p. differs op (map up_item (owned_items r)) p && is_crossed k x y p.0) up_item (owned_items r)
      ∙ parity_agree (λ p. differs op (map up_item (owned_items r)) (up_item p) && is_crossed k x y (up p.0))
      (λ p. differs op (owned_items r) p && is_crossed k x y p.0) (owned_items r)
      (λ p m. ap₂ (λ a b. a && b) (label_same op (owned_items r) p) (up_crossed k x y p.0)))
      ∙ place_law op none (map up_item (owned_items r)) upward distinct even_up k x y scale
      ∙ answer_same op (owned_items r) k x y

  -- an even number of them stands at each point
  pub even_operation : (op : Bool → Bool → Bool) → op false false ≡ false → (v : Point)
      → parity (touches v) (edges_of_operation op (owned_items r)) ≡ false
  even_operation op none v =
      filtered (differs op (owned_items r)) (touches v) (owned_items r)
      ∙ sym (parity-map (λ p. differs op (map up_item (owned_items r)) p && touches v p.0) up_item (owned_items r)
      ∙ parity_agree (λ p. differs op (map up_item (owned_items r)) (up_item p) && touches v (up p.0))
      (λ p. differs op (owned_items r) p && touches v p.0) (owned_items r)
      (λ p m. ap₂ (λ a b. a && b) (label_same op (owned_items r) p) (up_touches v p.0)))
      ∙ even_law op none (map up_item (owned_items r)) upward distinct even_up v

-- ---- in order
among : (f : Item → Bool) (es : List (Point × Point)) (os : List (List Owner)) (g : Point × Point)
    → Has (map (λ p. p.0) (filter f (zip es os))) g → Has es g
among f [] os g m = absurd m
among f (e ∷ es) [] g m = absurd m
among f (e ∷ es) (o ∷ os) g m = by_test (f (e, o)) m (λ n. among f es os g n)
  where
    by_test : (b : Bool) → Has (map (λ p. p.0) (cond b ((e, o) ∷ filter f (zip es os)) (filter f (zip es os)))) g
        → (Has (map (λ p. p.0) (filter f (zip es os))) g → Has es g) → Has (e ∷ es) g
    by_test true (inl same) further = inl same
    by_test true (inr n) further = inr (further n)
    by_test false n further = inr (further n)

rising_first : (e : Point × Point) (es : List (Point × Point)) → ((g : Point × Point) → Has es g → IsEdgeBefore e g)
    → IsRising IsEdgeBefore es
    → IsRising IsEdgeBefore (e ∷ es)
rising_first e [] first h = tt
rising_first e (f ∷ es) first h = (first f (inl refl), h)

rising_filter : (f : Item → Bool) (es : List (Point × Point)) (os : List (List Owner)) → IsRising IsEdgeBefore es
    → IsRising IsEdgeBefore (map (λ p. p.0) (filter f (zip es os)))
rising_filter f [] os h = tt
rising_filter f (e ∷ es) [] h = tt
rising_filter f (e ∷ es) (o ∷ os) h = by_test (f (e, o)) (rising_filter f es os (rising_rest IsEdgeBefore e es h))
  where
    by_test : (b : Bool) → IsRising IsEdgeBefore (map (λ p. p.0) (filter f (zip es os)))
        → IsRising IsEdgeBefore (map (λ p. p.0) (cond b ((e, o) ∷ filter f (zip es os)) (filter f (zip es os))))
    by_test true rest = rising_first e (map (λ p. p.0) (filter f (zip es os)))
        (λ g m. before_rest IsEdgeBefore edges_are_strict e es g h (among f es os g m)) rest
    by_test false rest = rest

pub operation_rises : (r : Owned) → IsRounded r → (op : Bool → Bool → Bool) → IsRising IsEdgeBefore (edges_of_operation op (owned_items r))
operation_rises r rounded op = rising_filter (differs op (owned_items r)) r.0 r.1 rounded.rising

pub operation_among : (r : Owned) (op : Bool → Bool → Bool) (e : Point × Point) → Contains (edges_of_operation op (owned_items r)) e
    → Contains r.0 e
operation_among r op e c = contains r.0 e (among (differs op (owned_items r)) r.0 r.1 e (has (edges_of_operation op (owned_items r)) e c))
