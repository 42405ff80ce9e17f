-- Of distinct edges, each counted where a list has it an odd number of times, as many pass a test, by parity, as of the list.
use Rattle.std.proofs.Common.{◌≡◌, inl, inr, ⊎_elim, Bool, true, false, ◌&&◌, cond, List, [], ◌∷◌, ◌++◌, map, ℤ}
use Rattle.std.proofs.Common.{refl, sym, ap, ap₂, subst, ◌∙◌}
use Rattle.std.specs.List.{AllZip, flat_map, list_any, zip}
use Rattle.std.proofs.lemmas.Bool.{and_parts, false≢true, or_cases}
use Rattle.std.specs.Cmp.{both_ways}
use Rattle.lay_point.specs.declared.point.Point.{Point}
use Rattle.lay_point.specs.Edges.{is_before, same_edge, undirected}
use Rattle.lay_point.specs.Parity.{xor, parity, odd, is_crossed}
use Rattle.lay_point.specs.RingEdges.{pairs}
use Rattle.lay_point.proofs.Members.{Has, contains, has, has-append, has-append_left, has-append_right}
use Rattle.lay_point.proofs.Parity.{parity-append, parity-map, parity-xor, parity_agree, parity_none}
use Rattle.snap_edge_laws.specs.Undirected.{is_owned, walked_edges}
use Rattle.lay_point.proofs.BoolLaws.{and-false, and_comm, and_over_xor}
use Rattle.lay_point.proofs.ListLaws.{any_true}
use Rattle.snap_chains.specs.declared.owner.Input.{Input}
use Rattle.snap_chains.specs.declared.owner.Input.TheVariants.{First, Second}
use Rattle.snap_chains.specs.declared.owner.Owner.{Owner}
use Rattle.snap_chains.specs.Owners.{input_eq, owner_eq}
use Rattle.snap_chains.specs.Round.{AreOwnersOf, IsRoundOf, owner_walks}
use Rattle.snap_chains.specs.Rounded.{Owned, is_owner_listed}
use Rattle.snap_chains.proofs.OwnerOrder.{owner_eq-Decides}
use Rattle.face_rows.specs.Labels.{Item, answer_at, listed_shapes, odd_of, owned_items, some_of}
use Rattle.face_rows.proofs.Cuts.{AreDistinct, parity_of_one}
use Rattle.face_rows.proofs.Shapes.{input_itself, inputs_are_their_shapes, same_input}
use Rattle.face_ring_laws.proofs.ParityLemmas.{is_crossed-IsEdgeTest}
use Rattle.snap_chains.proofs.RoundLemmas.{has_listed, listed_has}
use Rattle.face_rows.specs.Operations.{answer}
use Rattle.face_rows.proofs.ItemLemmas.{distinct_zip}
use Rattle.bool_rules.specs.Shapes.{owned_of, rounded_inputs}
use Rattle.bool_rules.proofs.ShapeLemmas.{inputs_round, shapes_tell_places}
use Rattle.bool_rules.specs.Inside.{AnswersAreThoseOfRings, OwnersAreThoseOfRings, ShapesAreThoseOfRings, holds, is_inside_rounded}

-- ---- tests that agree
-- ---- a list of edges, by the distinct ones
odd_ones : (test : Point × Point → Bool) (items : List Item) → AreDistinct items → (goes : List (Point × Point))
    → ((e : Point × Point) → Has goes e → (m : Item) × Has items m × (m.0 ≡ e))
    → parity (λ (p : Item). test p.0 && parity (same_edge p.0) goes) items ≡ parity test goes
odd_ones test items distinct [] cover = parity_none (λ (p : Item). test p.0 && false) items (λ p m. and-false (test p.0))
odd_ones test items distinct (e ∷ goes) cover =
    let m = cover e (inl refl) in
    parity_agree (λ (p : Item). test p.0 && xor (same_edge p.0 e) (parity (same_edge p.0) goes))
    (λ (p : Item). xor (test p.0 && same_edge p.0 e) (test p.0 && parity (same_edge p.0) goes)) items
    (λ p n. and_over_xor (test p.0) (same_edge p.0 e) (parity (same_edge p.0) goes))
    ∙ parity-xor (λ (p : Item). test p.0 && same_edge p.0 e) (λ (p : Item). test p.0 && parity (same_edge p.0) goes) items
    ∙ ap₂ xor
    (subst (λ z. parity (λ (p : Item). test p.0 && same_edge p.0 z) items ≡ test z) m.2
    (parity_of_one (λ (p : Item). test p.0) items m.0 distinct m.1))
    (odd_ones test items distinct goes (λ f n. cover f (inr n)))

-- ---- edges in order, with owners
edge_item : (R : Point × Point → List Owner → Type 0) (es : List (Point × Point)) (os : List (List Owner)) → AllZip R es os
    → (e : Point × Point) → Has es e → (m : Item) × Has (zip es os) m × (m.0 ≡ e)
edge_item R [] os h e m = absurd m
edge_item R (f ∷ es) [] h e m = absurd h
edge_item R (f ∷ es) (o ∷ os) h e (inl same) = ((f, o), inl refl, same)
edge_item R (f ∷ es) (o ∷ os) h e (inr m) = let r = edge_item R es os h.1 e m in (r.0, inr r.1, r.2)

item_owners : (R : Point × Point → List Owner → Type 0) (es : List (Point × Point)) (os : List (List Owner)) → AllZip R es os
    → (p : Item) → Has (zip es os) p → R p.0 p.1
item_owners R [] os h p m = absurd m
item_owners R (e ∷ es) [] h p m = absurd h
item_owners R (e ∷ es) (o ∷ os) h p (inl same) = subst (λ (z : Item). R z.0 z.1) same h.0
item_owners R (e ∷ es) (o ∷ os) h p (inr m) = item_owners R es os h.1 p m

true_any : {A : Type 0} (test : A → Bool) (xs : List A) → list_any test xs ≡ true → (x : A) × Has xs x × (test x ≡ true)
true_any test [] e = absurd (false≢true e)
true_any test (y ∷ xs) e = ⊎_elim (λ (here : test y ≡ true). (y, inl refl, here))
    (λ (there : list_any test xs ≡ true). let r = true_any test xs there in (r.0, inr r.1, r.2)) (or_cases (test y) (list_any test xs) e)

-- ---- the walks of one owner
walks_among : (o : Owner) (rings : List (Owner × List Point)) (walks : List (List Point)) (e : Point × Point)
    → Has (walked_edges undirected (owner_walks o rings walks)) e → Has (walked_edges undirected walks) e
walks_among o [] walks e m = absurd m
walks_among o (r ∷ rings) [] e m = absurd m
walks_among o (r ∷ rings) (w ∷ walks) e m = by_test (owner_eq r.0 o) (walks_among o rings walks e) m
  where
    by_test : (b : Bool) → (Has (walked_edges undirected (owner_walks o rings walks)) e → Has (walked_edges undirected walks) e)
        → Has (walked_edges undirected (cond b (w ∷ owner_walks o rings walks) (owner_walks o rings walks))) e
        → Has (map undirected (pairs w) ++ walked_edges undirected walks) e
    by_test true later m = ⊎_elim (λ (here : Has (map undirected (pairs w)) e). has-append_left (map undirected (pairs w)) _ e here)
        (λ (there : Has (walked_edges undirected (owner_walks o rings walks)) e).
        has-append_right (map undirected (pairs w)) _ e (later there))
        (has-append (map undirected (pairs w)) (walked_edges undirected (owner_walks o rings walks)) e m)
    by_test false later m = has-append_right (map undirected (pairs w)) _ e (later m)

crossed_undirected : (k x y : ℤ) (p : Point × Point) → is_crossed k x y (undirected p) ≡ is_crossed k x y p
crossed_undirected k x y p = by_test (is_before p.0 p.1)
  where
    by_test : (b : Bool) → is_crossed k x y (cond b p (p.1, p.0)) ≡ is_crossed k x y p
    by_test true = refl
    by_test false = (is_crossed-IsEdgeTest k x y).turned p.1 p.0

crossed_walks : (k x y : ℤ) (walks : List (List Point))
    → parity (is_crossed k x y) (walked_edges undirected walks) ≡ odd (flat_map pairs walks) k x y
unfolding odd
crossed_walks k x y [] = refl
crossed_walks k x y (w ∷ walks) =
    parity-append (is_crossed k x y) (map undirected (pairs w)) (walked_edges undirected walks)
    ∙ ap₂ xor (parity-map (is_crossed k x y) undirected (pairs w)
    ∙ parity_agree (λ p. is_crossed k x y (undirected p)) (is_crossed k x y) (pairs w) (λ p m. crossed_undirected k x y p))
    (crossed_walks k x y walks)
    ∙ sym (parity-append (is_crossed k x y) (pairs w) (flat_map pairs walks))

pub owners_of_rings : OwnersAreThoseOfRings
owners_of_rings rings r h o k x y =
    let goes = walked_edges undirected (owner_walks o rings h.walks) in
    parity_agree (λ (p : Item). is_owner_listed o p.1 && is_crossed k x y p.0)
    (λ (p : Item). is_crossed k x y p.0 && parity (same_edge p.0) goes) (owned_items r)
    (λ p m. and_comm (is_owner_listed o p.1) (is_crossed k x y p.0) ∙ ap (λ b. is_crossed k x y p.0 && b) (listed p m))
    ∙ odd_ones (is_crossed k x y) (owned_items r) (distinct_zip r.0 r.1 h.edges.rising) goes
    (λ e m. edge_item (AreOwnersOf rings h.walks) r.0 r.1 h.owners e
    (has r.0 e ((h.edges.exact e).1 (contains (walked_edges undirected h.walks) e (walks_among o rings h.walks e m)))))
    ∙ crossed_walks k x y (owner_walks o rings h.walks)
  where
    listed : (p : Item) → Has (owned_items r) p
        → is_owner_listed o p.1 ≡ parity (same_edge p.0) (walked_edges undirected (owner_walks o rings h.walks))
    listed p m =
        let owners = item_owners (AreOwnersOf rings h.walks) r.0 r.1 h.owners p m in
        both_ways (is_owner_listed o p.1) (is_owned (owner_walks o rings h.walks) p.0)
        (λ t. (owners.exact o).0 (contains p.1 o (listed_has o p.1 t)))
        (λ t. has_listed o p.1 (has p.1 o ((owners.exact o).1 t)))

-- ---- inputs
-- a shape that has a place inside has a ring
inside_has : (k x y : ℤ) (o : Owner) (rings : List (Owner × List Point)) (walks : List (List Point))
    → odd (flat_map pairs (owner_walks o rings walks)) k x y ≡ true → (r : Owner × List Point) × Has rings r × (r.0 ≡ o)
unfolding odd
inside_has k x y o [] walks e = absurd (false≢true e)
inside_has k x y o (r ∷ rings) [] e = absurd (false≢true e)
inside_has k x y o (r ∷ rings) (w ∷ walks) e = by_test (owner_eq r.0 o) refl (inside_has k x y o rings walks) e
  where
    by_test : (b : Bool) → owner_eq r.0 o ≡ b
        → (parity (is_crossed k x y) (flat_map pairs (owner_walks o rings walks)) ≡ true
        → (q : Owner × List Point) × Has rings q × (q.0 ≡ o))
        → parity (is_crossed k x y) (flat_map pairs (cond b (w ∷ owner_walks o rings walks) (owner_walks o rings walks))) ≡ true
        → (q : Owner × List Point) × Has (r ∷ rings) q × (q.0 ≡ o)
    by_test true t later e = (r, inl refl, (owner_eq-Decides r.0 o).0 t)
    by_test false t later e = let further = later e in (further.0, inr further.1, further.2)

input_holds : (rings : List (Owner × List Point)) (r : Owned) (h : IsRoundOf rings r) (input : Input) (k x y : ℤ)
    → some_of input (listed_shapes (owned_items r)) (λ o. odd_of (owned_items r) o k x y) ≡ holds input rings h.walks k x y
input_holds rings r h input k x y = both_ways _ _
    (λ t.
    let shape = (inputs_are_their_shapes r input k x y).0 t in
    let o : Owner = record { input = input; shape = shape.0 } in
    let inside = sym (owners_of_rings rings r h o k x y) ∙ shape.1 in
    let found = inside_has k x y o rings h.walks inside in
    any_true (λ (q : Owner × List Point). input_eq q.0.input input && is_inside_rounded rings h.walks q.0 k x y) rings found.0 found.1
    (subst (λ z. (input_eq z.input input && is_inside_rounded rings h.walks z k x y) ≡ true) (sym found.2)
    (ap (λ b. b && is_inside_rounded rings h.walks o k x y) (input_itself input) ∙ inside)))
    (λ t.
    let found = true_any (λ (q : Owner × List Point). input_eq q.0.input input && is_inside_rounded rings h.walks q.0 k x y) rings t in
    let both = and_parts (input_eq found.0.0.input input) (is_inside_rounded rings h.walks found.0.0 k x y) found.2 in
    let same = same_input found.0.0.input input both.0 in
    (inputs_are_their_shapes r input k x y).1 (
      found.0.0.shape,
      ap (λ i. odd_of (owned_items r) (record { input = i; shape = found.0.0.shape }) k x y) (sym same)
          ∙ owners_of_rings rings r h found.0.0 k x y ∙ both.1,
    ))

pub answers_of_rings : AnswersAreThoseOfRings
unfolding answer_at
answers_of_rings rings r h op k x y =
    ap₂ (answer op) (input_holds rings r h First k x y) (input_holds rings r h Second k x y)

pub shapes_of_rings : ShapesAreThoseOfRings
shapes_of_rings op a b flat_a flat_b =
    let round = inputs_round op a b flat_a flat_b in
    record {
      walks = round.walks;
      rounded = round.rounded;
      places = λ k x y scale. (shapes_tell_places op a b flat_a flat_b).places k x y scale
          ∙ answers_of_rings (owned_of a b) (rounded_inputs a b) round op k x y;
    }
