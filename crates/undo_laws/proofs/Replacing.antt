-- What an accepted operation leaves of its cell on its layer: the old shapes go, and the new ones stand under the next ids.
use Rattle.std.proofs.Common.{◌≡◌, ℕ, Bool, true, false, ◌&&◌, ◌||◌, cond, List, [], ◌∷◌, ◌++◌, map, Option, None, Some}
use Rattle.std.proofs.Common.{option_map, unwrap_or, refl, ap, sym, ◌∙◌}
use Rattle.std.specs.Prelude.{Ok, if◌then◌else◌}
use Rattle.std.proofs.lemmas.Bool.{and_parts}
use Rattle.std.specs.Cmp.{eq_by_cmp_equiv}
use Rattle.std.specs.FinMap.{FinMap, entries, entries-from_sorted, find, from_sorted, get, get-from_sorted}
use Rattle.std.specs.FinMap as finite
use Rattle.std.specs.List.{AllByRecursion, cons_option, list_any}
use Rattle.std.specs.Ordering.{eq_by_cmp}
use Rattle.lay_point.specs.Same.{names_eq}
use Rattle.lay_cells.specs.declared.cell_id.CellId.{CellId}
use Rattle.lay_cells.specs.SameCell.{cell_eq}
use Rattle.lay_cells.proofs.GraphLemmas.{cells_swapped}
use Rattle.lay_layouts.specs.declared.id.ItemId.{ItemId}
use Rattle.lay_layouts.specs.declared.item.Item as items
use Rattle.lay_layouts.specs.declared.item.Item.TheVariants.{Placed, Shape}
use Rattle.lay_layouts.specs.IdOrder.{ids_exact, ids_total}
use Rattle.lay_layouts.specs.Ids.{id_cmp}
use Rattle.lay_layouts.specs.Items.{items_in, standing_in}
use Rattle.lay_layouts.specs.Layout.{Layout, Write, item_at, put, put_all}
use Rattle.lay_layouts.specs.Lent.{shapes_among, shapes_in}
use Rattle.face_rows.specs.declared.op.Op.{Op}
use Rattle.bool_rules.specs.Shapes.{Rings}
use Rattle.bool_rules.specs.Booleans.{bool_shapes}
use Rattle.txn_commands.specs.declared.command.Command.TheVariants.{Bool as Combine}
use Rattle.txn_commands.specs.declared.command.Done.{Done}
use Rattle.txn_commands.specs.declared.command.TxnId.{TxnId}
use Rattle.txn_commands.specs.declared.element.Element.TheVariants.{Layer}
use Rattle.txn_commands.specs.Acts.{Act, new_shapes, removals}
use Rattle.txn_commands.specs.Agreement.{Agree, AreAlike}
use Rattle.txn_commands.specs.Effects.{Run, effect, next_id}
use Rattle.txn_commands.specs.Lies.{lies}
use Rattle.txn_commands.specs.Plans.{combination_in, plan, shape_ids}
use Rattle.txn_commands.specs.Writing.{rewritten}
use Rattle.txn_rules.proofs.Below.{names_swapped, shapes_agree}
use Rattle.txn_rules.proofs.Booleans.{replaced_by}
use Rattle.txn_commands.proofs.Lying.{entries_found, no_entry_passes}
use Rattle.txn_commands.proofs.Maps.{get-put_all, later, same_key, write_at}
use Rattle.txn_rules.proofs.Runs.{act_of}
use Rattle.undo_laws.specs.Laws.{BooleansReplaceShapes, numbered}
use Rattle.undo_laws.proofs.Numbered.{drawn_from, drawn_sorted, shapes-drawn, write_at-entries, writes_of}

-- writes behind writes
put_all-append : (m : FinMap id_cmp items.Item) (first second : List Write) →
    put_all m (first ++ second) ≡ put_all (put_all m first) second
put_all-append m [] second = refl
put_all-append m (w ∷ first) second = put_all-append (put m w.0 w.1) first second

-- the id is one of these
abbrev pub is_one_of : List ItemId → ItemId → Bool
is_one_of ids q = list_any (eq_by_cmp id_cmp q) ids

-- what removals leave
write_at-removals : (ids : List ItemId) (q : ItemId) → write_at id_cmp q (removals ids) ≡ cond (is_one_of ids q) (Some None) None
write_at-removals [] q = refl
write_at-removals (id ∷ ids) q =
    ap (λ o. later o (eq_by_cmp id_cmp q id) None) (write_at-removals ids q)
    ∙ by_tests (is_one_of ids q) (eq_by_cmp id_cmp q id) where
      by_tests : (rest here : Bool) → later {V = items.Item} (cond rest (Some None) None) here None ≡ cond (here || rest) (Some None) None
      by_tests true true = refl
      by_tests true false = refl
      by_tests false true = refl
      by_tests false false = refl

pub get-removed : (m : FinMap id_cmp items.Item) (ids : List ItemId) (q : ItemId) →
    get (put_all m (removals ids)) q ≡ cond (is_one_of ids q) None (get m q)
get-removed m ids q =
    get-put_all ids_total m (removals ids) q
    ∙ ap (λ o. unwrap_or o (get m q)) (write_at-removals ids q)
    ∙ by_test (is_one_of ids q) where
      by_test : (b : Bool) → unwrap_or (cond b (Some None) None) (get m q) ≡ cond b None (get m q)
      by_test true = refl
      by_test false = refl

-- the entry has this id, and is a shape of the cell on the layer
abbrev is_here : ItemId → CellId → List ℕ → ItemId × items.Item → Bool
is_here q c layer e = eq_by_cmp id_cmp q e.0 && lies (Layer c layer) e.0 e.1

-- there is one where the id is of a shape there
ids_lying : (q : ItemId) (c : CellId) (layer : List ℕ) (es : List (ItemId × items.Item)) →
    list_any (is_here q c layer) es ≡ is_one_of (map (λ shape. shape.0) (shapes_among layer (standing_in c es))) q
ids_lying q c layer [] = refl
ids_lying q c layer ((id, Placed cell target turn) ∷ es) =
    by_tests (eq_by_cmp id_cmp q id) (cell_eq cell c) (ids_lying q c layer es) where
      others : List (ItemId × items.Item)
      others = standing_in c es

      by_tests : (k b : Bool) →
          list_any (is_here q c layer) es ≡ is_one_of (map (λ shape. shape.0) (shapes_among layer others)) q →
          ((k && false) || list_any (is_here q c layer) es)
          ≡ is_one_of (map (λ shape. shape.0) (shapes_among layer (cond b ((id, Placed cell target turn) ∷ others) others))) q
      by_tests true true rest = rest
      by_tests true false rest = rest
      by_tests false true rest = rest
      by_tests false false rest = rest
ids_lying q c layer ((id, Shape cell name rings) ∷ es) =
    (λ i. (eq_by_cmp id_cmp q id && (cells_swapped c cell i && names_swapped layer name i)) || list_any (is_here q c layer) es)
    ∙ by_tests (cell_eq cell c) (names_eq name layer) refl (ids_lying q c layer es) where
      others : List (ItemId × items.Item)
      others = standing_in c es

      no_more : (k rest : Bool) → ((k && false) || rest) ≡ rest
      no_more true rest = refl
      no_more false rest = refl

      one_more : (k rest : Bool) → ((k && true) || rest) ≡ (k || rest)
      one_more true rest = refl
      one_more false rest = refl

      by_tests : (b n : Bool) → names_eq name layer ≡ n →
          list_any (is_here q c layer) es ≡ is_one_of (map (λ shape. shape.0) (shapes_among layer others)) q →
          ((eq_by_cmp id_cmp q id && (b && n)) || list_any (is_here q c layer) es)
          ≡ is_one_of (map (λ shape. shape.0) (shapes_among layer (cond b ((id, Shape cell name rings) ∷ others) others))) q
      by_tests true true is rest =
          one_more (eq_by_cmp id_cmp q id) (list_any (is_here q c layer) es)
          ∙ ap (λ r. eq_by_cmp id_cmp q id || r) rest
          ∙ ap (λ n. is_one_of (map (λ shape. shape.0) (cons_option (if n then Some (id, rings) else None) (shapes_among layer others))) q)
          (sym is)
      by_tests true false is rest =
          no_more (eq_by_cmp id_cmp q id) (list_any (is_here q c layer) es)
          ∙ rest
          ∙ ap (λ n. is_one_of (map (λ shape. shape.0) (cons_option (if n then Some (id, rings) else None) (shapes_among layer others))) q)
          (sym is)
      by_tests false n is rest = no_more (eq_by_cmp id_cmp q id) (list_any (is_here q c layer) es) ∙ rest

-- a shape of the cell on the layer has one of their ids
pub among_ids : (l : Layout) (c : CellId) (layer : List ℕ) (q : ItemId) (x : items.Item) → item_at l q ≡ Some x →
    lies (Layer c layer) q x ≡ true → is_one_of (shape_ids l c layer) q ≡ true
unfolding shapes_in items_in
among_ids l c layer q x there here =
    sym (ids_lying q c layer (entries l.items)) ∙ by_test (list_any (is_here q c layer) (entries l.items)) refl where
      passes : is_here q c layer (q, x) ≡ true
      passes = ap (λ b. b && lies (Layer c layer) q x) ((eq_by_cmp_equiv ids_total).refl q) ∙ here

      by_test : (b : Bool) → list_any (is_here q c layer) (entries l.items) ≡ b → b ≡ true
      by_test true none = refl
      by_test false none = absurd (cc (sym passes ∙ no_entry_passes ids_exact (is_here q c layer) l.items q x none there))

-- and what has one of their ids is such a shape
here_where_among : (m : FinMap id_cmp items.Item) (c : CellId) (layer : List ℕ) (q : ItemId) (x : items.Item) → get m q ≡ Some x →
    (es : List (ItemId × items.Item)) → AllByRecursion (λ e. get m e.0 ≡ Some e.1) es → list_any (is_here q c layer) es ≡ true →
    lies (Layer c layer) q x ≡ true
here_where_among m c layer q x there [] found some = absurd (cc)
here_where_among m c layer q x there (e ∷ es) found some =
    by_test (is_here q c layer e) refl (here_where_among m c layer q x there es found.1) some where
      this : is_here q c layer e ≡ true → lies (Layer c layer) q x ≡ true
      this is =
          let parts = and_parts (eq_by_cmp id_cmp q e.0) (lies (Layer c layer) e.0 e.1) is in
          let key : q ≡ e.0 = same_key ids_exact q e.0 parts.0 in
          let value : Some x ≡ Some e.1 = sym there ∙ ap (get m) key ∙ found.0 in
          let item : x ≡ e.1 = cc in
          (λ i. lies (Layer c layer) (key i) (item i)) ∙ parts.1

      by_test : (b : Bool) → is_here q c layer e ≡ b → (list_any (is_here q c layer) es ≡ true → lies (Layer c layer) q x ≡ true) →
          (b || list_any (is_here q c layer) es) ≡ true → lies (Layer c layer) q x ≡ true
      by_test true is rest h = this is
      by_test false is rest h = rest h

pub lies_where_among : (l : Layout) (c : CellId) (layer : List ℕ) (q : ItemId) (x : items.Item) → item_at l q ≡ Some x →
    is_one_of (shape_ids l c layer) q ≡ true → lies (Layer c layer) q x ≡ true
unfolding shapes_in items_in
lies_where_among l c layer q x there among = here_where_among l.items c layer q x there (entries l.items)
    (entries_found ids_total l.items) (ids_lying q c layer (entries l.items) ∙ among)

-- once they are removed there is none
none_left : (l : Layout) (c : CellId) (layer : List ℕ) (q : ItemId) (x : items.Item) →
    get (put_all l.items (removals (shape_ids l c layer))) q ≡ Some x → lies (Layer c layer) q x ≡ true → ⊥
none_left l c layer q x there here =
    by_test (is_one_of (shape_ids l c layer) q) refl (sym (get-removed l.items (shape_ids l c layer) q) ∙ there) where
      by_test : (b : Bool) → is_one_of (shape_ids l c layer) q ≡ b → cond b None (get l.items q) ≡ Some x → ⊥
      by_test true is h = absurd (cc)
      by_test false is h = absurd (cc (sym is ∙ among_ids l c layer q x h here))

-- what is found is written over what stood before
found_over : (test : items.Item → Bool) (found before : Option items.Item) →
    ((x : items.Item) → before ≡ Some x → test x ≡ true → ⊥) → AreAlike test (unwrap_or (option_map Some found) before) found
found_over test (Some item) before none = record { forth = λ x e t. e; back = λ x e t. e }
found_over test None before none = record { forth = λ x e t. absurd (none x e t); back = λ x e t. absurd (cc) }

module _ (l : Layout) (new : ItemId) (cell : CellId) (out : List ℕ) (shapes : List Rings) where
  abbrev pub made : List (ItemId × items.Item)
  made = drawn_from new cell out shapes

  -- a layout of the new shapes alone
  abbrev alone : Layout
  alone = record { symbols = finite.empty; items = from_sorted made }

  abbrev pub left : FinMap id_cmp items.Item
  left = put_all l.items (removals (shape_ids l cell out))

  abbrev pub behind : Layout
  behind = rewritten l (removals (shape_ids l cell out) ++ new_shapes new cell out shapes) []

  pub item_behind : (q : ItemId) → item_at behind q ≡ unwrap_or (option_map Some (find id_cmp q made)) (get left q)
  item_behind q =
      ap (λ (m : FinMap id_cmp items.Item). get m q)
      (put_all-append l.items (removals (shape_ids l cell out)) (new_shapes new cell out shapes))
      ∙ get-put_all ids_total left (new_shapes new cell out shapes) q
      ∙ ap (λ ws. unwrap_or (write_at id_cmp q ws) (get left q)) (writes_of new cell out shapes)
      ∙ ap (λ o. unwrap_or o (get left q)) (write_at-entries made (drawn_sorted new cell out shapes) q)

  item_alone : (q : ItemId) → item_at alone q ≡ find id_cmp q made
  item_alone q = get-from_sorted id_cmp made q (drawn_sorted new cell out shapes)

  -- it has the same of what lies there
  agrees : Agree behind alone (Layer cell out)
  agrees = record {
    items = λ q. rw (item_behind q, item_alone q)
        (found_over (lies (Layer cell out) q) (find id_cmp q made) (get left q) (none_left l cell out q));
    symbols = λ number. record { forth = λ v e t. absurd (cc); back = λ v e t. absurd (cc) };
  }

  alone_has : shapes_in alone cell out ≡ numbered new shapes
  unfolding shapes_in items_in
  alone_has =
      ap (λ es. shapes_among out (standing_in cell es)) (entries-from_sorted id_cmp made (drawn_sorted new cell out shapes))
      ∙ shapes-drawn new cell out shapes

  pub shapes_behind : shapes_in behind cell out ≡ numbered new shapes
  shapes_behind = shapes_agree behind alone cell out agrees ∙ alone_has

-- an accepted operation has shapes, and writes them so
pub record IsReplaced (txn : TxnId) (run : Run) (op : Op) (cell : CellId) (a b out : List ℕ) (next : Done × Run) : Type 0 where
  pub shapes : List Rings
  pub some : bool_shapes run.layout op cell a b ≡ Ok shapes
  pub layout_is : rewritten run.layout (removals (shape_ids run.layout cell out) ++ new_shapes (next_id txn run) cell out shapes) []
      ≡ next.1.layout

pub replaced : (txn : TxnId) (run : Run) (op : Op) (cell : CellId) (a b out : List ℕ) (next : Done × Run) →
    effect txn (Combine op cell a b out) run ≡ Ok next → IsReplaced txn run op cell a b out next
unfolding plan
replaced txn run op cell a b out next h =
    let is = act_of txn (Combine op cell a b out) run next h in
    let parts = replaced_by (next_id txn run) (combination_in run.layout cell a b out)
    (bool_shapes run.layout op cell a b) is.act is.plan_is in
    record {
      shapes = parts.0;
      some = parts.1;
      layout_is = ap (λ (act : Act). rewritten run.layout act.items act.symbols) parts.2 ∙ ap (λ (n : Done × Run). n.1.layout) is.next_is;
    }

pub shapes_replaced : BooleansReplaceShapes
shapes_replaced txn run op cell a b out next h =
    let is = replaced txn run op cell a b out next h in (
      is.shapes,
      is.some,
      ap (λ l. shapes_in l cell out) (sym is.layout_is) ∙ shapes_behind run.layout (next_id txn run) cell out is.shapes,
    )
