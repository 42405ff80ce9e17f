-- What an operation on two layers reads below a cell: layouts that agree on its elements have the same there.
use Rattle.std.proofs.Common.{◌≡◌, Bool, true, false, ◌&&◌, cond, List, [], ◌∷◌, filter, refl, ap, sym, subst, ◌∙◌, Contains}
use Rattle.std.specs.Prelude.{ℕ, None, Some, if◌then◌else◌}
use Rattle.std.specs.FinMap.{entries}
use Rattle.std.specs.List.{AllByRecursion, cons_option, flat_map}
use Rattle.std.proofs.lemmas.Bool.Decides.{same_from_decides}
use Rattle.std.proofs.lemmas.Slice.Eq.{bytes_eq-Decides}
use Rattle.lay_point.specs.Same.{names_eq}
use Rattle.lay_cells.specs.declared.cell_id.CellId.{CellId}
use Rattle.lay_cells.specs.declared.cell_id.CellId.TheVariants.{Symbol}
use Rattle.lay_cells.specs.SameCell.{cell_eq}
use Rattle.lay_cells.specs.WalkLists.{IsWalk}
use Rattle.lay_cells.specs.Walks.{Walks}
use Rattle.lay_cells.specs.Walks.Walks.{goes, stays}
use Rattle.lay_cells.proofs.GraphLemmas.{cells_swapped}
use Rattle.lay_cells.proofs.AcyclicLemmas.{stands}
use Rattle.lay_layouts.specs.declared.id.ItemId.{ItemId}
use Rattle.lay_layouts.specs.declared.item.Item as items
use Rattle.lay_layouts.specs.declared.item.Item.TheVariants.{Placed, Shape}
use Rattle.lay_layouts.specs.Calls.{Call, calls_of}
use Rattle.lay_layouts.specs.IdOrder.{ids_exact, ids_total}
use Rattle.lay_layouts.specs.Items.{items_in, standing_in}
use Rattle.lay_layouts.specs.Layout.{Layout}
use Rattle.lay_layouts.specs.Lent.{LentCall, calls_in, calls_lent, shape_on, shapes_among, shapes_in}
use Rattle.lay_flat.specs.Ends.{end_of, target_of}
use Rattle.lay_items.specs.Graphs.{in_graph}
use Rattle.lay_flat.proofs.LayoutWalks.{standing-lent}
use Rattle.snap_chains.proofs.PathLemmas.{Contains-map}
use Rattle.lay_flat.specs.Laws.{HaveSameBelow}
use Rattle.txn_commands.specs.declared.element.Element.TheVariants.{Calls, Layer}
use Rattle.txn_commands.specs.Acts.{cell_elements, operands}
use Rattle.txn_commands.specs.Agreement.{Agree, AgreeOnEach}
use Rattle.txn_commands.specs.Lies.{lies}
use Rattle.txn_commands.specs.Reach.{reached}
use Rattle.txn_commands.proofs.Agreements.{same_is_cell}
use Rattle.txn_commands.proofs.Lists.{all_parts}
use Rattle.txn_commands.proofs.Lying.{filter-alike_maps}
use Rattle.txn_rules.proofs.Reach.{all_among, reached-walks}

pub names_swapped : (a b : List ℕ) → names_eq a b ≡ names_eq b a
names_swapped a b = same_from_decides (names_eq a b) (names_eq b a) (bytes_eq-Decides a b)
    ((λ h. sym ((bytes_eq-Decides b a).0 h)), (λ e. (bytes_eq-Decides b a).1 (sym e)))

-- the calls in a cell are what lies in its element
calls_lying : (c : CellId) (es : List (ItemId × items.Item)) →
    calls_lent (standing_in c es) ≡ calls_lent (filter (λ e. lies (Calls c) e.0 e.1) es)
calls_lying c [] = refl
calls_lying c ((id, Shape cell layer rings) ∷ es) = by_test (cell_eq cell c) ∙ calls_lying c es where
  by_test : (b : Bool) → calls_lent (cond b ((id, Shape cell layer rings) ∷ standing_in c es) (standing_in c es))
      ≡ calls_lent (standing_in c es)
  by_test true = refl
  by_test false = refl
calls_lying c ((id, Placed cell target turn) ∷ es) =
    by_test (cell_eq cell c) (calls_lying c es)
    ∙ ap (λ b. calls_lent (cond b ((id, Placed cell target turn) ∷ lying) lying)) (cells_swapped cell c) where
      lying : List (ItemId × items.Item)
      lying = filter (λ e. lies (Calls c) e.0 e.1) es

      by_test : (b : Bool) → calls_lent (standing_in c es) ≡ calls_lent lying →
          calls_lent (cond b ((id, Placed cell target turn) ∷ standing_in c es) (standing_in c es))
          ≡ calls_lent (cond b ((id, Placed cell target turn) ∷ lying) lying)
      by_test true rest = ap (λ (calls : List LentCall). (id, target, turn) ∷ calls) rest
      by_test false rest = rest

-- and so are its shapes on a layer
shapes_lying : (c : CellId) (layer : List ℕ) (es : List (ItemId × items.Item)) →
    shapes_among layer (standing_in c es) ≡ shapes_among layer (filter (λ e. lies (Layer c layer) e.0 e.1) es)
shapes_lying c layer [] = refl
shapes_lying c layer ((id, Placed cell target turn) ∷ es) = by_test (cell_eq cell c) ∙ shapes_lying c layer es where
  by_test : (b : Bool) → shapes_among layer (cond b ((id, Placed cell target turn) ∷ standing_in c es) (standing_in c es))
      ≡ shapes_among layer (standing_in c es)
  by_test true = refl
  by_test false = refl
shapes_lying c layer ((id, Shape cell name rings) ∷ es) =
    by_tests (cell_eq cell c) (names_eq name layer) refl (shapes_lying c layer es)
    ∙ (λ i. shapes_among layer
    (cond (cells_swapped cell c i && names_swapped name layer i) ((id, Shape cell name rings) ∷ lying) lying)) where
      lying : List (ItemId × items.Item)
      lying = filter (λ e. lies (Layer c layer) e.0 e.1) es

      by_tests : (b n : Bool) → names_eq name layer ≡ n → shapes_among layer (standing_in c es) ≡ shapes_among layer lying →
          shapes_among layer (cond b ((id, Shape cell name rings) ∷ standing_in c es) (standing_in c es))
          ≡ shapes_among layer (cond (b && n) ((id, Shape cell name rings) ∷ lying) lying)
      by_tests true true is rest = ap (cons_option (shape_on layer id (Shape cell name rings))) rest
      by_tests true false is rest =
          ap (λ n. cons_option (if n then Some (id, rings) else None) (shapes_among layer (standing_in c es))) is ∙ rest
      by_tests false n is rest = rest

pub calls_agree : (l m : Layout) (c : CellId) → Agree l m (Calls c) → calls_in l c ≡ calls_in m c
unfolding calls_in items_in
calls_agree l m c agree =
    calls_lying c (entries l.items)
    ∙ ap calls_lent (filter-alike_maps ids_total ids_exact (lies (Calls c)) l.items m.items agree.items)
    ∙ sym (calls_lying c (entries m.items))

pub shapes_agree : (l m : Layout) (c : CellId) (layer : List ℕ) → Agree l m (Layer c layer) → shapes_in l c layer ≡ shapes_in m c layer
unfolding shapes_in items_in
shapes_agree l m c layer agree =
    shapes_lying c layer (entries l.items)
    ∙ ap (shapes_among layer) (filter-alike_maps ids_total ids_exact (lies (Layer c layer)) l.items m.items agree.items)
    ∙ sym (shapes_lying c layer (entries m.items))

-- where a list of calls is a walk it leads to its end
leads : (l : Layout) (cell : CellId) (walk : List LentCall) → IsWalk (calls_in l) target_of cell walk →
    Walks (calls_of l) cell (end_of cell walk)
leads l cell [] is = stays
leads l cell (call ∷ walk) is = goes (called is.0) (leads l (Symbol call.1) walk is.1) where
  called : Contains (calls_in l cell) call → Contains (calls_of l) (cell, call.1)
  called here = (stands (calls_of l) cell (in_graph cell call)
      (subst (λ (cs : List Call). Contains cs (in_graph cell call)) (sym (standing-lent l cell))
      (Contains-map (in_graph cell) (calls_in l cell) call here))).0

-- agreement on what is read in each of these cells
each_cell : (l m : Layout) (a b : List ℕ) (cells : List CellId) → AgreeOnEach l m (flat_map (operands a b) cells) →
    AllByRecursion (λ c. AgreeOnEach l m (operands a b c)) cells
each_cell l m a b [] agree = tt
each_cell l m a b (c ∷ cells) agree =
    let parts = all_parts (Agree l m) (operands a b c) (flat_map (operands a b) cells) agree in
    (parts.0, each_cell l m a b cells parts.1)

-- what is read at the end of a walk
pub read_at : (l m : Layout) (a b : List ℕ) (cell : CellId) → AgreeOnEach l m (flat_map (operands a b) (reached l cell)) →
    (walk : List LentCall) → IsWalk (calls_in l) target_of cell walk → AgreeOnEach l m (operands a b (end_of cell walk))
read_at l m a b cell agree walk is =
    all_among (λ c. AgreeOnEach l m (operands a b c)) (reached l cell) (each_cell l m a b (reached l cell) agree) (end_of cell walk)
    ((reached-walks (calls_of l) cell (end_of cell walk)).1 (leads l cell walk is))

module _ (l m : Layout) (cell : CellId) (a b : List ℕ) (there : AgreeOnEach l m (cell_elements cell))
    (agree : AgreeOnEach l m (flat_map (operands a b) (reached l cell))) where
  pub same_first : HaveSameBelow l m cell a
  same_first = record {
    there = same_is_cell l m cell there;
    calls = λ walk is. calls_agree l m (end_of cell walk) (read_at l m a b cell agree walk is).0;
    shapes = λ walk is. shapes_agree l m (end_of cell walk) a (read_at l m a b cell agree walk is).1.0;
  }

  pub same_second : HaveSameBelow l m cell b
  same_second = record {
    there = same_is_cell l m cell there;
    calls = λ walk is. calls_agree l m (end_of cell walk) (read_at l m a b cell agree walk is).0;
    shapes = λ walk is. shapes_agree l m (end_of cell walk) b (read_at l m a b cell agree walk is).1.1.0;
  }
