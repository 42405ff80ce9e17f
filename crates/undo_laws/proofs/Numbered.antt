-- Shapes under ids in a row: as entries of a map, in order, and as the writes that make them.
use Rattle.std.proofs.Common.{◌≡◌, ℕ, ◌+◌, Bool, true, false, ◌||◌, cond, T, List, [], ◌∷◌, map, Option, None, Some}
use Rattle.std.proofs.Common.{option_map, refl, ap, ◌∙◌, arith}
use Rattle.std.specs.declared.cmp.Ordering.TheVariants.{Less}
use Rattle.std.specs.Cmp.{nat_cmp_total, tied_itself}
use Rattle.std.specs.FinMap.{find, is_sorted}
use Rattle.std.specs.FinMap.Entries.{below_all}
use Rattle.std.specs.List.{AllByRecursion, list_any}
use Rattle.std.specs.Ordering.{eq_by_cmp, is_eq, nat_cmp, ordering_then}
use Rattle.lay_point.specs.declared.point.Point.{Point}
use Rattle.lay_point.specs.Same.{names_eq}
use Rattle.lay_cells.specs.declared.cell_id.CellId.{CellId}
use Rattle.lay_cells.specs.SameCell.{cell_eq, cell_eq-Decides}
use Rattle.lay_layouts.specs.declared.id.ItemId.{ItemId}
use Rattle.lay_layouts.specs.declared.item.Item as items
use Rattle.lay_layouts.specs.declared.item.Item.TheVariants.{Shape}
use Rattle.lay_layouts.specs.IdOrder.{ids_exact, ids_total}
use Rattle.lay_layouts.specs.Ids.{id_cmp}
use Rattle.lay_layouts.specs.Items.{standing_in}
use Rattle.lay_layouts.specs.Layout.{AreRising, Write}
use Rattle.lay_layouts.specs.Lent.{LentShape, shapes_among}
use Rattle.lay_layouts.proofs.SlotLemmas.{lesser}
use Rattle.std.proofs.lemmas.Slice.Eq.{bytes_eq-Decides}
use Rattle.bool_rules.specs.Shapes.{Rings}
use Rattle.txn_commands.specs.Acts.{id_after, new_shapes}
use Rattle.txn_commands.proofs.Lying.{all_below, first_of_two, second_of_two}
use Rattle.txn_commands.proofs.Maps.{later, same_key, write_at}
use Rattle.txn_commands.proofs.Steps.{sorted_again}
use Rattle.undo_laws.specs.Laws.{numbered}

-- the items of a layout that are these shapes of a cell on a layer
abbrev pub drawn_from : ItemId → CellId → List ℕ → List Rings → List (ItemId × items.Item)
drawn_from new cell layer [] = []
drawn_from new cell layer (rings ∷ shapes) = (new, Shape cell layer rings) ∷ drawn_from (id_after new) cell layer shapes

-- the writes that make them
pub writes_of : (new : ItemId) (cell : CellId) (layer : List ℕ) (shapes : List Rings) →
    new_shapes new cell layer shapes ≡ map {B = Write} (λ e. (e.0, Some e.1)) (drawn_from new cell layer shapes)
writes_of new cell layer [] = refl
writes_of new cell layer (rings ∷ shapes) =
    ap (λ (ws : List Write). (new, Some (Shape cell layer rings)) ∷ ws) (writes_of (id_after new) cell layer shapes)

-- an id is before the one behind it
id_before : (id : ItemId) → id_cmp id (id_after id) ≡ Less
id_before id =
    ap (λ o. ordering_then o (ordering_then (nat_cmp id.txn id.txn) (nat_cmp id.seq (id.seq + 1)))) (tied_itself nat_cmp_total id.session)
    ∙ ap (λ o. ordering_then o (nat_cmp id.seq (id.seq + 1))) (tied_itself nat_cmp_total id.txn)
    ∙ lesser id.seq (id.seq + 1) (omega arith)

drawn_rising : (new : ItemId) (cell : CellId) (layer : List ℕ) (shapes : List Rings) → AreRising id_cmp (drawn_from new cell layer shapes)
drawn_rising new cell layer [] = tt
drawn_rising new cell layer (rings ∷ []) = tt
drawn_rising new cell layer (rings ∷ next ∷ shapes) = (id_before new, drawn_rising (id_after new) cell layer (next ∷ shapes))

pub drawn_sorted : (new : ItemId) (cell : CellId) (layer : List ℕ) (shapes : List Rings) →
    T (is_sorted id_cmp (drawn_from new cell layer shapes))
drawn_sorted new cell layer shapes = sorted_again id_cmp ids_total (drawn_from new cell layer shapes) (drawn_rising new cell layer shapes)

-- an id before all others isn't found among them
none_below : (q : ItemId) (es : List (ItemId × items.Item)) → AllByRecursion (λ e. id_cmp q e.0 ≡ Less) es → find id_cmp q es ≡ None
none_below q [] below = refl
none_below q (e ∷ es) below = ap (λ o. cond (is_eq o) (Some e.1) (find id_cmp q es)) below.0 ∙ none_below q es below.1

-- what the writes of entries in order leave under an id is what is found among the entries
pub write_at-entries : (es : List (ItemId × items.Item)) → T (is_sorted id_cmp es) → (q : ItemId) →
    write_at id_cmp q (map {B = Write} (λ e. (e.0, Some e.1)) es) ≡ option_map Some (find id_cmp q es)
write_at-entries [] sorted q = refl
write_at-entries (e ∷ es) sorted q =
    ap (λ o. later o (eq_by_cmp id_cmp q e.0) (Some e.1))
    (write_at-entries es (second_of_two (below_all id_cmp e.0 es) (is_sorted id_cmp es) sorted) q)
    ∙ by_key (eq_by_cmp id_cmp q e.0) refl where
      passed_on : (o : Option (Option items.Item)) → later o false (Some e.1) ≡ o
      passed_on None = refl
      passed_on (Some v) = refl

      by_key : (b : Bool) → eq_by_cmp id_cmp q e.0 ≡ b →
          later (option_map Some (find id_cmp q es)) b (Some e.1) ≡ option_map Some (cond b (Some e.1) (find id_cmp q es))
      by_key true is =
          let none : find id_cmp q es ≡ None = ap (λ k. find id_cmp k es) (same_key ids_exact q e.0 is)
          ∙ none_below e.0 es (all_below id_cmp e.0 es (first_of_two (below_all id_cmp e.0 es) (is_sorted id_cmp es) sorted)) in
          rw none refl
      by_key false is = passed_on (option_map Some (find id_cmp q es))

-- of these items alone the cell has the shapes on the layer, in this order
pub shapes-drawn : (new : ItemId) (cell : CellId) (layer : List ℕ) (shapes : List Rings) →
    shapes_among layer (standing_in cell (drawn_from new cell layer shapes)) ≡ numbered new shapes
shapes-drawn new cell layer [] = refl
shapes-drawn new cell layer (rings ∷ shapes) =
    by_tests (cell_eq cell cell) (names_eq layer layer) ((cell_eq-Decides cell cell).1 refl) refl ((bytes_eq-Decides layer layer).1 refl)
    (shapes-drawn (id_after new) cell layer shapes) where
      others : List (ItemId × items.Item)
      others = standing_in cell (drawn_from (id_after new) cell layer shapes)

      by_tests : (b n : Bool) → b ≡ true → names_eq layer layer ≡ n → n ≡ true →
          shapes_among layer others ≡ numbered (id_after new) shapes →
          shapes_among layer (cond b ((new, Shape cell layer rings) ∷ others) others) ≡ (new, rings) ∷ numbered (id_after new) shapes
      by_tests true true here is named rest = rw is (ap (λ (ss : List LentShape). (new, rings) ∷ ss) rest)
      by_tests true false here is named rest = absurd (cc)
      by_tests false n here is named rest = absurd (cc)

-- a test of the rings
pub any-numbered : (test : List (List Point) → Bool) (new : ItemId) (shapes : List Rings) →
    list_any (λ (shape : LentShape). test shape.1) (numbered new shapes) ≡ list_any test shapes
any-numbered test new [] = refl
any-numbered test new (rings ∷ shapes) = ap (λ b. test rings || b) (any-numbered test (id_after new) shapes)
