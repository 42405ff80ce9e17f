-- What is written with boxes is read as the layout, wrapped, but for where its rings begin and which way they run.
use Rattle.std.proofs.Common.{◌≡◌, ℕ, ◌+◌, Bool, true, false, cond, List, [], ◌∷◌, ◌++◌, map, Option, Some, refl, sym, subst}
use Rattle.std.specs.Prelude.{⊤}
use Rattle.std.specs.FinMap.{find, get-from_entries}
use Rattle.std.specs.List.{AllByRecursion, flat_map}
use Rattle.std.specs.Ordering.{eq_by_cmp}
use Rattle.std.proofs.lemmas.List.{map-append}
use Rattle.lay_point.specs.Bridges.{bridged}
use Rattle.lay_point.specs.Turns.{unturned}
use Rattle.lay_cells.specs.declared.cell_id.CellId.TheVariants.{Top}
use Rattle.lay_layouts.specs.declared.id.ItemId.{ItemId}
use Rattle.lay_layouts.specs.declared.item.Item.{Item}
use Rattle.lay_layouts.specs.declared.item.Item.TheVariants.{Placed, Shape}
use Rattle.lay_layouts.specs.IdOrder.{ids_total}
use Rattle.lay_layouts.specs.Ids.{id_cmp}
use Rattle.lay_layouts.specs.Layout.{Layout, item_at}
use Rattle.lay_layouts.specs.LayoutWith.{layout_with, numbered_from, text_id}
use Rattle.cif_read.specs.declared.element.Figure.TheVariants.{Call}
use Rattle.cif_layout.specs.FromCif.{item_of}
use Rattle.cif_write.specs.declared.boxes.Rectangles.{Rectangles}
use Rattle.cif_write.specs.declared.boxes.Rectangles.TheVariants.{Boxes}
use Rattle.cif_write.specs.Boxes.{text_as}
use Rattle.cif_write.specs.Wrap.{Definition, Written, as_written, items_written, wrap, written}
use Rattle.cif_laws.specs.Laws.{BoxesAreReadBack, FitsText, IsAnsweredAlike, IsReadAlike}
use Rattle.cif_laws.specs.SameRings.{IsSameFound, IsSameItem, IsSameLayout}
use Rattle.cif_laws.proofs.BoxLines.{figure_of, ring_as}
use Rattle.cif_laws.proofs.LinesLead.{AreWritable, IsWritable, element_of, elements_of, elements_written, symbol_of}
use Rattle.cif_laws.proofs.ReadBack.{LeadsToWritten, layout_read, read_with, text_leads}
use Rattle.cif_laws.proofs.WrittenSymbols.{written_well}

-- ---- item by item

-- each item is the same as the other at its place
abbrev AreSameItems : List Item → List Item → Type 0
AreSameItems [] [] = ⊤
AreSameItems [] (other ∷ others) = ⊥
AreSameItems (item ∷ items) [] = ⊥
AreSameItems (item ∷ items) (other ∷ others) = IsSameItem item other × AreSameItems items others

same-append : (xs ys us vs : List Item) → AreSameItems xs ys → AreSameItems us vs → AreSameItems (xs ++ us) (ys ++ vs)
same-append [] [] us vs p q = q
same-append [] (y ∷ ys) us vs p q = absurd p
same-append (x ∷ xs) [] us vs p q = absurd p
same-append (x ∷ xs) (y ∷ ys) us vs p q = (p.0, same-append xs ys us vs p.1 q)

item_same : (way : Rectangles) (number : ℕ) (item : Item) → IsWritable item
    → IsSameItem (as_written number item) (item_of (element_of way number item))
item_same way number (Shape cell layer rings) may =
    (ring_as way (bridged rings) ∷ [], refl, ((figure_of way (bridged rings) may.1).same, tt))
item_same way number (Placed cell target turn) may = refl

held_same : (way : Rectangles) (number : ℕ) (items : List Item) → AllByRecursion IsWritable items
    → AreSameItems (map (as_written number) items) (map item_of (map (element_of way number) items))
held_same way number [] may = tt
held_same way number (item ∷ items) may = (item_same way number item may.0, held_same way number items may.1)

definitions_same : (way : Rectangles) (ds : List Definition) (symbols : List ℕ) → AreWritable symbols ds
    → AreSameItems (flat_map (λ (d : Definition). map (as_written d.number) d.items) ds) (map item_of (flat_map (elements_of way) ds))
definitions_same way [] symbols may = tt
definitions_same way (d ∷ ds) symbols may =
    let rest = flat_map (λ (e : Definition). map (as_written e.number) e.items) ds in
    subst (AreSameItems (map (as_written d.number) d.items ++ rest))
    (sym (map-append item_of (elements_of way d) (flat_map (elements_of way) ds)))
    (same-append (map (as_written d.number) d.items) (map item_of (elements_of way d)) rest (map item_of (flat_map (elements_of way) ds))
    (held_same way d.number d.items may.1) (definitions_same way ds (symbols ++ d.number ∷ []) may.2))

file_same : (way : Rectangles) (file : Written) → AreWritable [] file.definitions
    → AreSameItems (items_written file) (map item_of (elements_written way file))
file_same way file may =
    let own = flat_map (λ (d : Definition). map (as_written d.number) d.items) file.definitions in
    let call = Placed Top file.called unturned ∷ [] in
    subst (AreSameItems (own ++ call))
    (sym (map-append item_of (flat_map (elements_of way) file.definitions)
    (record { cell = Top; figure = Call file.called unturned } ∷ [])))
    (same-append own (map item_of (flat_map (elements_of way) file.definitions)) call call (definitions_same way file.definitions [] may)
    (refl, tt))

-- ---- layouts

found_same : (id : ItemId) (k : ℕ) (items others : List Item) → AreSameItems items others
    → IsSameFound (find id_cmp id (numbered_from k items)) (find id_cmp id (numbered_from k others))
found_same id k [] [] same = refl
found_same id k [] (other ∷ others) same = absurd same
found_same id k (item ∷ items) [] same = absurd same
found_same id k (item ∷ items) (other ∷ others) same =
    by (eq_by_cmp id_cmp id (text_id k)) (found_same id (k + 1) items others same.1) where
      by : (t : Bool) → IsSameFound (find id_cmp id (numbered_from (k + 1) items)) (find id_cmp id (numbered_from (k + 1) others))
          → IsSameFound (cond t (Some item) (find id_cmp id (numbered_from (k + 1) items)))
          (cond t (Some other) (find id_cmp id (numbered_from (k + 1) others)))
      by true rest = (other, refl, same.0)
      by false rest = rest

item_at-with : (numbers : List ℕ) (items : List Item) (id : ItemId)
    → item_at (layout_with numbers items) id ≡ find id_cmp id (numbered_from 1 items)
item_at-with numbers items id = get-from_entries ids_total (numbered_from 1 items) id

layouts_same : (numbers : List ℕ) (items others : List Item) → AreSameItems items others
    → IsSameLayout (layout_with numbers items) (layout_with numbers others)
layouts_same numbers items others same = record {
  symbols = refl;
  items = λ id. subst (λ (o : Option Item). IsSameFound (item_at (layout_with numbers items) id) o) (sym (item_at-with numbers others id))
      (subst (λ (o : Option Item). IsSameFound o (find id_cmp id (numbered_from 1 others))) (sym (item_at-with numbers items id))
      (found_same id 1 items others same));
}

-- ---- the law

read_same : (way : Rectangles) (layout : Layout) → FitsText layout → IsSameLayout (wrap layout) (layout_read way layout)
read_same way layout may =
    let well = written_well layout may.sound may.named may.room in
    layouts_same (map symbol_of (written layout).definitions) (items_written (written layout))
    (map item_of (elements_written way (written layout))) (file_same way (written layout) well.definitions)

pub read_alike : (way : Rectangles) (layout : Layout) → FitsText layout → (bytes : List ℕ) → LeadsToWritten way layout bytes
    → IsReadAlike layout bytes × IsAnsweredAlike layout bytes
read_alike way layout may bytes leads = read_with (IsSameLayout (wrap layout)) way layout may bytes leads (read_same way layout may)

pub boxes_back : BoxesAreReadBack
boxes_back layout may = read_alike Boxes layout may (text_as Boxes layout) (text_leads Boxes layout may)
