-- The wrapped layout is written as the layout was.
use Rattle.std.proofs.Common.{◌≡◌, ℕ, ◌+◌, Bool, true, false, cond, ◌||◌, List, [], ◌∷◌, ◌++◌}
use Rattle.std.proofs.Common.{map, Option, None, refl, sym, ap, ◌∙◌, append-nil, nat_eq}
use Rattle.std.specs.List.{AllByRecursion, IsDistinct, filter, flat_map}
use Rattle.std.proofs.lemmas.Bool.Decides.{Decides-eqb}
use Rattle.std.proofs.lemmas.List.Elements.{filter-append}
use Rattle.std.proofs.lemmas.List.Folds.{list_any-append}
use Rattle.lay_point.specs.Bridges.{bridged}
use Rattle.lay_point.specs.Turns.{unturned}
use Rattle.lay_point.proofs.BridgeLemmas.{bridged_one}
use Rattle.lay_cells.specs.declared.cell_id.CellId.{CellId}
use Rattle.lay_cells.specs.declared.cell_id.CellId.TheVariants.{Symbol, Top}
use Rattle.lay_cells.specs.SameCell.{cell_eq}
use Rattle.lay_cells.specs.Symbols.{has_symbol}
use Rattle.lay_layouts.specs.declared.id.ItemId.{ItemId}
use Rattle.lay_layouts.specs.declared.item.Item.{Item}
use Rattle.lay_layouts.specs.declared.item.Item.TheVariants.{Placed, Shape}
use Rattle.lay_layouts.specs.Items.{cell_of, items_in}
use Rattle.lay_layouts.specs.Layout.{Layout}
use Rattle.lay_layouts.specs.LayoutWith.{numbered_from, text_id}
use Rattle.lay_layouts.specs.SlotOrder.{in_slot_order}
use Rattle.lay_items.proofs.NumberedLemmas.{entries-numbered}
use Rattle.lay_items.proofs.Reaching.{other_way}
use Rattle.lay_layouts.proofs.SlotLemmas.{in_slot_order-placed}
use Rattle.cif_write.specs.Lines.{Call, End, Finish, Start, lines_text}
use Rattle.cif_write.specs.Text.{definitions_lines, file_lines, item_lines, items_lines, layer_after, path_lines, text}
use Rattle.cif_write.specs.Wrap.{Definition, Written, as_written, held_in, items_written, written_definition}
use Rattle.cif_write.specs.Wrap.{least_unused, own_definitions, plain_target, wrap, written, written_with}
use Rattle.cif_laws.specs.Laws.{WhatIsReadIsWrittenTheSame}
use Rattle.cif_laws.proofs.LinesLead.{AreWritable, IsWritable, symbol_of}
use Rattle.cif_laws.proofs.WrittenSymbols.{written_well}

-- ---- what a cell of the wrapped layout holds

abbrev stands_in : CellId → Item → Bool
stands_in cell item = cell_eq (cell_of item) cell

numbered-standing : (cell : CellId) (k : ℕ) (items : List Item)
    → map (λ (e : ItemId × Item). e.1) (filter (λ e. stands_in cell e.1) (numbered_from k items)) ≡ filter (stands_in cell) items
numbered-standing cell k [] = refl
numbered-standing cell k (item ∷ items) = by (stands_in cell item) (numbered-standing cell (k + 1) items) where
  by : (b : Bool) → map (λ (e : ItemId × Item). e.1) (filter (λ e. stands_in cell e.1) (numbered_from (k + 1) items))
      ≡ filter (stands_in cell) items
      → map (λ (e : ItemId × Item). e.1)
      (cond b ((text_id k, item) ∷ filter (λ e. stands_in cell e.1) (numbered_from (k + 1) items))
      (filter (λ e. stands_in cell e.1) (numbered_from (k + 1) items)))
      ≡ cond b (item ∷ filter (stands_in cell) items) (filter (stands_in cell) items)
  by true rest = ap (λ is. item ∷ is) rest
  by false rest = rest

wrap-held : (layout : Layout) (cell : CellId) → held_in (wrap layout) cell ≡ filter (stands_in cell) (items_written (written layout))
unfolding items_in
wrap-held layout cell =
    let items = items_written (written layout) in
    ap (λ (es : List (ItemId × Item)). map (λ (e : ItemId × Item). e.1) (filter (λ e. stands_in cell e.1) es)) (entries-numbered 1 items)
    ∙ numbered-standing cell 1 items

-- ---- the items of each definition

-- a definition's items as they are written
abbrev items_again : Definition → List Item
items_again d = map (as_written d.number) d.items

same_cell : (number : ℕ) (item : Item) → cell_of (as_written number item) ≡ Symbol number
same_cell number (Shape cell layer rings) = refl
same_cell number (Placed cell target turn) = refl

all_stand : (number : ℕ) (items : List Item) → filter (stands_in (Symbol number)) (map (as_written number) items)
    ≡ map (as_written number) items
all_stand number [] = refl
all_stand number (item ∷ items) =
    let rest = filter (stands_in (Symbol number)) (map (as_written number) items) in
    ap (λ c. cond (cell_eq c (Symbol number)) (as_written number item ∷ rest) rest) (same_cell number item)
    ∙ ap (λ b. cond b (as_written number item ∷ rest) rest) ((Decides-eqb number number).1 refl)
    ∙ ap (λ is. as_written number item ∷ is) (all_stand number items)

none_stand : (number other : ℕ) (items : List Item) → nat_eq number other ≡ false
    → filter (stands_in (Symbol other)) (map (as_written number) items) ≡ []
none_stand number other [] apart = refl
none_stand number other (item ∷ items) apart =
    let rest = filter (stands_in (Symbol other)) (map (as_written number) items) in
    ap (λ c. cond (cell_eq c (Symbol other)) (as_written number item ∷ rest) rest) (same_cell number item)
    ∙ ap (λ b. cond b (as_written number item ∷ rest) rest) apart ∙ none_stand number other items apart

-- none of the definitions of other symbols
others_stand : (number : ℕ) (ds : List Definition) → AllByRecursion (λ n. nat_eq number n ≡ false) (map symbol_of ds)
    → filter (stands_in (Symbol number)) (flat_map items_again ds) ≡ []
others_stand number [] apart = refl
others_stand number (d ∷ ds) apart =
    filter-append (stands_in (Symbol number)) (items_again d) (flat_map items_again ds)
    ∙ ap (λ is. is ++ filter (stands_in (Symbol number)) (flat_map items_again ds))
    (none_stand d.number number d.items (other_way number d.number apart.0)) ∙ others_stand number ds apart.1

each_stands : (ds : List Definition) → IsDistinct nat_eq (map symbol_of ds)
    → AllByRecursion (λ d. filter (stands_in (Symbol d.number)) (flat_map items_again ds) ≡ items_again d) ds
unfolding IsDistinct
each_stands [] distinct = tt
each_stands (d ∷ ds) distinct = (
  filter-append (stands_in (Symbol d.number)) (items_again d) (flat_map items_again ds)
      ∙ (λ i. all_stand d.number d.items i ++ others_stand d.number ds distinct.0 i) ∙ append-nil (items_again d),
  more ds distinct.0 (each_stands ds distinct.1),
) where
  more : (es : List Definition) → AllByRecursion (λ n. nat_eq d.number n ≡ false) (map symbol_of es)
      → AllByRecursion (λ e. filter (stands_in (Symbol e.number)) (flat_map items_again ds) ≡ items_again e) es
      → AllByRecursion (λ e. filter (stands_in (Symbol e.number)) (items_again d ++ flat_map items_again ds) ≡ items_again e) es
  more [] apart h = tt
  more (e ∷ es) apart h = (
    filter-append (stands_in (Symbol e.number)) (items_again d) (flat_map items_again ds)
        ∙ ap (λ is. is ++ filter (stands_in (Symbol e.number)) (flat_map items_again ds))
        (none_stand d.number e.number d.items apart.0) ∙ h.0,
    more es apart.1 h.1,
  )

-- none of them stands in the top cell
top_stands : (ds : List Definition) → filter (stands_in Top) (flat_map items_again ds) ≡ []
top_stands [] = refl
top_stands (d ∷ ds) =
    filter-append (stands_in Top) (items_again d) (flat_map items_again ds) ∙ (λ i. none d.number d.items i ++ top_stands ds i) where
      none : (number : ℕ) (items : List Item) → filter (stands_in Top) (map (as_written number) items) ≡ []
      none number [] = refl
      none number (item ∷ items) =
          let rest = filter (stands_in Top) (map (as_written number) items) in
          ap (λ c. cond (cell_eq c Top) (as_written number item ∷ rest) rest) (same_cell number item) ∙ none number items

-- ---- what is written of the wrapped layout

definition_again : Definition → Definition
definition_again d = record { number = d.number; items = items_again d }

definitions_again : (layout : Layout) (file : Written) (ds : List Definition)
    → ((n : ℕ) → held_in layout (Symbol n) ≡ filter (stands_in (Symbol n)) (flat_map items_again file.definitions))
    → AllByRecursion (λ d. filter (stands_in (Symbol d.number)) (flat_map items_again file.definitions) ≡ items_again d) ds
    → map (written_definition layout) (map symbol_of ds) ≡ map definition_again ds
unfolding definition_again
definitions_again layout file [] held each = refl
definitions_again layout file (d ∷ ds) held each = λ i.
    record { number = d.number; items = (held d.number ∙ each.0) i } ∷ definitions_again layout file ds held each.1 i

-- ---- the numbers are distinct

behind_new : (symbols : List ℕ) (m n : ℕ) → has_symbol (symbols ++ m ∷ []) n ≡ false → (has_symbol symbols n ≡ false) × (nat_eq n m ≡ false)
behind_new symbols m n h = by (has_symbol symbols n) (nat_eq n m) (sym (list_any-append (nat_eq n) symbols (m ∷ [])) ∙ h) where
  by : (a b : Bool) → (a || (b || false)) ≡ false → (a ≡ false) × (b ≡ false)
  by true b e = absurd (let no : true ≡ false = e in cc)
  by false true e = absurd (let no : true ≡ false = e in cc)
  by false false e = (refl, refl)

all_new : (symbols ns : List ℕ) (m : ℕ) → AllByRecursion (λ n. has_symbol (symbols ++ m ∷ []) n ≡ false) ns
    → AllByRecursion (λ n. has_symbol symbols n ≡ false) ns × AllByRecursion (λ n. nat_eq m n ≡ false) ns
all_new symbols [] m h = (tt, tt)
all_new symbols (n ∷ ns) m h =
    let first = behind_new symbols m n h.0 in
    let rest = all_new symbols ns m h.1 in
    ((first.0, rest.0), (other_way n m first.1, rest.1))

numbers_new : (ds : List Definition) (symbols : List ℕ) → AreWritable symbols ds
    → AllByRecursion (λ n. has_symbol symbols n ≡ false) (map symbol_of ds)
numbers_new [] symbols may = tt
numbers_new (d ∷ ds) symbols may =
    (may.0.new, (all_new symbols (map symbol_of ds) d.number (numbers_new ds (symbols ++ d.number ∷ []) may.2)).0)

numbers_distinct : (ds : List Definition) (symbols : List ℕ) → AreWritable symbols ds → IsDistinct nat_eq (map symbol_of ds)
unfolding IsDistinct
numbers_distinct [] symbols may = tt
numbers_distinct (d ∷ ds) symbols may = (
  (all_new symbols (map symbol_of ds) d.number (numbers_new ds (symbols ++ d.number ∷ []) may.2)).1,
  numbers_distinct ds (symbols ++ d.number ∷ []) may.2,
)

-- ---- the lines

item_lines-again : (number : ℕ) (set : Option (List ℕ)) (item : Item) → IsWritable item
    → item_lines set (as_written number item) ≡ item_lines set item
item_lines-again number set (Shape cell layer rings) may = ap (path_lines set layer) (bridged_one (bridged rings) may.1)
item_lines-again number set (Placed cell target turn) may = refl

layer_after-again : (number : ℕ) (set : Option (List ℕ)) (item : Item) → layer_after set (as_written number item) ≡ layer_after set item
layer_after-again number set (Shape cell layer rings) = refl
layer_after-again number set (Placed cell target turn) = refl

items_lines-again : (number : ℕ) (set : Option (List ℕ)) (items : List Item) → AllByRecursion IsWritable items
    → items_lines set (map (as_written number) items) ≡ items_lines set items
items_lines-again number set [] may = refl
items_lines-again number set (item ∷ items) may =
    (λ i. item_lines-again number set item may.0 i ++ items_lines (layer_after-again number set item i) (map (as_written number) items))
    ∙ ap (λ ls. item_lines set item ++ ls) (items_lines-again number (layer_after set item) items may.1)

definitions_lines-again : (ds : List Definition) (symbols : List ℕ) → AreWritable symbols ds
    → definitions_lines (map definition_again ds) ≡ definitions_lines ds
unfolding definition_again
definitions_lines-again [] symbols may = refl
definitions_lines-again (d ∷ ds) symbols may = λ i.
    (Start d.number ∷ (items_lines-again d.number None d.items may.1 i ++ Finish ∷ []))
    ++ definitions_lines-again ds (symbols ++ d.number ∷ []) may.2 i

-- ---- the text

written_is : (layout : Layout) → written layout
    ≡ written_with (own_definitions layout) (held_in layout Top) (least_unused (in_slot_order layout.symbols))
    (plain_target (held_in layout Top))
unfolding written
written_is layout = refl

module _ (layout : Layout) (may : AreWritable [] (written layout).definitions) where
  ds : List Definition
  ds = (written layout).definitions

  symbols_again : in_slot_order (wrap layout).symbols ≡ map symbol_of ds
  unfolding ds
  symbols_again = in_slot_order-placed (map symbol_of ds) (numbers_distinct ds [] may)

  symbol_held : (n : ℕ) → held_in (wrap layout) (Symbol n) ≡ filter (stands_in (Symbol n)) (flat_map items_again ds)
  unfolding ds
  symbol_held n =
      wrap-held layout (Symbol n)
      ∙ filter-append (stands_in (Symbol n)) (flat_map items_again ds) (Placed Top (written layout).called unturned ∷ [])
      ∙ append-nil (filter (stands_in (Symbol n)) (flat_map items_again ds))

  top_held : held_in (wrap layout) Top ≡ Placed Top (written layout).called unturned ∷ []
  unfolding ds
  top_held =
      wrap-held layout Top
      ∙ filter-append (stands_in Top) (flat_map items_again ds) (Placed Top (written layout).called unturned ∷ [])
      ∙ ap (λ is. is ++ Placed Top (written layout).called unturned ∷ []) (top_stands ds)

  own_again : own_definitions (wrap layout) ≡ map definition_again ds
  unfolding ds
  own_again =
      ap (map (written_definition (wrap layout))) symbols_again
      ∙ definitions_again (wrap layout) (written layout) ds symbol_held (each_stands ds (numbers_distinct ds [] may))

  written-wrap : written (wrap layout) ≡ record { definitions = map definition_again ds; called = (written layout).called }
  written-wrap =
      written_is (wrap layout)
      ∙ (λ i. written_with (own_again i) (top_held i) (least_unused (symbols_again i)) (plain_target (top_held i)))

  text-wrap : text (wrap layout) ≡ text layout
  unfolding text ds
  text-wrap =
      ap (λ file. lines_text (file_lines file)) written-wrap
      ∙ ap (λ ls. lines_text (ls ++ Call (written layout).called unturned ∷ End ∷ [])) (definitions_lines-again ds [] may)

pub written_the_same : WhatIsReadIsWrittenTheSame
written_the_same layout fits = text-wrap layout (written_well layout fits.sound fits.named fits.room).definitions
