-- Records and footprints: a record is looked up by the few elements in which its values lie.
use Rattle.std.proofs.Common.{◌≡◌, ℕ, ◌==◌, Bool, false, ◌||◌, ◌&&◌, List, map, Option, None, Some, is_some}
use Rattle.std.proofs.Common.{refl, ap, sym, ◌∙◌}
use Rattle.std.proofs.lemmas.Bool.Decides.{Decides-and, Decides-eqb, Decides-like, same_from_decides}
use Rattle.std.proofs.lemmas.Slice.Eq.{bytes_eq-Decides}
use Rattle.std.specs.FinSet.{contains, items}
use Rattle.std.specs.List.{list_any}
use Rattle.lay_point.specs.Same.{names_eq}
use Rattle.lay_point.proofs.BoolLaws.{or-false}
use Rattle.lay_cells.specs.declared.cell_id.CellId.{CellId}
use Rattle.lay_cells.specs.declared.cell_id.CellId.TheVariants.{Symbol, Top}
use Rattle.lay_cells.specs.SameCell.{cell_eq, cell_eq-Decides}
use Rattle.lay_layouts.specs.declared.id.ItemId.{ItemId}
use Rattle.lay_layouts.specs.declared.item.Item as item
use Rattle.lay_layouts.specs.declared.item.Item.TheVariants.{Placed, Shape}
use Rattle.lay_layouts.specs.declared.slot.CellSlot.{CellSlot}
use Rattle.lay_layouts.specs.SameLayout.{id_eq, id_eq-Decides}
use Rattle.txn_commands.specs.declared.element.Element.{Element}
use Rattle.txn_commands.specs.declared.element.Element.TheVariants.{Calls, Cell, Content, Item, Layer, Uses}
use Rattle.txn_commands.specs.Changes.{Change}
use Rattle.txn_commands.specs.Elements.{Touched, element_eq}
use Rattle.txn_commands.specs.Lies.{lies, lies_slot, passes}
use Rattle.txn_commands.specs.Meets.{meets, meets_cell, meets_touched}
use Rattle.txn_commands.specs.Records.{cell_record_of, record_of}
use Rattle.txn_marks.specs.Homes.{content_elements, homes}
use Rattle.txn_marks.specs.Met.{are_met, is_item_met, is_symbol_met, symbols_are_met}
use Rattle.txn_marks.proofs.AnyLemmas.{and_or, any_alike, any_map, any_none, any_or, any_swap}
use Rattle.txn_marks.proofs.SetLemmas.{contains-back, element_eq-Decides}

-- elements of one kind are equal where their fields are
same_items : (a b : ItemId) → element_eq (Item a) (Item b) ≡ id_eq a b
same_items a b = same_from_decides (element_eq (Item a) (Item b)) (id_eq a b)
    (Decides-like {Q = a ≡ b} (element_eq (Item a) (Item b)) (λ e. cc) (λ e. ap Item e) (element_eq-Decides (Item a) (Item b)))
    (id_eq-Decides a b)

same_layers : (c d : CellId) (l m : List ℕ) → element_eq (Layer c l) (Layer d m) ≡ (cell_eq c d && names_eq l m)
same_layers c d l m = same_from_decides (element_eq (Layer c l) (Layer d m)) (cell_eq c d && names_eq l m)
    (Decides-like {Q = (c ≡ d) × (l ≡ m)} (element_eq (Layer c l) (Layer d m)) (λ e. (cc, cc)) (λ p. λ i. Layer (p.0 i) (p.1 i))
    (element_eq-Decides (Layer c l) (Layer d m)))
    (Decides-and _ _ (cell_eq-Decides c d) (bytes_eq-Decides l m))

same_calls : (c d : CellId) → element_eq (Calls c) (Calls d) ≡ cell_eq c d
same_calls c d = same_from_decides (element_eq (Calls c) (Calls d)) (cell_eq c d)
    (Decides-like {Q = c ≡ d} (element_eq (Calls c) (Calls d)) (λ e. cc) (λ e. ap Calls e) (element_eq-Decides (Calls c) (Calls d)))
    (cell_eq-Decides c d)

same_cells : (m n : ℕ) → element_eq (Cell m) (Cell n) ≡ (m == n)
same_cells m n = same_from_decides (element_eq (Cell m) (Cell n)) (m == n)
    (Decides-like {Q = m ≡ n} (element_eq (Cell m) (Cell n)) (λ e. cc) (λ e. ap Cell e) (element_eq-Decides (Cell m) (Cell n)))
    (Decides-eqb m n)

same_contents : (m n : ℕ) → element_eq (Content m) (Content n) ≡ cell_eq (Symbol m) (Symbol n)
same_contents m n = same_from_decides (element_eq (Content m) (Content n)) (cell_eq (Symbol m) (Symbol n))
    (Decides-like {Q = Symbol m ≡ Symbol n} (element_eq (Content m) (Content n)) (λ e. cc) (λ e. cc)
    (element_eq-Decides (Content m) (Content n)))
    (cell_eq-Decides (Symbol m) (Symbol n))

same_uses : (m n : ℕ) → element_eq (Uses m) (Uses n) ≡ (m == n)
same_uses m n = same_from_decides (element_eq (Uses m) (Uses n)) (m == n)
    (Decides-like {Q = m ≡ n} (element_eq (Uses m) (Uses n)) (λ e. cc) (λ e. ap Uses e) (element_eq-Decides (Uses m) (Uses n)))
    (Decides-eqb m n)

-- an item is in the content of its cell alone
in_content : (n : ℕ) (cell : CellId) → cell_eq (Symbol n) cell ≡ list_any (element_eq (Content n)) (content_elements cell)
in_content n Top = refl
in_content n (Symbol m) = sym (or-false (element_eq (Content n) (Content m)) ∙ same_contents n m)

no_item : (a : ItemId) (cell : CellId) → list_any (element_eq (Item a)) (content_elements cell) ≡ false
no_item a Top = refl
no_item a (Symbol m) = refl

no_layer : (c : CellId) (l : List ℕ) (cell : CellId) → list_any (element_eq (Layer c l)) (content_elements cell) ≡ false
no_layer c l Top = refl
no_layer c l (Symbol m) = refl

no_calls : (c cell : CellId) → list_any (element_eq (Calls c)) (content_elements cell) ≡ false
no_calls c Top = refl
no_calls c (Symbol m) = refl

no_cell : (n : ℕ) (cell : CellId) → list_any (element_eq (Cell n)) (content_elements cell) ≡ false
no_cell n Top = refl
no_cell n (Symbol m) = refl

no_uses : (n : ℕ) (cell : CellId) → list_any (element_eq (Uses n)) (content_elements cell) ≡ false
no_uses n Top = refl
no_uses n (Symbol m) = refl

-- the same test, with nothing behind it
alone : (a b rest : Bool) → a ≡ b → rest ≡ false → b ≡ (a || rest)
alone a b rest same none = sym same ∙ sym (ap (λ r. a || r) none ∙ or-false a)

-- an item lies in the elements that are its homes, and in no other
pub lies-homes : (e : Element) (id : ItemId) (v : item.Item) → lies e id v ≡ list_any (element_eq e) (homes id v)
lies-homes (Item a) id (Shape cell layer rings) = alone _ _ _ (same_items a id) (no_item a cell)
lies-homes (Item a) id (Placed cell target turn) = alone _ _ _ (same_items a id) (no_item a cell)
lies-homes (Layer c l) id (Shape cell layer rings) = alone _ _ _ (same_layers c cell l layer) (no_layer c l cell)
lies-homes (Layer c l) id (Placed cell target turn) = sym (no_layer c l cell)
lies-homes (Calls c) id (Shape cell layer rings) = sym (no_calls c cell)
lies-homes (Calls c) id (Placed cell target turn) = alone _ _ _ (same_calls c cell) (no_calls c cell)
lies-homes (Cell n) id (Shape cell layer rings) = sym (no_cell n cell)
lies-homes (Cell n) id (Placed cell target turn) = sym (no_cell n cell)
lies-homes (Content n) id (Shape cell layer rings) = in_content n cell
lies-homes (Content n) id (Placed cell target turn) = in_content n cell
lies-homes (Uses n) id (Shape cell layer rings) = sym (no_uses n cell)
lies-homes (Uses n) id (Placed cell target turn) = alone _ _ _ (same_uses n target) (no_uses n cell)

-- a slot lies in the element of its symbol, and in no other
pub lies_slot-home : (e : Element) (number : ℕ) (slot : CellSlot) → lies_slot e number slot ≡ element_eq e (Cell number)
lies_slot-home (Item a) number slot = refl
lies_slot-home (Layer c l) number slot = refl
lies_slot-home (Calls c) number slot = refl
lies_slot-home (Cell n) number slot = sym (same_cells n number)
lies_slot-home (Content n) number slot = refl
lies_slot-home (Uses n) number slot = refl

module _ (touched : Touched) where
  item_met : (id : ItemId) (o : Option item.Item) → list_any (λ e. passes (lies e id) o) (items touched) ≡ is_item_met touched id o
  item_met id None = any_none (items touched)
  item_met id (Some v) =
      any_alike (λ e. lies e id v) (λ e. list_any (element_eq e) (homes id v)) (items touched) (λ e. lies-homes e id v)
      ∙ any_swap element_eq (items touched) (homes id v)
      ∙ any_alike (λ h. list_any (λ e. element_eq e h) (items touched)) (contains touched) (homes id v) (contains-back touched)

  -- a footprint meets the record of an item
  change_met : (c : ItemId × Change item.Item) → list_any (λ e. meets e (record_of c)) (items touched)
      ≡ (is_item_met touched c.0 c.1.before || is_item_met touched c.0 c.1.after)
  change_met c =
      any_or (λ e. passes (lies e c.0) c.1.before) (λ e. passes (lies e c.0) c.1.after) (items touched)
      ∙ (λ i. item_met c.0 c.1.before i || item_met c.0 c.1.after i)

  slot_met : (number : ℕ) (o : Option CellSlot) → list_any (λ e. passes (lies_slot e number) o) (items touched)
      ≡ (is_some o && contains touched (Cell number))
  slot_met number None = any_none (items touched)
  slot_met number (Some slot) =
      any_alike (λ e. lies_slot e number slot) (λ e. element_eq e (Cell number)) (items touched) (λ e. lies_slot-home e number slot)
      ∙ contains-back touched (Cell number)

  -- and that of a symbol
  cell_change_met : (c : ℕ × Change CellSlot) → list_any (λ e. meets_cell e (cell_record_of c)) (items touched)
      ≡ is_symbol_met touched c.0 c.1
  cell_change_met c =
      any_or (λ e. passes (lies_slot e c.0) c.1.before) (λ e. passes (lies_slot e c.0) c.1.after) (items touched)
      ∙ (λ i. slot_met c.0 c.1.before i || slot_met c.0 c.1.after i)
      ∙ and_or (is_some c.1.before) (is_some c.1.after) (contains touched (Cell c.0))

  -- records that meet a footprint are found one by one
  pub touches_met : (changes : List (ItemId × Change item.Item)) (cells : List (ℕ × Change CellSlot)) →
      meets_touched (record { items = map record_of changes; symbols = map cell_record_of cells }) touched
      ≡ (are_met touched changes || symbols_are_met touched cells)
  touches_met changes cells =
      any_or (λ e. list_any (meets e) (map record_of changes)) (λ e. list_any (meets_cell e) (map cell_record_of cells)) (items touched)
      ∙ (λ i. of_items i || of_symbols i) where
        of_items : list_any (λ e. list_any (meets e) (map record_of changes)) (items touched) ≡ are_met touched changes
        of_items =
            any_swap meets (items touched) (map record_of changes)
            ∙ any_map (λ w. list_any (λ e. meets e w) (items touched)) record_of changes
            ∙ any_alike (λ c. list_any (λ e. meets e (record_of c)) (items touched))
            (λ c. is_item_met touched c.0 c.1.before || is_item_met touched c.0 c.1.after) changes change_met

        of_symbols : list_any (λ e. list_any (meets_cell e) (map cell_record_of cells)) (items touched) ≡ symbols_are_met touched cells
        of_symbols =
            any_swap meets_cell (items touched) (map cell_record_of cells)
            ∙ any_map (λ w. list_any (λ e. meets_cell e w) (items touched)) cell_record_of cells
            ∙ any_alike (λ c. list_any (λ e. meets_cell e (cell_record_of c)) (items touched)) (λ c. is_symbol_met touched c.0 c.1) cells
            cell_change_met
