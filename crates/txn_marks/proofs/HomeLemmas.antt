-- The elements that records meet are those in which their values lie.
use Rattle.std.proofs.Common.{◌≡◌, ℕ, Bool, true, false, ◌||◌, List, [], ◌∷◌, ◌++◌, cond, Option, None, Some, is_some}
use Rattle.std.proofs.Common.{refl, ap, sym, ◌∙◌}
use Rattle.std.specs.FinSet.{contains, contains-empty, contains-insert, insert}
use Rattle.std.specs.List.{flat_map, list_any}
use Rattle.std.proofs.lemmas.List.Folds.{list_any-append}
use Rattle.lay_point.proofs.BoolLaws.{or-false}
use Rattle.lay_layouts.specs.declared.id.ItemId.{ItemId}
use Rattle.lay_layouts.specs.declared.item.Item as item
use Rattle.lay_layouts.specs.declared.slot.CellSlot.{CellSlot}
use Rattle.txn_commands.specs.declared.element.Element.{Element}
use Rattle.txn_commands.specs.declared.element.Element.TheVariants.{Cell}
use Rattle.txn_commands.specs.declared.record.CellRecord.{CellRecord}
use Rattle.txn_commands.specs.declared.record.Record.{Record}
use Rattle.txn_commands.specs.Elements.{Touched, element_cmp, element_eq, elements_total, untouched, with_elements}
use Rattle.txn_commands.specs.Lies.{lies, lies_slot, passes}
use Rattle.txn_commands.specs.Meets.{meets, meets_cell, some_meets}
use Rattle.txn_commands.specs.Records.{Records}
use Rattle.txn_marks.specs.Homes.{cell_homes, homes_of, met_by, record_homes}
use Rattle.txn_marks.proofs.AnyLemmas.{any_alike, any_flat}
use Rattle.txn_marks.proofs.TouchLemmas.{lies-homes, lies_slot-home}

-- ---- what is met

value_met : (e : Element) (id : ItemId) (o : Option item.Item) → passes (lies e id) o ≡ list_any (element_eq e) (homes_of id o)
value_met e id None = refl
value_met e id (Some v) = lies-homes e id v

record_met : (e : Element) (w : Record) → meets e w ≡ list_any (element_eq e) (record_homes w)
record_met e w =
    (λ i. value_met e w.id w.before i || value_met e w.id w.after i)
    ∙ sym (list_any-append (element_eq e) (homes_of w.id w.before) (homes_of w.id w.after))

slot_met : (e : Element) (number : ℕ) (one other : Option CellSlot) →
    (passes (lies_slot e number) one || passes (lies_slot e number) other)
    ≡ list_any (element_eq e) (cond (is_some one || is_some other) (Cell number ∷ []) [])
slot_met e number None None = refl
slot_met e number None (Some slot) = lies_slot-home e number slot ∙ sym (or-false (element_eq e (Cell number)))
slot_met e number (Some slot) None = ap (λ b. b || false) (lies_slot-home e number slot)
slot_met e number (Some slot) (Some other) =
    (λ i. lies_slot-home e number slot i || lies_slot-home e number other i) ∙ twice (element_eq e (Cell number)) where
      twice : (b : Bool) → (b || b) ≡ (b || false)
      twice true = refl
      twice false = refl

cell_met : (e : Element) (w : CellRecord) → meets_cell e w ≡ list_any (element_eq e) (cell_homes w)
cell_met e w = slot_met e w.number w.before w.after

pub met_so : (records : Records) (e : Element) → some_meets records e ≡ list_any (element_eq e) (met_by records)
met_so records e =
    (λ i. any_alike (meets e) (λ w. list_any (element_eq e) (record_homes w)) records.items (record_met e) i
    || any_alike (meets_cell e) (λ w. list_any (element_eq e) (cell_homes w)) records.symbols (cell_met e) i)
    ∙ sym (λ i. any_flat (element_eq e) record_homes records.items i || any_flat (element_eq e) cell_homes records.symbols i)
    ∙ sym (list_any-append (element_eq e) (flat_map record_homes records.items) (flat_map cell_homes records.symbols))

-- ---- what is gathered

-- elements added one by one
pub added_more : (touched : Touched) (xs ys : List Element) → with_elements touched (xs ++ ys) ≡ with_elements (with_elements touched xs) ys
added_more touched [] ys = refl
added_more touched (x ∷ xs) ys = added_more (insert touched x) xs ys

last_first : (a b c : Bool) → (b || (a || c)) ≡ ((a || b) || c)
last_first true true c = refl
last_first true false c = refl
last_first false b c = refl

added_there : (touched : Touched) (xs : List Element) (e : Element) →
    contains (with_elements touched xs) e ≡ (list_any (element_eq e) xs || contains touched e)
added_there touched [] e = refl
added_there touched (x ∷ xs) e =
    added_there (insert touched x) xs e
    ∙ ap (λ b. list_any (element_eq e) xs || b) (contains-insert elements_total touched x e)
    ∙ last_first (element_eq e x) (list_any (element_eq e) xs) (contains touched e)

-- the elements of both lists of records
pub gathered : (records : Records) (e : Element) →
    contains (with_elements (with_elements untouched (flat_map record_homes records.items)) (flat_map cell_homes records.symbols)) e
    ≡ some_meets records e
gathered records e =
    ap (λ s. contains s e) (sym (added_more untouched (flat_map record_homes records.items) (flat_map cell_homes records.symbols)))
    ∙ added_there untouched (met_by records) e
    ∙ ap (λ b. list_any (element_eq e) (met_by records) || b) (contains-empty element_cmp e)
    ∙ or-false (list_any (element_eq e) (met_by records)) ∙ sym (met_so records e)
