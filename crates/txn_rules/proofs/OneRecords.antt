-- Records in order that lead from one layout to another are those between them.
use Rattle.std.proofs.Common.{◌≡◌, ◌≢◌, Bool, false, cond, List, [], ◌∷◌, map, Option, None, Some, refl, ap, sym, ◌∙◌}
use Rattle.std.proofs.lemmas.Bool.{false_from_ne_true}
use Rattle.std.specs.Bool.{Decides}
use Rattle.std.specs.declared.cmp.Ordering.{Ordering}
use Rattle.std.specs.Cmp.{IsTotalOrder, nat_cmp_total}
use Rattle.std.specs.FinMap.{FinMap, IsAntisymmetric, entries, entries-from_sorted, find, from_sorted, get, get-from_sorted}
use Rattle.std.specs.FinMap.{nat_cmp-IsAntisymmetric}
use Rattle.std.specs.FinMap.{same_map}
use Rattle.std.specs.Ordering.{nat_cmp}
use Rattle.lay_layouts.specs.declared.item.Item as items
use Rattle.lay_layouts.specs.declared.slot.CellSlot.{CellSlot}
use Rattle.lay_layouts.specs.IdOrder.{ids_exact, ids_total}
use Rattle.lay_layouts.specs.Ids.{id_cmp}
use Rattle.lay_layouts.specs.Layout.{Layout, item_at}
use Rattle.lay_layouts.specs.Same.{option_item_eq, option_item_eq-Decides}
use Rattle.txn_commands.specs.declared.record.CellRecord.{CellRecord}
use Rattle.txn_commands.specs.declared.record.Record.{Record}
use Rattle.txn_commands.specs.Changes.{Change, IsStep, change_map, change_of}
use Rattle.txn_commands.specs.Records.{AreProper, Lead, Records, cell_record_of, option_slot_eq, record_of, recorded_change}
use Rattle.txn_commands.specs.Records.{records_between, slot_change_at}
use Rattle.lay_layouts.specs.Layout.{AreRising}
use Rattle.txn_commands.proofs.Maps.{get-change_map}
use Rattle.txn_rules.proofs.Overlay.{differ_at, slot_differ_at}
use Rattle.txn_commands.proofs.Steps.{cell_entry_of, recorded_change-find, entry_of, option_slot_eq-Decides, rising_again}
use Rattle.txn_commands.proofs.Steps.{slot_change_at-find, sorted_again}

-- a step by a change of two different values is that from the one value to the other
step_is : {V : Type 0} (same : Option V → Option V → Bool) → ((x y : Option V) → Decides (same x y) (x ≡ y)) →
    (c : Option (Change V)) (x y : Option V) →
    ((d : Change V) → c ≡ Some d → d.before ≢ d.after) → IsStep c x y → c ≡ change_of same x y
step_is same decides None x y differ step = sym (ap (λ b. cond b None (Some (record { before = x; after = y }))) ((decides x y).1 step))
step_is {V} same decides (Some d) x y differ step =
    let apart : same x y ≡ false = false_from_ne_true (same x y) (λ e. differ d refl (sym step.0 ∙ (decides x y).0 e ∙ step.1)) in
    let known : Option (Change V) = Some (record { before = x; after = y }) in
    (λ i. Some (record { before = sym step.0 i; after = sym step.1 i })) ∙ sym (ap (λ b. cond b None known) apart)

-- entries in order that are found as in a map are its entries
same_entries : {K V : Type 0} {R : K → K → Ordering} (total : IsTotalOrder R) (exact : IsAntisymmetric R) (m : FinMap R V)
    (es : List (K × V)) →
    AreRising R es → ((q : K) → find R q es ≡ get m q) → es ≡ entries m
same_entries {R = R} total exact m es rises same =
    let sorted = sorted_again R total es rises in
    let maps : from_sorted es ≡ m = same_map total exact (from_sorted es) m (λ q. get-from_sorted R es q sorted ∙ same q) in
    sym (entries-from_sorted R es sorted) ∙ ap entries maps

records_back : (ws : List Record) → map record_of (map entry_of ws) ≡ ws
records_back [] = refl
records_back (w ∷ ws) = ap (λ vs. w ∷ vs) (records_back ws)

cell_records_back : (ws : List CellRecord) → map cell_record_of (map cell_entry_of ws) ≡ ws
cell_records_back [] = refl
cell_records_back (w ∷ ws) = ap (λ vs. w ∷ vs) (cell_records_back ws)

pub one_records : (records : Records) (l m : Layout) → AreProper records → Lead records l m → records ≡ records_between l m
unfolding records_between
one_records records l m proper lead =
    let changes : FinMap id_cmp (Change items.Item) = change_map option_item_eq l.items m.items in
    let cells : FinMap nat_cmp (Change CellSlot) = change_map option_slot_eq l.symbols m.symbols in
    let of_items : map entry_of records.items ≡ entries changes = same_entries ids_total ids_exact changes (map entry_of records.items)
    (rising_again id_cmp (λ w. (w.id, w.after)) entry_of (λ w. refl) records.items proper.items)
    (λ q. sym (recorded_change-find records.items q)
    ∙ step_is option_item_eq option_item_eq-Decides (recorded_change records.items q) (item_at l q) (item_at m q)
    (λ d there. differ_at records.items q d proper.items_differ there) (lead.items q)
    ∙ sym (get-change_map ids_total ids_exact option_item_eq refl l.items m.items q)) in
    let of_symbols : map cell_entry_of records.symbols ≡ entries cells = same_entries nat_cmp_total nat_cmp-IsAntisymmetric cells
    (map cell_entry_of records.symbols)
    (rising_again nat_cmp (λ w. (w.number, w.after)) cell_entry_of (λ w. refl) records.symbols proper.symbols)
    (λ q. sym (slot_change_at-find records.symbols q)
    ∙ step_is option_slot_eq option_slot_eq-Decides (slot_change_at records.symbols q) (get l.symbols q) (get m.symbols q)
    (λ d there. slot_differ_at records.symbols q d proper.symbols_differ there) (lead.symbols q)
    ∙ sym (get-change_map nat_cmp_total nat_cmp-IsAntisymmetric option_slot_eq refl l.symbols m.symbols q)) in
    λ i. record {
      items = (sym (records_back records.items) ∙ ap (map record_of) of_items) i;
      symbols = (sym (cell_records_back records.symbols) ∙ ap (map cell_record_of) of_symbols) i;
    }
