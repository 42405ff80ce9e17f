-- Trees of changes as records: what stands under a key, and what one more write leaves.
use Rattle.std.proofs.Common.{◌≡◌, ℕ, List, [], ◌∷◌, map, Option, Some, cond, refl, ap, sym, subst, ◌∙◌}
use Rattle.std.specs.declared.cmp.Ordering.{Ordering}
use Rattle.std.specs.BTreeMap.{is_at}
use Rattle.std.specs.Cmp.{IsTotalOrder, eq_by_cmp_equiv, nat_cmp_total}
use Rattle.std.specs.FinMap.{FinMap, IsAntisymmetric, entries, find, from_entries, get-entries, get-from_entries, nat_cmp-IsAntisymmetric}
use Rattle.std.specs.FinMap.{same_map}
use Rattle.std.specs.List.Sorted.{IsStrictlySortedBy}
use Rattle.std.specs.Map.{keys_of, lookup}
use Rattle.std.specs.Ordering.{eq_by_cmp, nat_cmp}
use Rattle.lay_layouts.specs.declared.id.ItemId.{ItemId}
use Rattle.lay_layouts.specs.declared.item.Item.{Item}
use Rattle.lay_layouts.specs.declared.slot.CellSlot.{CellSlot}
use Rattle.lay_layouts.specs.IdOrder.{ids_exact, ids_total}
use Rattle.lay_layouts.specs.Ids.{id_cmp}
use Rattle.lay_layouts.specs.Layout.{AreRising, put}
use Rattle.lay_layouts.specs.Same.{option_item_eq}
use Rattle.lay_layouts.proofs.MapLemmas.{entries_again, get_lookup}
use Rattle.txn_commands.specs.Changes.{Change, change_map, change_of}
use Rattle.txn_commands.specs.Records.{AreProper, Records, reverting, cell_record_of, option_slot_eq, record_of, recorded_change}
use Rattle.txn_commands.specs.Records.{records_between}
use Rattle.txn_commands.specs.Records.{slot_befores, slot_change_at}
use Rattle.txn_commands.proofs.Maps.{get-put}
use Rattle.txn_commands.proofs.Merging.{changes_merge, slot_changes_merge}
use Rattle.txn_commands.proofs.Steps.{cell_entry_of, recorded_change-find, entry_of, rising_again, slot_change_at-find, cell_entries_back}
use Rattle.txn_marks.specs.WritesOf.{Merges, MergesSymbol}

-- the records of changes have all that these have
changes_again : (es : List (ItemId × Change Item)) → map entry_of (map record_of es) ≡ es
changes_again [] = refl
changes_again (e ∷ es) = ap (λ fs. e ∷ fs) (changes_again es)

same_changes : (es fs : List (ItemId × Change Item)) → map record_of es ≡ map record_of fs → es ≡ fs
same_changes es fs same = sym (changes_again es) ∙ ap (map entry_of) same ∙ changes_again fs

same_cells : (es fs : List (ℕ × Change CellSlot)) → map cell_record_of es ≡ map cell_record_of fs → es ≡ fs
same_cells es fs same = sym (cell_entries_back es) ∙ ap (map cell_entry_of) same ∙ cell_entries_back fs

find_lookup : {K V : Type 0} (R : K → K → Ordering) (es : List (K × V)) (q : K) → find R q es ≡ lookup (is_at (R q)) es
find_lookup R [] q = refl
find_lookup R (e ∷ es) q = ap (cond (is_at (R q) e.0) (Some e.1)) (find_lookup R es q)

-- what a tree has under an id is what its records tell
pub change_there : (es : List (ItemId × Change Item)) (id : ItemId) → lookup (is_at (id_cmp id)) es ≡ recorded_change (map record_of es) id
change_there es id = sym (recorded_change-find (map record_of es) id ∙ ap (find id_cmp id) (changes_again es) ∙ find_lookup id_cmp es id)

pub cell_change_there : (es : List (ℕ × Change CellSlot)) (number : ℕ) →
    lookup (is_at (nat_cmp number)) es ≡ slot_change_at (map cell_record_of es) number
cell_change_there es number =
    sym (slot_change_at-find (map cell_record_of es) number ∙ ap (find nat_cmp number) (cell_entries_back es)
    ∙ find_lookup nat_cmp es number)

module _ {K V : Type 0} {R : K → K → Ordering} (total : IsTotalOrder R) (exact : IsAntisymmetric R) where
  -- entries that differ at one key make maps that differ there
  one_put : (es fs : List (K × V)) (k : K) (w : Option V) →
      ((q : K) → lookup (is_at (R q)) fs ≡ cond (is_at (R k) q) w (lookup (is_at (R q)) es)) →
      from_entries {R = R} fs ≡ put (from_entries es) k w
  one_put es fs k w h = same_map total exact _ _ (λ q.
      get_lookup total fs q ∙ h q ∙ ap (λ b. cond b w (lookup (is_at (R q)) es)) ((eq_by_cmp_equiv total).symm k q)
      ∙ sym (get-put total (from_entries es) k w q ∙ ap (cond (eq_by_cmp R q k) w) (get_lookup total es q)))

  -- the entries of a map make it
  map_again : (m : FinMap R V) → from_entries {R = R} (entries m) ≡ m
  map_again m = same_map total exact _ _ (λ q. get-from_entries total (entries m) q ∙ sym (get-entries m q))

  -- entries in order that differ from those of a map at one key are those of the map with that put
  pub entries_put : (m : FinMap R V) (es fs : List (K × V)) (k : K) (w : Option V) → es ≡ entries m → IsStrictlySortedBy R (keys_of fs) →
      ((q : K) → lookup (is_at (R q)) fs ≡ cond (is_at (R k) q) w (lookup (is_at (R q)) es)) →
      fs ≡ entries (put m k w)
  entries_put m es fs k w same sorted h =
      sym (entries_again R total fs sorted) ∙ ap entries (one_put es fs k w h
      ∙ ap (λ (n : FinMap R V). put n k w) (ap from_entries same ∙ map_again m))

-- one more write of an item merges with the records
item_merges : (es fs : List (ItemId × Change Item)) (cs : List (ℕ × Change CellSlot)) (id : ItemId) (before after : Option Item) →
    IsStrictlySortedBy id_cmp (keys_of fs) →
    ((q : ItemId) → lookup (is_at (id_cmp q)) fs
    ≡ cond (is_at (id_cmp id) q) (change_of option_item_eq before after) (lookup (is_at (id_cmp q)) es)) →
    Merges (record { items = map record_of es; symbols = map cell_record_of cs }) id before after
    (record { items = map record_of fs; symbols = map cell_record_of cs })
unfolding records_between
item_merges es fs cs id before after sorted h l m old at =
    let changes : FinMap id_cmp (Change Item) = change_map option_item_eq l.items m.items in
    let same : es ≡ entries changes = same_changes es (entries changes) (ap (λ (r : Records). r.items) old) in
    let new : fs ≡ entries (put changes id (change_of option_item_eq before after)) = entries_put ids_total ids_exact changes es fs id
    (change_of option_item_eq before after) same sorted h in
    let merged : entries (put changes id (change_of option_item_eq before after))
    ≡ entries (change_map option_item_eq l.items (put m.items id after)) =
    ap entries (ap (λ b. put changes id (change_of option_item_eq b after)) (sym at) ∙ sym (changes_merge l m id after)) in
    λ i. record { items = map record_of ((new ∙ merged) i); symbols = ap (λ (r : Records). r.symbols) old i }

-- and so does one of a symbol
symbol_merges : (es : List (ItemId × Change Item)) (cs ds : List (ℕ × Change CellSlot)) (number : ℕ) (before after : Option CellSlot) →
    IsStrictlySortedBy nat_cmp (keys_of ds) →
    ((q : ℕ) → lookup (is_at (nat_cmp q)) ds
    ≡ cond (is_at (nat_cmp number) q) (change_of option_slot_eq before after) (lookup (is_at (nat_cmp q)) cs)) →
    MergesSymbol (record { items = map record_of es; symbols = map cell_record_of cs }) number before after
    (record { items = map record_of es; symbols = map cell_record_of ds })
unfolding records_between
symbol_merges es cs ds number before after sorted h l m old at =
    let changes : FinMap nat_cmp (Change CellSlot) = change_map option_slot_eq l.symbols m.symbols in
    let same : cs ≡ entries changes = same_cells cs (entries changes) (ap (λ (r : Records). r.symbols) old) in
    let new : ds ≡ entries (put changes number (change_of option_slot_eq before after)) = entries_put nat_cmp_total nat_cmp-IsAntisymmetric
    changes cs ds number (change_of option_slot_eq before after) same sorted h in
    let merged : entries (put changes number (change_of option_slot_eq before after))
    ≡ entries (change_map option_slot_eq l.symbols (put m.symbols number after)) =
    ap entries (ap (λ b. put changes number (change_of option_slot_eq b after)) (sym at) ∙ sym (slot_changes_merge l m number after)) in
    λ i. record { items = ap (λ (r : Records). r.items) old i; symbols = map cell_record_of ((new ∙ merged) i) }

-- the same of a tree that was updated by the change
pub item_kept : (es fs : List (ItemId × Change Item)) (cs : List (ℕ × Change CellSlot)) (old : Records) (id : ItemId)
    (before after : Option Item) (w : Option (Change Item)) →
    record { items = map record_of es; symbols = map cell_record_of cs } ≡ old → w ≡ change_of option_item_eq before after →
    IsStrictlySortedBy id_cmp (keys_of fs) →
    ((q : ItemId) → lookup (is_at (id_cmp q)) fs ≡ cond (is_at (id_cmp id) q) w (lookup (is_at (id_cmp q)) es)) →
    Merges old id before after (record { items = map record_of fs; symbols = map cell_record_of cs })
item_kept es fs cs old id before after w view change sorted h =
    let new : Records = record { items = map record_of fs; symbols = map cell_record_of cs } in
    subst (λ (r : Records). Merges r id before after new) view (item_merges es fs cs id before after sorted
    (λ q. h q ∙ ap (λ o. cond (is_at (id_cmp id) q) o (lookup (is_at (id_cmp q)) es)) change))

pub symbol_kept : (es : List (ItemId × Change Item)) (cs ds : List (ℕ × Change CellSlot)) (old : Records) (number : ℕ)
    (before after : Option CellSlot) (w : Option (Change CellSlot)) →
    record { items = map record_of es; symbols = map cell_record_of cs } ≡ old → w ≡ change_of option_slot_eq before after →
    IsStrictlySortedBy nat_cmp (keys_of ds) →
    ((q : ℕ) → lookup (is_at (nat_cmp q)) ds ≡ cond (is_at (nat_cmp number) q) w (lookup (is_at (nat_cmp q)) cs)) →
    MergesSymbol old number before after (record { items = map record_of es; symbols = map cell_record_of ds })
symbol_kept es cs ds old number before after w view change sorted h =
    let new : Records = record { items = map record_of es; symbols = map cell_record_of ds } in
    subst (λ (r : Records). MergesSymbol r number before after new) view (symbol_merges es cs ds number before after sorted
    (λ q. h q ∙ ap (λ o. cond (is_at (nat_cmp number) q) o (lookup (is_at (nat_cmp q)) cs)) change))

-- the values before are in order where those after are
pub befores_rise : (records : Records) → AreProper records → AreRising id_cmp (reverting records.items)
befores_rise records proper =
    rising_again id_cmp (λ w. (w.id, w.after)) (λ w. (w.id, w.before)) (λ w. refl) records.items proper.items

pub slot_befores_rise : (records : Records) → AreProper records → AreRising nat_cmp (slot_befores records.symbols)
slot_befores_rise records proper =
    rising_again nat_cmp (λ w. (w.number, w.after)) (λ w. (w.number, w.before)) (λ w. refl) records.symbols proper.symbols
