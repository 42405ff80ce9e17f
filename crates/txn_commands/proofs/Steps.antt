-- The records between two layouts lead from the one to the other and back.
use Rattle.std.proofs.Common.{◌≡◌, ◌≢◌, ℕ, ◌==◌, Bool, true, false, cond, T, List, [], ◌∷◌, map, Option, None, Some}
use Rattle.std.proofs.Common.{unwrap_or, option_map}
use Rattle.std.proofs.Common.{refl, ap, sym, subst, ◌∙◌}
use Rattle.std.proofs.lemmas.Bool.{true≢false}
use Rattle.std.proofs.lemmas.Bool.Decides.{Decides-eqb, Decides-like, same_from_decides}
use Rattle.std.specs.Bool.{Decides}
use Rattle.std.specs.declared.cmp.Ordering.{Ordering}
use Rattle.std.specs.declared.cmp.Ordering.TheVariants.{Less}
use Rattle.std.specs.Cmp.{IsTotalOrder, eq_by_cmp_equiv, nat_cmp_total}
use Rattle.std.specs.FinMap.{FinMap, IsAntisymmetric, entries, entries_sorted, find, get, get-entries, is_sorted}
use Rattle.std.specs.FinMap.{nat_cmp-IsAntisymmetric, same_map}
use Rattle.std.specs.FinMap.Entries.{below_all}
use Rattle.std.specs.List.{AllByRecursion}
use Rattle.std.specs.Ordering.{eq_by_cmp, is_eq, nat_cmp}
use Rattle.lay_layouts.specs.declared.id.ItemId.{ItemId}
use Rattle.lay_layouts.specs.declared.item.Item as items
use Rattle.lay_layouts.specs.declared.slot.CellSlot.{CellSlot}
use Rattle.lay_layouts.specs.IdOrder.{ids_exact, ids_total}
use Rattle.lay_layouts.specs.Ids.{id_cmp}
use Rattle.lay_layouts.specs.Layout.{Layout, Write, item_at}
use Rattle.lay_layouts.specs.Same.{option_item_eq, option_item_eq-Decides, slot_eq, slot_eq-Decides}
use Rattle.lay_layouts.specs.SameLayout.{id_eq, id_eq-Decides}
use Rattle.txn_commands.specs.declared.record.CellRecord.{CellRecord}
use Rattle.txn_commands.specs.declared.record.Record.{Record}
use Rattle.txn_commands.specs.Changes.{Change, IsStep, change_map, change_of}
use Rattle.txn_commands.specs.Records.{AreProper, applying, slot_afters, Lead, Records, applied, cell_record_of, recorded_change}
use Rattle.txn_commands.specs.Records.{option_slot_eq, record_of, reverted, slot_change_at, records_between}
use Rattle.lay_layouts.specs.Layout.{AreRising, SymbolWrite, put_all}
use Rattle.txn_commands.proofs.Lists.{all_made}
use Rattle.txn_commands.proofs.Lying.{all_below, entries_found, first_of_two, second_of_two}
use Rattle.txn_commands.proofs.Maps.{get-change_map, get-put_all, later, same_key, write_at}

pub option_slot_eq-Decides : (x y : Option CellSlot) → Decides (option_slot_eq x y) (x ≡ y)
option_slot_eq-Decides None None = (λ _. refl, λ _. refl)
option_slot_eq-Decides None (Some b) = (λ e. cc, λ e. cc)
option_slot_eq-Decides (Some a) None = (λ e. cc, λ e. cc)
option_slot_eq-Decides (Some a) (Some b) = Decides-like (slot_eq a b) (λ e. ap Some e) (λ e. cc) (slot_eq-Decides a b)

-- what a change is that leads somewhere, and that it has two different values
pub change_of-step : {V : Type 0} (same : Option V → Option V → Bool) → ((x y : Option V) → Decides (same x y) (x ≡ y)) →
    (old new : Option V) →
    IsStep (change_of same old new) old new
change_of-step {V} same decides old new = by_test (same old new) refl where
  by_test : (b : Bool) → same old new ≡ b → IsStep (cond b None (Some (record { before = old; after = new }))) old new
  by_test true is = (decides old new).0 is
  by_test false is = (refl, refl)

pub change_of-differ : {V : Type 0} (same : Option V → Option V → Bool) → ((x y : Option V) → Decides (same x y) (x ≡ y)) →
    (old new : Option V)
    (c : Change V) → change_of same old new ≡ Some c → c.before ≢ c.after
change_of-differ {V} same decides old new c = by_test (same old new) refl where
  by_test : (b : Bool) → same old new ≡ b → cond b None (Some (record { before = old; after = new })) ≡ Some c → c.before ≢ c.after
  by_test true is h e = absurd cc
  by_test false is h e =
      let change : record { before = old; after = new } ≡ c = cc in
      true≢false (sym ((decides old new).1 (ap (λ (d : Change V). d.before) change ∙ e ∙ sym (ap (λ (d : Change V). d.after) change)))
      ∙ is)

-- the value behind a step, and the one before it
applied_step : {V : Type 0} (change : Option (Change V)) (old new : Option V) → IsStep change old new →
    unwrap_or (option_map (λ c. c.after) change) old ≡ new
applied_step None old new step = step
applied_step (Some c) old new step = sym step.1

reverted_step : {V : Type 0} (change : Option (Change V)) (old new : Option V) → IsStep change old new →
    unwrap_or (option_map (λ c. c.before) change) new ≡ old
reverted_step None old new step = sym step
reverted_step (Some c) old new step = sym step.0

-- a step that is known from the values on both sides
pub steps_equal : {V : Type 0} (change : Option (Change V)) (old new new' : Option V) → IsStep change old new → IsStep change old new' →
    new ≡ new'
steps_equal change old new new' step step' = sym (applied_step change old new step) ∙ applied_step change old new' step'

-- keys in order are above the first, whose own is not among the rest
none_below : {K V : Type 0} (R : K → K → Ordering) (total : IsTotalOrder R) (exact : IsAntisymmetric R) (q : K) (es : List (K × V)) →
    AllByRecursion (λ e. R q e.0 ≡ Less) es → find R q es ≡ None
none_below R total exact q [] below = refl
none_below R total exact q (e ∷ es) below =
    ap (λ o. cond (is_eq o) (Some e.1) (find R q es)) below.0 ∙ none_below R total exact q es below.1

module _ {K V : Type 0} (R : K → K → Ordering) (total : IsTotalOrder R) (exact : IsAntisymmetric R) (value : Change V → Option V) where
  -- the writes of changes, in order of the keys, write at each key what its change tells
  write_at-changes : (es : List (K × Change V)) → T (is_sorted R es) → (q : K) →
      write_at R q (map (λ e. (e.0, value e.1)) es) ≡ option_map value (find R q es)
  write_at-changes [] sorted q = refl
  write_at-changes (e ∷ es) sorted q =
      ap (λ o. later o (eq_by_cmp R q e.0) (value e.1)) (write_at-changes es (second_of_two (below_all R e.0 es) (is_sorted R es) sorted) q)
      ∙ by_key (eq_by_cmp R q e.0) refl where
        passed_on : (o : Option (Option V)) → later o false (value e.1) ≡ o
        passed_on None = refl
        passed_on (Some v) = refl

        by_key : (b : Bool) → eq_by_cmp R q e.0 ≡ b →
            later (option_map value (find R q es)) b (value e.1) ≡ option_map value (cond b (Some e.1) (find R q es))
        by_key true is =
            let none : find R q es ≡ None = ap (λ k. find R k es) (same_key exact q e.0 is)
            ∙ none_below R total exact e.0 es (all_below R e.0 es (first_of_two (below_all R e.0 es) (is_sorted R es) sorted)) in
            rw none refl
        by_key false is = passed_on (option_map value (find R q es))

-- keys of sorted entries rise, and entries whose keys rise are sorted
pub rising : {K V : Type 0} (R : K → K → Ordering) (es : List (K × V)) → T (is_sorted R es) → AreRising R es
rising R [] sorted = tt
rising R (e ∷ []) sorted = tt
rising R (e ∷ f ∷ es) sorted = (
  (all_below R e.0 (f ∷ es) (first_of_two (below_all R e.0 (f ∷ es)) (is_sorted R (f ∷ es)) sorted)).0,
  rising R (f ∷ es) (second_of_two (below_all R e.0 (f ∷ es)) (is_sorted R (f ∷ es)) sorted),
)

less_below : {K V : Type 0} (R : K → K → Ordering) (total : IsTotalOrder R) (k j : K) (es : List (K × V)) → R k j ≡ Less →
    AllByRecursion (λ e. R j e.0 ≡ Less) es → AllByRecursion (λ e. R k e.0 ≡ Less) es
less_below R total k j [] h all = tt
less_below R total k j (e ∷ es) h all = (total.trans k j e.0 h all.0, less_below R total k j es h all.1)

below_again : {K V : Type 0} (R : K → K → Ordering) (k : K) (es : List (K × V)) → AllByRecursion (λ e. R k e.0 ≡ Less) es →
    below_all R k es ≡ true
below_again R k [] all = refl
below_again R k (e ∷ es) all = rw (all.0) (below_again R k es all.1)

all_above_first : {K V : Type 0} (R : K → K → Ordering) (total : IsTotalOrder R) (e : K × V) (es : List (K × V)) →
    AreRising R (e ∷ es) → AllByRecursion (λ f. R e.0 f.0 ≡ Less) es
all_above_first R total e [] rises = tt
all_above_first R total e (f ∷ es) rises =
    (rises.0, less_below R total e.0 f.0 es rises.0 (all_above_first R total f es rises.1))

tail_rises : {K V : Type 0} (R : K → K → Ordering) (e : K × V) (es : List (K × V)) → AreRising R (e ∷ es) →
    AreRising R es
tail_rises R e [] rises = tt
tail_rises R e (f ∷ es) rises = rises.1

sorted_so : {K V : Type 0} (R : K → K → Ordering) (total : IsTotalOrder R) (es : List (K × V)) → AreRising R es → is_sorted R es ≡ true
sorted_so R total [] rises = refl
sorted_so R total (e ∷ es) rises =
    rw (below_again R e.0 es (all_above_first R total e es rises)) (sorted_so R total es (tail_rises R e es rises))

pub sorted_again : {K V : Type 0} (R : K → K → Ordering) (total : IsTotalOrder R) (es : List (K × V)) → AreRising R es →
    T (is_sorted R es)
sorted_again R total es rises = subst T (sym (sorted_so R total es rises)) tt

-- a record as the change under its id
abbrev pub entry_of : Record → ItemId × Change items.Item
entry_of w = (w.id, record { before = w.before; after = w.after })

abbrev pub cell_entry_of : CellRecord → ℕ × Change CellSlot
cell_entry_of w = (w.number, record { before = w.before; after = w.after })

same_ids : (p q : ItemId) → id_eq p q ≡ eq_by_cmp id_cmp q p
same_ids p q = same_from_decides (id_eq p q) (eq_by_cmp id_cmp q p) (id_eq-Decides p q)
    ((λ h. sym (same_key ids_exact q p h)), (λ e. ap (λ x. eq_by_cmp id_cmp x p) (sym e) ∙ (eq_by_cmp_equiv ids_total).refl p))

same_numbers : (m n : ℕ) → (m == n) ≡ eq_by_cmp nat_cmp n m
same_numbers m n = same_from_decides (m == n) (eq_by_cmp nat_cmp n m) (Decides-eqb m n) (
  (λ h. sym (same_key nat_cmp-IsAntisymmetric n m h)),
  (λ e. ap (λ x. eq_by_cmp nat_cmp x m) (sym e)
      ∙ (eq_by_cmp_equiv nat_cmp_total).refl m),
)

-- the change under an id is found among the entries
pub recorded_change-find : (ws : List Record) (q : ItemId) → recorded_change ws q ≡ find id_cmp q (map entry_of ws)
recorded_change-find [] q = refl
recorded_change-find (w ∷ ws) q =
    ap (λ b. cond b (Some (entry_of w).1) (recorded_change ws q)) (same_ids w.id q)
    ∙ ap (λ o. cond (eq_by_cmp id_cmp q w.id) (Some (entry_of w).1) o) (recorded_change-find ws q)

pub slot_change_at-find : (ws : List CellRecord) (q : ℕ) → slot_change_at ws q ≡ find nat_cmp q (map cell_entry_of ws)
slot_change_at-find [] q = refl
slot_change_at-find (w ∷ ws) q =
    ap (λ b. cond b (Some (cell_entry_of w).1) (slot_change_at ws q)) (same_numbers w.number q)
    ∙ ap (λ o. cond (eq_by_cmp nat_cmp q w.number) (Some (cell_entry_of w).1) o) (slot_change_at-find ws q)

entries_back : (es : List (ItemId × Change items.Item)) → map entry_of (map record_of es) ≡ es
entries_back [] = refl
entries_back (e ∷ es) = ap (λ fs. e ∷ fs) (entries_back es)

pub cell_entries_back : (es : List (ℕ × Change CellSlot)) → map cell_entry_of (map cell_record_of es) ≡ es
cell_entries_back [] = refl
cell_entries_back (e ∷ es) = ap (λ fs. e ∷ fs) (cell_entries_back es)

-- the record of an id is the change of its item
pub recorded_change-between : (l m : Layout) (q : ItemId) →
    recorded_change (records_between l m).items q ≡ change_of option_item_eq (item_at l q) (item_at m q)
unfolding records_between
recorded_change-between l m q =
    let changes : FinMap id_cmp (Change items.Item) = change_map option_item_eq l.items m.items in
    recorded_change-find (map record_of (entries changes)) q
    ∙ ap (find id_cmp q) (entries_back (entries changes))
    ∙ sym (get-entries changes q)
    ∙ get-change_map ids_total ids_exact option_item_eq refl l.items m.items q

pub slot_change_at-between : (l m : Layout) (q : ℕ) →
    slot_change_at (records_between l m).symbols q ≡ change_of option_slot_eq (get l.symbols q) (get m.symbols q)
unfolding records_between
slot_change_at-between l m q =
    let changes : FinMap nat_cmp (Change CellSlot) = change_map option_slot_eq l.symbols m.symbols in
    slot_change_at-find (map cell_record_of (entries changes)) q
    ∙ ap (find nat_cmp q) (cell_entries_back (entries changes))
    ∙ sym (get-entries changes q)
    ∙ get-change_map nat_cmp_total nat_cmp-IsAntisymmetric option_slot_eq refl l.symbols m.symbols q

-- the records between two layouts lead from the one to the other
pub lead_between : (l m : Layout) → Lead (records_between l m) l m
lead_between l m = record {
  items = λ q. subst (λ (c : Option (Change items.Item)). IsStep c (item_at l q) (item_at m q)) (sym (recorded_change-between l m q))
      (change_of-step option_item_eq option_item_eq-Decides (item_at l q) (item_at m q));
  symbols = λ q. subst (λ (c : Option (Change CellSlot)). IsStep c (get l.symbols q) (get m.symbols q))
      (sym (slot_change_at-between l m q))
      (change_of-step option_slot_eq option_slot_eq-Decides (get l.symbols q) (get m.symbols q));
}

-- whether entries rise depends on their keys alone
pub rising_again : {K X Y Z : Type 0} (R : K → K → Ordering) (f : Z → K × X) (g : Z → K × Y) → ((z : Z) → (f z).0 ≡ (g z).0) →
    (zs : List Z) →
    AreRising R (map f zs) → AreRising R (map g zs)
rising_again R f g same [] rises = tt
rising_again R f g same (z ∷ []) rises = tt
rising_again R f g same (z ∷ y ∷ zs) rises =
    ((λ i. R (sym (same z) i) (sym (same y) i)) ∙ rises.0, rising_again R f g same (y ∷ zs) rises.1)

rising_records : (es : List (ItemId × Change items.Item)) → AreRising id_cmp es → AreRising id_cmp (applying (map record_of es))
rising_records [] rises = tt
rising_records (e ∷ []) rises = tt
rising_records (e ∷ f ∷ es) rises = (rises.0, rising_records (f ∷ es) rises.1)

rising_cell_records : (es : List (ℕ × Change CellSlot)) → AreRising nat_cmp es → AreRising nat_cmp (slot_afters (map cell_record_of es))
rising_cell_records [] rises = tt
rising_cell_records (e ∷ []) rises = tt
rising_cell_records (e ∷ f ∷ es) rises = (rises.0, rising_cell_records (f ∷ es) rises.1)

-- they are in order, each of two different values
pub proper_between : (l m : Layout) → AreProper (records_between l m)
unfolding records_between
proper_between l m =
    let changes : FinMap id_cmp (Change items.Item) = change_map option_item_eq l.items m.items in
    let cells : FinMap nat_cmp (Change CellSlot) = change_map option_slot_eq l.symbols m.symbols in
    record {
      items = rising_records (entries changes) (rising id_cmp (entries changes) (entries_sorted changes));
      symbols = rising_cell_records (entries cells) (rising nat_cmp (entries cells) (entries_sorted cells));
      items_differ = all_made (λ e. get changes e.0 ≡ Some e.1) (λ w. w.before ≢ w.after) record_of
          (λ e there. change_of-differ option_item_eq option_item_eq-Decides (item_at l e.0) (item_at m e.0) e.1
          (sym (get-change_map ids_total ids_exact option_item_eq refl l.items m.items e.0)
          ∙ there)) (entries changes) (entries_found ids_total changes);
      symbols_differ = all_made (λ e. get cells e.0 ≡ Some e.1) (λ w. w.before ≢ w.after) cell_record_of
          (λ e there. change_of-differ option_slot_eq option_slot_eq-Decides (get l.symbols e.0) (get m.symbols e.0) e.1
          (sym (get-change_map nat_cmp_total nat_cmp-IsAntisymmetric option_slot_eq refl l.symbols m.symbols e.0)
          ∙ there)) (entries cells)
          (entries_found nat_cmp_total cells);
    }

-- layouts with the same under each id and each number are the same
pub same_layouts : (l m : Layout) → ((q : ItemId) → item_at l q ≡ item_at m q) → ((n : ℕ) → get l.symbols n ≡ get m.symbols n) → l ≡ m
same_layouts l m items symbols = λ i. record {
  symbols = same_map nat_cmp_total nat_cmp-IsAntisymmetric l.symbols m.symbols symbols i;
  items = same_map ids_total ids_exact l.items m.items items i;
}

-- the writes of one of both values
abbrev writes_by : (Change items.Item → Option items.Item) → List Record → List Write
writes_by value ws = map (λ w. (w.id, value (entry_of w).1)) ws

abbrev slot_writes_by : (Change CellSlot → Option CellSlot) → List CellRecord → List SymbolWrite
slot_writes_by value ws = map (λ w. (w.number, value (cell_entry_of w).1)) ws

writes_of : (value : Change items.Item → Option items.Item) (ws : List Record) →
    writes_by value ws ≡ map {B = Write} (λ e. (e.0, value e.1)) (map entry_of ws)
writes_of value [] = refl
writes_of value (w ∷ ws) = ap (λ fs. (w.id, value (entry_of w).1) ∷ fs) (writes_of value ws)

slot_writes_of : (value : Change CellSlot → Option CellSlot) (ws : List CellRecord) →
    slot_writes_by value ws ≡ map {B = SymbolWrite} (λ e. (e.0, value e.1)) (map cell_entry_of ws)
slot_writes_of value [] = refl
slot_writes_of value (w ∷ ws) = ap (λ fs. (w.number, value (cell_entry_of w).1) ∷ fs) (slot_writes_of value ws)

-- what records in order leave under an id
item_after : (value : Change items.Item → Option items.Item) (l : Layout) (ws : List Record) → AreRising id_cmp (applying ws) →
    (q : ItemId) →
    get (put_all l.items (writes_by value ws)) q ≡ unwrap_or (option_map value (recorded_change ws q)) (item_at l q)
item_after value l ws rises q =
    let sorted = sorted_again id_cmp ids_total (map entry_of ws)
    (rising_again id_cmp (λ w. (w.id, w.after)) entry_of (λ w. refl) ws rises) in
    get-put_all ids_total l.items (writes_by value ws) q
    ∙ ap (λ es. unwrap_or (write_at id_cmp q es) (item_at l q)) (writes_of value ws)
    ∙ ap (λ o. unwrap_or o (item_at l q)) (write_at-changes id_cmp ids_total ids_exact value (map entry_of ws) sorted q
    ∙ ap (option_map value) (sym (recorded_change-find ws q)))

slot_after : (value : Change CellSlot → Option CellSlot) (l : Layout) (ws : List CellRecord) → AreRising nat_cmp (slot_afters ws) →
    (q : ℕ) →
    get (put_all l.symbols (slot_writes_by value ws)) q
    ≡ unwrap_or (option_map value (slot_change_at ws q)) (get l.symbols q)
slot_after value l ws rises q =
    let sorted = sorted_again nat_cmp nat_cmp_total (map cell_entry_of ws)
    (rising_again nat_cmp (λ w. (w.number, w.after)) cell_entry_of (λ w. refl) ws rises) in
    get-put_all nat_cmp_total l.symbols (slot_writes_by value ws) q
    ∙ ap (λ es. unwrap_or (write_at nat_cmp q es) (get l.symbols q)) (slot_writes_of value ws)
    ∙ ap (λ o. unwrap_or o (get l.symbols q))
    (write_at-changes nat_cmp nat_cmp_total nat_cmp-IsAntisymmetric value (map cell_entry_of ws) sorted q
    ∙ ap (option_map value) (sym (slot_change_at-find ws q)))

-- records in order that lead from one layout to another, applied to the first, give the second
pub applied_leads : (ws : Records) (l m : Layout) → AreProper ws → Lead ws l m → applied l ws ≡ m
applied_leads ws l m proper lead = same_layouts (applied l ws) m
    (λ q. item_after (λ c. c.after) l ws.items proper.items q
    ∙ applied_step (recorded_change ws.items q) (item_at l q) (item_at m q) (lead.items q))
    (λ n. slot_after (λ c. c.after) l ws.symbols proper.symbols n
    ∙ applied_step (slot_change_at ws.symbols n) (get l.symbols n) (get m.symbols n) (lead.symbols n))

-- and reverted on the second they give the first
pub reverted_leads : (ws : Records) (l m : Layout) → AreProper ws → Lead ws l m → reverted m ws ≡ l
reverted_leads ws l m proper lead = same_layouts (reverted m ws) l
    (λ q. item_after (λ c. c.before) m ws.items proper.items q
    ∙ reverted_step (recorded_change ws.items q) (item_at l q) (item_at m q) (lead.items q))
    (λ n. slot_after (λ c. c.before) m ws.symbols proper.symbols n
    ∙ reverted_step (slot_change_at ws.symbols n) (get l.symbols n) (get m.symbols n) (lead.symbols n))
