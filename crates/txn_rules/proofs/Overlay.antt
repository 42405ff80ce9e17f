-- Records beside others: what they don't meet they leave as it is, and what doesn't touch them leaves them as they are.
use Rattle.std.proofs.Common.{◌≡◌, ◌≢◌, ℕ, ◌==◌, Bool, true, false, cond, List, [], ◌∷◌, map, Option, None, Some, refl, ap}
use Rattle.std.proofs.Common.{sym, subst, ◌∙◌}
use Rattle.std.proofs.lemmas.Bool.{or_parts, true≢false}
use Rattle.std.proofs.lemmas.Bool.Decides.{Decides-eqb}
use Rattle.std.specs.Bool.{Decides}
use Rattle.std.specs.FinMap.{entries, get, nat_cmp-IsAntisymmetric}
use Rattle.std.specs.FinSet.{contains}
use Rattle.std.specs.Cmp.{nat_cmp_total}
use Rattle.std.specs.List.{AllByRecursion, list_any}
use Rattle.lay_layouts.specs.declared.id.ItemId.{ItemId}
use Rattle.lay_layouts.specs.declared.item.Item as items
use Rattle.lay_layouts.specs.declared.slot.CellSlot.{CellSlot}
use Rattle.lay_layouts.specs.IdOrder.{ids_exact, ids_total}
use Rattle.lay_layouts.specs.Layout.{Layout, item_at}
use Rattle.lay_layouts.specs.Same.{option_item_eq, option_item_eq-Decides}
use Rattle.lay_layouts.specs.SameLayout.{id_eq, id_eq-Decides}
use Rattle.txn_commands.specs.declared.element.Element.{Element}
use Rattle.txn_commands.specs.declared.element.Element.TheVariants.{Cell, Item}
use Rattle.txn_commands.specs.declared.record.CellRecord.{CellRecord}
use Rattle.txn_commands.specs.declared.record.Record.{Record}
use Rattle.txn_commands.specs.Agreement.{Agree, AgreeOn, AreAlike}
use Rattle.txn_commands.specs.Changes.{Change, IsStep, change_of}
use Rattle.txn_commands.specs.Covers.{LeavesAlone}
use Rattle.txn_commands.specs.Elements.{Touched}
use Rattle.txn_commands.specs.Lies.{lies, lies_slot, passes}
use Rattle.txn_commands.specs.Meets.{AreApart, meets, meets_cell, some_meets}
use Rattle.txn_commands.specs.Records.{AreProper, Lead, Records, recorded_change, option_slot_eq, slot_change_at, records_between}
use Rattle.txn_commands.specs.Records.{cell_record_of, record_of}
use Rattle.txn_commands.proofs.Agreements.{equal-alike, same_item, same_slot}
use Rattle.txn_commands.proofs.Maps.{change_map-alike}
use Rattle.txn_commands.proofs.Steps.{option_slot_eq-Decides}

-- neither value of a change passes
abbrev passes_neither : {V : Type 0} → (V → Bool) → Change V → Type 0
passes_neither test c = (passes test c.before ≡ false) × (passes test c.after ≡ false)

-- where no record meets an element, no change has a value in it
unmet_at : (e : Element) (ws : List Record) (q : ItemId) (c : Change items.Item) → list_any (meets e) ws ≡ false →
    recorded_change ws q ≡ Some c →
    passes_neither (lies e q) c
unmet_at e [] q c out there = absurd cc
unmet_at e (w ∷ ws) q c out there =
    let parts = or_parts (meets e w) (list_any (meets e) ws) out in
    let first = or_parts (passes (lies e w.id) w.before) (passes (lies e w.id) w.after) parts.0 in
    by_id (id_eq w.id q) refl first (unmet_at e ws q c parts.1) there where
      by_id : (b : Bool) → id_eq w.id q ≡ b → passes_neither (lies e w.id) (record { before = w.before; after = w.after }) →
          (recorded_change ws q ≡ Some c → passes_neither (lies e q) c) →
          cond b (Some (record { before = w.before; after = w.after })) (recorded_change ws q) ≡ Some c → passes_neither (lies e q) c
      by_id true is first rest h =
          let change : record { before = w.before; after = w.after } ≡ c = cc in
          let id : w.id ≡ q = (id_eq-Decides w.id q).0 is in
          subst (λ (d : Change items.Item). passes_neither (lies e q) d) change
          (subst (λ (i : ItemId). passes_neither (lies e i) (record { before = w.before; after = w.after })) id first)
      by_id false is first rest h = rest h

slot_unmet_at : (e : Element) (ws : List CellRecord) (q : ℕ) (c : Change CellSlot) → list_any (meets_cell e) ws ≡ false →
    slot_change_at ws q ≡ Some c → passes_neither (lies_slot e q) c
slot_unmet_at e [] q c out there = absurd cc
slot_unmet_at e (w ∷ ws) q c out there =
    let parts = or_parts (meets_cell e w) (list_any (meets_cell e) ws) out in
    let first = or_parts (passes (lies_slot e w.number) w.before) (passes (lies_slot e w.number) w.after) parts.0 in
    by_number (w.number == q) refl first (slot_unmet_at e ws q c parts.1) there where
      by_number : (b : Bool) → (w.number == q) ≡ b → passes_neither (lies_slot e w.number) (record {
        before = w.before;
        after =
            w.after;
      }) →
          (slot_change_at ws q ≡ Some c → passes_neither (lies_slot e q) c) →
          cond b (Some (record { before = w.before; after = w.after })) (slot_change_at ws q) ≡ Some c → passes_neither (lies_slot e q) c
      by_number true is first rest h =
          let change : record { before = w.before; after = w.after } ≡ c = cc in
          let number : w.number ≡ q = (Decides-eqb w.number q).0 is in
          subst (λ (d : Change CellSlot). passes_neither (lies_slot e q) d) change
          (subst (λ (n : ℕ). passes_neither (lies_slot e n) (record { before = w.before; after = w.after })) number first)
      by_number false is first rest h = rest h

-- a step by a change that has no value in a test keeps the values alike
step_alike : {V : Type 0} (test : V → Bool) (c : Option (Change V)) (old new : Option V) → IsStep c old new →
    ((d : Change V) → c ≡ Some d → passes_neither test d) → AreAlike test old new
step_alike test None old new step out = equal-alike test old new step
step_alike test (Some d) old new step out = record {
  forth = λ v e t. absurd (true≢false (sym t ∙ ap (passes test) (sym e ∙ step.0) ∙ (out d refl).0));
  back = λ v e t. absurd (true≢false (sym t ∙ ap (passes test) (sym e ∙ step.1) ∙ (out d refl).1));
}

-- records that don't meet an element keep what lies in it
pub unmet_agree : (ws : Records) (l m : Layout) (e : Element) → Lead ws l m → some_meets ws e ≡ false → Agree l m e
unmet_agree ws l m e lead out =
    let parts = or_parts (list_any (meets e) ws.items) (list_any (meets_cell e) ws.symbols) out in
    record {
      items = λ q. step_alike (lies e q) (recorded_change ws.items q) (item_at l q) (item_at m q) (lead.items q)
          (λ c there. unmet_at e ws.items q c parts.0 there);
      symbols = λ n. step_alike (lies_slot e n) (slot_change_at ws.symbols n) (get l.symbols n) (get m.symbols n) (lead.symbols n)
          (λ c there. slot_unmet_at e ws.symbols n c parts.1 there);
    }

step_alike_both : {V : Type 0} (test : V → Bool) (c : Option (Change V)) (x y x' y' : Option V) → IsStep c x x' → IsStep c y y' →
    AreAlike test x y → AreAlike test x' y'
step_alike_both test None x y x' y' forth back alike =
    subst (λ o. AreAlike test x' o) back (subst (λ o. AreAlike test o y) forth alike)
step_alike_both test (Some c) x y x' y' forth back alike = equal-alike test x' y' (forth.1 ∙ sym back.1)

step_alike_back : {V : Type 0} (test : V → Bool) (c : Option (Change V)) (x y x' y' : Option V) → IsStep c x x' → IsStep c y y' →
    AreAlike test x' y' → AreAlike test x y
step_alike_back test None x y x' y' forth back alike =
    subst (λ o. AreAlike test x o) (sym back) (subst (λ o. AreAlike test o y') (sym forth) alike)
step_alike_back test (Some c) x y x' y' forth back alike = equal-alike test x y (forth.0 ∙ sym back.0)

-- equal records keep agreement, applied and reverted
pub agree_applied : (ws : Records) (l m l' m' : Layout) (e : Element) → Lead ws l l' → Lead ws m m' → Agree l m e → Agree l' m' e
agree_applied ws l m l' m' e forth back agree = record {
  items = λ q. step_alike_both (lies e q) (recorded_change ws.items q) (item_at l q) (item_at m q) (item_at l' q) (item_at m' q)
      (forth.items q) (back.items q) (agree.items q);
  symbols = λ n. step_alike_both (lies_slot e n) (slot_change_at ws.symbols n) (get l.symbols n) (get m.symbols n) (get l'.symbols n)
      (get m'.symbols n) (forth.symbols n) (back.symbols n) (agree.symbols n);
}

pub agree_reverted : (ws : Records) (l m l' m' : Layout) (e : Element) → Lead ws l l' → Lead ws m m' → Agree l' m' e → Agree l m e
agree_reverted ws l m l' m' e forth back agree = record {
  items = λ q. step_alike_back (lies e q) (recorded_change ws.items q) (item_at l q) (item_at m q) (item_at l' q) (item_at m' q)
      (forth.items q) (back.items q) (agree.items q);
  symbols = λ n. step_alike_back (lies_slot e n) (slot_change_at ws.symbols n) (get l.symbols n) (get m.symbols n) (get l'.symbols n)
      (get m'.symbols n) (forth.symbols n) (back.symbols n) (agree.symbols n);
}

-- each change of proper records has two different values
pub differ_at : (ws : List Record) (q : ItemId) (c : Change items.Item) → AllByRecursion (λ w. w.before ≢ w.after) ws →
    recorded_change ws q ≡ Some c →
    c.before ≢ c.after
differ_at [] q c all there = absurd cc
differ_at (w ∷ ws) q c all there = by_id (id_eq w.id q) (differ_at ws q c all.1) there where
  by_id : (b : Bool) → (recorded_change ws q ≡ Some c → c.before ≢ c.after) →
      cond b (Some (record { before = w.before; after = w.after })) (recorded_change ws q) ≡ Some c → c.before ≢ c.after
  by_id true rest h e =
      let change : record { before = w.before; after = w.after } ≡ c = cc in
      all.0 (ap (λ (d : Change items.Item). d.before) change ∙ e ∙ sym (ap (λ (d : Change items.Item). d.after) change))
  by_id false rest h e = rest h e

pub slot_differ_at : (ws : List CellRecord) (q : ℕ) (c : Change CellSlot) → AllByRecursion (λ w. w.before ≢ w.after) ws →
    slot_change_at ws q ≡ Some c →
    c.before ≢ c.after
slot_differ_at [] q c all there = absurd cc
slot_differ_at (w ∷ ws) q c all there = by_number (w.number == q) (slot_differ_at ws q c all.1) there where
  by_number : (b : Bool) → (slot_change_at ws q ≡ Some c → c.before ≢ c.after) →
      cond b (Some (record { before = w.before; after = w.after })) (slot_change_at ws q) ≡ Some c → c.before ≢ c.after
  by_number true rest h e =
      let change : record { before = w.before; after = w.after } ≡ c = cc in
      all.0 (ap (λ (d : Change CellSlot). d.before) change ∙ e ∙ sym (ap (λ (d : Change CellSlot). d.after) change))
  by_number false rest h e = rest h e

-- a value that fails a test which all pass isn't there
not_there : {V : Type 0} (test : V → Bool) → ((v : V) → test v ≡ true) → (x : Option V) → passes test x ≡ false → x ≡ None
not_there test all None h = refl
not_there test all (Some v) h = absurd (true≢false (sym (all v) ∙ h))

-- a step goes past values that are equal, or that change as those do
past_step : {V : Type 0} (test : V → Bool) → ((v : V) → test v ≡ true) → (c : Option (Change V)) (x y : Option V) →
    ((d : Change V) → c ≡ Some d → passes_neither test d) → ((d : Change V) → c ≡ Some d → d.before ≢ d.after) → x ≡ y → IsStep c x y
past_step test all None x y out differ same = same
past_step test all (Some d) x y out differ same =
    let neither = out d refl in
    absurd (differ d refl (not_there test all d.before neither.0 ∙ sym (not_there test all d.after neither.1)))

-- records lead past a run that they don't meet: from where it leads on the one layout to where it leads on the other
pub past : (ws : Records) (l m n k : Layout) (touched : Touched) → AreProper ws → Lead ws l m → AreApart ws touched →
    LeavesAlone l n touched → LeavesAlone m k touched → AgreeOn n k touched → Lead ws n k
past ws l m n k touched proper lead apart from_l from_m agree = record { items = items_past; symbols = symbols_past } where
  items_past : (q : ItemId) → IsStep (recorded_change ws.items q) (item_at n q) (item_at k q)
  items_past q = by_touch (contains touched (Item q)) refl where
    by_touch : (b : Bool) → contains touched (Item q) ≡ b → IsStep (recorded_change ws.items q) (item_at n q) (item_at k q)
    by_touch true is =
        let out = or_parts (list_any (meets (Item q)) ws.items) (list_any (meets_cell (Item q)) ws.symbols) (apart (Item q) is) in
        past_step (lies (Item q) q) (λ v. (id_eq-Decides q q).1 refl) (recorded_change ws.items q) (item_at n q) (item_at k q)
        (λ c there. unmet_at (Item q) ws.items q c out.0 there) (λ c there. differ_at ws.items q c proper.items_differ there)
        (same_item n k q (agree (Item q) is))
    by_touch false is = subst (λ o. IsStep (recorded_change ws.items q) o (item_at k q)) (sym (from_l.items q is))
        (subst (λ o. IsStep (recorded_change ws.items q) (item_at l q) o) (sym (from_m.items q is)) (lead.items q))

  symbols_past : (q : ℕ) → IsStep (slot_change_at ws.symbols q) (get n.symbols q) (get k.symbols q)
  symbols_past q = by_touch (contains touched (Cell q)) refl where
    by_touch : (b : Bool) → contains touched (Cell q) ≡ b → IsStep (slot_change_at ws.symbols q) (get n.symbols q) (get k.symbols q)
    by_touch true is =
        let out = or_parts (list_any (meets (Cell q)) ws.items) (list_any (meets_cell (Cell q)) ws.symbols) (apart (Cell q) is) in
        past_step (lies_slot (Cell q) q) (λ v. (Decides-eqb q q).1 refl) (slot_change_at ws.symbols q) (get n.symbols q) (get k.symbols q)
        (λ c there. slot_unmet_at (Cell q) ws.symbols q c out.1 there)
        (λ c there. slot_differ_at ws.symbols q c proper.symbols_differ there)
        (same_slot n k q (agree (Cell q) is))
    by_touch false is = subst (λ o. IsStep (slot_change_at ws.symbols q) o (get k.symbols q)) (sym (from_l.symbols q is))
        (subst (λ o. IsStep (slot_change_at ws.symbols q) (get l.symbols q) o) (sym (from_m.symbols q is)) (lead.symbols q))

no_change : {V : Type 0} (same : Option V → Option V → Bool) → ((x y : Option V) → Decides (same x y) (x ≡ y)) → (x y : Option V) →
    y ≡ x →
    change_of same x y ≡ None
no_change same decides x y e = ap (λ b. cond b None (Some (record { before = x; after = y }))) ((decides x y).1 (sym e))

-- what leaves the same alone on two layouts, and leads to layouts that agree on the rest, writes the same
pub same_records : (l m n k : Layout) (touched : Touched) → AgreeOn l m touched → LeavesAlone l n touched → LeavesAlone m k touched →
    AgreeOn n k touched → records_between m k ≡ records_between l n
unfolding records_between
same_records l m n k touched agree from_l from_m after = λ i. record {
  items = map record_of (entries (change_map-alike ids_total ids_exact option_item_eq refl m.items k.items l.items n.items items_so i));
  symbols = map cell_record_of (entries (change_map-alike nat_cmp_total nat_cmp-IsAntisymmetric option_slot_eq refl m.symbols k.symbols
      l.symbols
      n.symbols symbols_so i));
} where
  items_so : (q : ItemId) → change_of option_item_eq (item_at m q) (item_at k q) ≡ change_of option_item_eq (item_at l q) (item_at n q)
  items_so q = by_touch (contains touched (Item q)) refl where
    by_touch : (b : Bool) → contains touched (Item q) ≡ b →
        change_of option_item_eq (item_at m q) (item_at k q) ≡ change_of option_item_eq (item_at l q) (item_at n q)
    by_touch true is = sym (λ i. change_of option_item_eq (same_item l m q (agree (Item q) is) i) (same_item n k q (after (Item q) is) i))
    by_touch false is =
        no_change option_item_eq option_item_eq-Decides (item_at m q) (item_at k q) (from_m.items q is)
        ∙ sym (no_change option_item_eq option_item_eq-Decides (item_at l q) (item_at n q) (from_l.items q is))

  symbols_so : (q : ℕ) → change_of option_slot_eq (get m.symbols q) (get k.symbols q)
      ≡ change_of option_slot_eq (get l.symbols q) (get n.symbols q)
  symbols_so q = by_touch (contains touched (Cell q)) refl where
    by_touch : (b : Bool) → contains touched (Cell q) ≡ b →
        change_of option_slot_eq (get m.symbols q) (get k.symbols q) ≡ change_of option_slot_eq (get l.symbols q) (get n.symbols q)
    by_touch true is = sym (λ i. change_of option_slot_eq (same_slot l m q (agree (Cell q) is) i) (same_slot n k q (after (Cell q) is) i))
    by_touch false is =
        no_change option_slot_eq option_slot_eq-Decides (get m.symbols q) (get k.symbols q) (from_m.symbols q is)
        ∙ sym (no_change option_slot_eq option_slot_eq-Decides (get l.symbols q) (get n.symbols q) (from_l.symbols q is))
