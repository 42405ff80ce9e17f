-- Accepted commands, and runs of them, keep a layout sound.
use Rattle.std.proofs.Common.{◌≡◌, ◌⊎◌, inl, inr, ℕ, Bool, true, false, ◌||◌, cond, List, [], ◌∷◌, ◌++◌, Option, None, Ok, Some}
use Rattle.std.proofs.Common.{is_some, nat_lt, refl, ap, sym, subst, ◌∙◌, arith}
use Rattle.std.proofs.lemmas.Bool.{or_parts, true≢false}
use Rattle.std.proofs.lemmas.Bool.Decides.{Decides-eqb, nat_tests}
use Rattle.std.specs.List.{AllByRecursion}
use Rattle.std.specs.Cmp.{nat_cmp_total}
use Rattle.std.specs.FinMap.{get, nat_cmp-IsAntisymmetric}
use Rattle.std.specs.Ordering.{eq_by_cmp, nat_cmp}
use Rattle.std.proofs.lemmas.Option.{same_Some}
use Rattle.lay_cells.specs.declared.cell_id.CellId.{CellId}
use Rattle.lay_cells.specs.declared.cell_id.CellId.TheVariants.{Symbol, Top}
use Rattle.lay_cells.specs.declared.cells.TheConstants.{MAX_SYMBOL}
use Rattle.lay_cells.specs.SameCell.{cell_eq}
use Rattle.lay_cells.specs.Walks.{IsAcyclic}
use Rattle.lay_cells.proofs.FewerCalls.{AreAmong, IsAcyclic-fewer}
use Rattle.lay_point.specs.declared.point.Point.{Point}
use Rattle.lay_point.specs.declared.turn.Turn.{Turn}
use Rattle.lay_point.specs.Points.{is_in_range}
use Rattle.lay_layouts.specs.declared.id.ItemId.{ItemId}
use Rattle.lay_layouts.specs.declared.item.Item as items
use Rattle.lay_layouts.specs.declared.item.Item.TheVariants.{Placed, Shape}
use Rattle.lay_layouts.specs.declared.slot.CellSlot.{CellSlot}
use Rattle.lay_layouts.specs.declared.slot.CellSlot.TheVariants.{Base, Made}
use Rattle.lay_layouts.specs.Calls.{Call, as_call, calls_of}
use Rattle.lay_layouts.specs.IdOrder.{ids_exact, ids_total}
use Rattle.lay_layouts.specs.Items.{cell_of}
use Rattle.lay_layouts.specs.Layout.{Layout, Write, is_cell, item_at}
use Rattle.lay_layouts.specs.Sound.{IsSound, IsSoundItem}
use Rattle.lay_items.proofs.SoundLemmas.{one_ring}
use Rattle.txn_commands.specs.declared.command.Command.{Command}
use Rattle.txn_commands.specs.declared.command.Done.{Done}
use Rattle.txn_commands.specs.declared.command.TxnId.{TxnId}
use Rattle.txn_commands.specs.declared.element.Element.TheVariants.{Content, Uses}
use Rattle.face_rows.specs.declared.op.Op.{Op}
use Rattle.bool_rules.specs.Shapes.{Rings}
use Rattle.bool_rules.specs.Booleans.{bool_shapes}
use Rattle.bool_rules.proofs.BooleanLaws.{booleans_are_drawn}
use Rattle.txn_commands.specs.Acts.{Act, new_shapes, removals}
use Rattle.txn_commands.specs.Effects.{Run, after_each, next_id}
use Rattle.txn_commands.specs.Figures.{is_item_in_range, moved}
use Rattle.txn_commands.specs.Lies.{lies}
use Rattle.txn_commands.specs.Plans.{is_used, shape_ids}
use Rattle.txn_commands.specs.Reach.{is_among, reached}
use Rattle.txn_commands.specs.Writing.{rewritten}
use Rattle.txn_rules.proofs.Booleans.{IsDrawnIn, WritesAs, bool_there, removed_as, written_drawn}
use Rattle.txn_commands.proofs.Lists.{all_joined}
use Rattle.txn_commands.proofs.CallLists.{AreButFor, IsCalled, acyclic_with, called_by_item, item_called}
use Rattle.txn_commands.proofs.Lying.{no_entry_passes}
use Rattle.txn_commands.proofs.Maps.{get-put, other_key, written_value}
use Rattle.txn_rules.proofs.Planned.{IsPlanned, planned}
use Rattle.txn_rules.proofs.Planned.IsPlanned.{deletes, draws, drops_cell, looks, makes_cell, moves, places, relayers, replaces}
use Rattle.txn_rules.proofs.Reach.{cell_eq-refl, reached-walks}
use Rattle.txn_rules.proofs.Runs.{IsAct, run_keeps}
use Rattle.txn_rules.proofs.Shifts.{drawn_shifted}

-- the layout with one item written
abbrev with_item : Layout → ItemId → Option items.Item → Layout
with_item l id item = rewritten l ((id, item) ∷ []) []

-- the layout with one slot written
abbrev with_slot : Layout → ℕ → Option CellSlot → Layout
with_slot l number slot = rewritten l [] ((number, slot) ∷ [])

-- an item is sound where the cells that it names are there
sound_there : (l m : Layout) (item : items.Item) → (is_cell l (cell_of item) ≡ true → is_cell m (cell_of item) ≡ true) →
    ((cell : CellId) (target : ℕ) → as_call item ≡ Some (cell, target) → is_cell l (Symbol target) ≡ true →
    is_cell m (Symbol target) ≡ true) →
    IsSoundItem l item → IsSoundItem m item
sound_there l m (Shape cell layer rings) cells targets sound = (cells sound.0, sound.1)
sound_there l m (Placed cell target turn) cells targets sound = (cells sound.0, targets cell target refl sound.1, sound.2)

same_cells : (l m : Layout) (cell : CellId) → l.symbols ≡ m.symbols → is_cell l cell ≡ true → is_cell m cell ≡ true
same_cells l m Top h there = refl
same_cells l m (Symbol n) h there = sym (ap (λ s. is_some (get s n)) h) ∙ there

-- what an item is in the layout with one written: that, or what it was
written_item : (l : Layout) (id : ItemId) (item : Option items.Item) (q : ItemId) (x : items.Item) →
    item_at (with_item l id item) q ≡ Some x →
    ((q ≡ id) × (item ≡ Some x)) ⊎ (item_at l q ≡ Some x)
written_item l id item q x h = written_value ids_total ids_exact l.items id item q x h

-- a sound layout with a sound item written is sound, where its calls are free of cycles
with_item-sound : (l : Layout) (id : ItemId) (item : Option items.Item) → IsSound l →
    ((x : items.Item) → item ≡ Some x → IsSoundItem l x) →
    IsAcyclic (calls_of (with_item l id item)) → IsSound (with_item l id item)
with_item-sound l id item sound new acyclic = record {
  numbers = sound.numbers;
  apart = sound.apart;
  items = λ q x there. sound_there l (with_item l id item) x (same_cells l (with_item l id item) (cell_of x) refl)
      (λ cell target is h. h) (elim (written_item l id item q x there) [ inl here ↦ new x here.1 | inr old ↦ sound.items q x old ]);
  acyclic = acyclic;
}

-- calls that are there already: those of an item that takes the place of one with the same call, or that is no call
no_new_call : (l : Layout) (id : ItemId) (item : Option items.Item) →
    ((x : items.Item) (call : Call) → item ≡ Some x → as_call x ≡ Some call → IsCalled l call) →
    AreAmong (calls_of (with_item l id item)) (calls_of l)
no_new_call l id item known call there =
    let called = called_by_item (with_item l id item) call there in
    elim (written_item l id item called.id called.item called.there) [
      | inl here ↦ item_called l call (known called.item call here.1 called.is)
      | inr old ↦ item_called l call (record { id = called.id; item = called.item; there = old; is = called.is })
    ]

written-sound : (l : Layout) (id : ItemId) (item : Option items.Item) → IsSound l → ((x : items.Item) → item ≡ Some x → IsSoundItem l x) →
    ((x : items.Item) (call : Call) → item ≡ Some x → as_call x ≡ Some call → IsCalled l call) → IsSound (with_item l id item)
written-sound l id item sound new known = with_item-sound l id item sound new
    (IsAcyclic-fewer (calls_of (with_item l id item)) (calls_of l) (no_new_call l id item known) sound.acyclic)

-- an item that is moved within the range stays sound, and the same call
moved-sound : (l : Layout) (shift : Point) (item : items.Item) → IsSoundItem l item → is_item_in_range (moved shift item) ≡ true →
    IsSoundItem l (moved shift item)
moved-sound l shift (Shape cell layer rings) sound near = (sound.0, drawn_shifted shift rings sound.1 near)
moved-sound l shift (Placed cell target turn) sound near = (sound.0, sound.1, near)

moved-call : (shift : Point) (item : items.Item) → as_call (moved shift item) ≡ as_call item
moved-call shift (Shape cell layer rings) = refl
moved-call shift (Placed cell target turn) = refl

-- of an item that is written
the_item : (P : items.Item → Type 0) (item : items.Item) → P item → (x : items.Item) → Some item ≡ Some x → P x
the_item P item p x h = subst P (same_Some item x h) p

moves-sound : (l : Layout) (id : ItemId) (shift : Point) (item : items.Item) → IsSound l → item_at l id ≡ Some item →
    is_item_in_range (moved shift item) ≡ true → IsSound (with_item l id (Some (moved shift item)))
moves-sound l id shift item sound there near = written-sound l id (Some (moved shift item)) sound
    (the_item (IsSoundItem l) (moved shift item) (moved-sound l shift item (sound.items id item there) near))
    (λ x call here. the_item (λ y. as_call y ≡ Some call → IsCalled l call) (moved shift item)
    (λ is. record { id = id; item = item; there = there; is = sym (moved-call shift item) ∙ is }) x here)

no_call : (cell : CellId) (layer : List ℕ) (rings : List (List Point)) (l : Layout) (call : Call) →
    as_call (Shape cell layer rings) ≡ Some call →
    IsCalled l call
no_call cell layer rings l call is = absurd cc

shape-sound : (l : Layout) (id : ItemId) (cell : CellId) (layer : List ℕ) (rings : List (List Point)) → IsSound l →
    IsSoundItem l (Shape cell layer rings) → IsSound (with_item l id (Some (Shape cell layer rings)))
shape-sound l id cell layer rings sound new = written-sound l id (Some (Shape cell layer rings)) sound
    (the_item (IsSoundItem l) (Shape cell layer rings) new)
    (λ x call here. the_item (λ y. as_call y ≡ Some call → IsCalled l call) (Shape cell layer rings) (no_call cell layer rings l call) x
    here)

deletes-sound : (l : Layout) (id : ItemId) → IsSound l → IsSound (with_item l id None)
deletes-sound l id sound = written-sound l id None sound (λ x h. absurd cc) (λ x call h is. absurd cc)

-- a call of a symbol that doesn't lead to its cell
places-sound : (l : Layout) (id : ItemId) (cell : CellId) (target : ℕ) (turn : Turn) → IsSound l → is_cell l cell ≡ true →
    is_cell l (Symbol target) ≡ true → is_in_range turn.shift ≡ true → is_among cell (reached l (Symbol target)) ≡ false →
    IsSound (with_item l id (Some (Placed cell target turn)))
places-sound l id cell target turn sound there found near apart = with_item-sound l id (Some (Placed cell target turn)) sound
    (the_item (IsSoundItem l) (Placed cell target turn) (there, found, near))
    (acyclic_with (cell, target) (calls_of (with_item l id (Some (Placed cell target turn)))) (calls_of l) but sound.acyclic
    (λ walk. true≢false (sym ((reached-walks (calls_of l) (Symbol target) cell).1 walk) ∙ apart))) where
      but : AreButFor (cell, target) (calls_of (with_item l id (Some (Placed cell target turn)))) (calls_of l)
      but call among =
          let called = called_by_item (with_item l id (Some (Placed cell target turn))) call among in
          elim (written_item l id (Some (Placed cell target turn)) called.id called.item called.there) [
            | inl here ↦ inl (same_Some (cell, target) call (ap as_call (same_Some (Placed cell target turn) called.item here.1)
                ∙ called.is))
            | inr old ↦ inr (item_called l call (record { id = called.id; item = called.item; there = old; is = called.is }))
          ]

-- the slot of a number in the layout with one written: that, or what it was
written_slot : (l : Layout) (number : ℕ) (slot : Option CellSlot) (q : ℕ) (x : CellSlot) →
    get (with_slot l number slot).symbols q ≡ Some x →
    ((q ≡ number) × (slot ≡ Some x)) ⊎ (get l.symbols q ≡ Some x)
written_slot l number slot q x h = written_value nat_cmp_total nat_cmp-IsAntisymmetric l.symbols number slot q x h

-- cells other than the one that is written are there as before
other_cell : (l : Layout) (number : ℕ) (slot : Option CellSlot) (cell : CellId) → (cell ≡ Symbol number → ⊥) → is_cell l cell ≡ true →
    is_cell (with_slot l number slot) cell ≡ true
other_cell l number slot Top apart there = refl
other_cell l number slot (Symbol n) apart there =
    ap is_some (get-put nat_cmp_total l.symbols number slot n
    ∙ ap (λ b. cond b slot (get l.symbols n)) (other_key nat_cmp-IsAntisymmetric n number (λ e. apart (ap Symbol e)))) ∙ there

-- and where a slot is written the cell is there
each_cell : (l : Layout) (number : ℕ) (slot : CellSlot) (cell : CellId) → is_cell l cell ≡ true →
    is_cell (with_slot l number (Some slot)) cell ≡ true
each_cell l number slot Top there = refl
each_cell l number slot (Symbol n) there =
    ap is_some (get-put nat_cmp_total l.symbols number (Some slot) n) ∙ by_key (eq_by_cmp nat_cmp n number) where
      by_key : (b : Bool) → is_some (cond b (Some slot) (get l.symbols n)) ≡ true
      by_key true = refl
      by_key false = there

makes_cell-sound : (l : Layout) (number : ℕ) → IsSound l → nat_lt MAX_SYMBOL number ≡ false → IsSound (with_slot l number (Some Made))
unfolding calls_of
makes_cell-sound l number sound small = record {
  numbers = λ q slot there. elim (written_slot l number (Some Made) q slot there) [
    | inl here ↦ let e = here.0 in grind (arith, nat_tests)
    | inr old ↦ sound.numbers q slot old
  ];
  apart = λ m n place at_m at_n. sound.apart m n place (old_slot m place at_m) (old_slot n place at_n);
  items = λ q x there. sound_there l (with_slot l number (Some Made)) x (each_cell l number Made (cell_of x))
      (λ cell target is h. each_cell l number Made (Symbol target) h) (sound.items q x there);
  acyclic = sound.acyclic;
} where
  old_slot : (q place : ℕ) → get (with_slot l number (Some Made)).symbols q ≡ Some (Base place) → get l.symbols q ≡ Some (Base place)
  old_slot q place h = elim (written_slot l number (Some Made) q (Base place) h) [ inl here ↦ absurd (cc (here.1)) | inr old ↦ old ]

-- an item of a symbol that isn't used isn't in it, nor calls it
unused_by : (l : Layout) (number : ℕ) (id : ItemId) (item : items.Item) → is_used l number ≡ false → item_at l id ≡ Some item →
    (lies (Content number) id item ≡ false) × (lies (Uses number) id item ≡ false)
unused_by l number id item unused there = or_parts (lies (Content number) id item) (lies (Uses number) id item)
    (no_entry_passes ids_exact (λ e. lies (Content number) e.0 e.1 || lies (Uses number) e.0 e.1) l.items id item unused there)

not_called : (number : ℕ) (id : ItemId) (item : items.Item) (cell : CellId) (target : ℕ) → lies (Uses number) id item ≡ false →
    as_call item ≡ Some (cell, target) → Symbol target ≡ Symbol number → ⊥
not_called number id (Shape c layer rings) cell target unused is same = absurd cc
not_called number id (Placed c t turn) cell target unused is same =
    let calls : ◌≡◌ {A = Call} (c, t) (cell, target) = cc in
    let targets : t ≡ target = ap (λ (x : Call). x.1) calls in
    let numbers : target ≡ number = cc in
    true≢false (sym ((Decides-eqb number t).1 (sym (targets ∙ numbers))) ∙ unused)

drops_cell-sound : (l : Layout) (number : ℕ) → IsSound l → is_used l number ≡ false → IsSound (with_slot l number None)
unfolding calls_of
drops_cell-sound l number sound unused = record {
  numbers = λ q slot there. sound.numbers q slot (old_slot q slot there);
  apart = λ m n place at_m at_n. sound.apart m n place (old_slot m (Base place) at_m) (old_slot n (Base place) at_n);
  items = λ q x there.
      let out = unused_by l number q x unused there in
      sound_there l (with_slot l number None) x
      (other_cell l number None (cell_of x) (λ e. true≢false (sym (ap (cell_eq (Symbol number)) e ∙ cell_eq-refl (Symbol number))
      ∙ out.0)))
      (λ cell target is h. other_cell l number None (Symbol target) (not_called number q x cell target out.1 is) h)
      (sound.items q x there);
  acyclic = sound.acyclic;
} where
  old_slot : (q : ℕ) (slot : CellSlot) → get (with_slot l number None).symbols q ≡ Some slot → get l.symbols q ≡ Some slot
  old_slot q slot h = elim (written_slot l number None q slot h) [ inl here ↦ absurd (cc (here.1)) | inr old ↦ old ]

-- shapes come and items go in a cell that is there
shapes-sound : (cell : CellId) (writes : List Write) → AllByRecursion (WritesAs (IsDrawnIn cell)) writes → (l : Layout) → IsSound l →
    is_cell l cell ≡ true → IsSound (rewritten l writes [])
shapes-sound cell [] all l sound there = sound
shapes-sound cell (w ∷ writes) all l sound there =
    shapes-sound cell writes all.1 (with_item l w.0 w.1) first (same_cells l (with_item l w.0 w.1) cell refl there) where
      drawn : (x : items.Item) → IsDrawnIn cell w.0 x → IsSoundItem l x
      drawn x is = subst (IsSoundItem l) is.2 (there, is.3)

      calls_none : (x : items.Item) (call : Call) → IsDrawnIn cell w.0 x → as_call x ≡ Some call → IsCalled l call
      calls_none x call is h = let none : None ≡ Some call = ap as_call is.2 ∙ h in absurd cc

      first : IsSound (with_item l w.0 w.1)
      first = written-sound l w.0 w.1 sound (λ x h. drawn x (all.0 x h)) (λ x call h is. calls_none x call (all.0 x h) is)

replaces-sound : (new : ItemId) (l : Layout) (op : Op) (cell : CellId) (a b out : List ℕ) (shapes : List Rings) → IsSound l →
    bool_shapes l op cell a b ≡ Ok shapes →
    IsSound (rewritten l (removals (shape_ids l cell out) ++ new_shapes new cell out shapes) [])
replaces-sound new l op cell a b out shapes sound some =
    let old = shape_ids l cell out in
    let drawn = booleans_are_drawn l sound op cell a b shapes some in
    shapes-sound cell (removals old ++ new_shapes new cell out shapes)
    (all_joined (WritesAs (IsDrawnIn cell)) (removals old) (new_shapes new cell out shapes) (removed_as (IsDrawnIn cell) old)
    (written_drawn cell out shapes new drawn)) l sound (bool_there l op cell a b shapes some)

-- the layout after an act
abbrev acted_on : Layout → Act → Layout
acted_on l act = rewritten l act.items act.symbols

act-sound : (new : ItemId) (l : Layout) (act : Act) → IsPlanned new l act → IsSound l → IsSound (acted_on l act)
act-sound new l act (draws cell layer ring there is same) sound = subst (λ (a : Act). IsSound (acted_on l a)) same
    (shape-sound l new cell layer (ring ∷ []) sound (there, one_ring ring is))
act-sound new l act (deletes id same) sound = subst (λ (a : Act). IsSound (acted_on l a)) same (deletes-sound l id sound)
act-sound new l act (moves id shift item there near same) sound = subst (λ (a : Act). IsSound (acted_on l a)) same
    (moves-sound l id shift item sound there near)
act-sound new l act (relayers id layer old cell rings there same) sound = subst (λ (a : Act). IsSound (acted_on l a)) same
    (shape-sound l id cell layer rings sound (sound.items id (Shape cell old rings) there))
act-sound new l act (places cell target turn is) sound = subst (λ (a : Act). IsSound (acted_on l a)) is.acts
    (places-sound l new cell target turn sound is.there is.found is.near is.acyclic)
act-sound new l act (looks id item there same) sound = subst (λ (a : Act). IsSound (acted_on l a)) same sound
act-sound new l act (replaces op cell a b out shapes some same) sound = subst (λ (a : Act). IsSound (acted_on l a)) same
    (replaces-sound new l op cell a b out shapes sound some)
act-sound new l act (makes_cell number small free same) sound = subst (λ (a : Act). IsSound (acted_on l a)) same
    (makes_cell-sound l number sound small)
act-sound new l act (drops_cell number unused same) sound = subst (λ (a : Act). IsSound (acted_on l a)) same
    (drops_cell-sound l number sound unused)

pub effect_sound : (t : TxnId) (c : Command) (r : Run) (next : Done × Run) → IsAct t c r next → IsSound r.layout → IsSound next.1.layout
effect_sound t c r next is sound = subst (λ (p : Done × Run). IsSound p.1.layout) is.next_is
    (act-sound (next_id t r) r.layout is.act (planned (next_id t r) c r.layout is.act is.plan_is) sound)

-- runs keep a layout sound
pub run_sound : (t : TxnId) (cs : List Command) (start end : Run) → after_each t cs start ≡ Some end → IsSound start.layout →
    IsSound end.layout
run_sound t cs start end h sound = run_keeps (λ (r : Run). IsSound r.layout) t (λ c r next is so. effect_sound t c r next is so) cs
    start end h sound
