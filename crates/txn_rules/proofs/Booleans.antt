-- Operations on layers as commands: what is known of an accepted one, and that it does the same where it reads the same.
use Rattle.std.proofs.Common.{◌≡◌, inl, inr, ◌⊎◌, ℕ, zero, suc, ◌+◌, ◌<◌, Bool, true}
use Rattle.std.proofs.Common.{false, List, [], ◌∷◌, ◌++◌, length, map, refl, ap, sym, subst}
use Rattle.std.proofs.Common.{◌∙◌, arith}
use Rattle.std.specs.Prelude.{Some, Result, Ok, Err, flat_map, if◌then◌else◌}
use Rattle.std.specs.List.{AllByRecursion}
use Rattle.std.proofs.lemmas.Bool.{or_left, or_right}
use Rattle.std.specs.Cmp.{eq_by_cmp_equiv}
use Rattle.std.specs.Ordering.{eq_by_cmp}
use Rattle.lay_cells.specs.declared.cell_id.CellId.{CellId}
use Rattle.lay_point.specs.declared.point.Point.{Point}
use Rattle.lay_point.proofs.ListLaws.{all_weaker}
use Rattle.lay_layouts.specs.declared.id.ItemId.{ItemId}
use Rattle.lay_layouts.specs.declared.item.Item as items
use Rattle.lay_layouts.specs.declared.item.Item.TheVariants.{Shape}
use Rattle.lay_layouts.specs.IdOrder.{ids_exact, ids_total}
use Rattle.lay_layouts.specs.Layout.{Layout, Write, is_cell, item_at}
use Rattle.lay_layouts.specs.Sound.{IsDrawn, IsSound}
use Rattle.lay_flat.specs.declared.fault.FlatFault.{FlatFault}
use Rattle.lay_flat.specs.declared.fault.FlatFault.TheVariants.{NoCell}
use Rattle.lay_flat.specs.Flat.{FlatRing}
use Rattle.lay_flat.specs.Flattening.{ends_of, flat_at, flat_of, on_success, rings_at, tested}
use Rattle.face_rows.specs.declared.op.Op.{Op}
use Rattle.bool_rules.specs.Shapes.{Rings}
use Rattle.bool_rules.specs.Booleans.{bool_shapes, shapes_within}
use Rattle.bool_rules.proofs.BooleanLaws.{booleans_read}
use Rattle.txn_commands.specs.declared.command.Command.TheVariants.{Bool as Combine}
use Rattle.txn_commands.specs.declared.element.Element.{Element}
use Rattle.txn_commands.specs.declared.element.Element.TheVariants.{Calls, Item, Layer}
use Rattle.txn_commands.specs.Acts.{
  Act,
  Combination,
  bool_act,
  cell_elements,
  id_after,
  item_elements,
  new_shapes,
  operands,
  read_for,
  removals,
  replacing,
}
use Rattle.txn_commands.specs.Agreement.{Agree, AgreeOnEach}
use Rattle.txn_commands.specs.Covers.{IsCovered, has}
use Rattle.txn_commands.specs.Elements.{element_cmp, elements_total}
use Rattle.txn_commands.specs.Own.{id_from}
use Rattle.txn_commands.specs.Plans.{combination_in, plan, replace_by, shape_ids}
use Rattle.txn_commands.specs.Reach.{reached}
use Rattle.txn_commands.specs.Writing.{rewritten}
use Rattle.txn_rules.proofs.Below.{same_first, same_second, shapes_agree}
use Rattle.txn_commands.proofs.Lists.{all_parts}
use Rattle.txn_commands.proofs.Maps.{written_value}
use Rattle.txn_rules.proofs.Reach.{same_reach}

-- an operation that is accepted has shapes, and is the act of these
pub replaced_by : (new : ItemId) (c : Combination) (result : Result (List Rings) FlatFault) (act : Act) → replace_by new c result ≡ Ok act →
    (shapes : List Rings) × (result ≡ Ok shapes) × (bool_act new c shapes ≡ act)
replaced_by new c (Ok shapes) act h = (shapes, refl, cc)
replaced_by new c (Err fault) act h = absurd cc

-- its cell is there
flat_there : (l : Layout) (cell : CellId) (layer : List ℕ) (rings : List FlatRing) → flat_of l cell layer ≡ Ok rings → is_cell l cell ≡ true
unfolding flat_of
flat_there l cell layer rings h = by_test (is_cell l cell) h where
  by_test : (b : Bool) →
      (if b then on_success (tested l cell) (λ _. flat_at (ends_of l cell) (rings_at l layer (ends_of l cell))) else Err NoCell)
      ≡ Ok rings →
      b ≡ true
  by_test true g = refl
  by_test false g = absurd (cc)

pub bool_there : (l : Layout) (op : Op) (cell : CellId) (a b : List ℕ) (shapes : List Rings) → bool_shapes l op cell a b ≡ Ok shapes →
    is_cell l cell ≡ true
unfolding bool_shapes
bool_there l op cell a b shapes h = by_first (flat_of l cell a) refl h where
  by_first : (r : Result (List FlatRing) FlatFault) → flat_of l cell a ≡ r →
      on_success r (λ first. on_success (flat_of l cell b) (λ second. shapes_within op first second)) ≡ Ok shapes → is_cell l cell ≡ true
  by_first (Ok first) is g = flat_there l cell a first is
  by_first (Err fault) is g = absurd (cc)

-- agreement on all that is read in some cells is so on their calls
on_calls : (l m : Layout) (a b : List ℕ) (cells : List CellId) → AgreeOnEach l m (flat_map (operands a b) cells) →
    AllByRecursion (λ c. Agree l m (Calls c)) cells
on_calls l m a b [] all = tt
on_calls l m a b (c ∷ cells) all =
    let parts = all_parts (Agree l m) (operands a b c) (flat_map (operands a b) cells) all in
    (parts.0.0, on_calls l m a b cells parts.1)

-- where two sound layouts agree on what it touches, it is the same act in both
pub same_bool : (new : ItemId) (op : Op) (cell : CellId) (a b out : List ℕ) (l m : Layout) (act : Act) → IsSound l → IsSound m →
    plan new (Combine op cell a b out) l ≡ Ok act → AgreeOnEach l m act.elements → plan new (Combine op cell a b out) m ≡ Ok act
unfolding plan
same_bool new op cell a b out l m act one other h agree =
    let cells = reached l cell in
    let old = shape_ids l cell out in
    let combination = combination_in l cell a b out in
    let is = replaced_by new combination (bool_shapes l op cell a b) act h in
    let agreed : AgreeOnEach l m (bool_act new combination is.0).elements =
    subst (λ (x : Act). AgreeOnEach l m x.elements) (sym is.2) agree in
    let read = (all_parts (Agree l m) (item_elements (removals old ++ new_shapes new cell out is.0))
    (cell_elements cell ++ Layer cell out ∷ flat_map (operands a b) cells) agreed).1 in
    let parts = all_parts (Agree l m) (cell_elements cell) (Layer cell out ∷ flat_map (operands a b) cells) read in
    let same_shapes : bool_shapes m op cell a b ≡ bool_shapes l op cell a b =
    sym (booleans_read l m one other op cell a b (same_first l m cell a b parts.0 parts.1.1)
    (same_second l m cell a b parts.0 parts.1.1)) in
    let same_cells : reached m cell ≡ cells = same_reach l m cell (on_calls l m a b cells parts.1.1) in
    let same_ids : shape_ids m cell out ≡ old = ap (map (λ shape. shape.0)) (sym (shapes_agree l m cell out parts.1.0)) in
    (λ i. replace_by new (record { cell = cell; a = a; b = b; out = out; cells = same_cells i; old = same_ids i }) (same_shapes i)) ∙ h

-- writes are covered by the elements of their ids
items_covered : (writes : List Write) (more : List Element) →
    AllByRecursion (λ (w : Write). has (Item w.0) (item_elements writes ++ more) ≡ true) writes
items_covered [] more = tt
items_covered (w ∷ writes) more = (
  or_left (eq_by_cmp element_cmp (Item w.0) (Item w.0)) (has (Item w.0) (item_elements writes ++ more))
      ((eq_by_cmp_equiv elements_total).refl (Item w.0)),
  all_weaker (λ (v : Write). has (Item v.0) (item_elements writes ++ more) ≡ true)
      (λ (v : Write). has (Item v.0) (Item w.0 ∷ item_elements writes ++ more) ≡ true)
      (λ v h. or_right (eq_by_cmp element_cmp (Item v.0) (Item w.0)) (has (Item v.0) (item_elements writes ++ more)) h) writes
      (items_covered writes more),
)

pub replaced_covered : (new : ItemId) (c : Combination) (shapes : List Rings) → IsCovered (bool_act new c shapes)
replaced_covered new c shapes = record {
  items = items_covered (replacing new c shapes) (read_for c);
  symbols = tt;
}

-- where an item is written, it and its id are as told
abbrev pub WritesAs : (ItemId → items.Item → Type 0) → Write → Type 0
WritesAs P w = (x : items.Item) → w.1 ≡ Some x → P w.0 x

-- so is what stands behind the writes, or it stood before them
pub behind_writes : (P : ItemId → items.Item → Type 0) (writes : List Write) → AllByRecursion (WritesAs P) writes → (l : Layout)
    (q : ItemId) (x : items.Item) → item_at (rewritten l writes []) q ≡ Some x → P q x ⊎ (item_at l q ≡ Some x)
behind_writes P [] all l q x h = inr h
behind_writes P (w ∷ writes) all l q x h = elim (behind_writes P writes all.1 (rewritten l (w ∷ []) []) q x h) [
  | inl new ↦ inl new
  | inr old ↦ first old
] where
  first : item_at (rewritten l (w ∷ []) []) q ≡ Some x → P q x ⊎ (item_at l q ≡ Some x)
  first old = elim (written_value ids_total ids_exact l.items w.0 w.1 q x old) [
    | inl here ↦ inl (subst (λ (id : ItemId). P id x) (sym here.0) (all.0 x here.1))
    | inr before ↦ inr before
  ]

-- under ids that go nothing is written
pub removed_as : (P : ItemId → items.Item → Type 0) (ids : List ItemId) → AllByRecursion (WritesAs P) (removals ids)
removed_as P [] = tt
removed_as P (id ∷ ids) = ((λ x h. absurd cc), removed_as P ids)

-- the id is one of so many from this one on
abbrev pub IsNew : ItemId → ℕ → ItemId → Type 0
IsNew new count id = (n : ℕ) × (n < count) × (id ≡ id_from new n)

pub first_new : (new : ItemId) → id_from new 0 ≡ new
first_new new = let same : new.seq + 0 ≡ new.seq = omega arith in
    λ i. record { session = new.session; txn = new.txn; seq = same i }

pub later_new : (new : ItemId) (n : ℕ) → id_from (id_after new) n ≡ id_from new (suc n)
later_new new n = let same : (new.seq + 1) + n ≡ new.seq + suc n = omega arith in
    λ i. record { session = new.session; txn = new.txn; seq = same i }

-- shapes are written under new ids
pub written_new : (cell : CellId) (layer : List ℕ) (shapes : List Rings) (new : ItemId) →
    AllByRecursion (WritesAs (λ q x. IsNew new (length shapes) q)) (new_shapes new cell layer shapes)
written_new cell layer [] new = tt
written_new cell layer (rings ∷ shapes) new = (
  (λ x h. (zero, omega arith, sym (first_new new))),
  all_weaker (WritesAs (λ q x. IsNew (id_after new) (length shapes) q))
      (WritesAs (λ q x. IsNew new (length {A = Rings} (rings ∷ shapes)) q))
      (λ w known x h. let at = known x h in (suc at.0, omega (arith, at.1), at.2 ∙ later_new new at.0))
      (new_shapes (id_after new) cell layer shapes) (written_new cell layer shapes (id_after new)),
)

-- and they are shapes of the cell
abbrev pub IsDrawnIn : CellId → ItemId → items.Item → Type 0
IsDrawnIn cell q x = (layer : List ℕ) × (rings : List (List Point)) × (Shape cell layer rings ≡ x) × IsDrawn rings

pub written_drawn : (cell : CellId) (layer : List ℕ) (shapes : List Rings) (new : ItemId) → AllByRecursion IsDrawn shapes →
    AllByRecursion (WritesAs (IsDrawnIn cell)) (new_shapes new cell layer shapes)
written_drawn cell layer [] new drawn = tt
written_drawn cell layer (rings ∷ shapes) new drawn =
    ((λ x h. (layer, rings, cc, drawn.0)), written_drawn cell layer shapes (id_after new) drawn.1)
