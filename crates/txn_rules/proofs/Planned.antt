-- What is known of an accepted command, by its kind; and that its elements cover its writes.
use Rattle.std.proofs.Common.{◌≡◌, ℕ, true, false, not, ◌||◌, ◌&&◌, List, [], ◌∷◌, ◌++◌, map, Option, None, Some, is_some}
use Rattle.std.proofs.Common.{Result, Ok, nat_lt, ap, subst, ◌∙◌}
use Rattle.std.proofs.lemmas.Bool.{not-false, or_left, or_parts}
use Rattle.std.proofs.lemmas.Bool.Decides.{Decides-int_eq, not_from_Decides}
use Rattle.std.specs.Cmp.{eq_by_cmp_equiv}
use Rattle.std.specs.FinMap.{get}
use Rattle.std.specs.Ordering.{eq_by_cmp, int_eq}
use Rattle.lay_cells.specs.declared.cell_id.CellId.{CellId}
use Rattle.lay_cells.specs.declared.cell_id.CellId.TheVariants.{Symbol}
use Rattle.lay_cells.specs.declared.cells.TheConstants.{MAX_SYMBOL}
use Rattle.lay_point.specs.declared.point.Point.{Point}
use Rattle.lay_point.specs.declared.turn.Turn.{Turn}
use Rattle.lay_point.specs.Points.{is_in_range}
use Rattle.lay_point.specs.Rings.{IsRing, ring_of}
use Rattle.lay_point.proofs.BridgeLemmas.{ring_of_is}
use Rattle.lay_layouts.specs.declared.id.ItemId.{ItemId}
use Rattle.lay_layouts.specs.declared.item.Item as items
use Rattle.lay_layouts.specs.declared.item.Item.TheVariants.{Placed, Shape}
use Rattle.lay_layouts.specs.Layout.{Layout, is_cell, item_at}
use Rattle.txn_commands.specs.declared.command.Command.{Command}
use Rattle.txn_commands.specs.declared.command.Command.TheVariants.{
  Bool as Combine,
  Box,
  Delete,
  DropCell,
  Look,
  MakeCell,
  Move,
  Place,
  Poly,
}
use Rattle.txn_commands.specs.declared.command.Command.TheVariants.{SetLayer}
use Rattle.txn_commands.specs.declared.element.Element.{Element}
use Rattle.txn_commands.specs.declared.element.Element.TheVariants.{Calls, Cell, Content, Item, Uses}
use Rattle.txn_commands.specs.declared.fault.CmdFault.{CmdFault}
use Rattle.txn_commands.specs.declared.fault.CmdFault.TheVariants.{CellThere, CellUsed, FewPoints, NoCell, NoItem, OutOfRange}
use Rattle.face_rows.specs.declared.op.Op.{Op}
use Rattle.bool_rules.specs.Shapes.{Rings}
use Rattle.bool_rules.specs.Booleans.{bool_shapes}
use Rattle.txn_commands.specs.Acts.{Act, bool_act, cell_elements, change_act, drop_cell_act}
use Rattle.txn_commands.specs.Acts.{look_act, make_act, make_cell_act, shape_act}
use Rattle.txn_commands.specs.Covers.{IsCovered, has}
use Rattle.txn_commands.specs.Elements.{element_cmp, elements_total}
use Rattle.txn_commands.specs.Figures.{box_ring, is_item_in_range, moved, shape_of}
use Rattle.txn_commands.specs.Plans.{combination_in, is_used, move_to, plan, refused_if, relayer, ring_act}
use Rattle.txn_commands.specs.Reach.{reached}
use Rattle.txn_rules.proofs.Booleans.{replaced_by, replaced_covered}
use Rattle.txn_rules.proofs.Rings.{box_ring-ring}
use Rattle.txn_rules.proofs.SamePlans.{HasPlaced, drawn_by, given, has_placed, moved_to, passed, relayered}

pub data IsPlanned (new : ItemId) (l : Layout) (act : Act) : Type 0 where
  draws : (cell : CellId) (layer : List ℕ) (ring : List Point) → is_cell l cell ≡ true → IsRing ring
      → shape_act new cell (shape_of cell layer ring) ≡ act → IsPlanned new l act
  deletes : (id : ItemId) → change_act id None ≡ act → IsPlanned new l act
  moves : (id : ItemId) (shift : Point) (item : items.Item) → item_at l id ≡ Some item → is_item_in_range (moved shift item) ≡ true
      → change_act id (Some (moved shift item)) ≡ act → IsPlanned new l act
  relayers : (id : ItemId) (layer old : List ℕ) (cell : CellId) (rings : List (List Point)) → item_at l id ≡ Some (Shape cell old rings)
      → change_act id (Some (Shape cell layer rings)) ≡ act → IsPlanned new l act
  places : (cell : CellId) (target : ℕ) (turn : Turn) → HasPlaced new cell target turn l act → IsPlanned new l act
  looks : (id : ItemId) (item : items.Item) → item_at l id ≡ Some item → look_act id item ≡ act → IsPlanned new l act
  replaces : (op : Op) (cell : CellId) (a b out : List ℕ) (shapes : List Rings) → bool_shapes l op cell a b ≡ Ok shapes
      → bool_act new (combination_in l cell a b out) shapes ≡ act → IsPlanned new l act
  makes_cell : (number : ℕ) → nat_lt MAX_SYMBOL number ≡ false → is_some (get l.symbols number) ≡ false → make_cell_act number ≡ act
      → IsPlanned new l act
  drops_cell : (number : ℕ) → is_used l number ≡ false → drop_cell_act number ≡ act → IsPlanned new l act

planned_box : (new : ItemId) (cell : CellId) (layer : List ℕ) (a b : Point) (l : Layout) (act : Act) →
    plan new (Box cell layer a b) l ≡ Ok act →
    IsPlanned new l act
unfolding plan
planned_box new cell layer a b l act h =
    let known = shape_act new cell (shape_of cell layer (box_ring a b)) in
    let last : Result Act CmdFault = refused_if (not (is_in_range a && is_in_range b)) OutOfRange (Ok known) in
    let middle : Result Act CmdFault = refused_if (int_eq a.x b.x || int_eq a.y b.y) FewPoints last in
    let there = passed (not (is_cell l cell)) NoCell middle act h in
    let wide = passed (int_eq a.x b.x || int_eq a.y b.y) FewPoints last act there.1 in
    let near = passed (not (is_in_range a && is_in_range b)) OutOfRange (Ok known) act wide.1 in
    let sides = or_parts (int_eq a.x b.x) (int_eq a.y b.y) wide.0 in
    draws cell layer (box_ring a b) (not-false (is_cell l cell) there.0)
    (box_ring-ring a b (not_from_Decides (int_eq a.x b.x) (Decides-int_eq a.x b.x) sides.0)
    (not_from_Decides (int_eq a.y b.y) (Decides-int_eq a.y b.y) sides.1) (not-false (is_in_range a && is_in_range b) near.0))
    (cc (near.1))

planned_poly : (new : ItemId) (cell : CellId) (layer : List ℕ) (points : List Point) (l : Layout) (act : Act) →
    plan new (Poly cell layer points) l ≡ Ok act → IsPlanned new l act
unfolding plan
planned_poly new cell layer points l act h =
    let there = passed (not (is_cell l cell)) NoCell (ring_act new cell layer (ring_of points)) act h in
    let ring = drawn_by new cell layer (ring_of points) act there.1 in
    draws cell layer ring.0 (not-false (is_cell l cell) there.0) (ring_of_is points ring.0 ring.1) ring.2

pub planned : (new : ItemId) (command : Command) (l : Layout) (act : Act) → plan new command l ≡ Ok act → IsPlanned new l act
unfolding plan
planned new (Box cell layer a b) l act h = planned_box new cell layer a b l act h
planned new (Poly cell layer points) l act h = planned_poly new cell layer points l act h
planned new (Delete id) l act h =
    let item = given (item_at l id) NoItem (λ x. Ok (change_act id None)) act h in deletes id (cc (item.2))
planned new (Move id dx dy) l act h =
    let shift : Point = record { x = dx; y = dy } in
    let item = given (item_at l id) NoItem (λ x. move_to id (moved shift x)) act h in
    let near = moved_to id (moved shift item.0) act item.2 in
    moves id shift item.0 item.1 near.0 near.1
planned new (SetLayer id layer) l act h =
    let item = given (item_at l id) NoItem (relayer id layer) act h in
    let shape = relayered id layer item.0 act item.2 in
    relayers id layer shape.1 shape.0 shape.2 (item.1 ∙ ap Some shape.3) shape.4
planned new (Place cell target turn) l act h = places cell target turn (has_placed new cell target turn l act h)
planned new (Look id) l act h =
    let item = given (item_at l id) NoItem (λ x. Ok (look_act id x)) act h in looks id item.0 item.1 (cc (item.2))
planned new (Combine op cell a b out) l act h =
    let is = replaced_by new (combination_in l cell a b out) (bool_shapes l op cell a b) act h in
    replaces op cell a b out is.0 is.1 is.2
planned new (MakeCell number) l act h =
    let rest : Result Act CmdFault = refused_if (is_some (get l.symbols number)) CellThere (Ok (make_cell_act number)) in
    let small = passed (nat_lt MAX_SYMBOL number) OutOfRange rest act h in
    let free = passed (is_some (get l.symbols number)) CellThere (Ok (make_cell_act number)) act small.1 in
    makes_cell number small.0 free.0 (cc (free.1))
planned new (DropCell number) l act h =
    let rest : Result Act CmdFault = refused_if (is_used l number) CellUsed (Ok (drop_cell_act number)) in
    let there = passed (not (is_some (get l.symbols number))) NoCell rest act h in
    let unused = passed (is_used l number) CellUsed (Ok (drop_cell_act number)) act there.1 in
    drops_cell number unused.0 (cc (unused.1))

pub has_first : (e : Element) (es : List Element) → has e (e ∷ es) ≡ true
has_first e es = or_left (eq_by_cmp element_cmp e e) (has e es) ((eq_by_cmp_equiv elements_total).refl e)

made_covered : (new : ItemId) (item : items.Item) (more : List Element) → IsCovered (make_act new item more)
made_covered new item more = record { items = (has_first (Item new) more, tt); symbols = tt }

changed_covered : (id : ItemId) (item : Option items.Item) → IsCovered (change_act id item)
changed_covered id item = record { items = (has_first (Item id) [], tt); symbols = tt }

pub covered : (new : ItemId) (l : Layout) (act : Act) → IsPlanned new l act → IsCovered act
covered new l act (draws cell layer ring there is same) =
    subst IsCovered same (made_covered new (shape_of cell layer ring) (cell_elements cell))
covered new l act (deletes id same) = subst IsCovered same (changed_covered id None)
covered new l act (moves id shift item there near same) = subst IsCovered same (changed_covered id (Some (moved shift item)))
covered new l act (relayers id layer old cell rings there same) =
    subst IsCovered same (changed_covered id (Some (Shape cell layer rings)))
covered new l act (places cell target turn is) = subst IsCovered is.acts
    (made_covered new (Placed cell target turn) (cell_elements cell ++ Cell target ∷ map Calls (reached l (Symbol target))))
covered new l act (looks id item there same) = subst IsCovered same (record { items = tt; symbols = tt })
covered new l act (replaces op cell a b out shapes some same) =
    subst IsCovered same (replaced_covered new (combination_in l cell a b out) shapes)
covered new l act (makes_cell number small free same) =
    subst IsCovered same (record { items = tt; symbols = (has_first (Cell number) [], tt) })
covered new l act (drops_cell number unused same) =
    subst IsCovered same (record { items = tt; symbols = (has_first (Cell number) (Content number ∷ Uses number ∷ []), tt) })
