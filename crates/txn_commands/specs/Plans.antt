-- What each command is to do on a layout, or why it is refused, in the order in which it is tested.
-- Source: this project's own rules of editing.
-- Rings and calls are as in Caltech Intermediate Form 2.0.
-- Checked on: `box top NP 0 0 10 10` makes the ring 0 0, 10 0, 10 10, 0 10, and so does
-- `box top NP 10 10 0 0`; `box 9 A 0 0 0 5` is NoCell; `box top A 0 0 0 1073741825` is FewPoints;
-- `box top A 0 0 1 1073741825` is OutOfRange; tests/jobs/refusals.job,
-- tests/jobs/boxes-and-refusals.job, tests/jobs/symbols-are-made.job,
-- tests/jobs/a-used-symbol-stays.job and tests/jobs/a-boolean-too-deep.job.
use Rattle.std.specs.Prelude.{ℕ, List, map as map_list, Bool, not, nat_lt, ◌&&◌, ◌||◌, Option, None, Some, Result, Ok, Err, is_some}
use Rattle.std.specs.Prelude.{if◌then◌else◌}
use Rattle.std.specs.FinMap as map
use Rattle.std.specs.List.{list_any}
use Rattle.std.specs.Ordering.{int_eq}
use Rattle.lay_cells.specs.declared.cell_id.CellId.{CellId}
use Rattle.lay_cells.specs.declared.cell_id.CellId.TheVariants.{Symbol}
use Rattle.lay_cells.specs.declared.cells.TheConstants.{MAX_SYMBOL}
use Rattle.lay_point.specs.declared.point.Point.{Point}
use Rattle.lay_point.specs.declared.ring.RingFault.{RingFault}
use Rattle.lay_point.specs.declared.ring.RingFault.TheVariants as ring_fault
use Rattle.lay_point.specs.Points.{is_in_range}
use Rattle.lay_point.specs.Rings.{ring_of}
use Rattle.lay_layouts.specs.declared.id.ItemId.{ItemId}
use Rattle.lay_layouts.specs.declared.item.Item as items
use Rattle.lay_layouts.specs.declared.item.Item.TheVariants as item
use Rattle.lay_layouts.specs.Layout.{Layout, is_cell, item_at}
use Rattle.lay_layouts.specs.Lent.{shapes_in}
use Rattle.lay_flat.specs.declared.fault.FlatFault.{FlatFault}
use Rattle.lay_flat.specs.declared.fault.FlatFault.TheVariants as flat_fault
use Rattle.bool_rules.specs.Shapes.{Rings}
use Rattle.bool_rules.specs.Booleans.{bool_shapes}
use Rattle.txn_commands.specs.declared.command.Command.{Command}
use Rattle.txn_commands.specs.declared.command.Command.TheVariants.{
  Bool as Combine,
  Box,
  Delete,
  DropCell,
  Look,
  MakeCell,
  Move,
  Place,
  Poly,
}
use Rattle.txn_commands.specs.declared.command.Command.TheVariants.{SetLayer}
use Rattle.txn_commands.specs.declared.element.Element.TheVariants.{Content, Uses}
use Rattle.txn_commands.specs.declared.fault.CmdFault.{CmdFault}
use Rattle.txn_commands.specs.declared.fault.CmdFault.TheVariants.{
  CellThere,
  CellUsed,
  Cycle,
  FewPoints,
  NoCell,
  NoItem,
  NoMemory,
  NotShape,
}
use Rattle.txn_commands.specs.declared.fault.CmdFault.TheVariants.{OutOfRange, TooDeep, TooMany}
use Rattle.txn_commands.specs.Acts.{Act, Combination, bool_act, change_act, drop_cell_act, look_act, make_cell_act, place_act, shape_act}
use Rattle.txn_commands.specs.Figures.{box_ring, is_item_in_range, moved, shape_of}
use Rattle.txn_commands.specs.Lies.{lies}
use Rattle.txn_commands.specs.Reach.{is_among, reached}

-- the refusal, unless the test is passed
abbrev pub refused_if : {T : Type 0} → Bool → CmdFault → Result T CmdFault → Result T CmdFault
refused_if test fault rest = if test then Err fault else rest

-- what is to be done with a value, or the refusal where there is none
abbrev pub with_value : {V T : Type 0} → Option V → CmdFault → (V → Result T CmdFault) → Result T CmdFault
with_value None fault rest = Err fault
with_value (Some value) fault rest = rest value

-- why a ring can't be drawn
abbrev pub fault_of_ring : RingFault → CmdFault
fault_of_ring ring_fault.FewPoints = FewPoints
fault_of_ring ring_fault.OutOfRange = OutOfRange
fault_of_ring ring_fault.TooMany = TooMany
fault_of_ring ring_fault.NoMemory = NoMemory

-- a shape of this ring
abbrev pub ring_act : ItemId → CellId → List ℕ → Result (List Point) RingFault → Result Act CmdFault
ring_act new cell layer (Ok ring) = Ok (shape_act new cell (shape_of cell layer ring))
ring_act new cell layer (Err fault) = Err (fault_of_ring fault)

-- the item, moved, where that is in range
abbrev pub move_to : ItemId → items.Item → Result Act CmdFault
move_to id item = refused_if (not (is_item_in_range item)) OutOfRange (Ok (change_act id (Some item)))

-- the shape on another layer
abbrev pub relayer : ItemId → List ℕ → items.Item → Result Act CmdFault
relayer id layer (item.Shape cell old rings) = Ok (change_act id (Some (item.Shape cell layer rings)))
relayer id layer (item.Placed cell target turn) = Err NotShape

-- the symbol holds an item, or is called
abbrev pub is_used : Layout → ℕ → Bool
is_used layout number =
    list_any (λ entry. lies (Content number) entry.0 entry.1 || lies (Uses number) entry.0 entry.1) (map.entries layout.items)

-- why there are no shapes of an operation
abbrev pub fault_of_flat : FlatFault → CmdFault
fault_of_flat flat_fault.NoCell = NoCell
fault_of_flat flat_fault.TooDeep = TooDeep
fault_of_flat flat_fault.TooMany = TooMany
fault_of_flat flat_fault.OutOfRange = OutOfRange
fault_of_flat flat_fault.NoMemory = NoMemory

-- the ids of a cell's shapes on a layer
abbrev pub shape_ids : Layout → CellId → List ℕ → List ItemId
shape_ids layout cell layer = map_list (λ shape. shape.0) (shapes_in layout cell layer)

-- an operation on layers a and b of a cell of the layout, with its shapes on layer out
abbrev pub combination_in : Layout → CellId → List ℕ → List ℕ → List ℕ → Combination
combination_in layout cell a b out = record {
  cell = cell;
  a = a;
  b = b;
  out = out;
  cells = reached layout cell;
  old = shape_ids layout cell out;
}

-- the shapes that the operation has take the place of the old ones, or it is refused
abbrev pub replace_by : ItemId → Combination → Result (List Rings) FlatFault → Result Act CmdFault
replace_by new c (Ok shapes) = Ok (bool_act new c shapes)
replace_by new c (Err fault) = Err (fault_of_flat fault)

-- what a command does on a layout, where the next new item has this id
unfoldable pub plan : ItemId → Command → Layout → Result Act CmdFault
plan new (Box cell layer a b) layout =
    refused_if (not (is_cell layout cell)) NoCell
    (refused_if (int_eq a.x b.x || int_eq a.y b.y) FewPoints
    (refused_if (not (is_in_range a && is_in_range b)) OutOfRange
    (Ok (shape_act new cell (shape_of cell layer (box_ring a b))))))
plan new (Poly cell layer points) layout =
    refused_if (not (is_cell layout cell)) NoCell (ring_act new cell layer (ring_of points))
plan new (Delete id) layout = with_value (item_at layout id) NoItem (λ item. Ok (change_act id None))
plan new (Move id dx dy) layout = with_value (item_at layout id) NoItem (λ item. move_to id (moved (record { x = dx; y = dy }) item))
plan new (SetLayer id layer) layout = with_value (item_at layout id) NoItem (relayer id layer)
plan new (Place cell target turn) layout =
    refused_if (not (is_cell layout cell)) NoCell
    (refused_if (not (is_cell layout (Symbol target))) NoCell
    (refused_if (not (is_in_range turn.shift)) OutOfRange
    (refused_if (is_among cell (reached layout (Symbol target))) Cycle
    (Ok (place_act new cell target turn (reached layout (Symbol target)))))))
plan new (Look id) layout = with_value (item_at layout id) NoItem (λ item. Ok (look_act id item))
plan new (Combine op cell a b out) layout =
    replace_by new (combination_in layout cell a b out) (bool_shapes layout op cell a b)
plan new (MakeCell number) layout =
    refused_if (nat_lt MAX_SYMBOL number) OutOfRange
    (refused_if (is_some (map.get layout.symbols number)) CellThere (Ok (make_cell_act number)))
plan new (DropCell number) layout =
    refused_if (not (is_some (map.get layout.symbols number))) NoCell
    (refused_if (is_used layout number) CellUsed (Ok (drop_cell_act number)))
