-- Acts: what an accepted command does.
use Rattle.std.specs.Prelude.{ℕ, zero, suc, ◌+◌, List, [], ◌∷◌, ◌++◌, flat_map, length, map, Option, None, Some}
use Rattle.lay_cells.specs.declared.cell_id.CellId.{CellId}
use Rattle.lay_cells.specs.declared.cell_id.CellId.TheVariants.{Symbol, Top}
use Rattle.lay_point.specs.declared.turn.Turn.{Turn}
use Rattle.lay_layouts.specs.declared.id.ItemId.{ItemId}
use Rattle.lay_layouts.specs.declared.item.Item as items
use Rattle.lay_layouts.specs.declared.item.Item.TheVariants.{Placed, Shape}
use Rattle.lay_layouts.specs.declared.slot.CellSlot.TheVariants.{Made as MadeSlot}
use Rattle.lay_layouts.specs.Layout.{Write}
use Rattle.txn_commands.specs.declared.command.Done.{Done}
use Rattle.txn_commands.specs.declared.command.Done.TheVariants.{Empty, Found, Made, Plain, Several}
use Rattle.txn_commands.specs.declared.element.Element.{Element}
use Rattle.txn_commands.specs.declared.element.Element.TheVariants.{Calls, Cell, Content, Item, Layer, Uses}
use Rattle.lay_layouts.specs.Layout.{SymbolWrite}
use Rattle.bool_rules.specs.Shapes.{Rings}

-- the answer, the elements that are touched, what is written, and how many items are made
pub record Act : Type 0 where
  pub done : Done
  pub elements : List Element
  pub items : List Write
  pub symbols : List SymbolWrite
  pub made : ℕ

-- the element of a cell: the top cell has none, since it is always there
abbrev pub cell_elements : CellId → List Element
cell_elements Top = []
cell_elements (Symbol number) = Cell number ∷ []

-- an item comes to stand under a new id, where these elements are read
abbrev pub make_act : ItemId → items.Item → List Element → Act
make_act new item elements = record {
  done = Made new;
  elements = Item new ∷ elements;
  items = (new, Some item) ∷ [];
  symbols = [];
  made = 1;
}

-- a shape is made in a cell
abbrev pub shape_act : ItemId → CellId → items.Item → Act
shape_act new cell shape = make_act new shape (cell_elements cell)

-- a call is made in a cell: these cells are reached from its target
abbrev pub place_act : ItemId → CellId → ℕ → Turn → List CellId → Act
place_act new cell target turn cells =
    make_act new (Placed cell target turn) (cell_elements cell ++ Cell target ∷ map Calls cells)

-- an item is written under an id that is there
abbrev pub change_act : ItemId → Option items.Item → Act
change_act id item = record { done = Plain; elements = Item id ∷ []; items = (id, item) ∷ []; symbols = []; made = 0 }

-- an item is read
abbrev pub look_act : ItemId → items.Item → Act
look_act id item = record { done = Found item; elements = Item id ∷ []; items = []; symbols = []; made = 0 }

-- a symbol is made
abbrev pub make_cell_act : ℕ → Act
make_cell_act number = record {
  done = Plain;
  elements = Cell number ∷ [];
  items = [];
  symbols = (number, Some MadeSlot) ∷ [];
  made = 0;
}

-- a symbol goes, which nothing stands in and nothing calls
abbrev pub drop_cell_act : ℕ → Act
drop_cell_act number = record {
  done = Plain;
  elements = Cell number ∷ Content number ∷ Uses number ∷ [];
  items = [];
  symbols = (number, None) ∷ [];
  made = 0;
}

-- the id behind this one
abbrev pub id_after : ItemId → ItemId
id_after id = record { session = id.session; txn = id.txn; seq = id.seq + 1 }

-- shapes on a layer of a cell, under new ids from this one on
abbrev pub new_shapes : ItemId → CellId → List ℕ → List Rings → List Write
new_shapes new cell layer [] = []
new_shapes new cell layer (rings ∷ shapes) = (new, Some (Shape cell layer rings)) ∷ new_shapes (id_after new) cell layer shapes

-- the items of these ids go
abbrev pub removals : List ItemId → List Write
removals ids = map (λ id. (id, None)) ids

-- so many new items, from this id on
abbrev pub made_from : ItemId → ℕ → Done
made_from new zero = Empty
made_from new (suc zero) = Made new
made_from new (suc (suc more)) = Several new (suc (suc more))

-- what an operation on two layers reads in a cell: the calls, and the shapes on both layers
abbrev pub operands : List ℕ → List ℕ → CellId → List Element
operands a b cell = Calls cell ∷ Layer cell a ∷ Layer cell b ∷ []

-- the elements of ids
abbrev pub item_elements : List Write → List Element
item_elements writes = map (λ write. Item write.0) writes

-- an operation on layers a and b of a cell, whose shapes come to stand on layer out: the cells that are reached from the cell, and
-- the ids of the shapes that stood on layer out
pub record Combination : Type 0 where
  pub cell : CellId
  pub a : List ℕ
  pub b : List ℕ
  pub out : List ℕ
  pub cells : List CellId
  pub old : List ItemId

-- the old shapes go, and these come, under new ids from this one on
abbrev pub replacing : ItemId → Combination → List Rings → List Write
replacing new c shapes = removals c.old ++ new_shapes new c.cell c.out shapes

-- what is read for it: the cell, the layer that changes, and in each cell that is reached the calls and both layers
abbrev pub read_for : Combination → List Element
read_for c = cell_elements c.cell ++ Layer c.cell c.out ∷ flat_map (operands c.a c.b) c.cells

-- the shapes of an operation take the place of those of its cell on its layer
abbrev pub bool_act : ItemId → Combination → List Rings → Act
bool_act new c shapes = record {
  done = made_from new (length shapes);
  elements = item_elements (replacing new c shapes) ++ read_for c;
  items = replacing new c shapes;
  symbols = [];
  made = length shapes;
}
