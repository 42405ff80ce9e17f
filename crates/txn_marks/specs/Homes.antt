-- The elements in which a value lies.
use Rattle.std.specs.Prelude.{◌≡◌, List, [], ◌∷◌, ◌++◌, ◌||◌, Option, None, Some, if◌then◌else◌, is_some}
use Rattle.std.specs.FinSet as set
use Rattle.std.specs.List.{flat_map}
use Rattle.lay_cells.specs.declared.cell_id.CellId.{CellId}
use Rattle.lay_cells.specs.declared.cell_id.CellId.TheVariants.{Symbol, Top}
use Rattle.lay_layouts.specs.declared.id.ItemId.{ItemId}
use Rattle.lay_layouts.specs.declared.item.Item as items
use Rattle.lay_layouts.specs.declared.item.Item.TheVariants.{Placed, Shape}
use Rattle.txn_commands.specs.declared.element.Element.{Element}
use Rattle.txn_commands.specs.declared.element.Element.TheVariants.{Calls, Cell, Content, Item, Layer, Uses}
use Rattle.txn_commands.specs.declared.record.CellRecord.{CellRecord}
use Rattle.txn_commands.specs.declared.record.Record.{Record}
use Rattle.txn_commands.specs.Elements.{Touched, with_elements}
use Rattle.txn_commands.specs.Meets.{some_meets}
use Rattle.txn_commands.specs.Records.{Records}

-- the content of a symbol; the top cell is always there, and its content is no element
abbrev pub content_elements : CellId → List Element
content_elements Top = []
content_elements (Symbol number) = Content number ∷ []

-- those of an item under its id
abbrev pub homes : ItemId → items.Item → List Element
homes id (Shape cell layer rings) = Item id ∷ Layer cell layer ∷ content_elements cell
homes id (Placed cell target turn) = Item id ∷ Calls cell ∷ Uses target ∷ content_elements cell

-- those of an item, if there is one
abbrev pub homes_of : ItemId → Option items.Item → List Element
homes_of id None = []
homes_of id (Some item) = homes id item

-- those of both values of a record
abbrev pub record_homes : Record → List Element
record_homes w = homes_of w.id w.before ++ homes_of w.id w.after

-- the symbol of a record, where it is there before or after
abbrev pub cell_homes : CellRecord → List Element
cell_homes w = if is_some w.before || is_some w.after then Cell w.number ∷ [] else []

-- the elements that records meet
abbrev pub met_by : Records → List Element
met_by records = flat_map record_homes records.items ++ flat_map cell_homes records.symbols

-- a list has these elements too, in some order, each at least once
abbrev pub Gathers : List Element → List Element → List Element → Type 0
Gathers old elements new = set.from_list new ≡ with_elements (set.from_list old) elements

-- these are the elements that some record meets, and no others
abbrev pub AreMetBy : Records → Touched → Type 0
AreMetBy records met = (e : Element) → set.contains met e ≡ some_meets records e
