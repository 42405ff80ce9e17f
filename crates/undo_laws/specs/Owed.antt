-- Which elements a command owes its footprint: what it looks at, and what it writes.
-- Source: this project's own rule.
use Rattle.std.specs.Prelude.{◌≡◌, ◌⊎◌, ℕ, List, ◌∷◌, ◌++◌, true, Some, Ok, Contains}
use Rattle.std.specs.FinSet as set
use Rattle.lay_cells.specs.declared.cell_id.CellId.{CellId}
use Rattle.lay_cells.specs.declared.cell_id.CellId.TheVariants.{Symbol, Top}
use Rattle.lay_cells.specs.Walks.{Walks}
use Rattle.lay_layouts.specs.declared.id.ItemId.{ItemId}
use Rattle.lay_layouts.specs.Calls.{calls_of}
use Rattle.lay_layouts.specs.Layout.{Layout, Write}
use Rattle.txn_commands.specs.declared.command.Command.{Command}
use Rattle.txn_commands.specs.declared.command.Command.TheVariants.{Bool as Combine, Box, Delete, DropCell, Look, MakeCell, Move, Place}
use Rattle.txn_commands.specs.declared.command.Command.TheVariants.{Poly}
use Rattle.txn_commands.specs.declared.command.Command.TheVariants.{SetLayer}
use Rattle.txn_commands.specs.declared.command.TxnId.{TxnId}
use Rattle.txn_commands.specs.declared.element.Element.{Element}
use Rattle.txn_commands.specs.declared.element.Element.TheVariants.{Calls, Cell, Content, Item, Layer, Uses}
use Rattle.txn_commands.specs.Acts.{Act}
use Rattle.txn_commands.specs.Agreement.{AgreeOn}
use Rattle.txn_commands.specs.Compared.{agrees}
use Rattle.txn_commands.specs.Covers.{has}
use Rattle.txn_commands.specs.Effects.{Run, after_each, begun, next_id}
use Rattle.txn_commands.specs.Elements.{Touched}
use Rattle.txn_commands.specs.Plans.{plan}

-- that the cell is there was looked at; the top cell always is
abbrev pub IsOfCell : CellId → Element → Type 0
IsOfCell Top e = ⊥
IsOfCell (Symbol number) e = e ≡ Cell number

-- calls lead from the one cell to the other
abbrev pub IsReached : Layout → CellId → CellId → Type 0
IsReached l from to = Walks (calls_of l) from to

-- what is drawn in a new item's cell, and the item
abbrev pub IsOfNew : ItemId → CellId → Element → Type 0
IsOfNew new cell e = (e ≡ Item new) ⊎ IsOfCell cell e

-- an operation on two layers read it in this cell: its calls, or its shapes on either layer
abbrev pub IsOperand : List ℕ → List ℕ → CellId → Element → Type 0
IsOperand a b cell e = (e ≡ Calls cell) ⊎ (e ≡ Layer cell a) ⊎ (e ≡ Layer cell b)

-- the element of an item that was written
abbrev pub IsWritten : Act → Element → Type 0
IsWritten act e = (w : Write) × Contains act.items w × (e ≡ Item w.0)

-- the command, accepted on this layout, looked at the element or wrote it; a new item has this id
abbrev pub IsOwed : ItemId → Command → Layout → Act → Element → Type 0
IsOwed new (Box cell layer a b) l act e = IsOfNew new cell e
IsOwed new (Poly cell layer points) l act e = IsOfNew new cell e
IsOwed new (Delete id) l act e = e ≡ Item id
IsOwed new (Move id dx dy) l act e = e ≡ Item id
IsOwed new (SetLayer id layer) l act e = e ≡ Item id
IsOwed new (Place cell target turn) l act e =
    IsOfNew new cell e ⊎ (e ≡ Cell target) ⊎ ((c : CellId) × IsReached l (Symbol target) c × (e ≡ Calls c))
IsOwed new (Look id) l act e = e ≡ Item id
IsOwed new (Combine op cell a b out) l act e =
    IsWritten act e ⊎ IsOfCell cell e ⊎ (e ≡ Layer cell out) ⊎ ((c : CellId) × IsReached l cell c × IsOperand a b c e)
IsOwed new (MakeCell number) l act e = e ≡ Cell number
IsOwed new (DropCell number) l act e = (e ≡ Cell number) ⊎ (e ≡ Content number) ⊎ (e ≡ Uses number)

-- one of these commands, accepted where those before it led, owes the element
pub record IsOwedByOne (txn : TxnId) (commands : List Command) (start : Run) (e : Element) : Type 0 where
  pub before : List Command
  pub command : Command
  pub rest : List Command
  pub parts : commands ≡ before ++ command ∷ rest
  pub run : Run
  pub runs : after_each txn before start ≡ Some run
  pub act : Act
  pub planned : plan (next_id txn run) command run.layout ≡ Ok act
  pub owed : IsOwed (next_id txn run) command run.layout act e

pub record FootprintsAreOwed : Type 0 where
  pub commands : (new : ItemId) (command : Command) (l : Layout) (act : Act) (e : Element) → plan new command l ≡ Ok act
      → has e act.elements ≡ true → IsOwed new command l act e
  pub runs : (txn : TxnId) (commands : List Command) (l : Layout) (end : Run) (e : Element) → after_each txn commands (begun l) ≡ Some end
      → set.contains end.footprint e ≡ true → IsOwedByOne txn commands (begun l) e
  -- layouts that agree on the elements of a footprint are found to
  pub agreement : (l m : Layout) (touched : Touched) → AgreeOn l m touched → agrees l m touched ≡ true
