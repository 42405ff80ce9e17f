-- Step lines: a word that names the step, and the words that it takes.
-- Source: this project's own.
-- Checked on: `box top M 0 0 1` and `box top M 0 0 1 1 1` are faults, and so is `open x`.
use Rattle.std.specs.Prelude.{ℕ, List, [], ◌∷◌, ◌++◌, codes, Bool, if◌then◌else◌, Option, None, Some, option_map, ℤ}
use Rattle.std.specs.Str.{bytes_eq}
use Rattle.face_rows.specs.declared.op.Op.{Op}
use Rattle.face_rows.specs.declared.op.Op.TheVariants.{And, Or, Not, Xor}
use Rattle.lay_cells.specs.declared.cell_id.CellId.{CellId}
use Rattle.lay_cells.specs.declared.cells.TheConstants.{MAX_SYMBOL}
use Rattle.lay_layouts.specs.declared.id.ItemId.{ItemId}
use Rattle.lay_point.specs.declared.point.Point.{Point}
use Rattle.lay_point.specs.declared.turn.Quarter.{Quarter}
use Rattle.lay_point.specs.declared.turn.Turn.{Turn}
use Rattle.lay_point.specs.Names.{layer_name_of}
use Rattle.txn_commands.specs.declared.command.Command.{Command}
use Rattle.txn_commands.specs.declared.command.Command.TheVariants.{
  Bool as Combine,
  Box,
  Poly,
  Delete,
  Move,
  SetLayer,
  Place,
  Look,
  MakeCell,
}
use Rattle.txn_commands.specs.declared.command.Command.TheVariants.{DropCell}
use Rattle.txn_commands.specs.declared.command.TxnId.{TxnId}
use Rattle.session_steps.specs.declared.Step.{Step}
use Rattle.session_steps.specs.declared.Step.TheVariants.{Open, Do, Commit, Cancel, Undo, Redo}
use Rattle.byte_io.specs.Numbers.{parsed_number}
use Rattle.byte_io.specs.Steps.{◌>>=◌}
use Rattle.job_text.specs.Words.{parsed_cell, parsed_coordinate, parsed_item, parsed_turning, parsed_txn}

abbrev pub Word : Type 0
Word = List ℕ

-- what the first word means, and the words behind it
abbrev pub first_as : {A : Type 0} → (Word → Option A) → List Word → Option (A × List Word)
first_as meaning [] = None
first_as meaning (word ∷ words) = option_map (λ a. (a, words)) (meaning word)

-- this, where no word is left
abbrev pub if_ended : {A : Type 0} → List Word → A → Option A
if_ended [] a = Some a
if_ended (word ∷ words) a = None

abbrev pub leading_cell : List Word → Option (CellId × List Word)
leading_cell words = first_as parsed_cell words

abbrev pub leading_symbol : List Word → Option (ℕ × List Word)
leading_symbol words = first_as (parsed_number MAX_SYMBOL) words

abbrev pub leading_layer : List Word → Option (Word × List Word)
leading_layer words = first_as layer_name_of words

abbrev pub leading_item : List Word → Option (ItemId × List Word)
leading_item words = first_as parsed_item words

abbrev pub leading_txn : List Word → Option (TxnId × List Word)
leading_txn words = first_as parsed_txn words

abbrev pub leading_turning : List Word → Option ((Bool × Quarter) × List Word)
leading_turning words = first_as parsed_turning words

abbrev pub leading_coordinate : List Word → Option (ℤ × List Word)
leading_coordinate words = first_as parsed_coordinate words

-- two coordinates, x and then y
unfoldable pub leading_point : List Word → Option (Point × List Word)
leading_point words = do
  x ← leading_coordinate words
  y ← leading_coordinate x.1
  Some (record { x = x.0; y = y.0 }, y.1)

-- the one word is a cell
unfoldable pub cell_alone : List Word → Option CellId
cell_alone words = do
  cell ← leading_cell words
  if_ended cell.1 cell.0

-- the one word is a transaction
unfoldable pub txn_alone : List Word → Option TxnId
txn_alone words = do
  txn ← leading_txn words
  if_ended txn.1 txn.0

-- the one word is an item
unfoldable pub item_alone : List Word → Option ItemId
item_alone words = do
  id ← leading_item words
  if_ended id.1 id.0

-- the one word is the number of a symbol
unfoldable pub symbol_alone : List Word → Option ℕ
symbol_alone words = do
  number ← leading_symbol words
  if_ended number.1 number.0

-- what `box` takes: the cell, the layer and two opposite corners
unfoldable pub box_command : List Word → Option Command
box_command words = do
  cell ← leading_cell words
  layer ← leading_layer cell.1
  a ← leading_point layer.1
  b ← leading_point a.1
  if_ended b.1 (Box cell.0 layer.0 a.0 b.0)

-- the point of two words
unfoldable pub point_of : Word → Word → Option Point
point_of x y = do
  x ← parsed_coordinate x
  y ← parsed_coordinate y
  Some (record { x = x; y = y })

-- these points, and those of the words, two a point
abbrev pub parsed_points : List Point → List Word → Option (List Point)
parsed_points points [] = Some points
parsed_points points (x ∷ []) = None
parsed_points points (x ∷ y ∷ words) = point_of x y >>= λ point. parsed_points (points ++ point ∷ []) words

-- what `poly` takes: the cell, the layer and the points
unfoldable pub poly_command : List Word → Option Command
poly_command words = do
  cell ← leading_cell words
  layer ← leading_layer cell.1
  points ← parsed_points [] layer.1
  Some (Poly cell.0 layer.0 points)

-- what `move` takes: the item, and how far to the right and up
unfoldable pub move_command : List Word → Option Command
move_command words = do
  id ← leading_item words
  by ← leading_point id.1
  if_ended by.1 (Move id.0 by.0.x by.0.y)

-- what `layer` takes: the item and the layer
unfoldable pub layer_command : List Word → Option Command
layer_command words = do
  id ← leading_item words
  layer ← leading_layer id.1
  if_ended layer.1 (SetLayer id.0 layer.0)

-- a turn that mirrors, or not, and turns so, and then shifts
abbrev pub turn_by : Bool × Quarter → Point → Turn
turn_by turning shift = record { mirror = turning.0; quarter = turning.1; shift = shift }

-- what `place` takes: the cell, the symbol to call, the turning and the shift
unfoldable pub place_command : List Word → Option Command
place_command words = do
  cell ← leading_cell words
  target ← leading_symbol cell.1
  turning ← leading_turning target.1
  shift ← leading_point turning.1
  if_ended shift.1 (Place cell.0 target.0 (turn_by turning.0 shift.0))

-- the operation on layers that this word names
unfoldable pub op_of : Word → Option Op
op_of name =
    if bytes_eq name (codes "and") then Some And
    else if bytes_eq name (codes "or") then Some Or
    else if bytes_eq name (codes "not") then Some Not
    else if bytes_eq name (codes "xor") then Some Xor
    else None

-- what an operation takes: the cell, the layers of the first and the second input, and the layer of the new shapes
unfoldable pub bool_command : Op → List Word → Option Command
bool_command op words = do
  cell ← leading_cell words
  a ← leading_layer cell.1
  b ← leading_layer a.1
  out ← leading_layer b.1
  if_ended out.1 (Combine op cell.0 a.0 b.0 out.0)

-- the command that this word names, other than `box` and `poly`, with the words that it takes
unfoldable pub short_command : Word → List Word → Option Command
short_command name words =
    if bytes_eq name (codes "delete") then option_map Delete (item_alone words)
    else if bytes_eq name (codes "look") then option_map Look (item_alone words)
    else if bytes_eq name (codes "move") then move_command words
    else if bytes_eq name (codes "layer") then layer_command words
    else if bytes_eq name (codes "place") then place_command words
    else if bytes_eq name (codes "mkcell") then option_map MakeCell (symbol_alone words)
    else if bytes_eq name (codes "rmcell") then option_map DropCell (symbol_alone words)
    else (op_of name >>= λ op. bool_command op words)

-- the command that this word names, with the words that it takes
unfoldable pub command_named : Word → List Word → Option Command
command_named name words =
    if bytes_eq name (codes "box") then box_command words
    else if bytes_eq name (codes "poly") then poly_command words
    else short_command name words

-- the step that this word names, with the words that it takes
unfoldable pub step_named : Word → List Word → Option Step
step_named name words =
    if bytes_eq name (codes "open") then if_ended words Open
    else if bytes_eq name (codes "commit") then if_ended words Commit
    else if bytes_eq name (codes "cancel") then if_ended words Cancel
    else if bytes_eq name (codes "undo") then option_map Undo (txn_alone words)
    else if bytes_eq name (codes "redo") then option_map Redo (txn_alone words)
    else option_map Do (command_named name words)

-- the step that the words of a line say
unfoldable pub step_of : List Word → Option Step
step_of [] = None
step_of (name ∷ words) = step_named name words
