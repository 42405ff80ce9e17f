-- Which step the words of a line say, a line of the table at a time.
use Rattle.std.specs.Prelude.{◌≡◌, ℕ, List, [], ◌∷◌, codes, Some}
use Rattle.face_rows.specs.declared.op.Op.{Op}
use Rattle.lay_cells.specs.declared.cell_id.CellId.{CellId}
use Rattle.lay_cells.specs.declared.cells.TheConstants.{MAX_SYMBOL}
use Rattle.lay_layouts.specs.declared.id.ItemId.{ItemId}
use Rattle.lay_point.specs.declared.point.Point.{Point}
use Rattle.lay_point.specs.declared.turn.Turn.{Turn}
use Rattle.lay_point.specs.Names.{layer_name_of}
use Rattle.txn_commands.specs.declared.command.Command.{Command}
use Rattle.txn_commands.specs.declared.command.Command.TheVariants.{
  Bool as Combine,
  Box,
  Delete,
  DropCell,
  Look,
  MakeCell,
  Move,
  Place,
  Poly,
}
use Rattle.txn_commands.specs.declared.command.Command.TheVariants.{SetLayer}
use Rattle.txn_commands.specs.declared.command.TxnId.{TxnId}
use Rattle.session_steps.specs.declared.Step.{Step}
use Rattle.session_steps.specs.declared.Step.TheVariants.{Cancel, Commit, Do, Open, Redo, Undo}
use Rattle.job_text.specs.Steps.{Word, step_of}
use Rattle.byte_io.specs.Numbers.{parsed_number}
use Rattle.job_text.specs.Words.{parsed_cell, parsed_coordinate, parsed_item, parsed_turning, parsed_txn}
use Rattle.job_laws.specs.Written.{op_word}

-- the two words spell the point's coordinates
pub record IsPointOf (x y : Word) (p : Point) : Type 0 where
  pub column : parsed_coordinate x ≡ Some p.x
  pub row : parsed_coordinate y ≡ Some p.y

-- the words spell these points, two a point
abbrev pub ArePoints : List Word → List Point → Type 0
ArePoints words [] = words ≡ []
ArePoints words (p ∷ points) =
    (x : Word) × (y : Word) × (more : List Word) × (words ≡ x ∷ y ∷ more) × IsPointOf x y p × ArePoints more points

-- the words say this command
pub data SaysCommand (words : List Word) (command : Command) : Type 0 where
  boxes : (cell layer x y u v : Word) (c : CellId) (l : Word) (a b : Point)
      → words ≡ codes "box" ∷ cell ∷ layer ∷ x ∷ y ∷ u ∷ v ∷ [] → parsed_cell cell ≡ Some c → layer_name_of layer ≡ Some l
      → IsPointOf x y a → IsPointOf u v b → command ≡ Box c l a b → SaysCommand words command
  polygons : (cell layer : Word) (more : List Word) (c : CellId) (l : Word) (points : List Point)
      → words ≡ codes "poly" ∷ cell ∷ layer ∷ more → parsed_cell cell ≡ Some c → layer_name_of layer ≡ Some l → ArePoints more points
      → command ≡ Poly c l points → SaysCommand words command
  deletes : (word : Word) (id : ItemId) → words ≡ codes "delete" ∷ word ∷ [] → parsed_item word ≡ Some id → command ≡ Delete id
      → SaysCommand words command
  looks : (word : Word) (id : ItemId) → words ≡ codes "look" ∷ word ∷ [] → parsed_item word ≡ Some id → command ≡ Look id
      → SaysCommand words command
  moves : (word x y : Word) (id : ItemId) (by : Point) → words ≡ codes "move" ∷ word ∷ x ∷ y ∷ [] → parsed_item word ≡ Some id
      → IsPointOf x y by → command ≡ Move id by.x by.y → SaysCommand words command
  layers : (word layer : Word) (id : ItemId) (l : Word) → words ≡ codes "layer" ∷ word ∷ layer ∷ [] → parsed_item word ≡ Some id
      → layer_name_of layer ≡ Some l → command ≡ SetLayer id l → SaysCommand words command
  places : (cell target turning x y : Word) (c : CellId) (n : ℕ) (turn : Turn)
      → words ≡ codes "place" ∷ cell ∷ target ∷ turning ∷ x ∷ y ∷ [] → parsed_cell cell ≡ Some c → parsed_number MAX_SYMBOL target ≡ Some n
      → parsed_turning turning ≡ Some (turn.mirror, turn.quarter) → IsPointOf x y turn.shift → command ≡ Place c n turn
      → SaysCommand words command
  makes : (word : Word) (n : ℕ) → words ≡ codes "mkcell" ∷ word ∷ [] → parsed_number MAX_SYMBOL word ≡ Some n → command ≡ MakeCell n
      → SaysCommand words command
  drops : (word : Word) (n : ℕ) → words ≡ codes "rmcell" ∷ word ∷ [] → parsed_number MAX_SYMBOL word ≡ Some n → command ≡ DropCell n
      → SaysCommand words command
  combines : (op : Op) (cell first second last : Word) (c : CellId) (a b out : Word)
      → words ≡ op_word op ∷ cell ∷ first ∷ second ∷ last ∷ [] → parsed_cell cell ≡ Some c → layer_name_of first ≡ Some a
      → layer_name_of second ≡ Some b → layer_name_of last ≡ Some out → command ≡ Combine op c a b out → SaysCommand words command

-- the words say this step
pub data Says (words : List Word) (step : Step) : Type 0 where
  opens : words ≡ codes "open" ∷ [] → step ≡ Open → Says words step
  commits : words ≡ codes "commit" ∷ [] → step ≡ Commit → Says words step
  cancels : words ≡ codes "cancel" ∷ [] → step ≡ Cancel → Says words step
  undoes : (word : Word) (txn : TxnId) → words ≡ codes "undo" ∷ word ∷ [] → parsed_txn word ≡ Some txn → step ≡ Undo txn → Says words step
  redoes : (word : Word) (txn : TxnId) → words ≡ codes "redo" ∷ word ∷ [] → parsed_txn word ≡ Some txn → step ≡ Redo txn → Says words step
  does : (command : Command) → SaysCommand words command → step ≡ Do command → Says words step

-- words that are read as a step say it
abbrev pub StepsAreSaid : Type 0
StepsAreSaid = (words : List Word) (step : Step) → step_of words ≡ Some step → Says words step

-- words that say a step are read as it
abbrev pub SayingsAreRead : Type 0
SayingsAreRead = (words : List Word) (step : Step) → Says words step → step_of words ≡ Some step
