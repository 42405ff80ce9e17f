-- The line of a step: its name and what it takes, with a space between words.
use Rattle.std.specs.Prelude.{ℕ, List, [], ◌∷◌, ◌++◌, codes, flat_map, if◌then◌else◌, ℤ, ◌≤◌, ◌≡◌, neg_ℤ, pos, ◌≤ℤ◌}
use Rattle.std.specs.Prelude.{Some}
use Rattle.std.specs.List.{AllByRecursion}
use Rattle.std.specs.Fmt.{decimal, signed_decimal}
use Rattle.face_rows.specs.declared.op.Op.{Op}
use Rattle.face_rows.specs.declared.op.Op.TheVariants.{And, Not, Or, Xor}
use Rattle.lay_cells.specs.declared.cell_id.CellId.{CellId}
use Rattle.lay_cells.specs.declared.cell_id.CellId.TheVariants.{Symbol, Top}
use Rattle.lay_cells.specs.declared.cells.TheConstants.{MAX_SYMBOL}
use Rattle.lay_layouts.specs.declared.id.ItemId.{ItemId}
use Rattle.lay_point.specs.declared.point.Point.{Point}
use Rattle.lay_point.specs.declared.turn.Quarter.{Quarter}
use Rattle.lay_point.specs.declared.turn.Quarter.TheVariants.{R0, R90, R180, R270}
use Rattle.lay_point.specs.declared.turn.Turn.{Turn}
use Rattle.lay_point.specs.Names.{layer_name_of}
use Rattle.txn_commands.specs.declared.command.Command.{Command}
use Rattle.txn_commands.specs.declared.command.Command.TheVariants.{
  Bool as Combine,
  Box,
  Delete,
  DropCell,
  Look,
  MakeCell,
  Move,
  Place,
  Poly,
}
use Rattle.txn_commands.specs.declared.command.Command.TheVariants.{SetLayer}
use Rattle.txn_commands.specs.declared.command.TxnId.{TxnId}
use Rattle.session_steps.specs.declared.Step.{Step}
use Rattle.session_steps.specs.declared.Step.TheVariants.{Cancel, Commit, Do, Open, Redo, Undo}
use Rattle.job_text.specs.Steps.{Word}

-- the top cell by name, a symbol by number
abbrev pub cell_word : CellId → Word
cell_word Top = codes "top"
cell_word (Symbol number) = decimal number

abbrev pub point_words : Point → List Word
point_words p = signed_decimal p.x ∷ signed_decimal p.y ∷ []

-- session and number, with a dot between them
abbrev pub txn_word : TxnId → Word
txn_word txn = decimal txn.session ++ 46 ∷ decimal txn.txn

-- session, transaction and number
abbrev pub item_word : ItemId → Word
item_word id = decimal id.session ++ 46 ∷ (decimal id.txn ++ 46 ∷ decimal id.seq)

-- how many degrees the quarter turns have together
abbrev pub degrees : Quarter → Word
degrees R0 = codes "0"
degrees R90 = codes "90"
degrees R180 = codes "180"
degrees R270 = codes "270"

-- `m` where it mirrors first, else `r`, and the degrees
abbrev pub turning_word : Turn → Word
turning_word turn = (if turn.mirror then 109 else 114) ∷ degrees turn.quarter

-- the operation's name
abbrev pub op_word : Op → Word
op_word And = codes "and"
op_word Or = codes "or"
op_word Not = codes "not"
op_word Xor = codes "xor"

abbrev pub command_words : Command → List Word
command_words (Box cell layer a b) = codes "box" ∷ cell_word cell ∷ layer ∷ (point_words a ++ point_words b)
command_words (Poly cell layer points) = codes "poly" ∷ cell_word cell ∷ layer ∷ flat_map point_words points
command_words (Delete id) = codes "delete" ∷ item_word id ∷ []
command_words (Move id dx dy) = codes "move" ∷ item_word id ∷ point_words (record { x = dx; y = dy })
command_words (SetLayer id layer) = codes "layer" ∷ item_word id ∷ layer ∷ []
command_words (Place cell target turn) =
    codes "place" ∷ cell_word cell ∷ decimal target ∷ turning_word turn ∷ point_words turn.shift
command_words (Look id) = codes "look" ∷ item_word id ∷ []
command_words (Combine op cell a b out) = op_word op ∷ cell_word cell ∷ a ∷ b ∷ out ∷ []
command_words (MakeCell number) = codes "mkcell" ∷ decimal number ∷ []
command_words (DropCell number) = codes "rmcell" ∷ decimal number ∷ []

abbrev pub step_words : Step → List Word
step_words Open = codes "open" ∷ []
step_words (Do command) = command_words command
step_words Commit = codes "commit" ∷ []
step_words Cancel = codes "cancel" ∷ []
step_words (Undo txn) = codes "undo" ∷ txn_word txn ∷ []
step_words (Redo txn) = codes "redo" ∷ txn_word txn ∷ []

-- the words, with a space between them
abbrev pub spaced_words : List Word → List ℕ
spaced_words [] = []
spaced_words (word ∷ []) = word
spaced_words (word ∷ next ∷ words) = word ++ 32 ∷ spaced_words (next ∷ words)

-- and a newline behind them
abbrev pub line_of : List Word → List ℕ
line_of words = spaced_words words ++ 10 ∷ []

-- ---- what a line can say

-- the numbers of coordinates have 32 bits
pub record IsCoordinate (z : ℤ) : Type 0 where
  pub low : neg_ℤ (pos 2147483648) ≤ℤ z
  pub high : z ≤ℤ pos 2147483647

pub record IsPoint (p : Point) : Type 0 where
  pub column : IsCoordinate p.x
  pub row : IsCoordinate p.y

-- a symbol has a number within the limit
abbrev pub IsCell : CellId → Type 0
IsCell Top = Unit {0}
IsCell (Symbol number) = number ≤ MAX_SYMBOL

-- of one of 64 sessions
pub record IsTxn (txn : TxnId) : Type 0 where
  pub session : txn.session ≤ 64
  pub number : txn.txn ≤ 65535

pub record IsItem (id : ItemId) : Type 0 where
  pub session : id.session ≤ 64
  pub txn : id.txn ≤ 65535
  pub seq : id.seq ≤ 4294967295

-- a layer has a name
abbrev pub IsLayerName : List ℕ → Type 0
IsLayerName name = layer_name_of name ≡ Some name

abbrev pub CanSay : Command → Type 0
CanSay (Box cell layer a b) = IsCell cell × IsLayerName layer × IsPoint a × IsPoint b
CanSay (Poly cell layer points) = IsCell cell × IsLayerName layer × AllByRecursion IsPoint points
CanSay (Delete id) = IsItem id
CanSay (Move id dx dy) = IsItem id × IsPoint (record { x = dx; y = dy })
CanSay (SetLayer id layer) = IsItem id × IsLayerName layer
CanSay (Place cell target turn) = IsCell cell × (target ≤ MAX_SYMBOL) × IsPoint turn.shift
CanSay (Look id) = IsItem id
CanSay (Combine op cell a b out) = IsCell cell × IsLayerName a × IsLayerName b × IsLayerName out
CanSay (MakeCell number) = number ≤ MAX_SYMBOL
CanSay (DropCell number) = number ≤ MAX_SYMBOL

-- the step's numbers are such as a line can have
abbrev pub CanBeSaid : Step → Type 0
CanBeSaid Open = Unit {0}
CanBeSaid (Do command) = CanSay command
CanBeSaid Commit = Unit {0}
CanBeSaid Cancel = Unit {0}
CanBeSaid (Undo txn) = IsTxn txn
CanBeSaid (Redo txn) = IsTxn txn
