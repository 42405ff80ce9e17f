-- The words of a step say that step.
use Rattle.std.proofs.Common.{◌≡◌, ℕ, ◌≤◌, List, [], ◌∷◌, ◌++◌, refl, sym, ap, ◌∙◌, arith, append_assoc, append-nil, ℤ}
use Rattle.std.specs.Prelude.{flat_map, Some, option_map}
use Rattle.std.specs.Fmt.{decimal, signed_decimal}
use Rattle.std.specs.List.{AllByRecursion}
use Rattle.face_rows.specs.declared.op.Op.{Op}
use Rattle.face_rows.specs.declared.op.Op.TheVariants.{And, Not, Or, Xor}
use Rattle.lay_cells.specs.declared.cell_id.CellId.{CellId}
use Rattle.lay_cells.specs.declared.cells.TheConstants.{MAX_SYMBOL}
use Rattle.lay_layouts.specs.declared.id.ItemId.{ItemId}
use Rattle.lay_point.specs.declared.point.Point.{Point}
use Rattle.lay_point.specs.declared.turn.Turn.{Turn}
use Rattle.txn_commands.specs.declared.command.Command.{Command}
use Rattle.txn_commands.specs.declared.command.Command.TheVariants.{
  Bool as Combine,
  Box,
  Delete,
  DropCell,
  Look,
  MakeCell,
  Move,
  Place,
  Poly,
}
use Rattle.txn_commands.specs.declared.command.Command.TheVariants.{SetLayer}
use Rattle.txn_commands.specs.declared.command.TxnId.{TxnId}
use Rattle.session_steps.specs.declared.Step.{Step}
use Rattle.session_steps.specs.declared.Step.TheVariants.{Cancel, Commit, Do, Open, Redo, Undo}
use Rattle.job_text.specs.Steps.{Word, bool_command, box_command, command_named, item_alone, layer_command}
use Rattle.job_text.specs.Steps.{leading_point, move_command, op_of, parsed_points, place_command, point_of, poly_command}
use Rattle.job_text.specs.Steps.{short_command, step_named, step_of, symbol_alone, txn_alone}
use Rattle.byte_io.specs.Steps.{◌>>=◌}
use Rattle.job_laws.specs.Written.{CanBeSaid, CanSay, IsItem, IsPoint, IsTxn, cell_word}
use Rattle.job_laws.specs.Written.{command_words, item_word, point_words, step_words, turning_word, txn_word}
use Rattle.byte_io.proofs.DigitLemmas.{number_read}
use Rattle.job_laws.proofs.Fields.{cell_read, coordinate_read, item_read, turning_read, txn_read}

item_only : (id : ItemId) → IsItem id → item_alone (item_word id ∷ []) ≡ Some id
unfolding item_alone
item_only id is = rw (item_read id is) refl

txn_only : (txn : TxnId) → IsTxn txn → txn_alone (txn_word txn ∷ []) ≡ Some txn
unfolding txn_alone
txn_only txn is = rw (txn_read txn is) refl

symbol_only : (number : ℕ) → number ≤ MAX_SYMBOL → symbol_alone (decimal number ∷ []) ≡ Some number
unfolding symbol_alone
symbol_only number is = rw (number_read MAX_SYMBOL number (omega arith) is) refl

point_first : (p : Point) (words : List Word) → IsPoint p → leading_point (point_words p ++ words) ≡ Some (p, words)
unfolding leading_point
point_first p words is = rw (coordinate_read p.x is.column, coordinate_read p.y is.row) refl

box_said : (cell : CellId) (layer : List ℕ) (a b : Point) → CanSay (Box cell layer a b) →
    box_command (cell_word cell ∷ layer ∷ (point_words a ++ point_words b)) ≡ Some (Box cell layer a b)
unfolding box_command
box_said cell layer a b is =
    rw (cell_read cell is.0, is.1, point_first a (point_words b) is.2, point_first b [] is.3) refl

pub point_said : (p : Point) → IsPoint p → point_of (signed_decimal p.x) (signed_decimal p.y) ≡ Some p
unfolding point_of
point_said p is = rw (coordinate_read p.x is.column, coordinate_read p.y is.row) refl

points_said : (before points : List Point) → AllByRecursion IsPoint points →
    parsed_points before (flat_map point_words points) ≡ Some (before ++ points)
points_said before [] all = ap Some (sym (append-nil before))
points_said before (p ∷ points) all =
    ap (λ o. o >>= λ q. parsed_points (before ++ q ∷ []) (flat_map point_words points)) (point_said p all.0)
    ∙ points_said (before ++ p ∷ []) points all.1
    ∙ ap Some (append_assoc before (p ∷ []) points)

poly_said : (cell : CellId) (layer : List ℕ) (points : List Point) → CanSay (Poly cell layer points) →
    poly_command (cell_word cell ∷ layer ∷ flat_map point_words points) ≡ Some (Poly cell layer points)
unfolding poly_command
poly_said cell layer points is = rw (cell_read cell is.0, is.1, points_said [] points is.2) refl

move_said : (id : ItemId) (dx dy : ℤ) → CanSay (Move id dx dy) →
    move_command (item_word id ∷ point_words (record { x = dx; y = dy })) ≡ Some (Move id dx dy)
unfolding move_command
move_said id dx dy is = rw (item_read id is.0, point_first (record { x = dx; y = dy }) [] is.1) refl

layer_said : (id : ItemId) (layer : List ℕ) → CanSay (SetLayer id layer)
    → layer_command (item_word id ∷ layer ∷ []) ≡ Some (SetLayer id layer)
unfolding layer_command
layer_said id layer is = rw (item_read id is.0, is.1) refl

place_said : (cell : CellId) (target : ℕ) (turn : Turn) → CanSay (Place cell target turn) →
    place_command (cell_word cell ∷ decimal target ∷ turning_word turn ∷ point_words turn.shift) ≡ Some (Place cell target turn)
unfolding place_command
place_said cell target turn is =
    rw (cell_read cell is.0, number_read MAX_SYMBOL target (omega arith) is.1, turning_read turn, point_first turn.shift [] is.2) refl

bool_said : (op : Op) (cell : CellId) (a b out : List ℕ) → CanSay (Combine op cell a b out) →
    bool_command op (cell_word cell ∷ a ∷ b ∷ out ∷ []) ≡ Some (Combine op cell a b out)
unfolding bool_command
bool_said op cell a b out is = rw (cell_read cell is.0, is.1, is.2, is.3) refl

command_said : (command : Command) → CanSay command → step_of (command_words command) ≡ Some (Do command)
unfolding step_of step_named command_named short_command op_of
command_said (Box cell layer a b) is = ap (option_map Do) (box_said cell layer a b is)
command_said (Poly cell layer points) is = ap (option_map Do) (poly_said cell layer points is)
command_said (Delete id) is = ap (λ o. option_map Do (option_map Delete o)) (item_only id is)
command_said (Move id dx dy) is = ap (option_map Do) (move_said id dx dy is)
command_said (SetLayer id layer) is = ap (option_map Do) (layer_said id layer is)
command_said (Place cell target turn) is = ap (option_map Do) (place_said cell target turn is)
command_said (Look id) is = ap (λ o. option_map Do (option_map Look o)) (item_only id is)
command_said (Combine And cell a b out) is = ap (option_map Do) (bool_said And cell a b out is)
command_said (Combine Or cell a b out) is = ap (option_map Do) (bool_said Or cell a b out is)
command_said (Combine Not cell a b out) is = ap (option_map Do) (bool_said Not cell a b out is)
command_said (Combine Xor cell a b out) is = ap (option_map Do) (bool_said Xor cell a b out is)
command_said (MakeCell number) is = ap (λ o. option_map Do (option_map MakeCell o)) (symbol_only number is)
command_said (DropCell number) is = ap (λ o. option_map Do (option_map DropCell o)) (symbol_only number is)

pub step_said : (step : Step) → CanBeSaid step → step_of (step_words step) ≡ Some step
unfolding step_of step_named
step_said Open is = refl
step_said (Do command) is = command_said command is
step_said Commit is = refl
step_said Cancel is = refl
step_said (Undo txn) is = ap (option_map Undo) (txn_only txn is)
step_said (Redo txn) is = ap (option_map Redo) (txn_only txn is)
