-- What is written for a step is words: each has a byte or more, and none that separates words or ends a line.
use Rattle.std.proofs.Common.{◌≡◌, ℕ, suc, ◌^◌, ◌<◌, Bool, true, false, List, [], ◌∷◌, ◌++◌, length, refl, ◌∙◌, arith, ℤ, pos, negsuc}
use Rattle.std.specs.Prelude.{◌&&◌, flat_map, if◌then◌else◌, nat_le, neg_ℤ, None, Some, ◌≤ℤ◌}
use Rattle.std.specs.Fmt.{decimal, signed_decimal}
use Rattle.std.specs.List.{AllByRecursion, list_all}
use Rattle.std.proofs.lemmas.Bool.{and_parts}
use Rattle.std.proofs.lemmas.Bool.Decides.{nat_tests}
use Rattle.std.proofs.lemmas.Int.{ints}
use Rattle.std.proofs.lemmas.List.{length-append}
use Rattle.std.proofs.lemmas.List.Folds.{list_all-append}
use Rattle.face_rows.specs.declared.op.Op.{Op}
use Rattle.face_rows.specs.declared.op.Op.TheVariants.{And, Not, Or, Xor}
use Rattle.lay_cells.specs.declared.cell_id.CellId.{CellId}
use Rattle.lay_cells.specs.declared.cell_id.CellId.TheVariants.{Symbol, Top}
use Rattle.lay_layouts.specs.declared.id.ItemId.{ItemId}
use Rattle.lay_point.specs.declared.layer_name.TheConstants.{MAX_LAYER_NAME}
use Rattle.lay_point.specs.declared.point.Point.{Point}
use Rattle.lay_point.specs.declared.turn.Quarter.{Quarter}
use Rattle.lay_point.specs.declared.turn.Quarter.TheVariants.{R0, R90, R180, R270}
use Rattle.lay_point.specs.Names.{is_digit, is_layer_name, is_name_byte}
use Rattle.txn_commands.specs.declared.command.Command.{Command}
use Rattle.txn_commands.specs.declared.command.Command.TheVariants.{
  Bool as Combine,
  Box,
  Delete,
  DropCell,
  Look,
  MakeCell,
  Move,
  Place,
  Poly,
}
use Rattle.txn_commands.specs.declared.command.Command.TheVariants.{SetLayer}
use Rattle.txn_commands.specs.declared.command.TxnId.{TxnId}
use Rattle.session_steps.specs.declared.Step.{Step}
use Rattle.session_steps.specs.declared.Step.TheVariants.{Cancel, Commit, Do, Open, Redo, Undo}
use Rattle.job_text.specs.Steps.{Word}
use Rattle.job_laws.specs.Written.{CanBeSaid, CanSay, IsCell, IsCoordinate, IsItem, IsLayerName}
use Rattle.job_laws.specs.Written.{IsPoint, IsTxn, cell_word, command_words, degrees, item_word}
use Rattle.job_laws.specs.Written.{op_word, point_words, step_words, txn_word}
use Rattle.byte_io.proofs.DigitLemmas.{decimal_is}
use Rattle.job_laws.proofs.Joined.{IsWord, is_plain}

digit_plain : (b : ℕ) → is_digit b ≡ true → is_plain b ≡ true
digit_plain b h = grind (arith, nat_tests)

name_plain : (b : ℕ) → is_name_byte b ≡ true → is_plain b ≡ true
name_plain b h = grind (arith, nat_tests)

all_plain : (test : ℕ → Bool) → ((b : ℕ) → test b ≡ true → is_plain b ≡ true) → (bytes : List ℕ) → list_all test bytes ≡ true →
    list_all is_plain bytes ≡ true
all_plain test implies [] h = refl
all_plain test implies (b ∷ bytes) h =
    let parts = and_parts (test b) (list_all test bytes) h in
    rw (implies b parts.0, all_plain test implies bytes parts.1) refl

pub decimal_word : (n : ℕ) → n < 2 ^ 64 → IsWord (decimal n)
decimal_word n h =
    let is = decimal_is n h in
    record { some = is.some; plain = all_plain is_digit digit_plain (decimal n) is.digits }

longer : (b : ℕ) (word : List ℕ) → is_plain b ≡ true → list_all is_plain word ≡ true → IsWord (b ∷ word)
longer b word first rest = record { some = omega arith; plain = rw (first, rest) refl }

pub signed_word : (z : ℤ) → IsCoordinate z → IsWord (signed_decimal z)
signed_word (pos n) is =
    let high : pos n ≤ℤ pos 2147483647 = is.high in
    decimal_word n (omega (arith, ints, high))
signed_word (negsuc n) is =
    let low : neg_ℤ (pos 2147483648) ≤ℤ negsuc n = is.low in
    longer 45 (decimal (suc n)) refl (decimal_word (suc n) (omega (arith, ints, low))).plain

-- with a dot between them
pub dotted : (a b : List ℕ) → IsWord a → IsWord b → IsWord (a ++ 46 ∷ b)
dotted a b first second = record {
  some = let many = first.some in omega (arith, many, length-append a (46 ∷ b));
  plain = list_all-append is_plain a (46 ∷ b) ∙ rw (first.plain, second.plain) refl;
}

is_name : (name : List ℕ) → IsLayerName name → is_layer_name name ≡ true
is_name name is = by_test (is_layer_name name) is where
  by_test : (t : Bool) → (if t then Some name else None) ≡ Some name → t ≡ true
  by_test true h = refl
  by_test false h = absurd (cc)

pub layer_word : (name : List ℕ) → IsLayerName name → IsWord name
layer_word name is =
    let parts = and_parts (nat_le 1 (length name) && nat_le (length name) MAX_LAYER_NAME) (list_all is_name_byte name) (is_name name is) in
    let some = (and_parts (nat_le 1 (length name)) (nat_le (length name) MAX_LAYER_NAME) parts.0).0 in
    record { some = grind (arith, nat_tests, some); plain = all_plain is_name_byte name_plain name parts.1 }

pub cell_is_word : (cell : CellId) → IsCell cell → IsWord (cell_word cell)
cell_is_word Top is = record { some = omega arith; plain = refl }
cell_is_word (Symbol number) is = decimal_word number (omega (arith, is))

pub txn_is_word : (txn : TxnId) → IsTxn txn → IsWord (txn_word txn)
txn_is_word txn is =
    let session = is.session in
    let number = is.number in
    dotted (decimal txn.session) (decimal txn.txn) (decimal_word txn.session (omega (arith, session)))
    (decimal_word txn.txn (omega (arith, number)))

pub item_is_word : (id : ItemId) → IsItem id → IsWord (item_word id)
item_is_word id is =
    let session = is.session in
    let txn = is.txn in
    let seq = is.seq in
    dotted (decimal id.session) (decimal id.txn ++ 46 ∷ decimal id.seq) (decimal_word id.session (omega (arith, session)))
    (dotted (decimal id.txn) (decimal id.seq) (decimal_word id.txn (omega (arith, txn))) (decimal_word id.seq (omega (arith, seq))))

pub turning_is_word : (mirror : Bool) (q : Quarter) → IsWord ((if mirror then 109 else 114) ∷ degrees q)
turning_is_word true R0 = record { some = omega arith; plain = refl }
turning_is_word true R90 = record { some = omega arith; plain = refl }
turning_is_word true R180 = record { some = omega arith; plain = refl }
turning_is_word true R270 = record { some = omega arith; plain = refl }
turning_is_word false R0 = record { some = omega arith; plain = refl }
turning_is_word false R90 = record { some = omega arith; plain = refl }
turning_is_word false R180 = record { some = omega arith; plain = refl }
turning_is_word false R270 = record { some = omega arith; plain = refl }

pub points_are_words : (points : List Point) → AllByRecursion IsPoint points → AllByRecursion IsWord (flat_map point_words points)
points_are_words [] all = all
points_are_words (p ∷ points) all =
    (signed_word p.x all.0.column, (signed_word p.y all.0.row, points_are_words points all.1))

pub two_words : (p : Point) (words : List Word) → IsPoint p → AllByRecursion IsWord words → AllByRecursion IsWord (point_words p ++ words)
two_words p words is more = (signed_word p.x is.column, (signed_word p.y is.row, more))

pub last_two : (p : Point) → IsPoint p → AllByRecursion IsWord (point_words p)
last_two p is = two_words p [] is tt

op_is_word : (op : Op) → IsWord (op_word op)
op_is_word And = record { some = omega arith; plain = refl }
op_is_word Or = record { some = omega arith; plain = refl }
op_is_word Not = record { some = omega arith; plain = refl }
op_is_word Xor = record { some = omega arith; plain = refl }

command_is_words : (command : Command) → CanSay command → AllByRecursion IsWord (command_words command)
command_is_words (Box cell layer a b) is =
    let rest = two_words a (point_words b) is.2 (last_two b is.3) in
    (record { some = omega arith; plain = refl }, (cell_is_word cell is.0, (layer_word layer is.1, rest)))
command_is_words (Poly cell layer points) is =
    let rest = points_are_words points is.2 in
    (record { some = omega arith; plain = refl }, (cell_is_word cell is.0, (layer_word layer is.1, rest)))
command_is_words (Delete id) is = (record { some = omega arith; plain = refl }, (item_is_word id is, tt))
command_is_words (Move id dx dy) is =
    let rest = last_two (record { x = dx; y = dy }) is.1 in
    (record { some = omega arith; plain = refl }, (item_is_word id is.0, rest))
command_is_words (SetLayer id layer) is =
    (record { some = omega arith; plain = refl }, (item_is_word id is.0, (layer_word layer is.1, tt)))
command_is_words (Place cell target turn) is =
    let few = is.1 in
    let rest = last_two turn.shift is.2 in
    let number = decimal_word target (omega (arith, few)) in (
      record { some = omega arith; plain = refl },
      (cell_is_word cell is.0, (number, (turning_is_word turn.mirror turn.quarter, rest))),
    )
command_is_words (Look id) is = (record { some = omega arith; plain = refl }, (item_is_word id is, tt))
command_is_words (Combine op cell a b out) is =
    (op_is_word op, (cell_is_word cell is.0, (layer_word a is.1, (layer_word b is.2, (layer_word out is.3, tt)))))
command_is_words (MakeCell number) is =
    (record { some = omega arith; plain = refl }, (decimal_word number (omega (arith, is)), tt))
command_is_words (DropCell number) is =
    (record { some = omega arith; plain = refl }, (decimal_word number (omega (arith, is)), tt))

pub step_is_words : (step : Step) → CanBeSaid step → AllByRecursion IsWord (step_words step)
step_is_words Open is = (record { some = omega arith; plain = refl }, tt)
step_is_words (Do command) is = command_is_words command is
step_is_words Commit is = (record { some = omega arith; plain = refl }, tt)
step_is_words Cancel is = (record { some = omega arith; plain = refl }, tt)
step_is_words (Undo txn) is = (record { some = omega arith; plain = refl }, (txn_is_word txn is, tt))
step_is_words (Redo txn) is = (record { some = omega arith; plain = refl }, (txn_is_word txn is, tt))
