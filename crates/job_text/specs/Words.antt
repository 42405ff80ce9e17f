-- Words of a line, and what they spell.
use Rattle.std.specs.Prelude.{◌≡◌, ℕ, ◌+◌, ◌<◌, List, [], ◌∷◌, codes, drop, length, take, slice_index, Bool, true, false, ◌&&◌, ◌||◌, ◌==◌}
use Rattle.std.specs.Prelude.{nat_lt, if◌then◌else◌, Option, None, Some, not, option_map, unwrap_or, ℤ, pos, neg_ℤ}
use Rattle.std.specs.List.{position}
use Rattle.std.specs.Str.{bytes_eq}
use Rattle.lay_cells.specs.declared.cell_id.CellId.{CellId}
use Rattle.lay_cells.specs.declared.cell_id.CellId.TheVariants.{Top, Symbol}
use Rattle.lay_cells.specs.declared.cells.TheConstants.{MAX_SYMBOL}
use Rattle.lay_layouts.specs.declared.id.ItemId.{ItemId}
use Rattle.lay_point.specs.declared.turn.Quarter.{Quarter}
use Rattle.lay_point.specs.declared.turn.Quarter.TheVariants.{R0, R90, R180, R270}
use Rattle.byte_io.specs.Lines.{content, in_front}
use Rattle.byte_io.specs.Numbers.{parsed_number}
use Rattle.byte_io.specs.Steps.{◌>>=◌}
use Rattle.txn_commands.specs.declared.command.TxnId.{TxnId}

-- spaces and tabs separate words
abbrev pub is_word_separator : ℕ → Bool
is_word_separator b = b == 32 || b == 9

-- whether no word goes on at the first of the bytes
abbrev pub is_word_end : List ℕ → Bool
is_word_end [] = true
is_word_end (b ∷ bytes) = is_word_separator b

-- the words of the bytes
abbrev pub words : List ℕ → List (List ℕ)
words [] = []
words (b ∷ bytes) =
    if is_word_separator b then words bytes
    else if is_word_end bytes then (b ∷ []) ∷ words bytes
    else in_front b (words bytes)

-- the words that a line says
abbrev pub words_of : List ℕ → List (List ℕ)
words_of line = words (content line)

-- the line from its first word on
abbrev pub from_word : List ℕ → List ℕ
from_word line = drop (unwrap_or (position (λ b. not (is_word_separator b)) line) (length line)) line

-- this is the first word of the bytes, and this stands behind it
pub record IsFirstWord (bytes word behind : List ℕ) : Type 0 where
  pub first : words bytes ≡ word ∷ words behind
  pub shorter : length behind < length bytes

-- whether the word begins with a minus sign
abbrev pub is_negative : List ℕ → Bool
is_negative bytes = nat_lt 0 (length bytes) && (slice_index bytes 0 == 45)

-- a coordinate as written: a number of 32 bits, behind a minus sign or not; `-0` is allowed
unfoldable pub parsed_coordinate : List ℕ → Option ℤ
parsed_coordinate bytes =
    if is_negative bytes then option_map (λ n. neg_ℤ (pos n)) (parsed_number 2147483648 (drop 1 bytes)) else option_map pos
    (parsed_number 2147483647 bytes)

-- a cell: `top`, or a symbol's number up to `MAX_SYMBOL`
unfoldable pub parsed_cell : List ℕ → Option CellId
parsed_cell bytes = if bytes_eq bytes (codes "top") then Some Top else option_map Symbol (parsed_number MAX_SYMBOL bytes)

-- the number before the first dot, up to the limit, and what stands behind the dot
unfoldable pub before_dot : ℕ → List ℕ → Option (ℕ × List ℕ)
before_dot limit bytes = do
  dot ← position (λ b. b == 46) bytes
  number ← parsed_number limit (take dot bytes)
  Some (number, drop (dot + 1) bytes)

-- a session up to 64, and one of its transactions up to 65,535
unfoldable pub parsed_txn : List ℕ → Option TxnId
parsed_txn bytes = do
  session ← before_dot 64 bytes
  txn ← parsed_number 65535 session.1
  Some (record { session = session.0; txn = txn })

-- the same, and one of the transaction's items, up to 4,294,967,295
unfoldable pub parsed_item : List ℕ → Option ItemId
parsed_item bytes = do
  session ← before_dot 64 bytes
  txn ← before_dot 65535 session.1
  seq ← parsed_number 4294967295 txn.1
  Some (record { session = session.0; txn = txn.0; seq = seq })

-- whether a turn's letter mirrors first
abbrev pub parsed_mirror : ℕ → Option Bool
parsed_mirror b = if b == 114 then Some false else if b == 109 then Some true else None

-- the quarter turns of so many degrees
unfoldable pub parsed_quarter : List ℕ → Option Quarter
parsed_quarter bytes =
    if bytes_eq bytes (codes "0") then Some R0
    else if bytes_eq bytes (codes "90") then Some R90
    else if bytes_eq bytes (codes "180") then Some R180
    else if bytes_eq bytes (codes "270") then Some R270
    else None

-- whether a turn mirrors, and its quarter turns: `r` or `m`, and the degrees
unfoldable pub parsed_turning : List ℕ → Option (Bool × Quarter)
parsed_turning [] = None
parsed_turning (b ∷ bytes) = do
  mirror ← parsed_mirror b
  quarter ← parsed_quarter bytes
  Some (mirror, quarter)
