-- What a step takes, as it is written, is read as itself.
use Rattle.std.proofs.Common.{◌≡◌, ℕ, suc, ◌+◌, ◌^◌, ◌≤◌, ◌<◌, Bool, true, false, cond, List, [], ◌∷◌, ◌++◌, length, refl, ap, ◌∙◌, arith}
use Rattle.std.proofs.Common.{ℤ, pos, negsuc, drop, take}
use Rattle.std.specs.Prelude.{◌==◌, codes, not, if◌then◌else◌, Some, neg_ℤ, ◌≤ℤ◌}
use Rattle.std.specs.Fmt.{decimal, signed_decimal}
use Rattle.std.proofs.lemmas.Int.{ints}
use Rattle.std.specs.List.{list_all, position, position_or_len}
use Rattle.std.specs.Str.{bytes_eq}
use Rattle.std.proofs.Math.Seq.{drop-append-add, take-append_seam}
use Rattle.std.proofs.lemmas.Bool.{and_parts}
use Rattle.std.proofs.lemmas.Bool.Decides.{nat_tests}
use Rattle.std.proofs.lemmas.List.{length-append}
use Rattle.lay_cells.specs.declared.cell_id.CellId.{CellId}
use Rattle.lay_cells.specs.declared.cell_id.CellId.TheVariants.{Symbol, Top}
use Rattle.lay_cells.specs.declared.cells.TheConstants.{MAX_SYMBOL}
use Rattle.lay_layouts.specs.declared.id.ItemId.{ItemId}
use Rattle.lay_point.specs.declared.turn.Quarter.{Quarter}
use Rattle.lay_point.specs.declared.turn.Quarter.TheVariants.{R0, R90, R180, R270}
use Rattle.lay_point.specs.declared.turn.Turn.{Turn}
use Rattle.lay_point.specs.Names.{is_digit}
use Rattle.txn_commands.specs.declared.command.TxnId.{TxnId}
use Rattle.byte_io.specs.Numbers.{parsed_number}
use Rattle.byte_io.specs.Steps.{◌>>=◌}
use Rattle.job_text.specs.Words.{before_dot, parsed_cell, parsed_coordinate, is_negative, parsed_item, parsed_quarter}
use Rattle.job_text.specs.Words.{parsed_turning, parsed_txn}
use Rattle.job_laws.specs.Written.{IsCell, IsCoordinate, IsItem, IsTxn, cell_word, degrees, item_word, turning_word, txn_word}
use Rattle.byte_io.proofs.DigitLemmas.{decimal_is, digits_read, number_read}

-- ---- coordinates

first_no_sign : (text : List ℕ) → list_all is_digit text ≡ true → is_negative text ≡ false
first_no_sign [] h = refl
first_no_sign (b ∷ text) h =
    let first = (and_parts (is_digit b) (list_all is_digit text) h).0 in
    grind (arith, nat_tests, first)

sign_first : (text : List ℕ) → is_negative (45 ∷ text) ≡ true
sign_first text = grind (arith, nat_tests)

pub coordinate_read : (z : ℤ) → IsCoordinate z → parsed_coordinate (signed_decimal z) ≡ Some z
unfolding parsed_coordinate
coordinate_read (pos n) is =
    let high : pos n ≤ℤ pos 2147483647 = is.high in
    let within : n ≤ 2147483647 = omega (arith, ints, high) in
    let digits = decimal_is n (omega (arith, within)) in
    rw (first_no_sign (decimal n) digits.digits, digits_read 2147483647 n (decimal n) digits within) refl
coordinate_read (negsuc n) is =
    let low : neg_ℤ (pos 2147483648) ≤ℤ negsuc n = is.low in
    let within : suc n ≤ 2147483648 = omega (arith, ints, low) in
    rw (sign_first (decimal (suc n)), number_read 2147483648 (suc n) (omega arith) within) refl

-- ---- cells

no_name : (text : List ℕ) → list_all is_digit text ≡ true → bytes_eq text (codes "top") ≡ false
no_name [] h = refl
no_name (b ∷ text) h =
    let first = (and_parts (is_digit b) (list_all is_digit text) h).0 in
    let other : (b == 116) ≡ false = grind (arith, nat_tests, first) in
    rw other refl

pub cell_read : (cell : CellId) → IsCell cell → parsed_cell (cell_word cell) ≡ Some cell
unfolding parsed_cell
cell_read Top is = refl
cell_read (Symbol number) is =
    let digits = decimal_is number (omega (arith, is)) in
    rw (no_name (decimal number) digits.digits, digits_read MAX_SYMBOL number (decimal number) digits is) refl

-- ---- names of transactions and items

digit_no_dot : (b : ℕ) → is_digit b ≡ true → (b == 46) ≡ false
digit_no_dot b h = grind (arith, nat_tests)

dot_behind : (digits rest : List ℕ) → list_all is_digit digits ≡ true →
    position_or_len (λ b. b == 46) (digits ++ 46 ∷ rest) ≡ length digits
dot_behind [] rest h = refl
dot_behind (b ∷ digits) rest h =
    let parts = and_parts (is_digit b) (list_all is_digit digits) h in
    let first : position_or_len (λ b. b == 46) ((b ∷ digits) ++ 46 ∷ rest) ≡ 1 + position_or_len (λ b. b == 46) (digits ++ 46 ∷ rest) =
    ap (λ t. cond (not t) (1 + position_or_len (λ b. b == 46) (digits ++ 46 ∷ rest)) 0) (digit_no_dot b parts.0) in
    let more = dot_behind digits rest parts.1 in
    first ∙ omega (arith, more)

dot_place : (digits rest : List ℕ) → list_all is_digit digits ≡ true → position (λ b. b == 46) (digits ++ 46 ∷ rest) ≡ Some (length digits)
dot_place digits rest h =
    let at = dot_behind digits rest h in
    let inside : length digits < length (digits ++ 46 ∷ rest) = omega (arith, length-append digits (46 ∷ rest)) in
    grind (arith, nat_tests, at, inside)

behind_dot : (digits rest : List ℕ) → drop (length digits + 1) (digits ++ 46 ∷ rest) ≡ rest
behind_dot digits rest = drop-append-add digits (46 ∷ rest) 1

pub dot_read : (limit n : ℕ) (rest : List ℕ) → limit < 2 ^ 64 → n ≤ limit → before_dot limit (decimal n ++ 46 ∷ rest) ≡ Some (n, rest)
unfolding before_dot
dot_read limit n rest most within =
    let digits = decimal_is n (omega (arith, most, within)) in
    let number : parsed_number limit (take (length (decimal n)) (decimal n ++ 46 ∷ rest)) ≡ Some n =
    ap (parsed_number limit) (take-append_seam (decimal n) (46 ∷ rest)) ∙ digits_read limit n (decimal n) digits within in
    rw (dot_place (decimal n) rest digits.digits, number, behind_dot (decimal n) rest) refl

pub txn_read : (txn : TxnId) → IsTxn txn → parsed_txn (txn_word txn) ≡ Some txn
unfolding parsed_txn
txn_read txn is =
    rw (dot_read 64 txn.session (decimal txn.txn) (omega arith) is.session, number_read 65535 txn.txn (omega arith) is.number) refl

pub item_read : (id : ItemId) → IsItem id → parsed_item (item_word id) ≡ Some id
unfolding parsed_item
item_read id is =
    rw (
      dot_read 64 id.session (decimal id.txn ++ 46 ∷ decimal id.seq) (omega arith) is.session,
      dot_read 65535 id.txn (decimal id.seq) (omega arith) is.txn,
      number_read 4294967295 id.seq (omega arith) is.seq,
    ) refl

-- ---- turns

quarter_read : (q : Quarter) → parsed_quarter (degrees q) ≡ Some q
unfolding parsed_quarter
quarter_read R0 = refl
quarter_read R90 = refl
quarter_read R180 = refl
quarter_read R270 = refl

turning_is : (mirror : Bool) (q : Quarter) → parsed_turning ((if mirror then 109 else 114) ∷ degrees q) ≡ Some (mirror, q)
unfolding parsed_turning
turning_is true q = ap (λ o. o >>= λ quarter. Some (true, quarter)) (quarter_read q)
turning_is false q = ap (λ o. o >>= λ quarter. Some (false, quarter)) (quarter_read q)

pub turning_read : (turn : Turn) → parsed_turning (turning_word turn) ≡ Some (turn.mirror, turn.quarter)
turning_read turn = turning_is turn.mirror turn.quarter
