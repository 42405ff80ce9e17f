-- Words of a command, and the numbers that they spell.
use Rattle.std.specs.Prelude.{ℕ, ◌==◌, nat_le, nat_lt, List, [], ◌∷◌, Bool, true, false, ◌&&◌, ◌||◌, not}
use Rattle.std.specs.Prelude.{Option, None, Some, option_map, if◌then◌else◌}
use Rattle.std.specs.List.{list_all, take_while}
use Rattle.byte_io.specs.Numbers.{parsed_number}
use Rattle.cif_grammar.specs.declared.number.Number.{Number}
use Rattle.cif_grammar.specs.Bytes.{skip}
use Rattle.byte_io.specs.Steps.{◌>>=◌}

-- a byte of a word
abbrev pub is_dark : ℕ → Bool
is_dark b = nat_lt 32 b

-- a byte between words
abbrev pub is_space : ℕ → Bool
is_space b = nat_le b 32

-- a byte or more, and what stands behind them
abbrev pub word_by : List ℕ → List ℕ → Option (List ℕ × List ℕ)
word_by [] behind = None
word_by (b ∷ bs) behind = Some (b ∷ bs, behind)

-- the first word of the bytes, and what stands behind it
unfoldable pub word_at : List ℕ → Option (List ℕ × List ℕ)
word_at bytes = let rest = skip is_space bytes in word_by (take_while is_dark rest) (skip is_dark rest)

-- a byte between coordinates: a comma may stand there too
abbrev pub is_between : ℕ → Bool
is_between b = is_space b || b == 44

-- a byte of a coordinate
abbrev pub is_coordinate_byte : ℕ → Bool
is_coordinate_byte b = is_dark b && not (b == 44)

-- the first coordinate of the bytes, and what stands behind it
unfoldable pub field_at : List ℕ → Option (List ℕ × List ℕ)
field_at bytes = let rest = skip is_between bytes in word_by (take_while is_coordinate_byte rest) (skip is_coordinate_byte rest)

-- the word of bytes that have just one
unfoldable pub only_word : List ℕ → Option (List ℕ)
only_word bytes = do
  word ← word_at bytes
  if list_all is_space word.1 then Some word.0 else None

-- a number with this sign
abbrev pub with_sign : Bool → Option ℕ → Option Number
with_sign negative magnitude = option_map (λ n. record { negative = negative; magnitude = n }) magnitude

-- the integer that the word spells, with a `-` before it or without, up to 2^31
unfoldable pub integer_of : List ℕ → Option Number
integer_of [] = with_sign false (parsed_number 2147483648 [])
integer_of (b ∷ bs) = if b == 45 then with_sign true (parsed_number 2147483648 bs) else with_sign false (parsed_number 2147483648 (b ∷ bs))
