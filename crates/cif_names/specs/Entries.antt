-- The lines that are kept of names and labels.
-- Source: `9 NAME;` and `94 TEXT X Y [WORD];` are user extensions that layout editors write; Caltech Intermediate Form 2.0 gives
-- them no meaning. Distances are in database units, half-hundredths of a micrometre.
use Rattle.std.specs.Prelude.{ℕ, ◌==◌, ◌*◌, ◌/◌, ◌%◌, nat_le, List, [], ◌∷◌, ◌++◌, codes, decimal, Bool, ◌&&◌, not, Option, None, Some}
use Rattle.std.specs.Prelude.{if◌then◌else◌}
use Rattle.std.specs.List.{list_all}
use Rattle.lay_point.specs.Names.{is_digit}
use Rattle.cif_grammar.specs.declared.number.Number.{Number}
use Rattle.byte_io.specs.Steps.{◌>>=◌}
use Rattle.cif_grammar.specs.declared.definitions.Scale.{Scale}
use Rattle.cif_names.specs.declared.place.Place.{Place}
use Rattle.cif_names.specs.Words.{field_at, integer_of, is_space, only_word, word_at}

-- the greatest magnitude of an integer of 32 bits with this sign
abbrev pub limit_of : Bool → ℕ
limit_of negative = if negative then 2147483648 else 2147483647

-- a number, where it has 32 bits
abbrev pub in_bits : Bool → ℕ → Option Number
in_bits negative n = if nat_le n (limit_of negative) then Some (record { negative = negative; magnitude = n }) else None

-- a magnitude in hundredths of a micrometre, times the scale's numerator, in database units
abbrev pub product_in_units : Scale → ℕ → ℕ
product_in_units scale n = 2 * n * scale.numerator

-- a distance at this scale, where it is whole and has 32 bits
unfoldable pub scaled_to_units : Scale → Number → Option Number
scaled_to_units scale n =
    if scale.denominator == 0 then None
    else if product_in_units scale n.magnitude % scale.denominator == 0
    then in_bits n.negative (product_in_units scale n.magnitude / scale.denominator)
    else None

-- the coordinate that a word spells at this scale
unfoldable pub coordinate_of : Scale → List ℕ → Option Number
coordinate_of scale word = do
  number ← integer_of word
  scaled_to_units scale number

-- a label: its text, its place, the layer that is set, and the word behind its place that stays; no bytes where there is none
pub record Label : Type 0 where
  pub text : List ℕ
  pub x : Number
  pub y : Number
  pub layer : List ℕ
  pub word : List ℕ

-- the bytes of the layer that is set, or none
abbrev pub layer_bytes : Option (List ℕ) → List ℕ
layer_bytes None = []
layer_bytes (Some name) = name

-- the word behind a label's coordinates, or none
unfoldable pub word_behind : List ℕ → Option (List ℕ)
word_behind bytes = if list_all is_space bytes then Some [] else only_word bytes

-- where a layer is set, a label's last word stays if it is a number, the text's size; a layer's name would be there twice
abbrev pub word_beside : Option (List ℕ) → List ℕ → List ℕ
word_beside None word = word
word_beside (Some layer) word = if list_all is_digit word then word else []

-- TEXT X Y [WORD], behind the `94`
unfoldable pub label_of : Place → List ℕ → Option Label
label_of place bytes = do
  text ← word_at bytes
  x_word ← field_at text.1
  y_word ← field_at x_word.1
  x ← coordinate_of place.scale x_word.0
  y ← coordinate_of place.scale y_word.0
  word ← word_behind y_word.1
  Some (record { text = text.0; x = x; y = y; layer = layer_bytes place.layer; word = word_beside place.layer word })

-- a number in digits, with its sign unless it is 0
abbrev pub sign_text : Number → List ℕ
sign_text n = if n.negative && not (n.magnitude == 0) then codes "-" else []

abbrev pub number_text : Number → List ℕ
number_text n = sign_text n ++ decimal n.magnitude

-- a word behind a space, if there is one
abbrev pub word_text : List ℕ → List ℕ
word_text [] = []
word_text (b ∷ bs) = codes " " ++ (b ∷ bs)

-- the command of a label
abbrev pub label_command : Label → List ℕ
label_command l =
    codes "94 " ++ l.text ++ codes " " ++ number_text l.x ++ codes " " ++ number_text l.y ++ word_text l.word ++ codes ";\n"

-- the command that sets a layer, behind a space, if there is one: editors give a label the layer that is set
abbrev pub layer_text : List ℕ → List ℕ
layer_text [] = []
layer_text (b ∷ bs) = codes " L " ++ (b ∷ bs) ++ codes "; "

-- the line of a label
abbrev pub label_text : Label → List ℕ
label_text l = layer_text l.layer ++ label_command l

-- the line of a name
abbrev pub name_text : List ℕ → List ℕ
name_text name = codes "9 " ++ name ++ codes ";\n"
