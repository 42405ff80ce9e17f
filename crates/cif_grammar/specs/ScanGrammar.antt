-- Numbers of the grammar, apart from any way of reading them.
-- Source: Caltech Intermediate Form 2.0, its formal grammar. That all magnitudes above the greatest count as one above it is
-- this project's own: a text that writes one is refused, whichever it is.
use Rattle.std.specs.Prelude.{◌≡◌, ℕ, ◌+◌, ◌≤◌, List, [], ◌∷◌, ◌++◌, length, Bool, true, false, IsTrue}
use Rattle.std.specs.List.{list_all}
use Rattle.byte_io.specs.Decimal.{capped_decimal}
use Rattle.lay_point.specs.Names.{is_digit}
use Rattle.cif_grammar.specs.declared.number.Number.{Number}
use Rattle.cif_grammar.specs.declared.number.TheConstants.{MAX_MAGNITUDE}
use Rattle.cif_grammar.specs.Bytes.{is_separator}

-- what digits spell; one above the greatest magnitude, where that is less
abbrev pub capped_magnitude : List ℕ → ℕ
capped_magnitude digits = capped_decimal (MAX_MAGNITUDE + 1) digits

-- digit {digit}
pub record IsDigits (text : List ℕ) (n : ℕ) : Type 0 where
  pub some : 1 ≤ length text
  pub digits : IsTrue (list_all is_digit text)
  pub value : capped_magnitude text ≡ n

-- {separator} digit {digit}
pub record IsInteger (text : List ℕ) (n : ℕ) : Type 0 where
  pub front : List ℕ
  pub digits : List ℕ
  pub parts : text ≡ front ++ digits
  pub separators : IsTrue (list_all is_separator front)
  pub spelled : IsDigits digits n

-- "-" or nothing
abbrev pub sign : Bool → List ℕ
sign true = 45 ∷ []
sign false = []

-- {separator} ["-"] digit {digit}
pub record IsSigned (text : List ℕ) (n : Number) : Type 0 where
  pub front : List ℕ
  pub digits : List ℕ
  pub parts : text ≡ front ++ (sign n.negative ++ digits)
  pub separators : IsTrue (list_all is_separator front)
  pub spelled : IsDigits digits n.magnitude
