-- Which classes of bytes have none in common.
use Rattle.std.proofs.Common.{◌≡◌, ℕ, Bool, true, false, refl, arith}
use Rattle.std.specs.Prelude.{not, ◌==◌}
use Rattle.std.proofs.lemmas.Bool.Decides.{nat_tests}
use Rattle.lay_point.specs.Names.{is_digit, is_name_byte, is_upper}
use Rattle.cif_grammar.specs.Bytes.{is_blank, is_gap, is_mark, is_separator}

pub digit_no_separator : (b : ℕ) → is_digit b ≡ true → is_separator b ≡ false
unfolding is_separator is_blank is_mark
digit_no_separator b h = grind (arith, nat_tests)

pub separator_no_digit : (b : ℕ) → is_separator b ≡ true → is_digit b ≡ false
unfolding is_separator is_blank is_mark
separator_no_digit b h = grind (arith, nat_tests)

pub name_byte_no_blank : (b : ℕ) → is_name_byte b ≡ true → is_blank b ≡ false
unfolding is_blank is_mark
name_byte_no_blank b h = grind (arith, nat_tests)

pub blank_no_name_byte : (b : ℕ) → is_blank b ≡ true → is_name_byte b ≡ false
unfolding is_blank is_mark
blank_no_name_byte b h = grind (arith, nat_tests)

pub blank_no_digit : (b : ℕ) → is_blank b ≡ true → is_digit b ≡ false
unfolding is_blank is_mark
blank_no_digit b h = grind (arith, nat_tests)

pub digit_no_minus : (b : ℕ) → is_digit b ≡ true → (b == 45) ≡ false
digit_no_minus b h = grind (arith, nat_tests)

pub minus_no_separator : is_separator 45 ≡ false
unfolding is_separator is_blank is_mark
minus_no_separator = refl

-- a byte other than the semicolon
abbrev pub is_plain : ℕ → Bool
is_plain b = not (b == 59)

pub digit_plain : (b : ℕ) → is_digit b ≡ true → is_plain b ≡ true
digit_plain b h = grind (arith, nat_tests)

pub name_byte_plain : (b : ℕ) → is_name_byte b ≡ true → is_plain b ≡ true
name_byte_plain b h = grind (arith, nat_tests)

pub blank_plain : (b : ℕ) → is_blank b ≡ true → is_plain b ≡ true
unfolding is_blank is_mark
blank_plain b h = grind (arith, nat_tests)

pub separator_plain : (b : ℕ) → is_separator b ≡ true → is_plain b ≡ true
unfolding is_separator is_blank is_mark
separator_plain b h = grind (arith, nat_tests)

pub letter_no_gap : (b : ℕ) → is_upper b ≡ true → is_gap b ≡ false
unfolding is_gap is_blank is_mark
letter_no_gap b h = grind (arith, nat_tests)
