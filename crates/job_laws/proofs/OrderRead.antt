-- The numbers in the lines of an order are the order.
use Rattle.std.proofs.Common.{◌≡◌, ℕ, ◌+◌, ◌%◌, ◌≤◌, Bool, true, false, List, [], ◌∷◌, ◌++◌, length, refl, sym, ap, ◌∙◌, arith}
use Rattle.std.proofs.Common.{append_assoc}
use Rattle.std.specs.Prelude.{◌==◌, ◌||◌, codes, if◌then◌else◌, map}
use Rattle.std.specs.Fmt.{decimal}
use Rattle.std.specs.List.{AllByRecursion, list_all}
use Rattle.std.proofs.lemmas.Bool.{and_parts}
use Rattle.lay_point.specs.Names.{is_digit}
use Rattle.byte_io.specs.Decimal.{decimal_value}
use Rattle.byte_io.specs.Lines.{in_front}
use Rattle.job_text.specs.Order.{order_from, order_number_text, order_text}
use Rattle.byte_io.proofs.DigitLemmas.{decimal_is}
use Rattle.job_laws.specs.ReplyLaws.{IsCount}
use Rattle.job_laws.specs.Numbers.{is_digit_first, numbers_in, runs}

-- the runs from a digit on
abbrev in_run : ℕ → List ℕ → List (List ℕ)
in_run b bytes = if is_digit_first bytes then in_front b (runs bytes) else (b ∷ []) ∷ runs bytes

runs-digit : (b : ℕ) (bytes : List ℕ) → is_digit b ≡ true → runs (b ∷ bytes) ≡ in_run b bytes
runs-digit b bytes is = ap (λ t. if t then in_run b bytes else runs bytes) is

-- a run, where no digit comes after it
run_first : (b : ℕ) (digits rest : List ℕ) → list_all is_digit (b ∷ digits) ≡ true → is_digit_first rest ≡ false →
    runs ((b ∷ digits) ++ rest) ≡ (b ∷ digits) ∷ runs rest
run_first b [] rest all ends =
    runs-digit b rest (and_parts (is_digit b) true all).0
    ∙ ap (λ t. if t then in_front b (runs rest) else (b ∷ []) ∷ runs rest) ends
run_first b (c ∷ digits) rest all ends =
    let parts = and_parts (is_digit b) (list_all is_digit (c ∷ digits)) all in
    let next = and_parts (is_digit c) (list_all is_digit digits) parts.1 in
    runs-digit b ((c ∷ digits) ++ rest) parts.0
    ∙ ap (λ t. if t then in_front b (runs ((c ∷ digits) ++ rest)) else (b ∷ []) ∷ runs ((c ∷ digits) ++ rest)) next.0
    ∙ ap (in_front b) (run_first c digits rest parts.1 ends)

digits_first : (digits rest : List ℕ) → 1 ≤ length digits → list_all is_digit digits ≡ true → is_digit_first rest ≡ false →
    numbers_in (digits ++ rest) ≡ decimal_value digits ∷ numbers_in rest
digits_first [] rest some all ends = absurd (omega (arith, some))
digits_first (b ∷ digits) rest some all ends = ap (map decimal_value) (run_first b digits rest all ends)

number_first : (n : ℕ) (rest : List ℕ) → IsCount n → is_digit_first rest ≡ false →
    numbers_in (decimal n ++ rest) ≡ n ∷ numbers_in rest
number_first n rest few ends =
    let is = decimal_is n few in
    digits_first (decimal n) rest is.some is.digits ends ∙ ap (λ m. m ∷ numbers_in rest) is.value

-- what comes before a number, and what ends its line
abbrev opening : Bool → List ℕ
opening starts = if starts then codes "(order" else []

abbrev closing : Bool → List ℕ
closing ends = if ends then codes ");\n" else []

no_digit_opens : (starts : Bool) (rest : List ℕ) → is_digit_first (opening starts ++ 32 ∷ rest) ≡ false
no_digit_opens true rest = refl
no_digit_opens false rest = refl

opening_has_none : (starts : Bool) (rest : List ℕ) → numbers_in (opening starts ++ 32 ∷ rest) ≡ numbers_in rest
opening_has_none true rest = refl
opening_has_none false rest = refl

no_digit_closes : (ends : Bool) (rest : List ℕ) → is_digit_first rest ≡ false → is_digit_first (closing ends ++ rest) ≡ false
no_digit_closes true rest h = refl
no_digit_closes false rest h = h

closing_has_none : (ends : Bool) (rest : List ℕ) → numbers_in (closing ends ++ rest) ≡ numbers_in rest
closing_has_none true rest = refl
closing_has_none false rest = refl

four : (a b c rest : List ℕ) → (((a ++ 32 ∷ []) ++ b) ++ c) ++ rest ≡ a ++ 32 ∷ (b ++ (c ++ rest))
four a b c rest =
    append_assoc ((a ++ 32 ∷ []) ++ b) c rest ∙ append_assoc (a ++ 32 ∷ []) b (c ++ rest) ∙ append_assoc a (32 ∷ []) (b ++ (c ++ rest))

-- whether a number at this place begins a line, and whether it ends one
abbrev starts_at : ℕ → Bool
starts_at place = place % 16 == 0

abbrev ends_at : ℕ → Bool → Bool
ends_at place last = (place + 1) % 16 == 0 || last

number_parts : (place : ℕ) (last : Bool) (n : ℕ) (rest : List ℕ) →
    order_number_text place last n ++ rest ≡ opening (starts_at place) ++ 32 ∷ (decimal n ++ (closing (ends_at place last) ++ rest))
unfolding order_number_text
number_parts place last n rest = four (opening (starts_at place)) (decimal n) (closing (ends_at place last)) rest

no_digit_first : (place : ℕ) (order : List ℕ) → is_digit_first (order_from place order) ≡ false
no_digit_first place [] = refl
no_digit_first place (n ∷ order) =
    ap is_digit_first (number_parts place (length order == 0) n (order_from (place + 1) order))
    ∙ no_digit_opens (starts_at place) (decimal n ++ (closing (ends_at place (length order == 0)) ++ order_from (place + 1) order))

order_read : (place : ℕ) (order : List ℕ) → AllByRecursion IsCount order → numbers_in (order_from place order) ≡ order
order_read place [] all = refl
order_read place (n ∷ order) all =
    let more = order_from (place + 1) order in
    let ends = ends_at place (length order == 0) in
    ap numbers_in (number_parts place (length order == 0) n more)
    ∙ opening_has_none (starts_at place) (decimal n ++ (closing ends ++ more))
    ∙ number_first n (closing ends ++ more) all.0 (no_digit_closes ends more (no_digit_first (place + 1) order))
    ∙ ap (λ l. n ∷ l) (closing_has_none ends more ∙ order_read (place + 1) order all.1)

pub numbers_read : (order : List ℕ) → AllByRecursion IsCount order → numbers_in (order_text order) ≡ order
numbers_read order all = order_read 0 order all

pub orders_told : (a b : List ℕ) → AllByRecursion IsCount a → AllByRecursion IsCount b → order_text a ≡ order_text b → a ≡ b
orders_told a b first second same = sym (numbers_read a first) ∙ ap numbers_in same ∙ numbers_read b second
