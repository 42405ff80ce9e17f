-- Numbers, as they are written, are digits that spell them, and are read as themselves.
use Rattle.std.proofs.Common.{◌≡◌, ℕ, ◌+◌, ◌-◌, ◌*◌, ◌/◌, ◌%◌, ◌^◌, ◌≤◌, ◌<◌, true, List, [], ◌∷◌, ◌++◌, length, refl, ◌∙◌, arith}
use Rattle.std.specs.Prelude.{Some}
use Rattle.std.specs.Fmt.{decimal}
use Rattle.std.specs.List.{list_all}
use Rattle.std.proofs.lemmas.Bool.Decides.{nat_tests}
use Rattle.std.proofs.lemmas.Fmt.{decimal_by_steps}
use Rattle.std.proofs.lemmas.List.{length-append}
use Rattle.std.proofs.lemmas.List.Folds.{list_all-append}
use Rattle.std.proofs.lemmas.List.Sums.{fold_push}
use Rattle.byte_io.specs.Decimal.{decimal_value}
use Rattle.lay_point.specs.Names.{is_digit}
use Rattle.byte_io.specs.Numbers.{parsed_number}

-- digits that spell a number
pub record IsDecimal (n : ℕ) (text : List ℕ) : Type 0 where
  pub some : 1 ≤ length text
  pub digits : list_all is_digit text ≡ true
  pub value : decimal_value text ≡ n

one_digit : (n : ℕ) → n < 10 → IsDecimal n ((48 + n) ∷ [])
one_digit n h = record { some = omega arith; digits = grind (arith, nat_tests); value = omega arith }

last_digit : (n front : ℕ) → front ≡ n / 10 → 10 * front + (48 + n % 10 - 48) ≡ n
last_digit n front e = omega (arith, e)

more_digits : (n : ℕ) (ds : List ℕ) → 10 ≤ n → IsDecimal (n / 10) ds → IsDecimal n (ds ++ ((48 + n % 10) ∷ []))
more_digits n ds h is =
    let low : n % 10 < 10 = omega arith in
    let last : list_all is_digit ((48 + n % 10) ∷ []) ≡ true = (one_digit (n % 10) low).digits in
    record {
      some = omega (arith, length-append ds ((48 + n % 10) ∷ []));
      digits = list_all-append is_digit ds ((48 + n % 10) ∷ []) ∙ rw (is.digits, last) refl;
      value = fold_push (λ m d. 10 * m + (d - 48)) 0 ds (48 + n % 10) ∙ last_digit n (decimal_value ds) is.value;
    }

pub decimal_is : (n : ℕ) → n < 2 ^ 64 → IsDecimal n (decimal n)
decimal_is n h = decimal_by_steps IsDecimal one_digit more_digits n h

-- digits that spell a number within the limit are read as it
pub digits_read : (limit n : ℕ) (text : List ℕ) → IsDecimal n text → n ≤ limit → parsed_number limit text ≡ Some n
unfolding parsed_number
digits_read limit n text is h =
    let some = is.some in
    let digits = is.digits in
    let value = is.value in
    grind (arith, nat_tests, digits, value)

pub number_read : (limit n : ℕ) → limit < 2 ^ 64 → n ≤ limit → parsed_number limit (decimal n) ≡ Some n
number_read limit n most h = digits_read limit n (decimal n) (decimal_is n (omega arith)) h
