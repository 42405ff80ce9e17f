-- What digits spell, one digit after the other.
use Rattle.std.proofs.Common.{◌≡◌, ℕ, ◌+◌, ◌-◌, ◌*◌, min, List, [], ◌∷◌, true, refl, ap, ◌∙◌, arith, sym}
use Rattle.std.specs.Prelude.{fold}
use Rattle.std.specs.List.{take_while}
use Rattle.lay_point.specs.Names.{is_digit}
use Rattle.cif_grammar.specs.Bytes.{skip}
use Rattle.cif_grammar.proofs.Runs.{skip-cons, take_while-cons}

-- what the digits spell behind those that spell the value, or the limit where that is less
abbrev pub capped_from : ℕ → ℕ → List ℕ → ℕ
capped_from limit value digits = min (fold (λ n d. 10 * n + (d - 48)) value digits) limit

-- a value may be capped before more digits are read
pub capped_before : (limit value : ℕ) (digits : List ℕ) → capped_from limit (min value limit) digits ≡ capped_from limit value digits
capped_before limit value [] = omega arith
capped_before limit value (d ∷ ds) =
    let same : min (10 * min value limit + (d - 48)) limit ≡ min (10 * value + (d - 48)) limit = omega arith in
    sym (capped_before limit (10 * min value limit + (d - 48)) ds)
    ∙ ap (λ v. capped_from limit v ds) same
    ∙ capped_before limit (10 * value + (d - 48)) ds

-- one more digit
pub one_digit : (limit value b : ℕ) (bs : List ℕ) → is_digit b ≡ true
    → capped_from limit (min (10 * value + (b - 48)) limit) (take_while is_digit bs)
    ≡ capped_from limit value (take_while is_digit (b ∷ bs))
one_digit limit value b bs h =
    let taken : take_while is_digit (b ∷ bs) ≡ b ∷ take_while is_digit bs = take_while-cons is_digit b bs ∙ rw h refl in
    rw taken (capped_before limit (10 * value + (b - 48)) (take_while is_digit bs))

pub one_passed : (b : ℕ) (bs : List ℕ) → is_digit b ≡ true → skip is_digit bs ≡ skip is_digit (b ∷ bs)
one_passed b bs h = sym (skip-cons is_digit b bs ∙ rw h refl)
