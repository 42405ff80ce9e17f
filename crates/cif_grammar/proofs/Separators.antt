-- One separator at the front, and where runs of bytes stop.
use Rattle.std.proofs.Common.{◌≡◌, ℕ, ◌+◌, ◌≤◌, Bool, true, false, List, [], ◌∷◌, ◌++◌}
use Rattle.std.proofs.Common.{length, Some, None, refl, ap, ◌&&◌, arith, inl, inr}
use Rattle.std.specs.List.{list_all}
use Rattle.std.proofs.lemmas.Bool.{and_parts}
use Rattle.std.proofs.lemmas.List.Folds.{list_all-append}
use Rattle.std.proofs.lemmas.Option.{none-some, same_Some}
use Rattle.cif_grammar.specs.declared.number.Number.{Number}
use Rattle.lay_point.specs.Names.{is_digit}
use Rattle.cif_grammar.specs.Bytes.{is_blank, is_separator}
use Rattle.cif_grammar.specs.ScanGrammar.{IsDigits, IsSigned, sign}
use Rattle.cif_grammar.specs.Numbers.{behind_separator}
use Rattle.cif_grammar.proofs.ByteClasses.{blank_no_digit}
use Rattle.cif_grammar.proofs.Runs.{Stops}
use Rattle.byte_io.proofs.Steps.{chosen_of}

-- bytes of a class don't begin with one of a class that has none in common
pub stops_all : (passes stopping : ℕ → Bool) (bytes : List ℕ) → ((b : ℕ) → passes b ≡ true → stopping b ≡ false)
    → list_all passes bytes ≡ true → Stops stopping bytes
stops_all passes stopping [] apart h = tt
stops_all passes stopping (b ∷ bs) apart h = apart b (and_parts (passes b) (list_all passes bs) h).0

-- nor do they with bytes behind them, where there are some
pub stops_some : (passes stopping : ℕ → Bool) (bytes rest : List ℕ) → ((b : ℕ) → passes b ≡ true → stopping b ≡ false) → 1 ≤ length bytes
    → list_all passes bytes ≡ true → Stops stopping (bytes ++ rest)
stops_some passes stopping [] rest apart some h = absurd (omega arith)
stops_some passes stopping (b ∷ bs) rest apart some h = apart b (and_parts (passes b) (list_all passes bs) h).0

pub separator_takes : (bytes rest : List ℕ) → behind_separator bytes ≡ Some rest → (s : ℕ) × (bytes ≡ s ∷ rest) × (is_separator s ≡ true)
unfolding behind_separator
separator_takes [] rest e = absurd cc
separator_takes (b ∷ bs) rest e =
    elim (chosen_of (is_separator b) (Some bs) None (Some rest) e) [
      | inl separated ↦ (b, ap (λ x. b ∷ x) (same_Some bs rest separated.1), separated.0)
      | inr other ↦ absurd (none-some rest other.1)
    ]

pub separator_again : (b : ℕ) (bs : List ℕ) → is_separator b ≡ true → behind_separator (b ∷ bs) ≡ Some bs
unfolding behind_separator
separator_again b bs h = rw h refl

-- what has a part that isn't blank isn't
pub front_not_blank : (xs ys : List ℕ) → list_all is_blank xs ≡ false → list_all is_blank (xs ++ ys) ≡ false
front_not_blank xs ys h = rw (list_all-append, h) refl

pub back_not_blank : (xs ys : List ℕ) → list_all is_blank ys ≡ false → list_all is_blank (xs ++ ys) ≡ false
back_not_blank [] ys h = h
back_not_blank (x ∷ xs) ys h = rw (back_not_blank xs ys h) (elim (is_blank x) as (λ b. (b && false) ≡ false) [ true ↦ refl | false ↦ refl ])

digit_not_blank : (b : ℕ) → is_digit b ≡ true → is_blank b ≡ false
digit_not_blank b h = elim (is_blank b) as (λ p. is_blank b ≡ p → p ≡ false) [
  | true ↦ λ e. absurd (let no : is_digit b ≡ false = blank_no_digit b e in cc)
  | false ↦ λ e. refl
] refl

pub digits_not_blank : (text : List ℕ) (n : ℕ) → IsDigits text n → list_all is_blank text ≡ false
digits_not_blank [] n h = absurd (let some = h.some in omega arith)
digits_not_blank (d ∷ ds) n h = rw (digit_not_blank d (and_parts (is_digit d) (list_all is_digit ds) h.digits).0) refl

pub signed_not_blank : (text : List ℕ) (n : Number) → IsSigned text n → list_all is_blank text ≡ false
signed_not_blank text n h = rw h.parts (back_not_blank h.front (sign n.negative ++ h.digits)
    (back_not_blank (sign n.negative) h.digits (digits_not_blank h.digits n.magnitude h.spelled)))
