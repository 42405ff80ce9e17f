-- A number that is read is spelled so, and what spells a number is read.
use Rattle.std.proofs.Common.{inl, inr, ◌≡◌, ℕ, Bool, true, false, List, [], ◌∷◌, ◌++◌, Some, refl, sym, ap, ◌∙◌, subst, arith}
use Rattle.std.proofs.Common.{append_assoc}
use Rattle.std.specs.Prelude.{◌==◌}
use Rattle.std.specs.List.{take_while, list_all}
use Rattle.std.proofs.lemmas.Bool.{and_parts, eqb-true}
use Rattle.std.proofs.lemmas.Option.{some_pair_parts}
use Rattle.lay_point.specs.Names.{is_digit}
use Rattle.cif_grammar.specs.declared.number.Number.{Number}
use Rattle.cif_grammar.specs.Bytes.{is_separator, skip}
use Rattle.cif_grammar.specs.ScanGrammar.{IsDigits, IsInteger, IsSigned, capped_magnitude, sign}
use Rattle.cif_grammar.specs.Numbers.{digits_at, integer_at, magnitude_at, sign_at, signed_at, spelled_by}
use Rattle.byte_io.proofs.Steps.{bind_some, chosen_of}
use Rattle.cif_grammar.proofs.ByteClasses.{digit_no_minus, digit_no_separator, minus_no_separator}
use Rattle.cif_grammar.proofs.Runs.{Stops, list_all-take_while, skip-front, take_while-front, taken_and_left}

-- what was read from the front of bytes: a text that spells it, and the rest
pub record Takes (Spelled : List ℕ → Type 0) (bytes rest : List ℕ) : Type 0 where
  pub text : List ℕ
  pub parts : bytes ≡ text ++ rest
  pub spelled : Spelled text

spelled_takes : (digits behind : List ℕ) (n : ℕ) (rest : List ℕ) → list_all is_digit digits ≡ true
    → spelled_by digits behind ≡ Some (n, rest) → IsDigits digits n × (behind ≡ rest)
spelled_takes [] behind n rest passes e = absurd cc
spelled_takes (d ∷ ds) behind n rest passes e =
    let parts = some_pair_parts (capped_magnitude (d ∷ ds)) n behind rest e in
    (record { some = omega arith; digits = passes; value = parts.0 }, parts.1)

pub digits_takes : (bytes : List ℕ) (n : ℕ) (rest : List ℕ) → digits_at bytes ≡ Some (n, rest)
    → Takes (λ text. IsDigits text n) bytes rest
unfolding digits_at
digits_takes bytes n rest e =
    let found = spelled_takes (take_while is_digit bytes) (skip is_digit bytes) n rest (list_all-take_while is_digit bytes) e in
    record {
      text = take_while is_digit bytes;
      parts = taken_and_left is_digit bytes
          ∙ ap (λ x. take_while is_digit bytes ++ x) found.1;
      spelled = found.0;
    }

spelled_again : (digits rest : List ℕ) (n : ℕ) → IsDigits digits n → spelled_by digits rest ≡ Some (n, rest)
spelled_again [] rest n h = absurd (let some = h.some in omega arith)
spelled_again (d ∷ ds) rest n h = ap (λ m. Some (m, rest)) h.value

pub digits_again : (text rest : List ℕ) (n : ℕ) → IsDigits text n → Stops is_digit rest
    → digits_at (text ++ rest) ≡ Some (n, rest)
unfolding digits_at
digits_again text rest n h stops = rw (take_while-front is_digit text rest h.digits stops, skip-front is_digit text rest h.digits stops)
    (spelled_again text rest n h)

-- digits don't begin with a separator
digits_stop : (digits rest : List ℕ) (n : ℕ) → IsDigits digits n → Stops is_separator (digits ++ rest)
digits_stop [] rest n h = absurd (let some = h.some in omega arith)
digits_stop (d ∷ ds) rest n h = digit_no_separator d (and_parts (is_digit d) (list_all is_digit ds) h.digits).0

pub integer_takes : (bytes : List ℕ) (n : ℕ) (rest : List ℕ) → integer_at bytes ≡ Some (n, rest)
    → Takes (λ text. IsInteger text n) bytes rest
unfolding integer_at
integer_takes bytes n rest e =
    let front = take_while is_separator bytes in
    let found = digits_takes (skip is_separator bytes) n rest e in
    record {
      text = front ++ found.text;
      parts = taken_and_left is_separator bytes ∙ ap (λ x. front ++ x) found.parts ∙ sym (append_assoc front found.text rest);
      spelled = record {
        front = front;
        digits = found.text;
        parts = refl;
        separators = list_all-take_while is_separator bytes;
        spelled =
            found.spelled;
      };
    }

pub integer_again : (text rest : List ℕ) (n : ℕ) → IsInteger text n → Stops is_digit rest
    → integer_at (text ++ rest) ≡ Some (n, rest)
unfolding integer_at
integer_again text rest n h stops =
    let regrouped : text ++ rest ≡ h.front ++ (h.digits ++ rest) = ap (λ x. x ++ rest) h.parts ∙ append_assoc h.front h.digits rest in
    let behind : skip is_separator (text ++ rest) ≡ h.digits ++ rest =
    ap (skip is_separator) regrouped ∙ skip-front is_separator h.front (h.digits ++ rest) h.separators
    (digits_stop h.digits rest n h.spelled) in
    ap (digits_at) behind ∙ digits_again h.digits rest n h.spelled stops

-- a sign and digits
pub record IsMagnitude (text : List ℕ) (n : Number) : Type 0 where
  pub digits : List ℕ
  pub parts : text ≡ sign n.negative ++ digits
  pub spelled : IsDigits digits n.magnitude

magnitude_takes : (negative : Bool) (bytes : List ℕ) (n : Number) (rest : List ℕ)
    → magnitude_at negative bytes ≡ Some (n, rest)
    → (negative ≡ n.negative) × Takes (λ text. IsDigits text n.magnitude) bytes rest
unfolding magnitude_at
magnitude_takes negative bytes n rest e =
    let read = bind_some (digits_at bytes) (λ digits. Some (record { negative = negative; magnitude = digits.0 }, digits.1))
    (n, rest) e in
    let made : Number = record { negative = negative; magnitude = read.0.0 } in
    let parts = some_pair_parts made n read.0.1 rest read.2 in
    let found = digits_takes bytes read.0.0 read.0.1 read.1 in (
      ap (λ (m : Number). m.negative) parts.0,
      subst (λ (m : ℕ). Takes (λ text. IsDigits text m) bytes rest) (ap (λ (m : Number). m.magnitude) parts.0)
          (subst (λ (r : List ℕ). Takes (λ text. IsDigits text read.0.0) bytes r) parts.1 found),
    )

sign_then : (negative : Bool) (bytes : List ℕ) (n : Number) (rest : List ℕ) → magnitude_at negative bytes ≡ Some (n, rest)
    → Takes (λ text. IsMagnitude text n) (sign negative ++ bytes) rest
sign_then negative bytes n rest e =
    let read = magnitude_takes negative bytes n rest e in
    let found = read.1 in
    record {
      text = sign negative ++ found.text;
      parts = ap (λ x. sign negative ++ x) found.parts ∙ sym (append_assoc (sign negative) found.text rest);
      spelled = record { digits = found.text; parts = ap (λ s. sign s ++ found.text) read.0; spelled = found.spelled };
    }

pub sign_takes : (bytes : List ℕ) (n : Number) (rest : List ℕ) → sign_at bytes ≡ Some (n, rest)
    → Takes (λ text. IsMagnitude text n) bytes rest
unfolding sign_at
sign_takes [] n rest e = sign_then false [] n rest e
sign_takes (b ∷ bs) n rest e =
    elim (chosen_of (b == 45) (magnitude_at true bs) (magnitude_at false (b ∷ bs)) (Some (n, rest)) e) [
      | inl minus ↦ subst (λ (d : ℕ). Takes (λ text. IsMagnitude text n) (d ∷ bs) rest) (sym (eqb-true b 45 minus.0))
          (sign_then true bs n rest minus.1)
      | inr other ↦ sign_then false (b ∷ bs) n rest other.1
    ]

pub signed_takes : (bytes : List ℕ) (n : Number) (rest : List ℕ) → signed_at bytes ≡ Some (n, rest)
    → Takes (λ text. IsSigned text n) bytes rest
unfolding signed_at
signed_takes bytes n rest e =
    let front = take_while is_separator bytes in
    let found = sign_takes (skip is_separator bytes) n rest e in
    record {
      text = front ++ found.text;
      parts = taken_and_left is_separator bytes ∙ ap (λ x. front ++ x) found.parts ∙ sym (append_assoc front found.text rest);
      spelled = record {
        front = front;
        digits = found.spelled.digits;
        parts = ap (λ x. front ++ x) found.spelled.parts;
        separators =
            list_all-take_while is_separator bytes;
        spelled = found.spelled.spelled;
      };
    }

magnitude_again : (negative : Bool) (digits rest : List ℕ) (m : ℕ) → IsDigits digits m → Stops is_digit rest
    → magnitude_at negative (digits ++ rest) ≡ Some (record { negative = negative; magnitude = m }, rest)
unfolding magnitude_at
magnitude_again negative digits rest m h stops = rw (digits_again digits rest m h stops) refl

sign_again : (negative : Bool) (digits rest : List ℕ) (m : ℕ) → IsDigits digits m → Stops is_digit rest
    → sign_at (sign negative ++ (digits ++ rest)) ≡ Some (record { negative = negative; magnitude = m }, rest)
unfolding sign_at
sign_again true digits rest m h stops = magnitude_again true digits rest m h stops
sign_again false [] rest m h stops = absurd (let some = h.some in omega arith)
sign_again false (d ∷ ds) rest m h stops = rw (digit_no_minus d (and_parts (is_digit d) (list_all is_digit ds) h.digits).0)
    (magnitude_again false (d ∷ ds) rest m h stops)

-- a sign and digits don't begin with a separator
sign_stops : (negative : Bool) (digits rest : List ℕ) (m : ℕ) → IsDigits digits m → Stops is_separator (sign negative ++ (digits ++ rest))
sign_stops true digits rest m h = minus_no_separator
sign_stops false digits rest m h = digits_stop digits rest m h

pub signed_again : (text rest : List ℕ) (n : Number) → IsSigned text n → Stops is_digit rest
    → signed_at (text ++ rest) ≡ Some (n, rest)
unfolding signed_at
signed_again text rest n h stops =
    let regrouped : text ++ rest ≡ h.front ++ (sign n.negative ++ (h.digits ++ rest)) =
    ap (λ x. x ++ rest) h.parts ∙ append_assoc h.front (sign n.negative ++ h.digits) rest
    ∙ ap (λ x. h.front ++ x) (append_assoc (sign n.negative) h.digits rest) in
    let behind : skip is_separator (text ++ rest) ≡ sign n.negative ++ (h.digits ++ rest) =
    ap (skip is_separator) regrouped ∙ skip-front is_separator h.front (sign n.negative ++ (h.digits ++ rest)) h.separators
    (sign_stops n.negative h.digits rest n.magnitude h.spelled) in
    ap (sign_at) behind ∙ sign_again n.negative h.digits rest n.magnitude h.spelled stops
