-- Where the first line ends.
use Rattle.std.proofs.Common.{◌≡◌, ℕ, suc, ◌+◌, ◌<◌, ltb, eqb, cond, true, false, Option, Some, None, unwrap_or, option_map}
use Rattle.std.proofs.Common.{List, [], ◌∷◌, drop, take, length, arith, sym, ap, ◌∙◌, refl}
use Rattle.std.specs.List.{position, position_or_len}
use Rattle.std.proofs.lemmas.Bool.{false_from_ne_true}
use Rattle.std.proofs.lemmas.Bool.Decides.{nat_tests}
use Rattle.std.proofs.lemmas.List.Sums.{position_or_len_is}
use Rattle.memchr.specs.Find.{IsFirstByte, is_byte}
use Rattle.byte_io.specs.Lines.{first_len, in_front, lines}

-- a byte before the place and the end shifts both
shifted : (p n : ℕ) → unwrap_or (option_map (λ k. k + 1) (cond (ltb (1 + p) (suc n)) (Some (1 + p)) None)) (suc n)
    ≡ suc (unwrap_or (option_map (λ k. k + 1) (cond (ltb p n) (Some p) None)) n)
shifted p n = grind (arith, nat_tests)

first_len-newline : (b : ℕ) (bytes : List ℕ) → eqb b 10 ≡ true → first_len (b ∷ bytes) ≡ 1
first_len-newline b bytes is = rw is (grind (arith, nat_tests))

first_len-other : (b : ℕ) (bytes : List ℕ) → eqb b 10 ≡ false → first_len (b ∷ bytes) ≡ suc (first_len bytes)
first_len-other b bytes is = rw is (shifted (position_or_len (λ b. eqb b 10) bytes) (length bytes))

-- a byte that ends no line stands in front of the first of the lines behind it
pub lines-other : (b : ℕ) (bytes : List ℕ) → eqb b 10 ≡ false → lines (b ∷ bytes) ≡ in_front b (lines bytes)
lines-other b bytes is = rw is refl

-- the bytes begin with a line of so many
abbrev Splits : List ℕ → ℕ → Type 0
Splits bytes n = lines bytes ≡ take n bytes ∷ lines (drop n bytes)

splits-more : (b : ℕ) (bytes : List ℕ) → eqb b 10 ≡ false → in_front b (lines bytes) ≡ take (suc (first_len bytes))
    (b ∷ bytes) ∷ lines (drop (suc (first_len bytes)) (b ∷ bytes)) → Splits (b ∷ bytes) (first_len (b ∷ bytes))
splits-more b bytes is front =
    lines-other b bytes is ∙ front ∙ ap (λ n. take n (b ∷ bytes) ∷ lines (drop n (b ∷ bytes))) (sym (first_len-other b bytes is))

splits-newline : (b : ℕ) (bytes : List ℕ) → eqb b 10 ≡ true → Splits (b ∷ bytes) (first_len (b ∷ bytes))
splits-newline b bytes is =
    let ends : lines (b ∷ bytes) ≡ (b ∷ []) ∷ lines bytes = rw is refl in
    ends ∙ ap (λ n. take n (b ∷ bytes) ∷ lines (drop n (b ∷ bytes))) (sym (first_len-newline b bytes is))

-- the first line of the bytes, and those behind it
pub first_line : (bytes : List ℕ) → 0 < length bytes → Splits bytes (first_len bytes)
first_line [] some = absurd (omega arith)
first_line (b ∷ []) some =
    elim (eqb b 10) as (λ t. eqb b 10 ≡ t → Splits (b ∷ []) (first_len (b ∷ []))) [
      | true ↦ λ e. splits-newline b [] e
      | false ↦ λ e. splits-more b [] e refl
    ] refl
first_line (b ∷ c ∷ bytes) some =
    let behind = first_line (c ∷ bytes) (omega arith) in
    elim (eqb b 10) as (λ t. eqb b 10 ≡ t → Splits (b ∷ c ∷ bytes) (first_len (b ∷ c ∷ bytes))) [
      | true ↦ λ e. splits-newline b (c ∷ bytes) e
      | false ↦ λ e. splits-more b (c ∷ bytes) e (ap (in_front b) behind)
    ] refl

-- a line has a byte or more
pub first_len-some : (bytes : List ℕ) → 0 < length bytes → 0 < first_len bytes
first_len-some bytes some = grind (arith, nat_tests)

-- what a search for a byte finds is its place
pub found_place : (byte : ℕ) (bytes : List ℕ) (found : Option ℕ) → IsFirstByte (is_byte byte) bytes found →
    found ≡ position (is_byte byte) bytes
found_place byte bytes None none =
    let end : position_or_len (is_byte byte) bytes ≡ length bytes =
    position_or_len_is (is_byte byte) bytes (length bytes) 0 (omega arith)
    (λ k below. false_from_ne_true _ (none k (omega arith) below)) (λ within. absurd (omega (arith, within))) in
    rw end (grind (arith, nat_tests))
found_place byte bytes (Some place) first =
    let within : place < length bytes = first.0.high in
    let at : position_or_len (is_byte byte) bytes ≡ place =
    position_or_len_is (is_byte byte) bytes place 0 (omega (arith, within))
    (λ k below. false_from_ne_true _ (first.0.before k (omega arith) below)) (λ _. first.1) in
    rw at (grind (arith, nat_tests))
