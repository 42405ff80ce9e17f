-- The first semicolon outside parentheses ends a command.
use Rattle.std.proofs.Common.{◌≡◌, ℕ, suc, ◌+◌, true, false, List, [], ◌∷◌, ◌++◌, length, take, drop, Some, refl, sym}
use Rattle.std.proofs.Common.{ap, ◌∙◌, subst, arith, inl, inr, ◌&&◌}
use Rattle.std.specs.Prelude.{◌==◌}
use Rattle.std.specs.List.{list_all}
use Rattle.std.proofs.lemmas.Bool.{and_parts, eqb-true}
use Rattle.std.proofs.lemmas.Bool.Decides.{nat_tests}
use Rattle.std.proofs.lemmas.Option.{none-some, same_Some}
use Rattle.cif_grammar.proofs.ByteClasses.{is_plain}
use Rattle.byte_io.proofs.Steps.{chosen_of}
use Rattle.cif_grammar.specs.Cutting.{command_len, first_depth, next_depth, semicolon_from}

-- bytes are a command of this length, a semicolon and a rest
pub record EndsAt (len : ℕ) (bytes : List ℕ) : Type 0 where
  pub parts : bytes ≡ take len bytes ++ (59 ∷ drop (len + 1) bytes)

EndsAt-cons : (len b : ℕ) (bs : List ℕ) → EndsAt len bs → EndsAt (suc len) (b ∷ bs)
EndsAt-cons len b bs h =
    let same : suc (len + 1) ≡ suc len + 1 = omega arith in
    record { parts = ap (λ t. b ∷ t) (h.parts ∙ ap (λ n. take len bs ++ (59 ∷ drop n (b ∷ bs))) same) }

-- a semicolon that is found from a place on is at so many bytes behind it
found_at : (place depth : ℕ) (bytes : List ℕ) (at : ℕ) → semicolon_from place depth bytes ≡ Some at → (len : ℕ) × (at ≡ place + len)
    × EndsAt len bytes
unfolding semicolon_from
found_at place depth [] at e = absurd (none-some at e)
found_at place depth (b ∷ bs) at e =
    elim (chosen_of (depth == 0 && b == 59) (Some place) (semicolon_from (place + 1) (next_depth depth b) bs) (Some at) e) [
      | inl here ↦
          let semicolon = eqb-true b 59 (and_parts (depth == 0) (b == 59) here.0).1 in
          (0, sym (same_Some place at here.1) ∙ omega arith, record { parts = ap (λ c. c ∷ bs) semicolon })
      | inr on ↦
          let found = found_at (place + 1) (next_depth depth b) bs at on.1 in
          (suc found.0, found.1 ∙ omega arith, EndsAt-cons found.0 b bs found.2)
    ]

-- a command of this length ends with a semicolon
pub command_ends : (bytes : List ℕ) (len : ℕ) → command_len bytes ≡ Some len → EndsAt len bytes
unfolding command_len
command_ends [] len e = absurd (none-some len e)
command_ends (b ∷ bs) len e =
    let found = found_at 1 (first_depth b) bs len e in
    let same : suc found.0 ≡ len = omega (arith, found.1) in
    subst (λ (n : ℕ). EndsAt n (b ∷ bs)) same (EndsAt-cons found.0 b bs found.2)

-- no byte before the semicolon that is found outside parentheses is one
plain_before : (place : ℕ) (bytes : List ℕ) (at : ℕ) → semicolon_from place 0 bytes ≡ Some at → (len : ℕ) × (at ≡ place + len)
    × (list_all is_plain (take len bytes) ≡ true)
unfolding semicolon_from
plain_before place [] at e = absurd (none-some at e)
plain_before place (b ∷ bs) at e =
    elim (chosen_of (b == 59) (Some place) (semicolon_from (place + 1) 0 bs) (Some at) e) [
      | inl here ↦ (0, sym (same_Some place at here.1) ∙ omega arith, refl)
      | inr on ↦
          let found = plain_before (place + 1) bs at on.1 in
          (suc found.0, found.1 ∙ omega arith, rw on.0 found.2)
    ]

-- a command has a first byte, and where that opens no comment none behind it is a semicolon
pub plain_piece : (b : ℕ) (bs : List ℕ) (len : ℕ) → command_len (b ∷ bs) ≡ Some len → (n : ℕ) × (len ≡ suc n)
    × ((b == 40) ≡ false → list_all is_plain (take n bs) ≡ true)
unfolding command_len
plain_piece b bs len e =
    let found = found_at 1 (first_depth b) bs len e in
    (found.0, omega (arith, found.1), plain)
  where
    plain : (b == 40) ≡ false → list_all is_plain (take (found_at 1 (first_depth b) bs len e).0 bs) ≡ true
    plain no_comment =
        let found = found_at 1 (first_depth b) bs len e in
        let depth : first_depth b ≡ 0 = rw no_comment refl in
        let outside : semicolon_from 1 0 bs ≡ Some len = ap (λ d. semicolon_from 1 d bs) (sym depth) ∙ e in
        let before = plain_before 1 bs len outside in
        let same : found.0 ≡ before.0 = omega (arith, found.1, before.1) in
        rw same before.2

-- bytes without a semicolon, outside parentheses, are passed
pub plain_found : (place : ℕ) (bytes rest : List ℕ) → list_all is_plain bytes ≡ true
    → semicolon_from place 0 (bytes ++ (59 ∷ rest)) ≡ Some (place + length bytes)
unfolding semicolon_from
plain_found place [] rest plain = ap (λ n. Some n) (omega arith)
plain_found place (b ∷ bs) rest plain =
    let parts = and_parts (is_plain b) (list_all is_plain bs) plain in
    let no_semicolon : (b == 59) ≡ false = grind (arith, nat_tests) in
    rw no_semicolon (plain_found (place + 1) bs rest parts.1 ∙ ap (λ n. Some n) (omega arith))
