-- Cutting goes on command by command, and the count of its steps never runs out.
use Rattle.std.proofs.Common.{◌≡◌, ℕ, zero, suc, ◌+◌, ◌<◌, ◌≤◌, ◌∙◌, Bool, true, false, cond, Option}
use Rattle.std.proofs.Common.{Some, None, List, [], ◌∷◌, length, take, drop, refl, ap, arith, add-one}
use Rattle.std.specs.Prelude.{◌==◌, nat_lt, option_map}
use Rattle.std.proofs.lemmas.Bool.Decides.{nat_tests}
use Rattle.std.specs.List.{position, position_or_len, prefix_len}
use Rattle.std.proofs.lemmas.List.{length-drop}
use Rattle.cif_grammar.specs.Bytes.{is_gap, skip}
use Rattle.cif_grammar.specs.Cutting.{CommandOf, Cut, EndOf, Ending, Front, behind_command}
use Rattle.cif_grammar.specs.Cutting.{cut_by, cut_from, cut_rest, front_of, offset_of, semicolon_from}

pub length-skip : (passes : ℕ → Bool) (bytes : List ℕ) → length (skip passes bytes) ≤ length bytes
length-skip passes bytes = omega (arith, length-drop (prefix_len passes bytes) bytes)

-- what stands behind a command is shorter
pub length-behind_command : (len : ℕ) (rest : List ℕ) → 1 ≤ length rest → length (behind_command len rest) + 1 ≤ length rest
length-behind_command len rest some = omega (arith, length-skip is_gap (drop (len + 1) rest), length-drop (len + 1) rest)

no_end_command : {P : Type 0} (e : Ending) (len : ℕ) → EndOf e ≡ CommandOf len → P
no_end_command e len same = absurd cc

-- where a command stands there are bytes
pub some_bytes : (total : ℕ) (rest : List ℕ) (len : ℕ) → front_of total rest ≡ CommandOf len → 1 ≤ length rest
unfolding front_of
some_bytes total [] len e = no_end_command _ len e
some_bytes total (b ∷ bs) len e = omega arith

same_by : (total : ℕ) (rest : List ℕ) (front : Front) (further further' : ℕ → Cut)
    → ((len : ℕ) → front ≡ CommandOf len → further len ≡ further' len) → cut_by total rest front further ≡ cut_by total rest front further'
same_by total rest (EndOf ending) further further' same = refl
same_by total rest (CommandOf len) further further' same =
    ap (λ (c : Cut). record { pieces = (offset_of total rest, take len rest) ∷ c.pieces; ending = c.ending }) (same len refl)

-- more steps than the rest has bytes are all as good
cut_from-enough : (n m total : ℕ) (rest : List ℕ) → length rest < n → length rest < m → cut_from n total rest ≡ cut_from m total rest
unfolding cut_from
cut_from-enough zero m total rest h k = absurd (omega arith)
cut_from-enough (suc n) zero total rest h k = absurd (omega arith)
cut_from-enough (suc n) (suc m) total rest h k =
    same_by total rest (front_of total rest) _ _ (λ len e.
    let shorter = length-behind_command len rest (some_bytes total rest len e) in
    cut_from-enough n m total (behind_command len rest) (omega arith) (omega arith))

-- one step of cutting
pub cut_rest-step : (total : ℕ) (rest : List ℕ) → cut_rest total rest
    ≡ cut_by total rest (front_of total rest) (λ len. cut_rest total (behind_command len rest))
unfolding cut_rest cut_from
cut_rest-step total rest =
    rw add-one (same_by total rest (front_of total rest) _ _ (λ len e.
    let shorter = length-behind_command len rest (some_bytes total rest len e) in
    cut_from-enough (length rest) (length (behind_command len rest) + 1) total (behind_command len rest) (omega arith) (omega arith)))

-- ---- a command that begins with no parenthesis

-- the index of the first byte that passes, by the first byte
position-cons : (passes : ℕ → Bool) (b : ℕ) (bs : List ℕ)
    → position passes (b ∷ bs) ≡ cond (passes b) (Some 0) (option_map (λ n. n + 1) (position passes bs))
position-cons passes b bs = by (passes b) refl where
  further : (k n : ℕ) (t : Bool) → nat_lt k n ≡ t
      → cond (nat_lt (1 + k) (suc n)) (Some (1 + k)) None ≡ option_map (λ i. i + 1) (cond t (Some k) None)
  further k n true h =
      let lower : nat_lt (1 + k) (suc n) ≡ true = grind (arith, nat_tests) in
      rw lower (ap (λ i. Some i) (omega arith))
  further k n false h =
      let lower : nat_lt (1 + k) (suc n) ≡ false = grind (arith, nat_tests) in
      rw lower refl

  first : nat_lt 0 (suc (length bs)) ≡ true
  first = grind (arith, nat_tests)

  by : (t : Bool) → passes b ≡ t → position passes (b ∷ bs) ≡ cond t (Some 0) (option_map (λ n. n + 1) (position passes bs))
  by true h = rw h (rw first refl)
  by false h = rw h (further (position_or_len passes bs) (length bs) _ refl)

-- outside parentheses the first semicolon ends the command
plain_from : (place : ℕ) (bytes : List ℕ)
    → semicolon_from place 0 bytes ≡ option_map (λ n. place + n) (position (λ b. b == 59) bytes)
unfolding semicolon_from
plain_from place [] = refl
plain_from place (b ∷ bs) =
    rw (position-cons (λ b. b == 59) b bs) (by (b == 59) (position (λ b. b == 59) bs) (plain_from (place + 1) bs)) where
      by : (t : Bool) (o : Option ℕ) → semicolon_from (place + 1) 0 bs ≡ option_map (λ n. place + 1 + n) o
          → cond t (Some place) (semicolon_from (place + 1) 0 bs)
          ≡ option_map (λ n. place + n) (cond t (Some 0) (option_map (λ n. n + 1) o))
      by true o e = ap (λ n. Some n) (omega arith)
      by false None e = e
      by false (Some n) e = e ∙ ap (λ n. Some n) (omega arith)

pub plain_command : (bytes : List ℕ) → semicolon_from 1 0 bytes ≡ option_map (λ n. n + 1) (position (λ b. b == 59) bytes)
plain_command bytes = plain_from 1 bytes ∙ by (position (λ b. b == 59) bytes) where
  by : (o : Option ℕ) → option_map (λ n. 1 + n) o ≡ option_map (λ n. n + 1) o
  by None = refl
  by (Some n) = ap (λ n. Some n) (omega arith)
