-- A rest's commands go on one at a time.
use Rattle.std.proofs.Common.{◌≡◌, ℕ, true, false, List, length, take, Some, None, ap, ◌∙◌, arith, refl}
use Rattle.cif_grammar.specs.Bytes.{is_gap, skip}
use Rattle.cif_grammar.specs.Cutting.{Cut, Front, behind_command, command_len, cut, cut_by, cut_rest, front_of}
use Rattle.cif_grammar.proofs.CutLemmas.{cut_rest-step, length-behind_command, some_bytes}
use Rattle.cif_read.specs.Meaning.{begins_with_end}
use Rattle.cif_read.proofs.MeaningLemmas.{end_parts, front_breaks, front_command, front_end}
use Rattle.cif_names.specs.Names.{names_from, names_of, nothing}
use Rattle.cif_names.specs.Pieces.{HasNoCommand, IsFirstPiece}
use Rattle.cif_names.specs.Places.{outside}

pieces-step : (total : ℕ) (rest : List ℕ) (front : Front) → front_of total rest ≡ front
    → (cut_rest total rest).pieces ≡ (cut_by total rest front (λ len. cut_rest total (behind_command len rest))).pieces
pieces-step total rest front e =
    ap (λ (c : Cut). c.pieces) (cut_rest-step total rest)
    ∙ ap (λ f. (cut_by total rest f (λ len. cut_rest total (behind_command len rest))).pieces) e

-- where the text ends there is none
pub none_at_end : (rest : List ℕ) → begins_with_end rest ≡ true → HasNoCommand rest
none_at_end rest ends total =
    let parts = end_parts rest ends in
    pieces-step total rest _ (front_end total rest parts.0 parts.1)

-- nor where it breaks off
pub none_broken : (rest : List ℕ) → begins_with_end rest ≡ false → command_len rest ≡ None → HasNoCommand rest
none_broken rest no_end none total = pieces-step total rest _ (front_breaks total rest no_end none)

-- else there is one
pub first_piece : (rest : List ℕ) (len : ℕ) → begins_with_end rest ≡ false → command_len rest ≡ Some len
    → IsFirstPiece rest (take len rest) (behind_command len rest)
first_piece rest len no_end some =
    let long = length-behind_command len rest (some_bytes 0 rest len (front_command 0 rest len no_end some)) in
    record {
      first = λ total. pieces-step total rest _ (front_command total rest len no_end some);
      shorter = omega arith;
    }

-- the text behind its first gap
pub names_start : (text : List ℕ) → names_from nothing outside (cut_rest (length text) (skip is_gap text)).pieces ≡ names_of text
unfolding names_of cut
names_start text = refl
