-- A text that is read is in the grammar and means what its commands mean, and a text of the grammar means what its commands mean.
use Rattle.std.proofs.Common.{zero-add, ◌≡◌, ℕ, zero, suc, ◌+◌, ◌<◌, Bool, true, false, List}
use Rattle.std.proofs.Common.{[], ◌∷◌, ◌++◌, length, take, drop, Option, Some, None, Result}
use Rattle.std.proofs.Common.{Ok, Err, refl, sym, ap, ◌∙◌, subst, arith}
use Rattle.std.specs.List.{list_all, take_while}
use Rattle.std.proofs.lemmas.List.{append-nil, drop-drop, drop_at, length-append, take_at}
use Rattle.cif_grammar.specs.Bytes.{is_blank, is_gap, skip}
use Rattle.cif_grammar.proofs.ByteClasses.{letter_no_gap}
use Rattle.cif_grammar.proofs.Runs.{Stops, list_all-take_while, skip-front, taken_and_left}
use Rattle.cif_grammar.specs.Commands.{Command}
use Rattle.cif_grammar.specs.Cutting.{Breaks, CommandOf, EndOf, Ends, behind_command, command_len, first_offset, offset_of}
use Rattle.cif_grammar.specs.Grammar.{BeginsWith, Reads, ReadsFrom, Spells, inside_after}
use Rattle.cif_grammar.proofs.CommandGrammar.{command_again}
use Rattle.cif_grammar.proofs.CutGrammar.{command_ends}
use Rattle.cif_grammar.proofs.Openings.{Opening, opening}
use Rattle.cif_grammar.proofs.Pieces.{piece_takes}
use Rattle.cif_read.specs.declared.content.Content.{Content}
use Rattle.cif_read.specs.declared.fault.CifFault.{CifFault}
use Rattle.cif_read.specs.Content.{after_command_at, after_commands, content_of, effect_of, empty_content, is_inside}
use Rattle.cif_read.specs.Kept.{IsKept}
use Rattle.cif_read.specs.Meaning.{after_bytes, at_ending, begins_with_end, content_in, read_as, unread_kind}
use Rattle.cif_read.specs.Steps.{and_then, at_offset}
use Rattle.cif_read.proofs.MeaningLemmas.{at_end, end_parts, front_breaks, front_command}
use Rattle.cif_read.proofs.MeaningLemmas.{front_end, rest_means, rest_means-step, start_means}
use Rattle.cif_read.proofs.PieceFacts.{from_at_offset, kept_step}
use Rattle.cif_read.proofs.StepFacts.{start_kept, step_of, then_ok}

-- ---- what is read is in the grammar

-- commands that a rest of a text is, and what they mean
pub record Accepted (content : Content) (offset : ℕ) (text : List ℕ) (last : Content) : Type 0 where
  pub commands : List (ℕ × Command)
  pub reads : ReadsFrom (is_inside content.definition) offset text commands
  pub means : after_commands content commands ≡ Ok last

-- the same for shorter texts
abbrev AcceptedBelow : ℕ → Type 0
AcceptedBelow n = (offset : ℕ) (content : Content) (text : List ℕ) (last : Content) → IsKept content → length text < n
    → rest_means content (offset + length text) (skip is_gap text) ≡ Ok last → Accepted content offset text last

-- blanks alone are left where nothing stands behind them
none_left : (total : ℕ) (bytes : List ℕ) → first_offset total (skip is_blank bytes) ≡ None → list_all is_blank bytes ≡ true
none_left total bytes e =
    let left : skip is_blank bytes ≡ [] = by (skip is_blank bytes) e in
    let all : bytes ≡ take_while is_blank bytes = taken_and_left is_blank bytes ∙ ap (λ t. take_while is_blank bytes ++ t) left
    ∙ append-nil (take_while is_blank bytes) in
    ap (list_all is_blank) all ∙ list_all-take_while is_blank bytes
  where
    by : (rest : List ℕ) → first_offset total rest ≡ None → rest ≡ []
    by [] e = refl
    by (b ∷ bs) e = absurd cc

blank_left : (total : ℕ) (bytes : List ℕ) → list_all is_blank bytes ≡ true → first_offset total (skip is_blank bytes) ≡ None
blank_left total bytes blank =
    let left : skip is_blank bytes ≡ [] = ap (skip is_blank) (sym (append-nil bytes)) ∙ skip-front is_blank bytes [] blank tt in
    ap (first_offset total) left

broken : (content last : Content) (place : ℕ) → at_ending content (Breaks place) ≡ Ok last → ⊥
broken content last place e = cc

-- what stands at the front of a rest
pub data FrontKind (rest : List ℕ) : Type 0 where
  at_the_end : (behind : List ℕ) → rest ≡ 69 ∷ behind → FrontKind rest
  at_a_command : (len : ℕ) → begins_with_end rest ≡ false → command_len rest ≡ Some len → FrontKind rest
  at_a_break : begins_with_end rest ≡ false → command_len rest ≡ None → FrontKind rest

pub front_kind : (rest : List ℕ) → FrontKind rest
front_kind rest = by (begins_with_end rest) refl (command_len rest) refl where
  by : (ends : Bool) → begins_with_end rest ≡ ends → (len : Option ℕ) → command_len rest ≡ len → FrontKind rest
  by true e len f = let parts = end_parts rest e in at_the_end parts.0 parts.1
  by false e (Some len) f = at_a_command len e f
  by false e None f = at_a_break e f

module _ (n offset : ℕ) (content : Content) (text : List ℕ) (last : Content) (kept : IsKept content) (short : length text < suc n) where
  accepted_end : (behind : List ℕ) → skip is_gap text ≡ 69 ∷ behind
      → rest_means content (offset + length text) (skip is_gap text) ≡ Ok last → Accepted content offset text last
  unfolding after_commands
  accepted_end behind rest e =
      let total = offset + length text in
      let gap = take_while is_gap text in
      let step = rest_means-step content total (skip is_gap text) _ (front_end total (skip is_gap text) behind rest) in
      let good = at_end content last (offset_of total (skip is_gap text)) (first_offset total (skip is_blank behind)) (sym step ∙ e) in
      record {
        commands = [];
        reads = (
          record {
            gap = gap;
            behind = behind;
            parts = taken_and_left is_gap text ∙ ap (λ t. gap ++ t) rest;
            passed = list_all-take_while is_gap text;
            behind_blank = none_left total behind good.1;
          },
          good.0,
        );
        means = ap (λ c. Ok c) good.2;
      }

  accepted_command : (len : ℕ) → AcceptedBelow n → begins_with_end (skip is_gap text) ≡ false → command_len (skip is_gap text) ≡ Some len
      → rest_means content (offset + length text) (skip is_gap text) ≡ Ok last → Accepted content offset text last
  unfolding after_commands after_command_at
  accepted_command len shorter no_end ends e =
      let total = offset + length text in
      let gap = take_while is_gap text in
      let rest = skip is_gap text in
      let behind = drop (len + 1) rest in
      let place = offset + length gap in
      let step = rest_means-step content total rest _ (front_command total rest len no_end ends) in
      let then = then_ok (after_bytes content (offset_of total rest) (take len rest))
      (λ next. rest_means next total (behind_command len rest))
      last (sym step ∙ e) in
      let next = then.0 in
      let bytes = kept_step content next (offset_of total rest) (take len rest) kept then.1 in
      let read = bytes.0 in
      let ended = command_ends rest len ends in
      let text_length : length text ≡ length gap + length rest = ap length (taken_and_left is_gap text) ∙ length-append gap rest in
      let rest_length : length rest ≡ length (take len rest) + suc (length behind) =
      ap length ended.parts ∙ length-append (take len rest) (59 ∷ behind) in
      let located : offset_of total rest ≡ place = omega arith in
      let on : place + length (take len rest) + 1 + length behind ≡ total = omega arith in
      let first : BeginsWith offset text place read.command = record {
        gap = gap;
        spelling = take len rest;
        rest = behind;
        parts = taken_and_left is_gap text ∙ ap (λ t. gap ++ t) ended.parts;
        passed = list_all-take_while is_gap text;
        located = refl;
        spells = piece_takes rest len read.command ends read.read;
      } in
      let rest_is : rest_means next (place + length (take len rest) + 1 + length behind) (skip is_gap behind) ≡ Ok last =
      subst (λ (t : ℕ). rest_means next t (skip is_gap behind) ≡ Ok last) (sym on) then.2 in
      let found = shorter (place + length (take len rest) + 1) next behind last (bytes.1.kept kept) (omega arith) rest_is in
      let effect : effect_of content place read.command ≡ Ok next =
      subst (λ (o : ℕ). effect_of content o read.command ≡ Ok next) located read.effect in
      let reads : ReadsFrom (inside_after (is_inside content.definition) read.command) (place + length (take len rest) + 1) behind
      found.commands =
      subst (λ (b : Bool). ReadsFrom b (place + length (take len rest) + 1) behind found.commands) bytes.1.inside found.reads in
      record {
        commands = (place, read.command) ∷ found.commands;
        reads = (first, bytes.1.stands, reads);
        means = rw effect found.means;
      }

  accepted_step : AcceptedBelow n → rest_means content (offset + length text) (skip is_gap text) ≡ Ok last
      → Accepted content offset text last
  accepted_step shorter e = by (front_kind (skip is_gap text)) where
    by : FrontKind (skip is_gap text) → Accepted content offset text last
    by (at_the_end behind rest) = accepted_end behind rest e
    by (at_a_command len no_end ends) = accepted_command len shorter no_end ends e
    by (at_a_break no_end none) =
        let total = offset + length text in
        let rest = skip is_gap text in
        absurd (broken content last (offset_of total rest)
        (sym (rest_means-step content total rest (EndOf (Breaks (offset_of total rest))) (front_breaks total rest no_end none)) ∙ e))

accepted_from : (n : ℕ) → AcceptedBelow n
accepted_from zero offset content text last kept short e = absurd (omega arith)
accepted_from (suc n) offset content text last kept short e = accepted_step n offset content text last kept short (accepted_from n) e

pub accepted : (text : List ℕ) (last : Content) → content_in text ≡ Ok last
    → (commands : List (ℕ × Command)) × Reads text commands × (content_of commands ≡ Ok last)
unfolding content_of
accepted text last e =
    let found = accepted_from (length text + 1) 0 empty_content text last start_kept (omega arith) (rw zero-add (start_means text ∙ e)) in
    (found.commands, found.reads, found.means)

-- ---- what is in the grammar is read

opening_stops : (text rest : List ℕ) → Opening text → Stops is_gap (text ++ rest)
opening_stops text rest h = rw h.parts h.no_gap

same_steps : (r r' : Result Content CifFault) (f g : Content → Result Content CifFault) → r ≡ r' → ((x : Content) → r' ≡ Ok x → f x ≡ g x)
    → and_then r f ≡ and_then r' g
same_steps (Ok x) r' f g e same = rw (← e) (same x (sym e))
same_steps (Err fault) r' f g e same = rw (← e) refl

command_means : (content : Content) (offset : ℕ) (bytes : List ℕ) (c : Command) → Spells bytes c
    → after_bytes content offset bytes ≡ after_command_at content offset c
unfolding after_bytes after_command_at
command_means content offset bytes c h =
    ap (λ o. at_offset offset (read_as (unread_kind bytes) (effect_of content offset) o)) (command_again bytes c h)

from_command : (content next : Content) (offset : ℕ) (c : Command) → IsKept content → after_command_at content offset c ≡ Ok next
    → (IsKept next) × (is_inside next.definition ≡ inside_after (is_inside content.definition) c)
unfolding after_command_at
from_command content next offset c kept e =
    let step = step_of content next offset c kept.scale (from_at_offset offset (effect_of content offset c) next e) in
    (step.kept kept, step.inside)

complete_from : (commands : List (ℕ × Command)) (offset : ℕ) (content : Content) (text : List ℕ) → IsKept content
    → ReadsFrom (is_inside content.definition) offset text commands
    → rest_means content (offset + length text) (skip is_gap text) ≡ after_commands content commands
unfolding after_commands
complete_from [] offset content text kept h =
    let total = offset + length text in
    let left : skip is_gap text ≡ 69 ∷ h.0.behind = ap (skip is_gap) h.0.parts
    ∙ skip-front is_gap h.0.gap (69 ∷ h.0.behind) h.0.passed (letter_no_gap 69 refl) in
    let ended : at_ending content (Ends (offset_of total (skip is_gap text)) (first_offset total (skip is_blank h.0.behind))) ≡ Ok content =
    rw (h.1, blank_left total h.0.behind h.0.behind_blank) refl in
    rest_means-step content total (skip is_gap text) _ (front_end total (skip is_gap text) h.0.behind left) ∙ ended
complete_from (c ∷ cs) offset content text kept h =
    let total = offset + length text in
    let first = h.0 in
    let len = length first.spelling in
    let spelled = first.spelling ++ (59 ∷ first.rest) in
    let shape = opening first.spelling c.1 first.spells in
    let left : skip is_gap text ≡ spelled = ap (skip is_gap) first.parts
    ∙ skip-front is_gap first.gap spelled first.passed (opening_stops first.spelling (59 ∷ first.rest) shape) in
    let text_length : length text ≡ length first.gap + length spelled = ap length first.parts ∙ length-append first.gap spelled in
    let spelled_length : length spelled ≡ len + suc (length first.rest) = length-append first.spelling (59 ∷ first.rest) in
    let located : offset_of total spelled ≡ c.0 = omega (arith, first.located) in
    let on : c.0 + len + 1 + length first.rest ≡ total = omega (arith, first.located) in
    let no_end : begins_with_end spelled ≡ false = ap (λ t. begins_with_end (t ++ (59 ∷ first.rest))) shape.parts ∙ shape.no_end in
    let command : after_bytes content (offset_of total spelled) (take len spelled) ≡ after_command_at content c.0 c.1 =
    rw (located, take_at first.spelling (59 ∷ first.rest) len refl) (command_means content c.0 first.spelling c.1 first.spells) in
    let behind : behind_command len spelled ≡ skip is_gap first.rest =
    ap (skip is_gap) (sym (drop-drop 1 len spelled) ∙ ap (drop 1) (drop_at first.spelling (59 ∷ first.rest) len refl)) in
    let further : (next : Content) → after_command_at content c.0 c.1 ≡ Ok next
    → rest_means next total (behind_command len spelled) ≡ after_commands next cs = λ next done.
    let from = from_command content next c.0 c.1 kept done in
    ap (rest_means next total) behind ∙ ap (λ t. rest_means next t (skip is_gap first.rest)) (sym on)
    ∙ complete_from cs (c.0 + len + 1) next first.rest from.0
    (subst (λ (b : Bool). ReadsFrom b (c.0 + len + 1) first.rest cs) (sym from.1) h.2) in
    ap (rest_means content total) left ∙ rest_means-step content total spelled (CommandOf len)
    (front_command total spelled len no_end (shape.len first.rest))
    ∙ same_steps _ (after_command_at content c.0 c.1) _ (λ next. after_commands next cs) command further

pub complete : (text : List ℕ) (commands : List (ℕ × Command)) → Reads text commands → content_in text ≡ content_of commands
unfolding content_of
complete text commands h = sym (start_means text) ∙ (rw zero-add at (complete_from commands 0 empty_content text start_kept h))
