-- A text leads from one content to another, wherever it stands, and whichever calls and however many extensions stand before it.
use Rattle.std.proofs.Common.{◌≡◌, ℕ, ◌+◌, Bool, true, false, List, [], ◌∷◌, ◌++◌, length, Ok, refl, sym, ap, ◌∙◌, subst, append_assoc}
use Rattle.std.specs.List.{list_all}
use Rattle.std.proofs.lemmas.List.Folds.{list_all-append}
use Rattle.cif_grammar.specs.Bytes.{is_blank, is_gap, is_mark}
use Rattle.cif_grammar.specs.Commands.{Command}
use Rattle.cif_grammar.specs.Grammar.{ReadsFrom, Spells}
use Rattle.cif_read.specs.declared.content.Content.{Content}
use Rattle.cif_read.specs.declared.content.Pending.{Pending}
use Rattle.cif_read.specs.Content.{after_command_at, after_commands, effect_of, is_inside}
use Rattle.cif_read.specs.Kept.{IsKept}
use Rattle.cif_read.proofs.StepFacts.{step_of}
use Rattle.cif_write.specs.declared.boxes.Rectangles.{Rectangles}
use Rattle.cif_write.specs.Boxes.{line_text_as, lines_text_as}
use Rattle.cif_write.specs.Lines.{End, Line, line_text}
use Rattle.cif_laws.proofs.WrittenLines.{IsLineOf}

-- calls, and a number of extensions
pub record Beside : Type 0 where
  pub calls : List Pending
  pub extensions : ℕ

-- the content with these
abbrev pub with_calls : Content → Beside → Content
with_calls content beside = record content { calls = beside.calls; extensions = beside.extensions }

-- the text is commands that lead to the last content, with some calls and extensions
pub record IsReadTo (content : Content) (offset : ℕ) (text : List ℕ) (last : Content) : Type 0 where
  pub commands : List (ℕ × Command)
  pub reads : ReadsFrom (is_inside content.definition) offset text commands
  pub calls : Beside
  pub means : after_commands content commands ≡ Ok (with_calls last calls)
  pub kept : IsKept (with_calls last calls)

abbrev pub Reaches : Content → Content → List ℕ → Type 0
Reaches from last text = (calls : Beside) (offset : ℕ) (gap : List ℕ) → IsKept (with_calls from calls) → list_all is_gap gap ≡ true
    → IsReadTo (with_calls from calls) offset (gap ++ text) last

-- a command leads so at any offset
abbrev pub Does : Content → Command → Content → Type 0
Does from c next = (calls : Beside) (offset : ℕ)
    → (after : Beside) × (effect_of (with_calls from calls) offset c ≡ Ok (with_calls next after))

-- a command between gaps leads where it does
pub command_leads : (from next last : Content) (front spelling behind : List ℕ) (c : Command) (text : List ℕ) → Spells spelling c
    → list_all is_gap front ≡ true → list_all is_gap behind ≡ true → Does from c next → Reaches next last text
    → Reaches from last (front ++ (spelling ++ (59 ∷ (behind ++ text))))
unfolding after_commands after_command_at
command_leads from next last front spelling behind c text spells in_front at_end does reaches calls offset gap kept passed =
    let content = with_calls from calls in
    let place = offset + length (gap ++ front) in
    let done = does calls place in
    let step = step_of content (with_calls next done.0) place c kept.scale done.1 in
    let further = place + length spelling + 1 in
    let rest = reaches done.0 further behind (step.kept kept) at_end in
    record {
      commands = (place, c) ∷ rest.commands;
      reads = (
        record {
          gap = gap ++ front;
          spelling = spelling;
          rest = behind ++ text;
          parts = sym (append_assoc gap front (spelling ++ (59 ∷ (behind ++ text))));
          passed = list_all-append is_gap gap front ∙ rw (passed, in_front) refl;
          located = refl;
          spells = spells;
        },
        step.stands,
        subst (λ (b : Bool). ReadsFrom b further (behind ++ text) rest.commands) step.inside rest.reads,
      );
      calls = rest.calls;
      means = rw done.1 rest.means;
      kept = rest.kept;
    }

-- a line of a command leads where the command does
pub line_leads : (rectangles : Rectangles) (from next last : Content) (line : Line) (c : Command) (text : List ℕ)
    → IsLineOf rectangles line c → Does from c next → Reaches next last text
    → Reaches from last (line_text_as rectangles line ++ text)
unfolding is_gap is_blank is_mark
line_leads rectangles from next last line c text is does reaches =
    subst (Reaches from last) (sym (ap (λ l. l ++ text) is.parts ∙ append_assoc is.spelling (59 ∷ (10 ∷ [])) text))
    (command_leads from next last [] is.spelling (10 ∷ []) c text is.spells refl refl does reaches)

-- the same for the first of several lines
pub first_leads : (rectangles : Rectangles) (from next last : Content) (line : Line) (c : Command) (lines : List Line) (text : List ℕ)
    → IsLineOf rectangles line c → Does from c next → Reaches next last (lines_text_as rectangles lines ++ text)
    → Reaches from last (lines_text_as rectangles (line ∷ lines) ++ text)
first_leads rectangles from next last line c lines text is does reaches =
    subst (Reaches from last) (sym (append_assoc (line_text_as rectangles line) (lines_text_as rectangles lines) text))
    (line_leads rectangles from next last line c (lines_text_as rectangles lines ++ text) is does reaches)

-- the text ends outside of definitions
pub end_reached : (last : Content) → is_inside last.definition ≡ false → Reaches last last (line_text End)
unfolding after_commands is_blank is_mark
end_reached last outside calls offset gap kept passed = record {
  commands = [];
  reads = (record { gap = gap; behind = 10 ∷ []; parts = refl; passed = passed; behind_blank = refl }, outside);
  calls = calls;
  means = refl;
  kept = kept;
}
