-- A command that is read is spelled so, and what spells a command is read.
use Rattle.std.proofs.Common.{◌≡◌, ℕ, true, false, List, [], ◌∷◌, ◌++◌, Option, Some}
use Rattle.std.proofs.Common.{None, refl, sym, ap, ◌∙◌, subst, cond, inl, inr, arith}
use Rattle.std.specs.Prelude.{◌==◌, option_map}
use Rattle.std.specs.List.{list_all, take_while}
use Rattle.std.proofs.lemmas.Bool.{eqb-true}
use Rattle.std.proofs.lemmas.Bool.Decides.{nat_tests}
use Rattle.std.proofs.lemmas.Option.{cond_some, same_Some}
use Rattle.lay_point.specs.Names.{is_digit}
use Rattle.cif_grammar.specs.Bytes.{is_blank, skip}
use Rattle.cif_grammar.proofs.ByteClasses.{is_plain}
use Rattle.cif_grammar.proofs.Runs.{list_all-take_while, skip-front, taken_and_left}
use Rattle.byte_io.proofs.Steps.{chosen_of}
use Rattle.cif_grammar.specs.Boxes.{box_of}
use Rattle.cif_grammar.specs.Commands.{Box, Call, Command, Comment, Extension, Finish, Layer, Polygon, Start}
use Rattle.cif_grammar.specs.Comments.{is_comment}
use Rattle.cif_grammar.specs.Definitions.{definition_of}
use Rattle.cif_grammar.specs.Grammar.{AreBlanks, IsStart, Spells}
use Rattle.cif_grammar.specs.Layers.{layer_of}
use Rattle.cif_grammar.specs.Paths.{path_of}
use Rattle.cif_grammar.specs.Reading.{bracket_of, command_of}
use Rattle.cif_grammar.proofs.CallGrammar.{call_again, call_takes}
use Rattle.cif_grammar.proofs.CommentGrammar.{comment_again, comment_takes}
use Rattle.cif_grammar.proofs.OtherGrammar.{box_again, box_takes, definition_again, definition_takes, layer_again, layer_takes}
use Rattle.cif_grammar.proofs.PathGrammar.{path_again, path_takes}

-- what was made of what was read
made_of : {A : Type 0} (made : A → Command) (o : Option A) (c : Command) → option_map made o ≡ Some c
    → (x : A) × (o ≡ Some x) × (made x ≡ c)
made_of made None c e = absurd cc
made_of made (Some x) c e = (x, refl, same_Some (made x) c e)

none_read : (c : Command) → ◌≡◌ {A = Option Command} None (Some c) → ⊥
none_read c e = cc

-- a command behind a letter
behind_letter : {A : Type 0} (letter b : ℕ) (bs : List ℕ) (made : A → Command) (o : Option A) (c : Command) → b ≡ letter
    → ((x : A) → o ≡ Some x → Spells (letter ∷ bs) (made x)) → option_map made o ≡ Some c → Spells (b ∷ bs) c
behind_letter letter b bs made o c first takes e =
    let found = made_of made o c e in
    subst (λ (d : Command). Spells (b ∷ bs) d) found.2
    (subst (λ (l : ℕ). Spells (l ∷ bs) (made found.0)) (sym first) (takes found.0 found.1))

-- a beginning or an end of a definition, behind the "D" and blanks
bracket_takes : (rest gap : List ℕ) (c : Command) → AreBlanks gap → bracket_of rest ≡ Some c → Spells (68 ∷ (gap ++ rest)) c
bracket_takes [] gap c blank e = absurd (none_read c e)
bracket_takes (b ∷ bs) gap c blank e =
    elim (chosen_of (b == 83) _ _ (Some c) e) [
      | inl starts ↦
          let found = made_of Start (definition_of bs) c starts.1 in
          let read = definition_takes bs found.0 found.1 in
          let start : IsStart (68 ∷ (gap ++ (b ∷ bs))) found.0 = record {
            gap = gap;
            symbol_text = read.symbol_text;
            rest = read.rest;
            parts = ap (λ t. 68 ∷ (gap ++ t)) (ap (λ l. l ∷ bs) (eqb-true b 83 starts.0) ∙ ap (λ t. 83 ∷ t) read.parts);
            gap_blank = blank;
            symbol_is = read.symbol_is;
            scale_is = read.scale_is;
          } in
          subst (λ (d : Command). Spells (68 ∷ (gap ++ (b ∷ bs))) d) found.2 start
      | inr other ↦ elim (chosen_of (b == 70) _ _ (Some c) other.1) [
        | inl ends ↦
            let last = cond_some (list_all is_blank bs) Finish c ends.1 in
            subst (λ (d : Command). Spells (68 ∷ (gap ++ (b ∷ bs))) d) last.1 (record {
              gap = gap;
              behind = bs;
              parts = ap (λ l. 68 ∷ (gap ++ (l ∷ bs))) (eqb-true b 70 ends.0);
              gap_blank = blank;
              behind_blank = last.0;
            })
        | inr none ↦ absurd (none_read c none.1)
      ]
    ]

-- what is read of bytes is spelled by them; an extension's have no semicolon
pub command_takes : (bytes : List ℕ) (c : Command)
    → ((b : ℕ) (bs : List ℕ) → bytes ≡ b ∷ bs → (b == 40) ≡ false → list_all is_plain bs ≡ true)
    → command_of bytes ≡ Some c → Spells bytes c
unfolding command_of
command_takes [] c plain e = absurd (none_read c e)
command_takes (b ∷ bs) c plain e =
    elim (chosen_of (b == 80) _ _ (Some c) e) [
      | inl polygon ↦ behind_letter 80 b bs Polygon (path_of bs) c (eqb-true b 80 polygon.0) (path_takes bs) polygon.1
      | inr e ↦ elim (chosen_of (b == 66) _ _ (Some c) e.1) [
        | inl box ↦ behind_letter 66 b bs Box (box_of bs) c (eqb-true b 66 box.0) (box_takes bs) box.1
        | inr e ↦ elim (chosen_of (b == 76) _ _ (Some c) e.1) [
          | inl layer ↦ behind_letter 76 b bs Layer (layer_of bs) c (eqb-true b 76 layer.0) (layer_takes bs) layer.1
          | inr e ↦ elim (chosen_of (b == 68) _ _ (Some c) e.1) [
            | inl bracket ↦
                let gap = take_while is_blank bs in
                subst (λ (t : List ℕ). Spells t c)
                (ap (λ t. 68 ∷ t) (sym (taken_and_left is_blank bs)) ∙ ap (λ l. l ∷ bs) (sym (eqb-true b 68 bracket.0)))
                (bracket_takes (skip is_blank bs) gap c (list_all-take_while is_blank bs) bracket.1)
            | inr e ↦ elim (chosen_of (b == 67) _ _ (Some c) e.1) [
              | inl call ↦ subst (λ (l : ℕ). Spells (l ∷ bs) c) (sym (eqb-true b 67 call.0)) (call_takes bs c call.1)
              | inr e ↦ elim (chosen_of (b == 40) _ _ (Some c) e.1) [
                | inl comment ↦
                    let last = cond_some (is_comment bs) Comment c comment.1 in
                    subst (λ (d : Command). Spells (b ∷ bs) d) last.1
                    (subst (λ (l : ℕ). Spells (l ∷ bs) Comment) (sym (eqb-true b 40 comment.0)) (comment_takes bs last.0))
                | inr e ↦
                    let last = cond_some (is_digit b) Extension c e.1 in
                    subst (λ (d : Command). Spells (b ∷ bs) d) last.1
                    (record { digit = b; rest = bs; parts = refl; begins = last.0; plain = plain b bs refl e.0 })
              ]
            ]
          ]
        ]
      ]
    ]

-- a digit is none of the letters and parentheses that commands begin with
digit_reads : (b : ℕ) (bs : List ℕ) → is_digit b ≡ true → command_of (b ∷ bs) ≡ Some Extension
unfolding command_of
digit_reads b bs h =
    let polygon : (b == 80) ≡ false = grind (arith, nat_tests) in
    let box : (b == 66) ≡ false = grind (arith, nat_tests) in
    let layer : (b == 76) ≡ false = grind (arith, nat_tests) in
    let bracket : (b == 68) ≡ false = grind (arith, nat_tests) in
    let call : (b == 67) ≡ false = grind (arith, nat_tests) in
    let comment : (b == 40) ≡ false = grind (arith, nat_tests) in
    rw (polygon, box, layer, bracket, call, comment, h) refl

letter_no_blank_s : is_blank 83 ≡ false
unfolding is_blank
letter_no_blank_s = refl

letter_no_blank_f : is_blank 70 ≡ false
unfolding is_blank
letter_no_blank_f = refl

pub command_again : (text : List ℕ) (c : Command) → Spells text c → command_of text ≡ Some c
unfolding command_of
command_again text (Polygon []) h = absurd h
command_again text (Polygon (v ∷ vs)) h = ap command_of h.parts ∙ ap (option_map Polygon) (path_again text v vs h)
command_again text (Box b) h = ap command_of h.parts ∙ ap (option_map Box) (box_again text b h)
command_again text (Layer name) h = ap command_of h.parts ∙ ap (option_map Layer) (layer_again text name h)
command_again text (Start d) h =
    let behind = 83 ∷ (h.symbol_text ++ h.rest) in
    ap command_of h.parts ∙ ap bracket_of (skip-front is_blank h.gap behind h.gap_blank letter_no_blank_s)
    ∙ ap (option_map Start) (definition_again (h.symbol_text ++ h.rest) d (record {
      symbol_text = h.symbol_text;
      rest = h.rest;
      parts = refl;
      symbol_is = h.symbol_is;
      scale_is = h.scale_is;
    }))
command_again text Finish h =
    ap command_of h.parts ∙ ap bracket_of (skip-front is_blank h.gap (70 ∷ h.behind) h.gap_blank letter_no_blank_f)
    ∙ ap (λ blank. cond blank (Some Finish) None) h.behind_blank
command_again text (Call symbol cs) h = ap command_of h.parts ∙ call_again text symbol cs h
command_again text Extension h = ap command_of h.parts ∙ digit_reads h.digit h.rest h.begins
command_again text Comment h = ap command_of h.parts ∙ ap (λ good. cond good (Some Comment) None) (comment_again text h)
