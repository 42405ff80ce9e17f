-- A layer, a box and a definition that is read is spelled so, and what spells one is read.
use Rattle.std.proofs.Common.{◌≡◌, ℕ, ◌≤◌, true, false, List, [], ◌∷◌, ◌++◌, length, Option, Some, None, refl, sym, ap, ◌∙◌, subst, arith}
use Rattle.std.proofs.Common.{inl, inr}
use Rattle.std.specs.List.{list_all, take_while}
use Rattle.std.proofs.lemmas.Option.{cond_some, same_Some}
use Rattle.lay_point.specs.Names.{is_digit, is_name_byte}
use Rattle.cif_grammar.specs.Bytes.{is_blank, skip}
use Rattle.cif_grammar.specs.ScanGrammar.{IsInteger}
use Rattle.cif_grammar.specs.Numbers.{behind_separator, integer_at}
use Rattle.cif_grammar.proofs.ByteClasses.{blank_no_digit, blank_no_name_byte, name_byte_no_blank, separator_no_digit}
use Rattle.cif_grammar.proofs.NumberGrammar.{integer_again, integer_takes}
use Rattle.cif_grammar.proofs.Runs.{Stops, list_all-take_while, skip-front, take_while-front, taken_and_left}
use Rattle.byte_io.proofs.Steps.{after_some, bind_some, chosen_of}
use Rattle.cif_grammar.specs.declared.boxes.BoxNumbers.{BoxNumbers}
use Rattle.cif_grammar.specs.declared.definitions.Definition.{Definition}
use Rattle.cif_grammar.specs.declared.definitions.Scale.{Scale}
use Rattle.cif_grammar.specs.declared.paths.Vertex.{Vertex}
use Rattle.cif_grammar.specs.Boxes.{box_of, direction_of}
use Rattle.cif_grammar.specs.Definitions.{definition_of, plain_scale, scale_of, written_scale_of}
use Rattle.cif_grammar.specs.Grammar.{AreBlanks, IsBox, IsDirection, IsLayer, IsScale, IsWrittenScale, NextVertex}
use Rattle.cif_grammar.specs.Layers.{layer_of, name_alone}
use Rattle.cif_grammar.specs.Paths.{next_vertex_at}
use Rattle.cif_grammar.proofs.PathGrammar.{next_again, next_not_blank, next_takes}
use Rattle.cif_grammar.proofs.Separators.{digits_not_blank, separator_again, separator_takes}
use Rattle.cif_grammar.proofs.Separators.{stops_all, stops_some, back_not_blank, front_not_blank}

-- ---- layers

-- what stands alone is that, has bytes, and blanks behind it
pub record StandsAlone (bytes behind name : List ℕ) : Type 0 where
  pub same : bytes ≡ name
  pub some : 1 ≤ length name
  pub blanks : list_all is_blank behind ≡ true

pub StandsAlone-from : (bytes behind name : List ℕ) → name_alone bytes behind ≡ Some name → StandsAlone bytes behind name
StandsAlone-from [] behind name e = absurd cc
StandsAlone-from (b ∷ bs) behind name e =
    let parts = cond_some (list_all is_blank behind) (b ∷ bs) name e in
    record { same = parts.1; some = rw (← parts.1) (omega arith); blanks = parts.0 }

pub layer_takes : (bytes name : List ℕ) → layer_of bytes ≡ Some name → IsLayer (76 ∷ bytes) name
unfolding layer_of
layer_takes bytes name e =
    let front = take_while is_blank bytes in
    let rest = skip is_blank bytes in
    let behind = skip is_name_byte rest in
    let found = StandsAlone-from (take_while is_name_byte rest) behind name e in
    record {
      front = front;
      behind = behind;
      parts = ap (λ x. 76 ∷ x) (taken_and_left is_blank bytes ∙ ap (λ x. front ++ x)
          (taken_and_left is_name_byte rest ∙ ap (λ x. x ++ behind) found.same));
      front_blank = list_all-take_while is_blank bytes;
      some = found.some;
      name_bytes = rw (← found.same) (list_all-take_while is_name_byte rest);
      behind_blank = found.blanks;
    }

alone_again : (name behind : List ℕ) → 1 ≤ length name → list_all is_blank behind ≡ true → name_alone name behind ≡ Some name
alone_again [] behind some blanks = absurd (omega arith)
alone_again (b ∷ bs) behind some blanks = rw blanks refl

pub layer_again : (text name : List ℕ) (h : IsLayer text name) → layer_of (h.front ++ (name ++ h.behind)) ≡ Some name
unfolding layer_of
layer_again text name h =
    let stops_name = stops_some is_name_byte is_blank name h.behind name_byte_no_blank h.some h.name_bytes in
    let stops_behind = stops_all is_blank is_name_byte h.behind blank_no_name_byte h.behind_blank in
    rw (
      skip-front is_blank h.front (name ++ h.behind) h.front_blank stops_name,
      take_while-front is_name_byte name h.behind h.name_bytes stops_behind,
      skip-front is_name_byte name h.behind h.name_bytes stops_behind,
    )
    (alone_again name h.behind h.some h.behind_blank)

-- ---- boxes

direction_takes : (bytes : List ℕ) (d : Option Vertex) → direction_of bytes ≡ Some d → IsDirection bytes d
unfolding direction_of
direction_takes bytes d e =
    elim (chosen_of (list_all is_blank bytes) _ _ (Some d) e) [
      | inl none ↦ subst (λ (x : Option Vertex). IsDirection bytes x) (same_Some None d none.1) none.0
      | inr some ↦
          let read = bind_some (next_vertex_at bytes) _ d some.1 in
          let next = next_takes bytes read.0.0 read.0.1 read.1 in
          let last = cond_some (list_all is_blank read.0.1) (Some read.0.0) d read.2 in
          subst (λ (x : Option Vertex). IsDirection bytes x) last.1
          (next.0, subst (λ (t : List ℕ). AreBlanks t) (sym next.1) last.0)
    ]

direction_again : (text : List ℕ) (d : Option Vertex) → IsDirection text d → direction_of text ≡ Some d
unfolding direction_of
direction_again text None h = rw h refl
direction_again text (Some v) h =
    rw (next_not_blank text v h.0, next_again text v h.0 (stops_all is_blank is_digit h.0.rest blank_no_digit h.1), h.1) refl

direction_stops : (text : List ℕ) (d : Option Vertex) → IsDirection text d → Stops is_digit text
direction_stops text None h = stops_all is_blank is_digit text blank_no_digit h
direction_stops text (Some v) h = rw h.0.parts (separator_no_digit h.0.separator h.0.separated)

next_stops : (text : List ℕ) (v : Vertex) → NextVertex text v → Stops is_digit text
next_stops text v h = rw h.parts (separator_no_digit h.separator h.separated)

pub box_takes : (bytes : List ℕ) (b : BoxNumbers) → box_of bytes ≡ Some b → IsBox (66 ∷ bytes) b
unfolding box_of
box_takes bytes b e =
    after_some (integer_at bytes) _ b e (λ length length_read after_length.
    after_some (behind_separator length.1) _ b after_length (λ width_part width_separated after_separator.
    after_some (integer_at width_part) _ b after_separator (λ width width_read after_width.
    after_some (next_vertex_at width.1) _ b after_width (λ centre centre_read after_centre.
    after_some (direction_of centre.1) _ b after_centre (λ direction direction_read last.
    let made : BoxNumbers = record { length = length.0; width = width.0; centre = centre.0; direction = direction } in
    let length_found = integer_takes bytes length.0 length.1 length_read in
    let before_width = separator_takes length.1 width_part width_separated in
    let width_found = integer_takes width_part width.0 width.1 width_read in
    let next = next_takes width.1 centre.0 centre.1 centre_read in
    let box : IsBox (66 ∷ bytes) made = record {
      length_text = length_found.text;
      before_width = before_width.0;
      width_text = width_found.text;
      rest = width.1;
      parts = ap (λ t. 66 ∷ t) (length_found.parts ∙ ap (λ t. length_found.text ++ t) (before_width.1 ∙ ap (λ t. before_width.0 ∷ t)
          width_found.parts));
      length_is = length_found.spelled;
      width_separated = before_width.2;
      width_is = width_found.spelled;
      centre = next.0;
      direction = subst (λ (t : List ℕ). IsDirection t direction) (sym next.1) (direction_takes centre.1 direction direction_read);
    } in
    subst (λ (c : BoxNumbers). IsBox (66 ∷ bytes) c) (same_Some made b last) box)))))

pub box_again : (text : List ℕ) (b : BoxNumbers) (h : IsBox text b)
    → box_of (h.length_text ++ (h.before_width ∷ (h.width_text ++ h.rest))) ≡ Some b
unfolding box_of
box_again text b h =
    rw (
      integer_again h.length_text (h.before_width ∷ (h.width_text ++ h.rest)) b.length h.length_is
          (separator_no_digit h.before_width h.width_separated),
      separator_again h.before_width (h.width_text ++ h.rest) h.width_separated,
      integer_again h.width_text h.rest b.width h.width_is (next_stops h.rest b.centre h.centre),
      next_again h.rest b.centre h.centre (direction_stops h.centre.rest b.direction h.direction),
      direction_again h.centre.rest b.direction h.direction,
    ) refl

-- ---- definitions

written_scale_takes : (bytes : List ℕ) (s : Scale) → written_scale_of bytes ≡ Some s → IsWrittenScale bytes s
unfolding written_scale_of
written_scale_takes bytes s e =
    after_some (behind_separator bytes) _ s e (λ numerator_part numerator_separated after_first.
    after_some (integer_at numerator_part) _ s after_first (λ numerator numerator_read after_numerator.
    after_some (behind_separator numerator.1) _ s after_numerator (λ denominator_part denominator_separated after_second.
    after_some (integer_at denominator_part) _ s after_second (λ denominator denominator_read after_denominator.
    let made : Scale = record { numerator = numerator.0; denominator = denominator.0 } in
    let last = cond_some (list_all is_blank denominator.1) made s after_denominator in
    let before_numerator = separator_takes bytes numerator_part numerator_separated in
    let numerator_found = integer_takes numerator_part numerator.0 numerator.1 numerator_read in
    let before_denominator = separator_takes numerator.1 denominator_part denominator_separated in
    let denominator_found = integer_takes denominator_part denominator.0 denominator.1 denominator_read in
    let scale : IsWrittenScale bytes made = record {
      before_numerator = before_numerator.0;
      numerator_text = numerator_found.text;
      before_denominator = before_denominator.0;
      denominator_text = denominator_found.text;
      behind = denominator.1;
      parts = before_numerator.1 ∙ ap (λ t. before_numerator.0 ∷ t) (numerator_found.parts ∙ ap (λ t. numerator_found.text ++ t)
          (before_denominator.1 ∙ ap (λ t. before_denominator.0 ∷ t) denominator_found.parts));
      numerator_separated = before_numerator.2;
      numerator_is = numerator_found.spelled;
      denominator_separated = before_denominator.2;
      denominator_is = denominator_found.spelled;
      behind_blank = last.0;
    } in
    subst (λ (t : Scale). IsWrittenScale bytes t) last.1 scale))))

scale_takes : (bytes : List ℕ) (s : Scale) → scale_of bytes ≡ Some s → IsScale bytes s
scale_takes bytes s e =
    elim (chosen_of (list_all is_blank bytes) _ _ (Some s) e) [
      | inl plain ↦ inl (plain.0, same_Some plain_scale s plain.1)
      | inr written ↦ inr (written_scale_takes bytes s written.1)
    ]

written_scale_again : (text : List ℕ) (s : Scale) → IsWrittenScale text s → written_scale_of text ≡ Some s
unfolding written_scale_of
written_scale_again text s h =
    let denominator_rest = h.denominator_text ++ h.behind in
    let numerator_rest = h.numerator_text ++ (h.before_denominator ∷ denominator_rest) in
    rw (
      h.parts,
      separator_again h.before_numerator numerator_rest h.numerator_separated,
      integer_again h.numerator_text (h.before_denominator ∷ denominator_rest) s.numerator h.numerator_is
          (separator_no_digit h.before_denominator h.denominator_separated),
      separator_again h.before_denominator denominator_rest h.denominator_separated,
      integer_again h.denominator_text h.behind s.denominator h.denominator_is
          (stops_all is_blank is_digit h.behind blank_no_digit h.behind_blank),
      h.behind_blank,
    ) refl

-- what has digits isn't blank
written_not_blank : (text : List ℕ) (s : Scale) → IsWrittenScale text s → list_all is_blank text ≡ false
written_not_blank text s h =
    let number = back_not_blank h.numerator_is.front h.numerator_is.digits
    (digits_not_blank h.numerator_is.digits s.numerator h.numerator_is.spelled) in
    let whole : list_all is_blank h.numerator_text ≡ false = rw h.numerator_is.parts number in
    rw h.parts (back_not_blank (h.before_numerator ∷ []) (h.numerator_text ++ (h.before_denominator ∷ (h.denominator_text ++ h.behind)))
    (front_not_blank h.numerator_text (h.before_denominator ∷ (h.denominator_text ++ h.behind)) whole))

scale_again : (text : List ℕ) (s : Scale) → IsScale text s → scale_of text ≡ Some s
scale_again text s (inl plain) = rw plain.0 (ap (λ t. Some t) plain.1)
scale_again text s (inr written) = rw (written_not_blank text s written) (written_scale_again text s written)

scale_stops : (text : List ℕ) (s : Scale) → IsScale text s → Stops is_digit text
scale_stops text s (inl plain) = stops_all is_blank is_digit text blank_no_digit plain.0
scale_stops text s (inr written) = rw written.parts (separator_no_digit written.before_numerator written.numerator_separated)

-- the number and the scale behind "D", blanks and "S"
pub record DefinitionRead (bytes : List ℕ) (d : Definition) : Type 0 where
  pub symbol_text : List ℕ
  pub rest : List ℕ
  pub parts : bytes ≡ symbol_text ++ rest
  pub symbol_is : IsInteger symbol_text d.symbol
  pub scale_is : IsScale rest d.scale

pub definition_takes : (bytes : List ℕ) (d : Definition) → definition_of bytes ≡ Some d → DefinitionRead bytes d
unfolding definition_of
definition_takes bytes d e =
    after_some (integer_at bytes) _ d e (λ symbol symbol_read after_symbol.
    after_some (scale_of symbol.1) _ d after_symbol (λ scale scale_read last.
    let made : Definition = record { symbol = symbol.0; scale = scale } in
    let found = integer_takes bytes symbol.0 symbol.1 symbol_read in
    let whole : DefinitionRead bytes made = record {
      symbol_text = found.text;
      rest = symbol.1;
      parts = found.parts;
      symbol_is = found.spelled;
      scale_is = scale_takes symbol.1 scale scale_read;
    } in
    subst (λ (x : Definition). DefinitionRead bytes x) (same_Some made d last) whole))

pub definition_again : (bytes : List ℕ) (d : Definition) → DefinitionRead bytes d → definition_of bytes ≡ Some d
unfolding definition_of
definition_again bytes d h =
    rw (
      h.parts,
      integer_again h.symbol_text h.rest d.symbol h.symbol_is (scale_stops h.rest d.scale h.scale_is),
      scale_again h.rest d.scale h.scale_is,
    ) refl
