-- A text that means a fault begins with good commands, and what stands behind them has the fault.
use Rattle.std.proofs.Common.{zero-add, append_assoc, ◌≡◌, ℕ, zero, suc, ◌+◌, ◌<◌, Bool, true, false}
use Rattle.std.proofs.Common.{cond, List, [], ◌∷◌, ◌++◌, length, take, drop, Option, Some, None, Result}
use Rattle.std.proofs.Common.{Ok, Err, refl, sym, ap, ◌∙◌, subst, arith, inl, inr, ◌⊎◌}
use Rattle.std.specs.Prelude.{◌==◌}
use Rattle.std.specs.List.{list_all, take_while}
use Rattle.std.proofs.lemmas.Bool.{and_from, eqb-true}
use Rattle.std.proofs.lemmas.Bool.Decides.{nat_tests}
use Rattle.std.proofs.lemmas.List.{length-append, take_at}
use Rattle.cif_grammar.specs.Bytes.{is_blank, is_gap, is_mark, skip}
use Rattle.cif_grammar.proofs.ByteClasses.{is_plain}
use Rattle.cif_grammar.proofs.Runs.{Stops, Stops-skip, list_all-take_while, skip-front, taken_and_left}
use Rattle.cif_grammar.specs.Commands.{Command}
use Rattle.cif_grammar.specs.Cutting.{Breaks, EndOf, behind_command, command_len, first_depth, first_offset, offset_of, semicolon_from}
use Rattle.cif_grammar.specs.Grammar.{BeginsWith}
use Rattle.cif_grammar.specs.Reading.{command_of}
use Rattle.cif_grammar.proofs.CommandGrammar.{command_again}
use Rattle.cif_grammar.proofs.CutGrammar.{command_ends}
use Rattle.cif_grammar.proofs.Openings.{opening}
use Rattle.cif_grammar.proofs.Pieces.{piece_takes}
use Rattle.cif_read.specs.declared.content.Content.{Content}
use Rattle.cif_read.specs.declared.fault.CifFault.{CifFault}
use Rattle.cif_read.specs.declared.fault.FaultKind.{FaultKind}
use Rattle.cif_read.specs.declared.fault.FaultKind.TheVariants.{AfterEnd, NoEnd, Syntax}
use Rattle.cif_read.specs.Binding.{IsBoundAs}
use Rattle.cif_read.specs.Content.{after_command_at, after_commands, content_of, effect_of, empty_content, is_inside}
use Rattle.cif_read.specs.Meaning.{IsEndOf, after_bytes, after_end, begins_with_end, content_in}
use Rattle.cif_read.specs.Meaning.{definition_kind, fault_at, no_memory, read_as, unread_kind}
use Rattle.cif_read.specs.Steps.{and_then, at_offset}
use Rattle.cif_read.proofs.MeaningLemmas.{front_breaks, front_command, front_end, rest_means, rest_means-step, start_means}
use Rattle.cif_read.proofs.PieceFacts.{read_from}
use Rattle.cif_read.proofs.OneMeaning.{short_text}
use Rattle.cif_read.proofs.TextGrammar.{FrontKind, accepted, at_a_break, at_a_command, at_the_end, front_kind}
use Rattle.cif_laws.proofs.CommentEnds.{none_closes, outside, plain_behind}
use Rattle.cif_laws.specs.Refusals.{BeginsWithNoGap, FaultsAreWhereTheyStand, HasBadCall, HasFault}
use Rattle.cif_laws.specs.Refusals.{HasNoSemicolon, IsFirstFault, Leaves, NoCommand, behind_end, refused, unended, unread, within}

-- ---- commands that stand at a place

-- what a command that stands there says of the cut
record IsFound (rest spelling : List ℕ) : Type 0 where
  ends : command_len rest ≡ Some (length spelling)
  bytes : take (length spelling) rest ≡ spelling

found : (place : ℕ) (rest : List ℕ) (c : Command) (first : BeginsWith place rest place c) → IsFound rest first.spelling
found place rest c first =
    let none : first.gap ≡ [] = empty first.gap (omega (arith, first.located)) in
    let parts : rest ≡ first.spelling ++ (59 ∷ first.rest) = first.parts ∙ ap (λ g. g ++ (first.spelling ++ (59 ∷ first.rest))) none in
    record {
      ends = ap command_len parts ∙ (opening first.spelling c first.spells).len first.rest;
      bytes = ap (take (length first.spelling)) parts ∙ take_at first.spelling (59 ∷ first.rest) (length first.spelling) refl;
    }
  where
    empty : (gap : List ℕ) → length gap ≡ 0 → gap ≡ []
    empty [] e = refl
    empty (b ∷ bs) e = absurd (omega arith)

none_ended : (place : ℕ) (rest : List ℕ) → command_len rest ≡ None → NoCommand place rest
none_ended place rest none c first =
    let no : ◌≡◌ {A = Option ℕ} None (Some (length first.spelling)) = sym none ∙ (found place rest c first).ends in cc

none_read : (place : ℕ) (rest : List ℕ) (len : ℕ) → command_len rest ≡ Some len → command_of (take len rest) ≡ None → NoCommand place rest
none_read place rest len ends none c first =
    let is = found place rest c first in
    let lengths : Some len ≡ Some (length first.spelling) = sym ends ∙ is.ends in
    let same : len ≡ length first.spelling = cc in
    let read : command_of (take len rest) ≡ Some c =
    ap command_of (ap (λ n. take n rest) same ∙ is.bytes) ∙ command_again first.spelling c first.spells in
    let no : ◌≡◌ {A = Option Command} None (Some c) = sym none ∙ read in cc

-- ---- which fault the first letters say

semicolon_stops : (left behind : List ℕ) → Stops is_blank left → Stops is_blank (left ++ (59 ∷ behind))
unfolding is_blank is_mark
semicolon_stops [] behind h = refl
semicolon_stops (b ∷ bs) behind h = h

first_of_rest : (left behind : List ℕ) → definition_kind (left ++ (59 ∷ behind)) ≡ definition_kind left
first_of_rest [] behind = refl
first_of_rest (b ∷ bs) behind = refl

behind_blanks : (bytes behind : List ℕ) → definition_kind (skip is_blank (bytes ++ (59 ∷ behind))) ≡ definition_kind (skip is_blank bytes)
behind_blanks bytes behind =
    let blanks = take_while is_blank bytes in
    let left = skip is_blank bytes in
    let parts : bytes ++ (59 ∷ behind) ≡ blanks ++ (left ++ (59 ∷ behind)) =
    ap (λ t. t ++ (59 ∷ behind)) (taken_and_left is_blank bytes) ∙ append_assoc blanks left (59 ∷ behind) in
    ap (λ t. definition_kind (skip is_blank t)) parts
    ∙ ap definition_kind (skip-front is_blank blanks (left ++ (59 ∷ behind)) (list_all-take_while is_blank bytes)
    (semicolon_stops left behind (Stops-skip is_blank bytes))) ∙ first_of_rest left behind

same_kind : (bytes behind : List ℕ) → unread_kind (bytes ++ (59 ∷ behind)) ≡ unread_kind bytes
unfolding unread_kind
same_kind [] behind = refl
same_kind (b ∷ bs) behind = rw (behind_blanks bs behind) refl

-- ---- what isn't ended

gap_plain : (b : ℕ) → is_gap b ≡ false → is_plain b ≡ true
unfolding is_gap
gap_plain b h = grind (arith, nat_tests)

unended_plain : (rest : List ℕ) → Stops is_gap rest → command_len rest ≡ None → HasNoSemicolon rest
unfolding command_len
unended_plain [] stops none = inl refl
unended_plain (b ∷ bs) stops none = by (b == 40) refl where
  by : (opens : Bool) → (b == 40) ≡ opens → HasNoSemicolon (b ∷ bs)
  by true e =
      let depth : first_depth b ≡ 1 = rw e refl in
      let inside : semicolon_from 1 1 bs ≡ None = ap (λ d. semicolon_from 1 d bs) (sym depth) ∙ none in
      inr (bs, ap (λ c. c ∷ bs) (eqb-true b 40 e), λ behind closed. none_closes 0 1 bs behind inside closed)
  by false e =
      let depth : first_depth b ≡ 0 = rw e refl in
      inl (and_from (is_plain b) (list_all is_plain bs) (gap_plain b stops)
      (plain_behind 1 bs (ap (λ d. semicolon_from 1 d bs) (sym depth) ∙ none)))

-- ---- a fault of a rest

-- good commands that a text from an offset on begins with, and what is wrong behind them
record Refused (content : Content) (offset : ℕ) (text : List ℕ) (fault : CifFault) : Type 0 where
  before : List (ℕ × Command)
  next : Content
  place : ℕ
  rest : List ℕ
  good : after_commands content before ≡ Ok next
  leaves : Leaves offset text before place rest
  wrong : IsFirstFault next place rest fault

-- the same for shorter texts
abbrev RefusedBelow : ℕ → Type 0
RefusedBelow n = (offset : ℕ) (content : Content) (text : List ℕ) (fault : CifFault) → length text < n
    → rest_means content (offset + length text) (skip is_gap text) ≡ Err fault → Refused content offset text fault

no_gap : (rest : List ℕ) → Stops is_gap rest → BeginsWithNoGap rest
no_gap [] h = tt
no_gap (b ∷ bs) h = h

no_fault : {A : Type 0} (x : A) (fault : CifFault) → ◌≡◌ {A = Result A CifFault} (Ok x) (Err fault) → ⊥
no_fault x fault e = cc

module _ (n offset : ℕ) (content : Content) (text : List ℕ) (fault : CifFault) (short : length text < suc n) where
  place_of : ℕ
  place_of = offset + length (take_while is_gap text)

  -- what is wrong stands here
  here : IsFirstFault content place_of (skip is_gap text) fault → Refused content offset text fault
  unfolding place_of after_commands
  here wrong = record {
    before = [];
    next = content;
    place = place_of;
    rest = skip is_gap text;
    good = refl;
    leaves = record {
      gap = take_while is_gap text;
      parts = taken_and_left is_gap text;
      passed = list_all-take_while is_gap text;
      located = refl;
      no_gap = no_gap (skip is_gap text) (Stops-skip is_gap text);
    };
    wrong = wrong;
  }

  text_length : length text ≡ length (take_while is_gap text) + length (skip is_gap text)
  text_length = ap length (taken_and_left is_gap text) ∙ length-append (take_while is_gap text) (skip is_gap text)

  located : offset_of (offset + length text) (skip is_gap text) ≡ place_of
  unfolding place_of
  located = let lengths = text_length in omega (arith, lengths)

  -- where the byte behind the end and blanks stands
  behind_place : (behind blanks : List ℕ) (b : ℕ) (more : List ℕ) → skip is_gap text ≡ 69 ∷ behind → behind ≡ blanks ++ (b ∷ more)
      → offset_of (offset + length text) (b ∷ more) ≡ place_of + 1 + length blanks
  unfolding place_of
  behind_place behind blanks b more rest parts =
      let lengths = text_length in
      let rest_length : length (skip is_gap text) ≡ suc (length behind) = ap length rest in
      let behind_length : length behind ≡ length blanks + suc (length more) = ap length parts ∙ length-append blanks (b ∷ more) in
      omega (arith, lengths, rest_length, behind_length)

  refused_end : (behind : List ℕ) → skip is_gap text ≡ 69 ∷ behind
      → rest_means content (offset + length text) (skip is_gap text) ≡ Err fault → Refused content offset text fault
  refused_end behind rest e =
      by (is_inside content.definition) refl (skip is_blank behind) refl
      (sym (rest_means-step content total (skip is_gap text) _ (front_end total (skip is_gap text) behind rest)) ∙ e)
    where
      total : ℕ
      total = offset + length text

      blanks : List ℕ
      blanks = take_while is_blank behind

      by : (inside : Bool) → is_inside content.definition ≡ inside → (left : List ℕ) → skip is_blank behind ≡ left
          → cond inside (fault_at Syntax (offset_of total (skip is_gap text))) (after_end content (first_offset total left)) ≡ Err fault
          → Refused content offset text fault
      by true is left f e =
          let same : fault ≡ record { kind = Syntax; offset = offset_of total (skip is_gap text) } = cc in
          here (within (ap begins_with_end rest) is (same ∙ ap (λ o. record { kind = Syntax; offset = o }) located))
      by false is [] f e = absurd (no_fault content fault e)
      by false is (b ∷ more) f e =
          let same : fault ≡ record { kind = AfterEnd; offset = offset_of total (b ∷ more) } = cc in
          let parts : behind ≡ blanks ++ (b ∷ more) = taken_and_left is_blank behind ∙ ap (λ t. blanks ++ t) f in
          let no_blank : is_blank b ≡ false = subst (Stops is_blank) f (Stops-skip is_blank behind) in
          here (behind_end blanks more b (rest ∙ ap (λ t. 69 ∷ t) parts) is (list_all-take_while is_blank behind) no_blank
          (same ∙ ap (λ o. record { kind = AfterEnd; offset = o }) (behind_place behind blanks b more rest parts)))

  refused_break : begins_with_end (skip is_gap text) ≡ false → command_len (skip is_gap text) ≡ None
      → rest_means content (offset + length text) (skip is_gap text) ≡ Err fault → Refused content offset text fault
  refused_break no_end none e =
      let total = offset + length text in
      let rest = skip is_gap text in
      let broken : fault_at {A = Content} NoEnd (offset_of total rest) ≡ Err fault =
      sym (rest_means-step content total rest (EndOf (Breaks (offset_of total rest))) (front_breaks total rest no_end none)) ∙ e in
      let same : fault ≡ record { kind = NoEnd; offset = offset_of total rest } = cc in
      here (unended (unended_plain rest (Stops-skip is_gap text) none) no_end (none_ended place_of rest none)
      (same ∙ ap (λ o. record { kind = NoEnd; offset = o }) located))

  module _ (len : ℕ) (no_end : begins_with_end (skip is_gap text) ≡ false) (ends : command_len (skip is_gap text) ≡ Some len) where
    bytes : List ℕ
    bytes = take len (skip is_gap text)

    behind : List ℕ
    behind = drop (len + 1) (skip is_gap text)

    parts : skip is_gap text ≡ bytes ++ (59 ∷ behind)
    unfolding bytes behind
    parts = (command_ends (skip is_gap text) len ends).parts

    -- the fault is the command's own
    refused_bytes : after_bytes content place_of bytes ≡ Err fault → Refused content offset text fault
    unfolding after_bytes bytes behind
    refused_bytes e = by_read (command_of bytes) refl e where
      stands : (c : Command) → command_of bytes ≡ Some c → BeginsWith place_of (skip is_gap text) place_of c
      stands c read = record {
        gap = [];
        spelling = bytes;
        rest = behind;
        parts = parts;
        passed = refl;
        located = omega arith;
        spells = piece_takes (skip is_gap text) len c ends read;
      }

      by_effect : (c : Command) → command_of bytes ≡ Some c → (r : Result Content FaultKind) → effect_of content place_of c ≡ r
          → at_offset place_of r ≡ Err fault → Refused content offset text fault
      by_effect c read (Ok next) f e = absurd (no_fault next fault e)
      by_effect c read (Err kind) f e =
          let same : record { kind = kind; offset = place_of } ≡ fault = cc in
          here (refused c (stands c read) (sym (ap (λ (x : CifFault). x.offset) same))
          (f ∙ ap (λ (x : CifFault). Err x.kind) same))

      by_read : (o : Option Command) → command_of bytes ≡ o
          → at_offset place_of (read_as (unread_kind bytes) (effect_of content place_of) o) ≡ Err fault
          → Refused content offset text fault
      by_read None f e =
          let same : record { kind = unread_kind bytes; offset = place_of } ≡ fault = cc in
          let kind : unread_kind bytes ≡ unread_kind (skip is_gap text) = sym (same_kind bytes behind) ∙ ap unread_kind (sym parts) in
          here (unread bytes behind parts (outside (skip is_gap text) len ends) no_end (none_read place_of (skip is_gap text) len ends f)
          (sym same ∙ ap (λ k. record { kind = k; offset = place_of }) kind))
      by_read (Some c) f e = by_effect c f (effect_of content place_of c) refl e

    -- the command is good, and the fault stands behind it
    refused_behind : (next : Content) → RefusedBelow n → after_bytes content place_of bytes ≡ Ok next
        → rest_means next (offset + length text) (behind_command len (skip is_gap text)) ≡ Err fault → Refused content offset text fault
    unfolding place_of after_commands after_command_at bytes behind
    refused_behind next shorter done e =
        let gap = take_while is_gap text in
        let read = read_from content next place_of bytes done in
        let lengths = text_length in
        let rest_length : length (skip is_gap text) ≡ length bytes + suc (length behind) =
        ap length parts ∙ length-append bytes (59 ∷ behind) in
        let on : place_of + length bytes + 1 + length behind ≡ offset + length text = omega (arith, lengths, rest_length) in
        let further : rest_means next (place_of + length bytes + 1 + length behind) (skip is_gap behind) ≡ Err fault =
        subst (λ (t : ℕ). rest_means next t (skip is_gap behind) ≡ Err fault) (sym on) e in
        let found = shorter (place_of + length bytes + 1) next behind fault (omega (arith, lengths, rest_length)) further in
        record {
          before = (place_of, read.command) ∷ found.before;
          next = found.next;
          place = found.place;
          rest = found.rest;
          good = rw read.effect found.good;
          leaves = (
            record {
              gap = gap;
              spelling = bytes;
              rest = behind;
              parts = taken_and_left is_gap text ∙ ap (λ t. gap ++ t) parts;
              passed = list_all-take_while is_gap text;
              located = refl;
              spells = piece_takes (skip is_gap text) len read.command ends read.read;
            },
            found.leaves,
          );
          wrong = found.wrong;
        }

    refused_command : RefusedBelow n → rest_means content (offset + length text) (skip is_gap text) ≡ Err fault
        → Refused content offset text fault
    unfolding bytes
    refused_command shorter e =
        by (after_bytes content place_of bytes) refl
        (ap (λ o. and_then (after_bytes content o bytes) further) (sym located)
        ∙ sym (rest_means-step content total (skip is_gap text) _ (front_command total (skip is_gap text) len no_end ends)) ∙ e)
      where
        total : ℕ
        total = offset + length text

        further : Content → Result Content CifFault
        further next = rest_means next total (behind_command len (skip is_gap text))

        by : (r : Result Content CifFault) → after_bytes content place_of bytes ≡ r → and_then r further ≡ Err fault
            → Refused content offset text fault
        by (Ok next) f e = refused_behind next shorter f e
        by (Err other) f e =
            let same : other ≡ fault = cc in
            refused_bytes (f ∙ ap Err same)

  refused_step : RefusedBelow n → rest_means content (offset + length text) (skip is_gap text) ≡ Err fault
      → Refused content offset text fault
  refused_step shorter e = by (front_kind (skip is_gap text)) where
    by : FrontKind (skip is_gap text) → Refused content offset text fault
    by (at_the_end behind rest) = refused_end behind rest e
    by (at_a_command len no_end ends) = refused_command len no_end ends shorter e
    by (at_a_break no_end none) = refused_break no_end none e

refused_from : (n : ℕ) → RefusedBelow n
refused_from zero offset content text fault short e = absurd (omega arith)
refused_from (suc n) offset content text fault short e = refused_step n offset content text fault short (refused_from n) e

has_fault : (text : List ℕ) (fault : CifFault) → content_in text ≡ Err fault → HasFault text fault
unfolding content_of
has_fault text fault e =
    let found = refused_from (length text + 1) 0 empty_content text fault (omega arith) (rw zero-add (start_means text ∙ e)) in
    record {
      before = found.before;
      content = found.next;
      place = found.place;
      rest = found.rest;
      good = found.good;
      leaves = found.leaves;
      wrong = found.wrong;
    }

has_bad_call : (text : List ℕ) (fault : CifFault) (content : Content) → content_in text ≡ Ok content → IsBoundAs content (Err fault)
    → HasBadCall text fault
has_bad_call text fault content e bound =
    let found = accepted text content e in (found.0, content, found.1, found.2, bound)

pub faults_stand : FaultsAreWhereTheyStand
faults_stand text fault short (inl none) = inl (let same : fault ≡ no_memory = cc in same)
faults_stand text fault short (inr meaning) =
    inr (by (content_in text) refl (subst (λ (r : Result Content CifFault). IsEndOf r (Err fault)) (short_text text short) meaning)) where
      by : (r : Result Content CifFault) → content_in text ≡ r → IsEndOf r (Err fault) → HasFault text fault ⊎ HasBadCall text fault
      by (Ok content) e bound = inr (has_bad_call text fault content e bound)
      by (Err other) e same =
          let kind : other ≡ fault = cc in
          inl (has_fault text fault (e ∙ ap Err kind))
