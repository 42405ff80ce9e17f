-- A call that is read is spelled so, and what spells a call is read.
use Rattle.std.proofs.Common.{◌≡◌, ℕ, zero, suc, ◌+◌, ◌<◌, false, List, [], ◌∷◌, ◌++◌, length, Option, Some, None, refl, sym, ap}
use Rattle.std.proofs.Common.{◌∙◌, subst, arith, inl, inr, append_assoc}
use Rattle.std.specs.Prelude.{◌==◌}
use Rattle.std.specs.List.{list_all, take_while}
use Rattle.std.proofs.lemmas.Bool.{eqb-true}
use Rattle.std.proofs.lemmas.List.{append-nil, length-append}
use Rattle.std.proofs.lemmas.Option.{some_pair_parts, same_Some}
use Rattle.lay_point.specs.Names.{is_digit}
use Rattle.cif_grammar.specs.Bytes.{is_blank, skip}
use Rattle.byte_io.specs.Steps.{◌>>=◌}
use Rattle.cif_grammar.specs.Numbers.{integer_at}
use Rattle.cif_grammar.proofs.ByteClasses.{blank_no_digit}
use Rattle.cif_grammar.proofs.NumberGrammar.{Takes, integer_again, integer_takes}
use Rattle.cif_grammar.proofs.Runs.{Stops, list_all-take_while, skip-front, taken_and_left}
use Rattle.byte_io.proofs.Steps.{bind_some, chosen_of}
use Rattle.cif_grammar.specs.declared.calls.Change.{Change}
use Rattle.cif_grammar.specs.declared.calls.Change.TheVariants.{Direction, MirrorX, MirrorY, Shift}
use Rattle.cif_grammar.specs.declared.paths.Vertex.{Vertex}
use Rattle.cif_grammar.specs.Calls.{axis_at, by_point, change_at, changes_from, changes_of}
use Rattle.cif_grammar.specs.Commands.{Call, Command}
use Rattle.cif_grammar.specs.Grammar.{AreBlanks, AreCallChanges, IsCall, IsChange, IsMirror, IsPointChange, NextChange, Spells}
use Rattle.cif_grammar.specs.Paths.{vertex_at}
use Rattle.cif_grammar.specs.Reading.{call_of}
use Rattle.cif_grammar.proofs.PathGrammar.{vertex_again, vertex_takes}
use Rattle.cif_grammar.proofs.Separators.{stops_all}

-- ---- one change

-- the change that a letter and a point spell
record PointRead (letter : ℕ) (made : Vertex → Change) (bytes : List ℕ) (c : Change) (rest : List ℕ) : Type 0 where
  vertex : Vertex
  same : made vertex ≡ c
  takes : Takes (λ text. IsPointChange letter text vertex) (letter ∷ bytes) rest

point_read : (letter : ℕ) (made : Vertex → Change) (bytes : List ℕ) (c : Change) (rest : List ℕ)
    → (vertex_at bytes >>= by_point made) ≡ Some (c, rest) → PointRead letter made bytes c rest
point_read letter made bytes c rest e =
    let read = bind_some (vertex_at bytes) (by_point made) (c, rest) e in
    let same = some_pair_parts (made read.0.0) c read.0.1 rest read.2 in
    let found = vertex_takes bytes read.0.0 read.0.1 read.1 in
    record {
      vertex = read.0.0;
      same = same.0;
      takes = record {
        text = letter ∷ found.text;
        parts = ap (λ t. letter ∷ t) (found.parts ∙ ap (λ t. found.text ++ t) same.1);
        spelled = (found.text, refl, found.spelled);
      };
    }

none_change : (c : Change × List ℕ) → ◌≡◌ {A = Option (Change × List ℕ)} None (Some c) → ⊥
none_change c e = cc

-- "M", blanks and an axis
mirror_takes : (bytes gap : List ℕ) (c : Change) (rest : List ℕ) → AreBlanks gap → axis_at bytes ≡ Some (c, rest)
    → Takes (λ text. IsChange text c) (77 ∷ (gap ++ bytes)) rest
mirror_takes [] gap c rest blank e = absurd (none_change (c, rest) e)
mirror_takes (b ∷ bs) gap c rest blank e =
    elim (chosen_of (b == 88) _ _ (Some (c, rest)) e) [
      | inl x ↦ along 88 MirrorX (λ text h. h) (eqb-true b 88 x.0) x.1
      | inr other ↦ elim (chosen_of (b == 89) _ _ (Some (c, rest)) other.1) [
        | inl y ↦ along 89 MirrorY (λ text h. h) (eqb-true b 89 y.0) y.1
        | inr none ↦ absurd (none_change (c, rest) none.1)
      ]
    ]
  where
    along : (axis : ℕ) (made : Change) → ((text : List ℕ) → IsMirror axis text → IsChange text made) → b ≡ axis
        → ◌≡◌ {A = Option (Change × List ℕ)} (Some (made, bs)) (Some (c, rest))
        → Takes (λ text. IsChange text c) (77 ∷ (gap ++ (b ∷ bs))) rest
    along axis made spells letter read =
        let same = some_pair_parts made c bs rest read in
        record {
          text = 77 ∷ (gap ++ (axis ∷ []));
          parts = ap (λ t. 77 ∷ t) (ap (λ t. gap ++ t) (ap (λ l. l ∷ bs) letter ∙ ap (λ t. axis ∷ t) same.1)
              ∙ sym (append_assoc gap (axis ∷ []) rest));
          spelled = subst (λ (d : Change). IsChange (77 ∷ (gap ++ (axis ∷ []))) d) same.0
              (spells (77 ∷ (gap ++ (axis ∷ []))) (record { gap = gap; parts = refl; gap_blank = blank }));
        }

pub change_takes : (bytes : List ℕ) (c : Change) (rest : List ℕ) → change_at bytes ≡ Some (c, rest)
    → Takes (λ text. IsChange text c) bytes rest
unfolding change_at
change_takes [] c rest e = absurd (none_change (c, rest) e)
change_takes (b ∷ bs) c rest e =
    elim (chosen_of (b == 84) _ _ (Some (c, rest)) e) [
      | inl shift ↦
          let found = point_read 84 Shift bs c rest shift.1 in
          pointed 84 Shift (λ text v h. h) (eqb-true b 84 shift.0) found
      | inr no_shift ↦ elim (chosen_of (b == 77) _ _ (Some (c, rest)) no_shift.1) [
        | inl mirror ↦
            let gap = take_while is_blank bs in
            let found = mirror_takes (skip is_blank bs) gap c rest (list_all-take_while is_blank bs) mirror.1 in
            record {
              text = found.text;
              parts = ap (λ l. l ∷ bs) (eqb-true b 77 mirror.0) ∙ ap (λ t. 77 ∷ t) (taken_and_left is_blank bs) ∙ found.parts;
              spelled = found.spelled;
            }
        | inr no_mirror ↦ elim (chosen_of (b == 82) _ _ (Some (c, rest)) no_mirror.1) [
          | inl turn ↦
              let found = point_read 82 Direction bs c rest turn.1 in
              pointed 82 Direction (λ text v h. h) (eqb-true b 82 turn.0) found
          | inr none ↦ absurd (none_change (c, rest) none.1)
        ]
      ]
    ]
  where
    pointed : (letter : ℕ) (made : Vertex → Change) → ((text : List ℕ) (v : Vertex) → IsPointChange letter text v → IsChange text (made v))
        → b ≡ letter → PointRead letter made bs c rest → Takes (λ text. IsChange text c) (b ∷ bs) rest
    pointed letter made spells first found = record {
      text = found.takes.text;
      parts = ap (λ l. l ∷ bs) first ∙ found.takes.parts;
      spelled = subst (λ (d : Change). IsChange found.takes.text d) found.same
          (spells found.takes.text found.vertex found.takes.spelled);
    }

-- what spells a change begins with a letter, which is no blank and no digit
pub change_first : (text : List ℕ) (c : Change) → IsChange text c → (first : ℕ) × (more : List ℕ) × (text ≡ first ∷ more)
    × (is_blank first ≡ false) × (is_digit first ≡ false)
unfolding is_blank
change_first text (Shift v) h = (84, h.0, h.1, refl, refl)
change_first text MirrorX h = (77, h.gap ++ (88 ∷ []), h.parts, refl, refl)
change_first text MirrorY h = (77, h.gap ++ (89 ∷ []), h.parts, refl, refl)
change_first text (Direction v) h = (82, h.0, h.1, refl, refl)

letter_no_blank_x : is_blank 88 ≡ false
unfolding is_blank
letter_no_blank_x = refl

letter_no_blank_y : is_blank 89 ≡ false
unfolding is_blank
letter_no_blank_y = refl

pub change_again : (text rest : List ℕ) (c : Change) → IsChange text c → Stops is_digit rest → change_at (text ++ rest) ≡ Some (c, rest)
unfolding change_at
change_again text rest (Shift v) h stops =
    ap (λ t. change_at (t ++ rest)) h.1 ∙ ap (λ o. o >>= by_point Shift) (vertex_again h.0 rest v h.2 stops)
change_again text rest MirrorX h stops =
    ap (λ t. change_at (t ++ rest)) h.parts ∙ ap (λ t. axis_at (skip is_blank t)) (append_assoc h.gap (88 ∷ []) rest)
    ∙ ap axis_at (skip-front is_blank h.gap (88 ∷ rest) h.gap_blank letter_no_blank_x)
change_again text rest MirrorY h stops =
    ap (λ t. change_at (t ++ rest)) h.parts ∙ ap (λ t. axis_at (skip is_blank t)) (append_assoc h.gap (89 ∷ []) rest)
    ∙ ap axis_at (skip-front is_blank h.gap (89 ∷ rest) h.gap_blank letter_no_blank_y)
change_again text rest (Direction v) h stops =
    ap (λ t. change_at (t ++ rest)) h.1 ∙ ap (λ o. o >>= by_point Direction) (vertex_again h.0 rest v h.2 stops)

-- ---- changes

-- nothing but blanks is left where what is left behind blanks is nothing
blank_only : (bytes : List ℕ) → skip is_blank bytes ≡ [] → AreBlanks bytes
blank_only bytes e =
    let all : bytes ≡ take_while is_blank bytes = taken_and_left is_blank bytes ∙ ap (λ t. take_while is_blank bytes ++ t) e
    ∙ append-nil (take_while is_blank bytes) in
    ap (list_all is_blank) all ∙ list_all-take_while is_blank bytes

pub changes_takes : (steps : ℕ) (found : List Change) (bytes rest : List ℕ) (all : List Change) → skip is_blank bytes ≡ rest
    → changes_from steps found rest ≡ Some all → (cs : List Change) × (all ≡ found ++ cs) × AreCallChanges bytes cs
unfolding changes_from
changes_takes zero found bytes rest all left e = absurd cc
changes_takes (suc steps) found bytes [] all left e = ([], sym (same_Some found all e) ∙ sym (append-nil found), blank_only bytes left)
changes_takes (suc steps) found bytes (b ∷ bs) all left e =
    let read = bind_some (change_at (b ∷ bs)) _ all e in
    let next = change_takes (b ∷ bs) read.0.0 read.0.1 read.1 in
    let further = changes_takes steps (found ++ read.0.0 ∷ []) read.0.1 (skip is_blank read.0.1) all refl read.2 in (
      read.0.0 ∷ further.0,
      further.1 ∙ append_assoc found (read.0.0 ∷ []) further.0,
      (
        record {
          gap = take_while is_blank bytes;
          spelling = next.text;
          rest = read.0.1;
          parts = taken_and_left is_blank bytes ∙ ap (λ t. take_while is_blank bytes ++ t) (left ∙ next.parts);
          gap_blank = list_all-take_while is_blank bytes;
          spelled = next.spelled;
        },
        further.2,
      ),
    )

pub changes_stop : (text : List ℕ) (cs : List Change) → AreCallChanges text cs → Stops is_digit text
changes_stop text [] h = stops_all is_blank is_digit text blank_no_digit h
changes_stop text (c ∷ cs) h = rw h.0.parts (by_gap h.0.gap h.0.gap_blank) where
  by_gap : (gap : List ℕ) → AreBlanks gap → Stops is_digit (gap ++ (h.0.spelling ++ h.0.rest))
  by_gap [] blank =
      let first = change_first h.0.spelling c h.0.spelled in
      rw first.2 first.4
  by_gap (b ∷ bs) blank = stops_all is_blank is_digit (b ∷ bs) blank_no_digit blank

-- what is left of changes behind blanks
left_of : (text : List ℕ) (c : Change) (h : NextChange text c) → skip is_blank text ≡ h.spelling ++ h.rest
left_of text c h =
    let first = change_first h.spelling c h.spelled in
    let stops : Stops is_blank (h.spelling ++ h.rest) = rw first.2 first.3 in
    ap (skip is_blank) h.parts ∙ skip-front is_blank h.gap (h.spelling ++ h.rest) h.gap_blank stops

pub change_length : (bytes : List ℕ) (c : Change) (rest : List ℕ) → change_at bytes ≡ Some (c, rest) → length rest < length bytes
change_length bytes c rest e =
    let found = change_takes bytes c rest e in
    let first = change_first found.text c found.spelled in
    let spelled : length found.text ≡ suc (length first.1) = ap length first.2 in
    let whole : length bytes ≡ length found.text + length rest = ap length found.parts ∙ length-append found.text rest in
    omega arith

next_length : (text : List ℕ) (c : Change) (h : NextChange text c) → length h.rest < length text
next_length text c h =
    let first = change_first h.spelling c h.spelled in
    let spelled : length h.spelling ≡ suc (length first.1) = ap length first.2 in
    let whole : length text ≡ length h.gap + (length h.spelling + length h.rest) =
    ap length h.parts ∙ length-append h.gap (h.spelling ++ h.rest) ∙ ap (λ n. length h.gap + n) (length-append h.spelling h.rest) in
    omega arith

pub changes_again : (cs : List Change) (steps : ℕ) (found : List Change) (text : List ℕ) → AreCallChanges text cs → length text < steps
    → changes_from steps found (skip is_blank text) ≡ Some (found ++ cs)
unfolding changes_from
changes_again cs zero found text h enough = absurd (omega arith)
changes_again [] (suc steps) found text h enough =
    let left : skip is_blank text ≡ [] = ap (skip is_blank) (sym (append-nil text)) ∙ skip-front is_blank text [] h tt in
    rw left (ap (λ t. Some t) (sym (append-nil found)))
changes_again (c ∷ cs) (suc steps) found text h enough =
    let shorter = next_length text c h.0 in
    let first = change_first h.0.spelling c h.0.spelled in
    let begins : skip is_blank text ≡ first.0 ∷ (first.1 ++ h.0.rest) =
    left_of text c h.0 ∙ ap (λ t. t ++ h.0.rest) first.2 in
    let read : change_at (first.0 ∷ (first.1 ++ h.0.rest)) ≡ Some (c, h.0.rest) =
    ap (λ t. change_at (t ++ h.0.rest)) (sym first.2) ∙ change_again h.0.spelling h.0.rest c h.0.spelled (changes_stop h.0.rest cs h.1) in
    rw (begins, read)
    (changes_again cs steps (found ++ c ∷ []) h.0.rest h.1 (omega arith) ∙ ap (λ t. Some t) (append_assoc found (c ∷ []) cs))

-- ---- calls

pub call_takes : (bytes : List ℕ) (d : Command) → call_of bytes ≡ Some d → Spells (67 ∷ bytes) d
unfolding call_of changes_of
call_takes bytes d e =
    let symbol = bind_some (integer_at bytes) _ d e in
    let changes = bind_some (changes_of symbol.0.1) _ d symbol.2 in
    let same : Call symbol.0.0 changes.0 ≡ d = same_Some (Call symbol.0.0 changes.0) d changes.2 in
    let front = integer_takes bytes symbol.0.0 symbol.0.1 symbol.1 in
    let read = changes_takes (length symbol.0.1 + 1) [] symbol.0.1 (skip is_blank symbol.0.1) changes.0 refl changes.1 in
    subst (λ (x : Command). Spells (67 ∷ bytes) x) same (record {
      symbol_text = front.text;
      rest = symbol.0.1;
      parts = ap (λ t. 67 ∷ t) front.parts;
      symbol_is = front.spelled;
      changed = subst (λ (cs : List Change). AreCallChanges symbol.0.1 cs) (sym read.1) read.2;
    })

pub call_again : (text : List ℕ) (symbol : ℕ) (cs : List Change) (h : IsCall text symbol cs)
    → call_of (h.symbol_text ++ h.rest) ≡ Some (Call symbol cs)
unfolding call_of changes_of
call_again text symbol cs h =
    rw (
      integer_again h.symbol_text h.rest symbol h.symbol_is (changes_stop h.rest cs h.changed),
      changes_again cs (length h.rest + 1) [] h.rest h.changed (omega arith),
    ) refl
