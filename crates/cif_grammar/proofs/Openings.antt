-- What spells a command begins with no gap and no `E`, and the cut finds its end.
use Rattle.std.proofs.Common.{◌≡◌, ℕ, suc, ◌+◌, Bool, true, false, List, [], ◌∷◌, ◌++◌, length, Option, Some, None, refl, sym, ap, ◌∙◌}
use Rattle.std.proofs.Common.{append_assoc, arith, inl, inr}
use Rattle.std.specs.Prelude.{◌==◌, ◌||◌, not}
use Rattle.std.specs.List.{list_all}
use Rattle.std.proofs.lemmas.Bool.{and_from, and_parts}
use Rattle.std.proofs.lemmas.Bool.Decides.{nat_tests}
use Rattle.std.proofs.lemmas.List.{length-append}
use Rattle.std.proofs.lemmas.List.Folds.{list_all-append}
use Rattle.lay_point.specs.Names.{is_digit, is_name_byte}
use Rattle.lay_point.proofs.NumberLaws.{suc_zero}
use Rattle.cif_grammar.specs.declared.number.Number.{Number}
use Rattle.cif_grammar.specs.Bytes.{is_blank, is_gap, is_mark, is_separator}
use Rattle.cif_grammar.specs.ScanGrammar.{IsInteger, IsSigned, sign}
use Rattle.cif_grammar.proofs.ByteClasses.{blank_plain, digit_plain, is_plain, letter_no_gap, name_byte_plain, separator_plain}
use Rattle.cif_grammar.specs.declared.calls.Change.{Change}
use Rattle.cif_grammar.specs.declared.calls.Change.TheVariants.{Direction, MirrorX, MirrorY, Shift}
use Rattle.cif_grammar.specs.declared.definitions.Scale.{Scale}
use Rattle.cif_grammar.specs.declared.paths.Vertex.{Vertex}
use Rattle.cif_grammar.specs.Commands.{Box, Call, Command, Comment, Extension, Finish, Layer, Polygon, Start}
use Rattle.cif_grammar.specs.Cutting.{command_len, next_depth, semicolon_from}
use Rattle.cif_grammar.specs.Grammar.{AreBlanks, AreCallChanges, AreVertices, IsChange}
use Rattle.cif_grammar.specs.Grammar.{IsComment, IsDirection, IsScale, IsVertex, IsWrittenScale}
use Rattle.cif_grammar.specs.Grammar.{Matched, NextVertex, Spells, byte, is_free, matched_text, nothing, within}
use Rattle.cif_grammar.proofs.CutGrammar.{plain_found}
use Rattle.cif_grammar.proofs.CommentGrammar.{free_byte}

pub record Opening (text : List ℕ) : Type 0 where
  pub first : ℕ
  pub more : List ℕ
  pub parts : text ≡ first ∷ more
  pub no_gap : is_gap first ≡ false
  pub no_end : (first == 69) ≡ false
  pub len : (rest : List ℕ) → command_len (text ++ (59 ∷ rest)) ≡ Some (length text)

-- ---- bytes without a semicolon

abbrev ArePlain : List ℕ → Type 0
ArePlain bytes = list_all is_plain bytes ≡ true

all_plain : (passes : ℕ → Bool) (bytes : List ℕ) → ((b : ℕ) → passes b ≡ true → is_plain b ≡ true) → list_all passes bytes ≡ true
    → ArePlain bytes
all_plain passes [] plain h = refl
all_plain passes (b ∷ bs) plain h =
    let parts = and_parts (passes b) (list_all passes bs) h in
    and_from (is_plain b) (list_all is_plain bs) (plain b parts.0) (all_plain passes bs plain parts.1)

blanks_plain : (bytes : List ℕ) → AreBlanks bytes → ArePlain bytes
blanks_plain bytes h = all_plain is_blank bytes blank_plain h

joined_plain : (xs ys : List ℕ) → ArePlain xs → ArePlain ys → ArePlain (xs ++ ys)
joined_plain xs ys h k = rw (list_all-append, h, k) refl

separated_plain : (b : ℕ) (bs : List ℕ) → is_separator b ≡ true → ArePlain bs → ArePlain (b ∷ bs)
separated_plain b bs h k = and_from (is_plain b) (list_all is_plain bs) (separator_plain b h) k

integer_plain : (text : List ℕ) (n : ℕ) → IsInteger text n → ArePlain text
integer_plain text n h =
    rw h.parts (joined_plain h.front h.digits (all_plain is_separator h.front separator_plain h.separators)
    (all_plain is_digit h.digits digit_plain h.spelled.digits))

sign_plain : (negative : Bool) → ArePlain (sign negative)
sign_plain true = refl
sign_plain false = refl

signed_plain : (text : List ℕ) (n : Number) → IsSigned text n → ArePlain text
signed_plain text n h =
    let number = joined_plain (sign n.negative) h.digits (sign_plain n.negative)
    (all_plain is_digit h.digits digit_plain h.spelled.digits) in
    rw h.parts (joined_plain h.front (sign n.negative ++ h.digits) (all_plain is_separator h.front separator_plain h.separators) number)

vertex_plain : (text : List ℕ) (v : Vertex) → IsVertex text v → ArePlain text
vertex_plain text v h =
    rw h.parts (joined_plain h.x_text (h.separator ∷ h.y_text) (signed_plain h.x_text v.x h.x_is)
    (separated_plain h.separator h.y_text h.separated (signed_plain h.y_text v.y h.y_is)))

next_plain : (text : List ℕ) (v : Vertex) (h : NextVertex text v) → ArePlain h.rest → ArePlain text
next_plain text v h k =
    rw h.parts (separated_plain h.separator (h.spelling ++ h.rest) h.separated
    (joined_plain h.spelling h.rest (vertex_plain h.spelling v h.spelled) k))

vertices_plain : (text : List ℕ) (vs : List Vertex) → AreVertices text vs → ArePlain text
vertices_plain text [] h = blanks_plain text h
vertices_plain text (v ∷ vs) h = next_plain text v h.0 (vertices_plain h.0.rest vs h.1)

direction_plain : (text : List ℕ) (d : Option Vertex) → IsDirection text d → ArePlain text
direction_plain text None h = blanks_plain text h
direction_plain text (Some v) h = next_plain text v h.0 (blanks_plain h.0.rest h.1)

written_plain : (text : List ℕ) (s : Scale) → IsWrittenScale text s → ArePlain text
written_plain text s h =
    let denominator = joined_plain h.denominator_text h.behind (integer_plain h.denominator_text s.denominator h.denominator_is)
    (blanks_plain h.behind h.behind_blank) in
    let numerator = joined_plain h.numerator_text (h.before_denominator ∷ (h.denominator_text ++ h.behind))
    (integer_plain h.numerator_text s.numerator h.numerator_is)
    (separated_plain h.before_denominator (h.denominator_text ++ h.behind) h.denominator_separated denominator) in
    rw h.parts (separated_plain h.before_numerator (h.numerator_text ++ (h.before_denominator ∷ (h.denominator_text ++ h.behind)))
    h.numerator_separated numerator)

scale_plain : (text : List ℕ) (s : Scale) → IsScale text s → ArePlain text
scale_plain text s (inl none) = blanks_plain text none.0
scale_plain text s (inr written) = written_plain text s written

change_plain : (text : List ℕ) (c : Change) → IsChange text c → ArePlain text
change_plain text (Shift v) h = rw h.1 (vertex_plain h.0 v h.2)
change_plain text MirrorX h = rw h.parts (joined_plain h.gap (88 ∷ []) (blanks_plain h.gap h.gap_blank) refl)
change_plain text MirrorY h = rw h.parts (joined_plain h.gap (89 ∷ []) (blanks_plain h.gap h.gap_blank) refl)
change_plain text (Direction v) h = rw h.1 (vertex_plain h.0 v h.2)

changes_plain : (text : List ℕ) (cs : List Change) → AreCallChanges text cs → ArePlain text
changes_plain text [] h = blanks_plain text h
changes_plain text (c ∷ cs) h =
    rw h.0.parts (joined_plain h.0.gap (h.0.spelling ++ h.0.rest) (blanks_plain h.0.gap h.0.gap_blank)
    (joined_plain h.0.spelling h.0.rest (change_plain h.0.spelling c h.0.spelled) (changes_plain h.0.rest cs h.1)))

-- ---- commands but comments

plain_opening : (text more : List ℕ) (first : ℕ) → text ≡ first ∷ more → is_gap first ≡ false → (first == 69) ≡ false
    → (first == 40) ≡ false → ArePlain more → Opening text
unfolding command_len
plain_opening text more first parts no_gap no_end no_comment plain = record {
  first = first;
  more = more;
  parts = parts;
  no_gap = no_gap;
  no_end = no_end;
  len = λ rest.
      let found : command_len (first ∷ (more ++ (59 ∷ rest))) ≡ Some (1 + length more) = rw no_comment (plain_found 1 more rest plain) in
      let same : 1 + length more ≡ length text = sym (ap length parts ∙ omega arith) in
      ap (λ t. command_len (t ++ (59 ∷ rest))) parts ∙ found ∙ ap (λ n. Some n) same;
}

digit_no_gap : (b : ℕ) → is_digit b ≡ true → is_gap b ≡ false
unfolding is_gap is_blank is_mark
digit_no_gap b h = grind (arith, nat_tests)

digit_no_end : (b : ℕ) → is_digit b ≡ true → (b == 69) ≡ false
digit_no_end b h = grind (arith, nat_tests)

digit_no_comment : (b : ℕ) → is_digit b ≡ true → (b == 40) ≡ false
digit_no_comment b h = grind (arith, nat_tests)

-- ---- comments

deep_step : (place depth b : ℕ) (bs : List ℕ)
    → semicolon_from place (suc depth) (b ∷ bs) ≡ semicolon_from (place + 1) (next_depth (suc depth) b) bs
unfolding semicolon_from
deep_step place depth b bs = rw (suc_zero depth) refl

-- matched text inside parentheses is passed
inside_passed : (m : Matched) (place depth : ℕ) (bs : List ℕ) → is_free m ≡ true
    → semicolon_from place (suc depth) (matched_text m ++ bs) ≡ semicolon_from (place + length (matched_text m)) (suc depth) bs
inside_passed nothing place depth bs free = ap (λ n. semicolon_from n (suc depth) bs) (omega arith)
inside_passed (byte b more) place depth bs free =
    let parts = and_parts (not (b == 40 || b == 41)) (is_free more) free in
    let other = free_byte b parts.0 in
    let same : next_depth (suc depth) b ≡ suc depth = rw (other.1, other.0) refl in
    let count : place + 1 + length (matched_text more) ≡ place + length (b ∷ matched_text more) = omega arith in
    deep_step place depth b (matched_text more ++ bs) ∙ ap (λ d. semicolon_from (place + 1) d (matched_text more ++ bs)) same
    ∙ inside_passed more (place + 1) depth bs parts.1 ∙ ap (λ n. semicolon_from n (suc depth) bs) count
inside_passed (within inner more) place depth bs free =
    let parts = and_parts (is_free inner) (is_free more) free in
    let behind = matched_text more ++ bs in
    let place' = place + 1 + length (matched_text inner) in
    let whole : length (matched_text (within inner more)) ≡ suc (length (matched_text inner) + suc (length (matched_text more))) =
    ap suc (length-append (matched_text inner) (41 ∷ matched_text more)) in
    let count : place' + 1 + length (matched_text more) ≡ place + length (matched_text (within inner more)) = omega (arith, whole) in
    deep_step place depth 40 ((matched_text inner ++ (41 ∷ matched_text more)) ++ bs)
    ∙ ap (semicolon_from (place + 1) (suc (suc depth))) (append_assoc (matched_text inner) (41 ∷ matched_text more) bs)
    ∙ inside_passed inner (place + 1) (suc depth) (41 ∷ behind) parts.0 ∙ deep_step place' (suc depth) 41 behind
    ∙ inside_passed more (place' + 1) depth bs parts.1 ∙ ap (λ n. semicolon_from n (suc depth) bs) count

comment_opening : (text : List ℕ) → IsComment text → Opening text
unfolding command_len is_gap is_blank is_mark
comment_opening text h = record {
  first = 40;
  more = matched_text h.inside ++ (41 ∷ h.behind);
  parts = h.parts;
  no_gap = refl;
  no_end = refl;
  len = λ rest.
      let inner = matched_text h.inside in
      let place = 1 + length inner in
      let behind = h.behind ++ (59 ∷ rest) in
      let passed : semicolon_from 1 1 ((inner ++ (41 ∷ h.behind)) ++ (59 ∷ rest)) ≡ semicolon_from place 1 (41 ∷ behind) =
      ap (semicolon_from 1 1) (append_assoc inner (41 ∷ h.behind) (59 ∷ rest)) ∙ inside_passed h.inside 1 0 (41 ∷ behind) h.free in
      let found = plain_found (place + 1) h.behind rest (blanks_plain h.behind h.behind_blank) in
      let whole : length (inner ++ (41 ∷ h.behind)) ≡ length inner + suc (length h.behind) = length-append inner (41 ∷ h.behind) in
      let same : place + 1 + length h.behind ≡ length text = omega (arith, ap length h.parts, whole) in
      ap (λ t. command_len (t ++ (59 ∷ rest))) h.parts ∙ passed ∙ deep_step place 0 41 behind ∙ found ∙ ap (λ n. Some n) same;
}

pub opening : (text : List ℕ) (c : Command) → Spells text c → Opening text
opening text (Polygon []) h = absurd h
opening text (Polygon (v ∷ vs)) h =
    plain_opening text (h.spelling ++ h.rest) 80 h.parts (letter_no_gap 80 refl) refl refl
    (joined_plain h.spelling h.rest (vertex_plain h.spelling v h.spelled) (vertices_plain h.rest vs h.further))
opening text (Box b) h =
    let rest = next_plain h.rest b.centre h.centre (direction_plain h.centre.rest b.direction h.direction) in
    let width = joined_plain h.width_text h.rest (integer_plain h.width_text b.width h.width_is) rest in
    plain_opening text (h.length_text ++ (h.before_width ∷ (h.width_text ++ h.rest))) 66 h.parts (letter_no_gap 66 refl) refl refl
    (joined_plain h.length_text (h.before_width ∷ (h.width_text ++ h.rest)) (integer_plain h.length_text b.length h.length_is)
    (separated_plain h.before_width (h.width_text ++ h.rest) h.width_separated width))
opening text (Layer name) h =
    plain_opening text (h.front ++ (name ++ h.behind)) 76 h.parts (letter_no_gap 76 refl) refl refl
    (joined_plain h.front (name ++ h.behind) (blanks_plain h.front h.front_blank)
    (joined_plain name h.behind (all_plain is_name_byte name name_byte_plain h.name_bytes) (blanks_plain h.behind h.behind_blank)))
opening text (Start d) h =
    plain_opening text (h.gap ++ (83 ∷ (h.symbol_text ++ h.rest))) 68 h.parts (letter_no_gap 68 refl) refl refl
    (joined_plain h.gap (83 ∷ (h.symbol_text ++ h.rest)) (blanks_plain h.gap h.gap_blank)
    (joined_plain (83 ∷ h.symbol_text) h.rest (joined_plain (83 ∷ []) h.symbol_text refl (integer_plain h.symbol_text d.symbol h.symbol_is))
    (scale_plain h.rest d.scale h.scale_is)))
opening text Finish h =
    plain_opening text (h.gap ++ (70 ∷ h.behind)) 68 h.parts (letter_no_gap 68 refl) refl refl
    (joined_plain h.gap (70 ∷ h.behind) (blanks_plain h.gap h.gap_blank)
    (joined_plain (70 ∷ []) h.behind refl (blanks_plain h.behind h.behind_blank)))
opening text (Call symbol cs) h =
    plain_opening text (h.symbol_text ++ h.rest) 67 h.parts (letter_no_gap 67 refl) refl refl
    (joined_plain h.symbol_text h.rest (integer_plain h.symbol_text symbol h.symbol_is) (changes_plain h.rest cs h.changed))
opening text Extension h =
    plain_opening text h.rest h.digit h.parts (digit_no_gap h.digit h.begins) (digit_no_end h.digit h.begins)
    (digit_no_comment h.digit h.begins) h.plain
opening text Comment h = comment_opening text h
