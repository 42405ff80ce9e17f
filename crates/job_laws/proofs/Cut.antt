-- Bytes are cut into lines and words as they are made of them.
use Rattle.std.proofs.Common.{◌≡◌, ℕ, ◌≤◌, Bool, true, false, List, [], ◌∷◌, ◌++◌, length, refl, sym, ap, ◌∙◌, arith, append-nil}
use Rattle.std.proofs.Common.{inl, inr}
use Rattle.std.specs.Prelude.{◌⊎◌, ◌==◌, not, if◌then◌else◌}
use Rattle.std.specs.List.{list_all}
use Rattle.std.proofs.lemmas.Bool.{and_from, and_parts, not-true}
use Rattle.std.proofs.lemmas.Bool.Decides.{nat_tests}
use Rattle.byte_io.specs.Lines.{in_front, lines}
use Rattle.byte_io.proofs.LineLemmas.{lines-other}
use Rattle.job_text.specs.Steps.{Word}
use Rattle.job_text.specs.Words.{is_word_end, is_word_separator, words}
use Rattle.job_text.proofs.WordLemmas.{in_word, words-in_word, words-separator}
use Rattle.job_laws.specs.Cuts.{AreLines, AreWords, is_line_byte, is_of_word}

-- ---- lines

line_first : (said rest : List ℕ) → list_all is_line_byte said ≡ true → lines ((said ++ 10 ∷ []) ++ rest) ≡ (said ++ 10 ∷ []) ∷ lines rest
line_first [] rest all = refl
line_first (b ∷ said) rest all =
    let parts = and_parts (is_line_byte b) (list_all is_line_byte said) all in
    lines-other b ((said ++ 10 ∷ []) ++ rest) (not-true (b == 10) parts.0) ∙ ap (in_front b) (line_first said rest parts.1)

line_last : (said : List ℕ) → list_all is_line_byte said ≡ true → 1 ≤ length said → lines said ≡ said ∷ []
line_last [] all some = absurd (omega (arith, some))
line_last (b ∷ []) all some = lines-other b [] (not-true (b == 10) (and_parts (is_line_byte b) true all).0)
line_last (b ∷ c ∷ said) all some =
    let parts = and_parts (is_line_byte b) (list_all is_line_byte (c ∷ said)) all in
    lines-other b (c ∷ said) (not-true (b == 10) parts.0) ∙ ap (in_front b) (line_last (c ∷ said) parts.1 (omega arith))

cut_first : (bytes line said rest : List ℕ) → bytes ≡ line ++ rest → list_all is_line_byte said ≡ true →
    (line ≡ said ++ 10 ∷ []) ⊎ ((line ≡ said) × (1 ≤ length said) × (rest ≡ [])) → lines bytes ≡ line ∷ lines rest
cut_first bytes line said rest parts whole (inl ended) =
    ap lines parts ∙ ap (λ l. lines (l ++ rest)) ended ∙ line_first said rest whole ∙ ap (λ l. l ∷ lines rest) (sym ended)
cut_first bytes line said rest parts whole (inr last) =
    ap lines parts ∙ ap (λ l. lines (line ++ l)) last.2 ∙ ap lines (append-nil line) ∙ ap lines last.0
    ∙ line_last said whole last.1 ∙ ap (λ l. l ∷ []) (sym last.0) ∙ ap (λ l. line ∷ lines l) (sym last.2)

pub lines_same : (all : List (List ℕ)) (bytes : List ℕ) → AreLines bytes all → all ≡ lines bytes
lines_same [] bytes are = sym (ap lines are)
lines_same (line ∷ more) bytes are =
    let first = are.0 in
    ap (λ l. line ∷ l) (lines_same more first.rest are.1)
    ∙ sym (cut_first bytes line first.said first.rest first.parts first.whole first.ended)

-- a byte before the first line, which is no newline
longer_line : (b : ℕ) (line said rest : List ℕ) → (line ≡ said ++ 10 ∷ []) ⊎ ((line ≡ said) × (1 ≤ length said) × (rest ≡ [])) →
    (b ∷ line ≡ b ∷ (said ++ 10 ∷ [])) ⊎ ((b ∷ line ≡ b ∷ said) × (1 ≤ length (b ∷ said)) × (rest ≡ []))
longer_line b line said rest (inl ended) = inl (ap (λ l. b ∷ l) ended)
longer_line b line said rest (inr last) = inr (ap (λ l. b ∷ l) last.0, omega arith, last.2)

in_front_of : (b : ℕ) (bytes : List ℕ) (all : List (List ℕ)) → is_line_byte b ≡ true → AreLines bytes all →
    AreLines (b ∷ bytes) (in_front b all)
in_front_of b bytes [] inside are = (
  record {
    said = b ∷ [];
    rest = [];
    parts = ap (λ l. b ∷ l) are;
    whole = and_from (is_line_byte b) true inside refl;
    ended = inr (refl, omega arith, refl);
  },
  refl,
)
in_front_of b bytes (line ∷ more) inside are =
    let first = are.0 in (
      record {
        said = b ∷ first.said;
        rest = first.rest;
        parts = ap (λ l. b ∷ l) first.parts;
        whole = and_from (is_line_byte b) (list_all is_line_byte first.said) inside first.whole;
        ended = longer_line b line first.said first.rest first.ended;
      },
      are.1,
    )

newline_is : (b : ℕ) → (b == 10) ≡ true → b ≡ 10
newline_is b e = grind (arith, nat_tests)

by_newline : (b : ℕ) (bytes : List ℕ) (t : Bool) → (b == 10) ≡ t → AreLines bytes (lines bytes) →
    AreLines (b ∷ bytes) (if t then (b ∷ []) ∷ lines bytes else in_front b (lines bytes))
by_newline b bytes true e are =
    (record { said = []; rest = bytes; parts = refl; whole = refl; ended = inl (ap (λ c. c ∷ []) (newline_is b e)) }, are)
by_newline b bytes false e are = in_front_of b bytes (lines bytes) (ap not e) are

pub lines_are : (bytes : List ℕ) → AreLines bytes (lines bytes)
lines_are [] = refl
lines_are (b ∷ bytes) = by_newline b bytes (b == 10) refl (lines_are bytes)

-- ---- words

gap_first : (gap rest : List ℕ) → list_all is_word_separator gap ≡ true → words (gap ++ rest) ≡ words rest
gap_first [] rest all = refl
gap_first (b ∷ gap) rest all =
    let parts = and_parts (is_word_separator b) (list_all is_word_separator gap) all in
    words-separator b (gap ++ rest) parts.0 ∙ gap_first gap rest parts.1

word_first : (b : ℕ) (word rest : List ℕ) → list_all is_of_word (b ∷ word) ≡ true → is_word_end rest ≡ true →
    words ((b ∷ word) ++ rest) ≡ (b ∷ word) ∷ words rest
word_first b [] rest all ends =
    words-in_word b rest (not-true (is_word_separator b) (and_parts (is_of_word b) true all).0)
    ∙ ap (λ t. if t then (b ∷ []) ∷ words rest else in_front b (words rest)) ends
word_first b (c ∷ word) rest all ends =
    let parts = and_parts (is_of_word b) (list_all is_of_word (c ∷ word)) all in
    let next = not-true (is_word_separator c) (and_parts (is_of_word c) (list_all is_of_word word) parts.1).0 in
    words-in_word b ((c ∷ word) ++ rest) (not-true (is_word_separator b) parts.0)
    ∙ ap (λ t. if t then (b ∷ []) ∷ words ((c ∷ word) ++ rest) else in_front b (words ((c ∷ word) ++ rest))) next
    ∙ ap (in_front b) (word_first c word rest parts.1 ends)

some_word : (word rest : List ℕ) → 1 ≤ length word → list_all is_of_word word ≡ true → is_word_end rest ≡ true →
    words (word ++ rest) ≡ word ∷ words rest
some_word [] rest some all ends = absurd (omega (arith, some))
some_word (b ∷ word) rest some all ends = word_first b word rest all ends

none_left : (bytes : List ℕ) → list_all is_word_separator bytes ≡ true → words bytes ≡ []
none_left bytes all = ap words (sym (append-nil bytes)) ∙ gap_first bytes [] all

pub words_same : (all : List Word) (bytes : List ℕ) → AreWords bytes all → all ≡ words bytes
words_same [] bytes are = sym (none_left bytes are)
words_same (word ∷ more) bytes are =
    let first = are.0 in
    ap (λ l. word ∷ l) (words_same more first.rest are.1)
    ∙ sym (
    ap words first.parts ∙ gap_first first.gap (word ++ first.rest) first.blank
    ∙ some_word word first.rest first.some first.whole first.ends
    )

-- a space or a tab before the words
gap_more : (b : ℕ) (bytes : List ℕ) (all : List Word) → is_word_separator b ≡ true → AreWords bytes all → AreWords (b ∷ bytes) all
gap_more b bytes [] e are = and_from (is_word_separator b) (list_all is_word_separator bytes) e are
gap_more b bytes (word ∷ more) e are =
    let first = are.0 in (
      record {
        gap = b ∷ first.gap;
        rest = first.rest;
        parts = ap (λ l. b ∷ l) first.parts;
        blank = and_from (is_word_separator b) (list_all is_word_separator first.gap) e first.blank;
        some = first.some;
        whole = first.whole;
        ends = first.ends;
      },
      are.1,
    )

-- a word of one byte
new_word : (b : ℕ) (bytes : List ℕ) (all : List Word) → is_of_word b ≡ true → is_word_end bytes ≡ true → AreWords bytes all →
    AreWords (b ∷ bytes) ((b ∷ []) ∷ all)
new_word b bytes all e ends are = (
  record {
    gap = [];
    rest = bytes;
    parts = refl;
    blank = refl;
    some = omega arith;
    whole = and_from (is_of_word b) true e refl;
    ends = ends;
  },
  are,
)

all_between : (bytes : List ℕ) → list_all is_word_separator bytes ≡ true → is_word_end bytes ≡ true
all_between [] all = refl
all_between (b ∷ bytes) all = (and_parts (is_word_separator b) (list_all is_word_separator bytes) all).0

-- where a word begins at once, there is no gap
no_gap : (bytes gap rest : List ℕ) → is_word_end bytes ≡ false → bytes ≡ gap ++ rest → list_all is_word_separator gap ≡ true → gap ≡ []
no_gap bytes [] rest between parts blank = refl
no_gap bytes (b ∷ gap) rest between parts blank =
    let first : is_word_end bytes ≡ is_word_separator b = ap is_word_end parts in
    let sep : is_word_separator b ≡ true = (and_parts (is_word_separator b) (list_all is_word_separator gap) blank).0 in
    absurd (cc)

word_more : (b : ℕ) (bytes : List ℕ) (all : List Word) → is_of_word b ≡ true → is_word_end bytes ≡ false → AreWords bytes all →
    AreWords (b ∷ bytes) (in_front b all)
word_more b bytes [] e between are =
    let other = all_between bytes are in
    absurd (cc)
word_more b bytes (word ∷ more) e between are =
    let first = are.0 in
    let none = no_gap bytes first.gap (word ++ first.rest) between first.parts first.blank in (
      record {
        gap = [];
        rest = first.rest;
        parts = ap (λ l. b ∷ l) (first.parts ∙ ap (λ g. g ++ (word ++ first.rest)) none);
        blank = refl;
        some = omega arith;
        whole = and_from (is_of_word b) (list_all is_of_word word) e first.whole;
        ends = first.ends;
      },
      are.1,
    )

by_between : (b : ℕ) (bytes : List ℕ) (t : Bool) → is_word_separator b ≡ false → is_word_end bytes ≡ t → AreWords bytes (words bytes) →
    AreWords (b ∷ bytes) (if t then (b ∷ []) ∷ words bytes else in_front b (words bytes))
by_between b bytes true e between are = new_word b bytes (words bytes) (ap not e) between are
by_between b bytes false e between are = word_more b bytes (words bytes) (ap not e) between are

by_separator : (b : ℕ) (bytes : List ℕ) (t : Bool) → is_word_separator b ≡ t → AreWords bytes (words bytes) →
    AreWords (b ∷ bytes) (if t then words bytes else in_word b bytes)
by_separator b bytes true e are = gap_more b bytes (words bytes) e are
by_separator b bytes false e are = by_between b bytes (is_word_end bytes) e refl are

pub words_are : (bytes : List ℕ) → AreWords bytes (words bytes)
words_are [] = refl
words_are (b ∷ bytes) = by_separator b bytes (is_word_separator b) refl (words_are bytes)
