-- Words with spaces between them are read as these words.
use Rattle.std.proofs.Common.{◌≡◌, ℕ, zero, suc, ◌-◌, ◌≤◌, ◌<◌, Bool, true, false, List, [], ◌∷◌, ◌++◌, length, refl, sym, ap, ◌∙◌, arith}
use Rattle.std.specs.Prelude.{◌&&◌, ◌==◌, nat_lt, slice_index, take, if◌then◌else◌}
use Rattle.std.specs.List.{AllByRecursion, list_all}
use Rattle.std.proofs.Math.Seq.{take-append_seam}
use Rattle.std.proofs.lemmas.Bool.{and_parts}
use Rattle.std.proofs.lemmas.Bool.Decides.{nat_tests}
use Rattle.std.proofs.lemmas.List.{length-append}
use Rattle.std.proofs.lemmas.List.Folds.{list_all-append}
use Rattle.byte_io.specs.Lines.{content, ends_with, in_front, without_last}
use Rattle.job_text.specs.Steps.{Word}
use Rattle.job_text.specs.Words.{is_word_end, is_word_separator, words, words_of}
use Rattle.job_text.proofs.WordLemmas.{in_word, words-in_word}
use Rattle.job_laws.specs.Written.{line_of, spaced_words}

-- a byte that prints and isn't a space, or lies beyond ASCII
abbrev pub is_plain : ℕ → Bool
is_plain b = nat_lt 32 b

-- a byte or more, and all of them plain
pub record IsWord (word : Word) : Type 0 where
  pub some : 1 ≤ length word
  pub plain : list_all is_plain word ≡ true

plain_no_separator : (b : ℕ) → is_plain b ≡ true → is_word_separator b ≡ false
plain_no_separator b h = grind (arith, nat_tests)

words-plain : (b : ℕ) (line : List ℕ) → is_plain b ≡ true → words (b ∷ line) ≡ in_word b line
words-plain b line h = words-in_word b line (plain_no_separator b h)

-- a word, where nothing of it follows
word_first : (b : ℕ) (word rest : List ℕ) → list_all is_plain (b ∷ word) ≡ true → is_word_end rest ≡ true →
    words ((b ∷ word) ++ rest) ≡ (b ∷ word) ∷ words rest
word_first b [] rest h ends =
    words-plain b rest (and_parts (is_plain b) true h).0 ∙ ap (λ t. if t then (b ∷ []) ∷ words rest else in_front b (words rest)) ends
word_first b (c ∷ word) rest h ends =
    let parts = and_parts (is_plain b) (list_all is_plain (c ∷ word)) h in
    let more = word_first c word rest parts.1 ends in
    let other : is_word_separator c ≡ false = plain_no_separator c (and_parts (is_plain c) (list_all is_plain word) parts.1).0 in
    words-plain b ((c ∷ word) ++ rest) parts.0
    ∙ ap (λ t. if t then (b ∷ []) ∷ words ((c ∷ word) ++ rest) else in_front b (words ((c ∷ word) ++ rest))) other
    ∙ ap (in_front b) more

word_then : (word rest : List ℕ) → IsWord word → is_word_end rest ≡ true → words (word ++ rest) ≡ word ∷ words rest
word_then [] rest is ends = absurd (omega (arith, is.some))
word_then (b ∷ word) rest is ends = word_first b word rest is.plain ends

no_more : (word : Word) → IsWord word → words word ≡ word ∷ []
no_more word is = ap words (sym (no_rest word)) ∙ word_then word [] is refl where
  no_rest : (xs : List ℕ) → xs ++ [] ≡ xs
  no_rest [] = refl
  no_rest (x ∷ xs) = ap (λ l. x ∷ l) (no_rest xs)

-- the words of what is joined
pub words-spaced_words : (ws : List Word) → AllByRecursion IsWord ws → words (spaced_words ws) ≡ ws
words-spaced_words [] all = refl
words-spaced_words (w ∷ []) all = no_more w all.0
words-spaced_words (w ∷ v ∷ ws) all = word_then w (32 ∷ spaced_words (v ∷ ws)) all.0 refl
    ∙ ap (λ l. w ∷ l) (words-spaced_words (v ∷ ws) all.1)

-- all bytes are a space or greater
abbrev is_high : ℕ → Bool
is_high b = nat_lt 31 b

high_byte : (b : ℕ) → is_plain b ≡ true → is_high b ≡ true
high_byte b h = grind (arith, nat_tests)

high_word : (word : List ℕ) → list_all is_plain word ≡ true → list_all is_high word ≡ true
high_word [] h = refl
high_word (b ∷ word) h =
    let parts = and_parts (is_plain b) (list_all is_plain word) h in
    rw (high_byte b parts.0, high_word word parts.1) refl

high_joined : (ws : List Word) → AllByRecursion IsWord ws → list_all is_high (spaced_words ws) ≡ true
high_joined [] all = refl
high_joined (w ∷ []) all = high_word w all.0.plain
high_joined (w ∷ v ∷ ws) all =
    list_all-append is_high w (32 ∷ spaced_words (v ∷ ws))
    ∙ rw (high_word w all.0.plain, high_joined (v ∷ ws) all.1) refl

high_at : (bytes : List ℕ) (i : ℕ) → list_all is_high bytes ≡ true → i < length bytes → is_high (slice_index bytes i) ≡ true
high_at [] i h inside = absurd (omega (arith, inside))
high_at (b ∷ bytes) zero h inside = (and_parts (is_high b) (list_all is_high bytes) h).0
high_at (b ∷ bytes) (suc i) h inside = high_at bytes i (and_parts (is_high b) (list_all is_high bytes) h).1 (omega (arith, inside))

no_return : (b : ℕ) → is_high b ≡ true → (b == 13) ≡ false
no_return b h = grind (arith, nat_tests)

-- what has no carriage return keeps its end
without-return : (bytes : List ℕ) → list_all is_high bytes ≡ true → ends_with 13 bytes ≡ false
without-return [] h = refl
without-return (b ∷ bytes) h =
    let last : is_high (slice_index (b ∷ bytes) (length (b ∷ bytes) - 1)) ≡ true =
    high_at (b ∷ bytes) (length (b ∷ bytes) - 1) h (omega arith) in
    ap (λ t. nat_lt 0 (length (b ∷ bytes)) && t) (no_return (slice_index (b ∷ bytes) (length (b ∷ bytes) - 1)) last)
    ∙ neither (nat_lt 0 (length (b ∷ bytes))) where
      neither : (x : Bool) → (x && false) ≡ false
      neither true = refl
      neither false = refl

last_is : (bytes : List ℕ) (b : ℕ) → slice_index (bytes ++ b ∷ []) (length bytes) ≡ b
last_is [] b = refl
last_is (x ∷ bytes) b = last_is bytes b

without-newline : (bytes : List ℕ) → without_last 10 (bytes ++ 10 ∷ []) ≡ bytes
without-newline bytes =
    let line = bytes ++ 10 ∷ [] in
    let many : length line ≡ suc (length bytes) = omega (arith, length-append bytes (10 ∷ [])) in
    let back : length line - 1 ≡ length bytes = omega (arith, many) in
    let some : nat_lt 0 (length line) ≡ true = grind (arith, nat_tests, many) in
    let last : slice_index line (length line - 1) ≡ 10 = ap (slice_index line) back ∙ last_is bytes 10 in
    let ends : ends_with 10 line ≡ true = rw (some, last) refl in
    ap (λ t. if t then take (length line - 1) line else line) ends ∙ ap (λ n. take n line) back ∙ take-append_seam bytes (10 ∷ [])

-- the words of a line
pub words-line : (ws : List Word) → AllByRecursion IsWord ws → words_of (line_of ws) ≡ ws
unfolding content
words-line ws all =
    let high = high_joined ws all in
    ap (λ l. words (without_last 13 l)) (without-newline (spaced_words ws))
    ∙ ap (λ t. words (if t then take (length (spaced_words ws) - 1) (spaced_words ws) else spaced_words ws))
    (without-return (spaced_words ws) high)
    ∙ words-spaced_words ws all
