-- Where the first word stands.
use Rattle.std.proofs.Common.{◌≡◌, ℕ, suc, ◌+◌, ◌-◌, ◌<◌, ◌≤◌, true, false, cond, List, []}
use Rattle.std.proofs.Common.{◌∷◌, drop, take, length, arith, sym, ap, subst, ◌∙◌, refl, unwrap_or}
use Rattle.std.specs.Prelude.{not, if◌then◌else◌}
use Rattle.std.specs.List.{position, position_or_len}
use Rattle.std.proofs.lemmas.List.{length-drop}
use Rattle.lay_cells.proofs.GraphLemmas.{found_or_len}
use Rattle.byte_io.specs.Lines.{in_front}
use Rattle.job_text.specs.Words.{IsFirstWord, from_word, is_word_end, is_word_separator, words}

-- how many bytes stand before the first word, or all
abbrev pub start_of : List ℕ → ℕ
start_of line = position_or_len (λ b. not (is_word_separator b)) line

-- how many bytes stand before the first separator, or all
abbrev pub len_of : List ℕ → ℕ
len_of line = position_or_len is_word_separator line

-- the words from a byte of a word on
abbrev pub in_word : ℕ → List ℕ → List (List ℕ)
in_word b line = if is_word_end line then (b ∷ []) ∷ words line else in_front b (words line)

pub words-separator : (b : ℕ) (line : List ℕ) → is_word_separator b ≡ true → words (b ∷ line) ≡ words line
words-separator b line e = ap (λ t. if t then words line else in_word b line) e

pub words-in_word : (b : ℕ) (line : List ℕ) → is_word_separator b ≡ false → words (b ∷ line) ≡ in_word b line
words-in_word b line e = ap (λ t. if t then words line else in_word b line) e

start_of-separator : (b : ℕ) (line : List ℕ) → is_word_separator b ≡ true → start_of (b ∷ line) ≡ suc (start_of line)
start_of-separator b line e =
    let first : start_of (b ∷ line) ≡ 1 + start_of line = ap (λ t. cond (not (not t)) (1 + start_of line) 0) e in
    first ∙ omega arith

start_of-word : (b : ℕ) (line : List ℕ) → is_word_separator b ≡ false → start_of (b ∷ line) ≡ 0
start_of-word b line e = ap (λ t. cond (not (not t)) (1 + start_of line) 0) e

len_of-word : (b : ℕ) (line : List ℕ) → is_word_separator b ≡ false → len_of (b ∷ line) ≡ suc (len_of line)
len_of-word b line e =
    let first : len_of (b ∷ line) ≡ 1 + len_of line = ap (λ t. cond (not t) (1 + len_of line) 0) e in
    first ∙ omega arith

len_of-separator : (b : ℕ) (line : List ℕ) → is_word_separator b ≡ true → len_of (b ∷ line) ≡ 0
len_of-separator b line e = ap (λ t. cond (not t) (1 + len_of line) 0) e

-- the bytes begin with a word of so many
abbrev pub BeginsWith : List ℕ → ℕ → Type 0
BeginsWith bytes n = words bytes ≡ take n bytes ∷ words (drop n bytes)

ends_here : (b c : ℕ) (bytes : List ℕ) → is_word_separator b ≡ false → is_word_separator c ≡ true
    → BeginsWith (b ∷ c ∷ bytes) (suc (len_of (c ∷ bytes)))
ends_here b c bytes word between =
    words-in_word b (c ∷ bytes) word
    ∙ ap (λ t. if t then (b ∷ []) ∷ words (c ∷ bytes) else in_front b (words (c ∷ bytes))) between
    ∙ ap (λ n. take (suc n) (b ∷ c ∷ bytes) ∷ words (drop (suc n) (b ∷ c ∷ bytes))) (sym (len_of-separator c bytes between))

goes_on : (b c : ℕ) (bytes : List ℕ) → is_word_separator b ≡ false → is_word_separator c ≡ false
    → BeginsWith (c ∷ bytes) (suc (len_of bytes)) →
    BeginsWith (b ∷ c ∷ bytes) (suc (len_of (c ∷ bytes)))
goes_on b c bytes word too behind =
    words-in_word b (c ∷ bytes) word
    ∙ ap (λ t. if t then (b ∷ []) ∷ words (c ∷ bytes) else in_front b (words (c ∷ bytes))) too
    ∙ ap (in_front b) behind
    ∙ ap (λ n. take (suc n) (b ∷ c ∷ bytes) ∷ words (drop (suc n) (b ∷ c ∷ bytes))) (sym (len_of-word c bytes too))

-- a word goes on up to the first separator
pub words-first : (b : ℕ) (bytes : List ℕ) → is_word_separator b ≡ false → BeginsWith (b ∷ bytes) (suc (len_of bytes))
words-first b [] word = words-in_word b [] word
words-first b (c ∷ bytes) word =
    elim (is_word_separator c) as (λ t. is_word_separator c ≡ t → BeginsWith (b ∷ c ∷ bytes) (suc (len_of (c ∷ bytes)))) [
      | true ↦ λ e. ends_here b c bytes word e
      | false ↦ λ e. goes_on b c bytes word e (words-first c bytes e)
    ] refl

-- from this byte of the line on, its words are as of the line, the first with a byte or more
abbrev StartsAt : List ℕ → ℕ → Type 0
StartsAt line n =
    (words line ≡ take (len_of (drop n line)) (drop n line) ∷ words (drop (len_of (drop n line)) (drop n line)))
    × (0 < len_of (drop n line))

starts-separator : (b : ℕ) (line : List ℕ) → is_word_separator b ≡ true → StartsAt line (start_of line)
    → StartsAt (b ∷ line) (start_of (b ∷ line))
starts-separator b line e behind =
    subst (StartsAt (b ∷ line)) (sym (start_of-separator b line e)) (words-separator b line e ∙ behind.0, behind.1)

starts-word : (b : ℕ) (line : List ℕ) → is_word_separator b ≡ false → StartsAt (b ∷ line) (start_of (b ∷ line))
starts-word b line e =
    let len : len_of (b ∷ line) ≡ suc (len_of line) = len_of-word b line e in
    let here : StartsAt (b ∷ line) 0 =
    (words-first b line e ∙ ap (λ n. take n (b ∷ line) ∷ words (drop n (b ∷ line))) (sym len), omega arith) in
    subst (StartsAt (b ∷ line)) (sym (start_of-word b line e)) here

starts : (line : List ℕ) → start_of line < length line → StartsAt line (start_of line)
starts [] some = absurd (omega arith)
starts (b ∷ line) some =
    elim (is_word_separator b) as (λ t. is_word_separator b ≡ t → StartsAt (b ∷ line) (start_of (b ∷ line))) [
      | true ↦ λ e.
          let one_more : start_of (b ∷ line) ≡ suc (start_of line) = start_of-separator b line e in
          starts-separator b line e (starts line (omega arith))
      | false ↦ λ e. starts-word b line e
    ] refl

ends : (line : List ℕ) → length line ≤ start_of line → words line ≡ []
ends [] all = refl
ends (b ∷ line) all =
    elim (is_word_separator b) as (λ t. is_word_separator b ≡ t → words (b ∷ line) ≡ []) [
      | true ↦ λ e.
          let one_more : start_of (b ∷ line) ≡ suc (start_of line) = start_of-separator b line e in
          words-separator b line e ∙ ends line (omega arith)
      | false ↦ λ e.
          let none : start_of (b ∷ line) ≡ 0 = start_of-word b line e in
          absurd (omega arith)
    ] refl

from_start : (line : List ℕ) → from_word line ≡ drop (start_of line) line
from_start line = ap (λ n. drop n line) (found_or_len (λ b. not (is_word_separator b)) line)

len_from_start : (line : List ℕ) → length (from_word line) ≡ length line - start_of line
len_from_start line = ap length (from_start line) ∙ length-drop (start_of line) line

-- bytes without a word have no words
pub no_words : (line : List ℕ) → length (from_word line) ≡ 0 → words line ≡ []
no_words line none =
    let len = len_from_start line in
    ends line (omega arith)

shorter : (line : List ℕ) (start len : ℕ) → start < length line → 0 < len → length (drop len (drop start line)) < length line
shorter line start len some word =
    let behind = length-drop len (drop start line) in
    let from = length-drop start line in
    omega arith

-- the first word of a line, which is so long
pub first_word : (line : List ℕ) (len : ℕ) (word behind : List ℕ) → 0 < length (from_word line) →
    len ≡ unwrap_or (position is_word_separator (from_word line)) (length (from_word line)) →
    word ≡ take len (from_word line) → behind ≡ drop len (from_word line) → IsFirstWord line word behind
first_word line len word behind begins is_len is_word is_behind =
    let start = start_of line in
    let from : from_word line ≡ drop start line = from_start line in
    let from_len = len_from_start line in
    let some : start < length line = omega arith in
    let here = starts line some in
    let len_is : len ≡ len_of (drop start line) = is_len ∙ found_or_len is_word_separator (from_word line) ∙ ap len_of from in
    let word_is : word ≡ take (len_of (drop start line)) (drop start line) =
    is_word ∙ ap (take len) from ∙ ap (λ n. take n (drop start line)) len_is in
    let behind_is : behind ≡ drop (len_of (drop start line)) (drop start line) =
    is_behind ∙ ap (drop len) from ∙ ap (λ n. drop n (drop start line)) len_is in
    record {
      first = here.0 ∙ ap (λ w. w ∷ words (drop (len_of (drop start line)) (drop start line))) (sym word_is)
          ∙ ap (λ l. word ∷ words l) (sym behind_is);
      shorter = subst (λ l. length l < length line) (sym behind_is) (shorter line start (len_of (drop start line)) some here.1);
    }
