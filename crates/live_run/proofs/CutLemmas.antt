-- Bytes, cut into lines as they come.
use Rattle.std.proofs.Common.{◌+◌, ◌<◌, length, get_or, take, drop, take-append-drop}
use Rattle.std.proofs.lemmas.List.{take_more}
use Rattle.std.proofs.Common.{◌≡◌, ◌≢◌, ℕ, List, [], ◌∷◌, ◌++◌, Bool, true, false, cond, eqb, refl, sym, ap, ◌∙◌}
use Rattle.std.proofs.Common.{append_assoc, append-nil}
use Rattle.std.specs.Prelude.{filter}
use Rattle.std.specs.List.{list_all}
use Rattle.std.proofs.lemmas.List.Elements.{filter-append}
use Rattle.std.proofs.lemmas.Bool.{and_parts, not-true, not_from_false}
use Rattle.byte_io.specs.Lines.{in_front, lines}
use Rattle.live_run.specs.Cif.{is_ended, whole}
use Rattle.live_run.specs.Feed.{IsCut, is_not_newline}

all_more : (line : List ℕ) (b : ℕ) → list_all is_not_newline line ≡ true → is_not_newline b ≡ true
    → list_all is_not_newline (line ++ b ∷ []) ≡ true
all_more [] b all one = rw one refl
all_more (a ∷ line) b all one =
    let (first, rest) = and_parts (is_not_newline a) (list_all is_not_newline line) all in
    let more = all_more line b rest one in
    rw (first, more) refl

-- a byte in a line stands in front of the first of the lines behind it
pub in_line : (b : ℕ) (bytes : List ℕ) → is_not_newline b ≡ true → lines (b ∷ bytes) ≡ in_front b (lines bytes)
in_line b bytes h = let other : eqb b 10 ≡ false = not-true (eqb b 10) h in rw other refl

-- a newline ends what has come of a line
pub ended_line : (line more : List ℕ) → list_all is_not_newline line ≡ true → lines (line ++ 10 ∷ more) ≡ (line ++ 10 ∷ []) ∷ lines more
ended_line [] more h = refl
ended_line (b ∷ line) more h =
    let (first, rest) = and_parts (is_not_newline b) (list_all is_not_newline line) h in
    in_line b (line ++ 10 ∷ more) first ∙ ap (in_front b) (ended_line line more rest)

-- bytes without a newline are one line
pub one_line : (b : ℕ) (line : List ℕ) → list_all is_not_newline (b ∷ line) ≡ true → lines (b ∷ line) ≡ (b ∷ line) ∷ []
one_line b [] h = in_line b [] (and_parts (is_not_newline b) true h).0
one_line b (c ∷ line) h =
    let (first, rest) = and_parts (is_not_newline b) (list_all is_not_newline (c ∷ line)) h in
    in_line b (c ∷ line) first ∙ ap (in_front b) (one_line c line rest)

unended : (b : ℕ) (line : List ℕ) → list_all is_not_newline (b ∷ line) ≡ true → is_ended (b ∷ line) ≡ false
unended b [] h = not-true (eqb b 10) (and_parts (is_not_newline b) true h).0
unended b (c ∷ line) h = unended c line (and_parts (is_not_newline b) (list_all is_not_newline (c ∷ line)) h).1

pub with_newline : (line : List ℕ) → is_ended (line ++ 10 ∷ []) ≡ true
with_newline [] = refl
with_newline (b ∷ []) = refl
with_newline (b ∷ c ∷ line) = with_newline (c ∷ line)

pub no_whole : (line : List ℕ) → list_all is_not_newline line ≡ true → filter is_ended (lines line) ≡ []
no_whole [] h = refl
no_whole (b ∷ line) h =
    let is : is_ended (b ∷ line) ≡ false = unended b line h in
    ap (filter is_ended) (one_line b line h) ∙ ap (λ (t : Bool). cond t ((b ∷ line) ∷ []) []) is

-- no byte
pub cut_none : IsCut [] [] []
cut_none = record { cut = λ more. refl; ended = refl; inside = refl }

-- a byte more in a line
pub cut_byte : (bytes : List ℕ) (seen : List (List ℕ)) (line : List ℕ) (b : ℕ) → eqb b 10 ≡ false → IsCut bytes seen line
    → IsCut (bytes ++ b ∷ []) seen (line ++ b ∷ [])
cut_byte bytes seen line b other h = record {
  cut = λ more.
      ap lines (append_assoc bytes (b ∷ []) more) ∙ h.cut (b ∷ more)
      ∙ ap (λ (l : List ℕ). seen ++ lines l) (sym (append_assoc line (b ∷ []) more));
  ended = h.ended;
  inside = all_more line b h.inside (not_from_false (eqb b 10) other);
}

-- the lines of the bytes, where a newline is behind them and then more
pub cut_lines : (bytes : List ℕ) (seen : List (List ℕ)) (line more : List ℕ) → IsCut bytes seen line
    → lines ((bytes ++ 10 ∷ []) ++ more) ≡ seen ++ (line ++ 10 ∷ []) ∷ lines more
cut_lines bytes seen line more h =
    ap lines (append_assoc bytes (10 ∷ []) more) ∙ h.cut (10 ∷ more)
    ∙ ap (λ (ls : List (List ℕ)). seen ++ ls) (ended_line line more h.inside)

filtered : (seen : List (List ℕ)) (line : List ℕ) (more : List (List ℕ)) → filter is_ended seen ≡ seen
    → filter is_ended (seen ++ (line ++ 10 ∷ []) ∷ more) ≡ seen ++ (line ++ 10 ∷ []) ∷ filter is_ended more
filtered seen line more h =
    filter-append is_ended seen ((line ++ 10 ∷ []) ∷ more)
    ∙ ap (λ (ls : List (List ℕ)). ls ++ filter is_ended ((line ++ 10 ∷ []) ∷ more)) h
    ∙ ap (λ (t : Bool). seen ++ cond t ((line ++ 10 ∷ []) ∷ filter is_ended more) (filter is_ended more)) (with_newline line)

-- a newline more
pub cut_line : (bytes : List ℕ) (seen : List (List ℕ)) (line : List ℕ) → IsCut bytes seen line
    → IsCut (bytes ++ 10 ∷ []) (seen ++ (line ++ 10 ∷ []) ∷ []) []
cut_line bytes seen line h = record {
  cut = λ more. cut_lines bytes seen line more h ∙ sym (append_assoc seen ((line ++ 10 ∷ []) ∷ []) (lines more));
  ended = filtered seen line [] h.ended;
  inside = refl;
}

-- the whole lines, where a newline is behind the bytes and then more
pub cut_whole_more : (bytes : List ℕ) (seen : List (List ℕ)) (line more : List ℕ) → IsCut bytes seen line
    → whole ((bytes ++ 10 ∷ []) ++ more) ≡ seen ++ (line ++ 10 ∷ []) ∷ whole more
cut_whole_more bytes seen line more h =
    ap (filter is_ended) (cut_lines bytes seen line more h) ∙ filtered seen line (lines more) h.ended

-- the lines of the bytes
pub cut_all : (bytes : List ℕ) (seen : List (List ℕ)) (line : List ℕ) → IsCut bytes seen line → lines bytes ≡ seen ++ lines line
cut_all bytes seen line h =
    ap lines (sym (append-nil bytes)) ∙ h.cut [] ∙ ap (λ (l : List ℕ). seen ++ lines l) (append-nil line)

-- the whole lines are those that came
pub cut_whole : (bytes : List ℕ) (seen : List (List ℕ)) (line : List ℕ) → IsCut bytes seen line → whole bytes ≡ seen
cut_whole bytes seen line h =
    ap (filter is_ended) (cut_all bytes seen line h) ∙ filter-append is_ended seen (lines line)
    ∙ ap (λ (ls : List (List ℕ)). ls ++ filter is_ended (lines line)) h.ended
    ∙ ap (λ (ls : List (List ℕ)). seen ++ ls) (no_whole line h.inside) ∙ append-nil seen

-- the lines of all bytes, where they end so
pub cut_last : (bytes : List ℕ) (seen : List (List ℕ)) (line : List ℕ) → line ≢ [] → IsCut bytes seen line → lines bytes ≡ seen ++ line ∷ []
cut_last bytes seen [] some h = absurd (some refl)
cut_last bytes seen (b ∷ line) some h =
    cut_all bytes seen (b ∷ line) h ∙ ap (λ (ls : List (List ℕ)). seen ++ ls) (one_line b line h.inside)

pub cut_end : (bytes : List ℕ) (seen : List (List ℕ)) (line : List ℕ) → line ≡ [] → IsCut bytes seen line → lines bytes ≡ seen
cut_end bytes seen line none h =
    cut_all bytes seen line h ∙ ap (λ (l : List ℕ). seen ++ lines l) none ∙ append-nil seen

-- a byte of a piece, those in front of it and those behind it
pub whole_piece : (given piece more : List ℕ) (i : ℕ) → i < length piece
    → ((given ++ take i piece) ++ get_or piece i 0 ∷ []) ++ (drop (i + 1) piece ++ more) ≡ (given ++ piece) ++ more
whole_piece given piece more i inside =
    let front = take i piece in
    let byte = get_or piece i 0 ∷ [] in
    let rest = drop (i + 1) piece in
    let joined : (front ++ byte) ++ rest ≡ piece =
    ap (λ (l : List ℕ). l ++ rest) (sym (take_more piece i 0 inside)) ∙ take-append-drop (i + 1) piece in
    ap (λ (l : List ℕ). l ++ (rest ++ more)) (append_assoc given front byte) ∙ sym (append_assoc (given ++ (front ++ byte)) rest more)
    ∙ ap (λ (l : List ℕ). l ++ more) (append_assoc given (front ++ byte) rest ∙ ap (λ (l : List ℕ). given ++ l) joined)
