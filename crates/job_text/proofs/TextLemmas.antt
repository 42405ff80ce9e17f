-- Pieces of a text: where they end, and that none of their lines is a section.
use Rattle.std.proofs.Common.{◌≡◌, ℕ, zero, suc, ◌+◌, ◌-◌, ◌<◌, ◌≤◌, true, false, cond, eqb, unwrap_or, List, [], ◌∷◌, ◌++◌}
use Rattle.std.proofs.Common.{drop, take, length, arith, sym, ap, ◌∙◌, refl, subst, append_assoc, append-nil, drop-drop, drop_at}
use Rattle.std.proofs.Common.{le_of_lt, length-append, length-take-le, take-add, take-append-drop, take_all, take_at}
use Rattle.std.specs.List.{AllByRecursion, count_by, slice_get}
use Rattle.std.specs.Prelude.{Some}
use Rattle.std.proofs.lemmas.List.Sums.{sum_by-cons}
use Rattle.std.proofs.lemmas.Bool.{false_from_ne_true}
use Rattle.std.proofs.lemmas.Bool.Decides.{nat_tests}
use Rattle.memchr.specs.Find.{NoneBefore, Nowhere, Passes, is_byte}
use Rattle.byte_io.specs.Lines.{IsFirstLine, in_front, lines}
use Rattle.job_text.specs.Text.{are_whole, is_section, sections_of, text_of}

-- a byte in front of lines makes no more of them
length-in_front : (b : ℕ) (ls : List (List ℕ)) → 0 < length ls → length (in_front b ls) ≡ length ls
length-in_front b [] some = absurd (omega arith)
length-in_front b (l ∷ ls) some = refl

in_front-append : (b : ℕ) (ls ms : List (List ℕ)) → 0 < length ls → in_front b (ls ++ ms) ≡ in_front b ls ++ ms
in_front-append b [] ms some = absurd (omega arith)
in_front-append b (l ∷ ls) ms some = refl

-- the first of the lines without the byte in front
behind_front : (b : ℕ) (ls : List (List ℕ)) (line : List ℕ) (ms : List (List ℕ)) → 0 < length ls →
    in_front b ls ≡ (b ∷ line) ∷ ms → ls ≡ line ∷ ms
behind_front b [] line ms some is = absurd (omega arith)
behind_front b (l ∷ ls) line ms some is = cc

in_front-some : (b : ℕ) (ls : List (List ℕ)) → 0 < length (in_front b ls)
in_front-some b [] = omega arith
in_front-some b (l ∷ ls) = omega arith

-- a byte is on a line
lines-some : (b : ℕ) (bytes : List ℕ) → 0 < length (lines (b ∷ bytes))
lines-some b bytes =
    elim (eqb b 10) as (λ t. 0 < length (cond t ((b ∷ []) ∷ lines bytes) (in_front b (lines bytes)))) [
      | true ↦ omega arith
      | false ↦ in_front-some b (lines bytes)
    ]

-- how many lines there are, by their newlines
pub length-lines : (xs : List ℕ) → length (lines xs) ≡ count_by (λ b. eqb b 10) xs + cond (are_whole xs) 0 1
length-lines [] = refl
length-lines (b ∷ []) =
    elim (eqb b 10) as (λ t. length (cond t ((b ∷ []) ∷ []) ((b ∷ []) ∷ [])) ≡ (0 + cond t 1 0) + cond t 0 1) [ true ↦ refl | false ↦ refl ]
length-lines (b ∷ c ∷ xs) =
    let behind = length-lines (c ∷ xs) in
    let counted = sum_by-cons (λ b. cond (eqb b 10) 1 0) b (c ∷ xs) in
    let long = length-in_front b (lines (c ∷ xs)) (lines-some c xs) in
    rw counted (elim (eqb b 10) as (λ t. length (cond t ((b ∷ []) ∷ lines (c ∷ xs)) (in_front b (lines (c ∷ xs))))
    ≡ (cond t 1 0 + count_by (λ b. eqb b 10) (c ∷ xs)) + cond (are_whole (c ∷ xs)) 0 1) [
      | true ↦ omega arith
      | false ↦ omega arith
    ])

-- no more lines than bytes
pub length-lines-le : (xs : List ℕ) → length (lines xs) ≤ length xs
length-lines-le [] = omega arith
length-lines-le (b ∷ []) =
    elim (eqb b 10) as (λ t. length (cond t ((b ∷ []) ∷ []) ((b ∷ []) ∷ [])) ≤ 1) [ true ↦ omega arith | false ↦ omega arith ]
length-lines-le (b ∷ c ∷ xs) =
    let behind = length-lines-le (c ∷ xs) in
    let long = length-in_front b (lines (c ∷ xs)) (lines-some c xs) in
    elim (eqb b 10) as (λ t. length (cond t ((b ∷ []) ∷ lines (c ∷ xs)) (in_front b (lines (c ∷ xs)))) ≤ suc (suc (length xs))) [
      | true ↦ omega arith
      | false ↦ omega arith
    ]

-- the last byte decides
pub whole_by_last : (xs : List ℕ) (last : ℕ) → slice_get xs (length xs - 1) ≡ Some last → are_whole xs ≡ eqb last 10
whole_by_last [] last is = absurd (cc)
whole_by_last (b ∷ []) last is = ap (λ o. eqb (unwrap_or o 0) 10) is
whole_by_last (b ∷ c ∷ xs) last is =
    let e : length (b ∷ c ∷ xs) - 1 ≡ suc (length (c ∷ xs) - 1) = omega arith in
    whole_by_last (c ∷ xs) last (rw e at is)

-- More bytes of what is behind the front make more lines, and none that begins in the front.
pub record Splits (front behind : List ℕ) : Type 0 where
  pub split : (xs ys : List ℕ) → behind ≡ xs ++ ys → lines (front ++ xs) ≡ lines front ++ lines xs

no_parts : (piece behind : List ℕ) → piece ++ behind ≡ [] → (piece ≡ []) × (behind ≡ [])
no_parts [] behind is = (refl, is)
no_parts (b ∷ piece) behind is = absurd (cc)

-- nothing is behind
splits-all : (front : List ℕ) → Splits front []
splits-all front = record {
  split = λ xs ys is. rw ((no_parts xs ys (sym is)).0, append-nil front, append-nil (lines front)) refl;
}

-- so it is with a byte more in front
splits-more : (b c : ℕ) (front behind : List ℕ) → Splits (c ∷ front) behind → Splits (b ∷ c ∷ front) behind
splits-more b c front behind inner = record {
  split = λ xs ys is.
      let apart = inner.split xs ys is in
      elim (eqb b 10) as (λ t. cond t ((b ∷ []) ∷ lines (c ∷ front ++ xs)) (in_front b (lines (c ∷ front ++ xs)))
      ≡ cond t ((b ∷ []) ∷ lines (c ∷ front)) (in_front b (lines (c ∷ front))) ++ lines xs) [
        | true ↦ ap (λ ls. (b ∷ []) ∷ ls) apart
        | false ↦ ap (in_front b) apart ∙ in_front-append b (lines (c ∷ front)) (lines xs) (lines-some c front)
      ];
}

-- the front ends with a newline
splits-whole : (front behind : List ℕ) → are_whole front ≡ true → Splits front behind
splits-whole [] behind whole = record { split = λ xs ys is. refl }
splits-whole (b ∷ []) behind whole = record { split = λ xs ys is. rw whole refl }
splits-whole (b ∷ c ∷ front) behind whole = splits-more b c front behind (splits-whole (c ∷ front) behind whole)

-- more bytes before a line
splits-front : (front line behind : List ℕ) → 0 < length line → Splits line behind → Splits (front ++ line) behind
splits-front [] line behind some inner = inner
splits-front (b ∷ []) [] behind some inner = absurd (omega arith)
splits-front (b ∷ []) (c ∷ line) behind some inner = splits-more b c line behind inner
splits-front (b ∷ c ∷ front) line behind some inner =
    splits-more b c (front ++ line) behind (splits-front (c ∷ front) line behind some inner)

-- what a first line is, by itself
record IsLine (line behind : List ℕ) : Type 0 where
  one : lines line ≡ line ∷ []
  splits : Splits line behind

-- a line that lacks its newline is the last
last_line : (b : ℕ) (behind : List ℕ) → in_front b (lines behind) ≡ (b ∷ []) ∷ lines behind → behind ≡ []
last_line b [] is = refl
last_line b (c ∷ behind) is =
    let long = length-in_front b (lines (c ∷ behind)) (lines-some c behind) in
    let longer : length (in_front b (lines (c ∷ behind))) ≡ suc (length (lines (c ∷ behind))) = ap length is in
    absurd (omega arith)

-- the first of several lines
first_line : (line behind : List ℕ) → 0 < length line → lines (line ++ behind) ≡ line ∷ lines behind → IsLine line behind
first_line [] behind some first = absurd (omega arith)
first_line (b ∷ []) behind some first =
    elim (eqb b 10) as (λ t. eqb b 10 ≡ t → cond t ((b ∷ []) ∷ lines behind) (in_front b (lines behind)) ≡ (b ∷ []) ∷ lines behind →
    IsLine (b ∷ []) behind) [
      | true ↦ λ e is. record { one = rw e refl; splits = splits-whole (b ∷ []) behind e }
      | false ↦ λ e is. record { one = rw e refl; splits = rw (last_line b behind is) (splits-all (b ∷ [])) }
    ] refl first
first_line (b ∷ c ∷ line) behind some first =
    elim (eqb b 10) as (λ t. eqb b 10 ≡ t → cond t ((b ∷ []) ∷ lines (c ∷ line ++ behind)) (in_front b (lines (c ∷ line ++ behind)))
    ≡ (b ∷ c ∷ line) ∷ lines behind → IsLine (b ∷ c ∷ line) behind) [
      | true ↦ λ e is. absurd (cc)
      | false ↦ λ e is.
          let inner = first_line (c ∷ line) behind (omega arith)
          (behind_front b (lines (c ∷ line ++ behind)) (c ∷ line) (lines behind) (lines-some c (line ++ behind)) is) in
          record { one = rw e (ap (in_front b) inner.one); splits = splits-more b c line behind inner.splits }
    ] refl first

-- the bytes behind the piece
dropped_more : (bytes piece behind : List ℕ) (n : ℕ) → drop n bytes ≡ piece ++ behind → drop (n + length piece) bytes ≡ behind
dropped_more bytes piece behind n is =
    sym (drop-drop (length piece) n bytes) ∙ ap (drop (length piece)) is ∙ drop_at piece behind (length piece) refl

-- the bytes before it, and it
taken_more : (bytes piece behind : List ℕ) (n : ℕ) → drop n bytes ≡ piece ++ behind → take (n + length piece) bytes ≡ take n bytes ++ piece
taken_more bytes piece behind n is =
    take-add n (length piece) bytes ∙ ap (λ l. take n bytes ++ take (length piece) l) is
    ∙ ap (λ l. take n bytes ++ l) (take_at piece behind (length piece) refl)

-- no line is a section
abbrev pub AreOthers : List (List ℕ) → Type 0
AreOthers = AllByRecursion (λ line. is_section line ≡ false)

others-append : (ls ms : List (List ℕ)) → AreOthers ls → AreOthers ms → AreOthers (ls ++ ms)
others-append [] ms front behind = behind
others-append (l ∷ ls) ms front behind = (front.0, others-append ls ms front.1 behind)

-- the lines as one text
abbrev joined : List (List ℕ) → List ℕ
joined [] = []
joined (line ∷ behind) = line ++ joined behind

joined-in_front : (b : ℕ) (ls : List (List ℕ)) → joined (in_front b ls) ≡ b ∷ joined ls
joined-in_front b [] = refl
joined-in_front b (l ∷ ls) = refl

joined-lines : (bytes : List ℕ) → joined (lines bytes) ≡ bytes
joined-lines [] = refl
joined-lines (b ∷ bytes) =
    let behind = joined-lines bytes in
    elim (eqb b 10) as (λ t. joined (cond t ((b ∷ []) ∷ lines bytes) (in_front b (lines bytes))) ≡ b ∷ bytes) [
      | true ↦ ap (λ l. b ∷ l) behind
      | false ↦ joined-in_front b (lines bytes) ∙ ap (λ l. b ∷ l) behind
    ]

text_of-append : (ls ms : List (List ℕ)) → AreOthers ls → text_of (ls ++ ms) ≡ joined ls ++ text_of ms
text_of-append [] ms others = refl
text_of-append (l ∷ ls) ms others =
    rw (others.0) (ap (λ t. l ++ t) (text_of-append ls ms others.1) ∙ sym (append_assoc l (joined ls) (text_of ms)))

sections_of-append : (number : ℕ) (ls ms : List (List ℕ)) → AreOthers ls →
    sections_of number (ls ++ ms) ≡ sections_of (number + length ls) ms
sections_of-append number [] ms others = ap (λ n. sections_of n ms) (omega arith)
sections_of-append number (l ∷ ls) ms others =
    rw (others.0) (sections_of-append (number + 1) ls ms others.1 ∙ ap (λ n. sections_of n ms) (omega arith))

-- The front ends between lines, and none of them is a section.
pub record IsPlain (front behind : List ℕ) : Type 0 where
  pub splits : Splits front behind
  pub others : AreOthers (lines front)

-- a plain piece behind the front
plain_more : (front piece behind : List ℕ) → IsPlain front (piece ++ behind) → IsPlain piece behind → IsPlain (front ++ piece) behind
plain_more front piece behind before inner =
    let apart : lines (front ++ piece) ≡ lines front ++ lines piece = before.splits.split piece behind refl in
    record {
      splits = record {
        split = λ xs ys is. ap lines (append_assoc front piece xs)
            ∙ before.splits.split (piece ++ xs) ys (ap (λ l. piece ++ l) is ∙ sym (append_assoc piece xs ys))
            ∙ ap (λ l. lines front ++ l) (inner.splits.split xs ys is)
            ∙ sym (append_assoc (lines front) (lines piece) (lines xs))
            ∙ ap (λ l. l ++ lines xs) (sym apart);
      };
      others = rw apart (others-append (lines front) (lines piece) before.others inner.others);
    }

-- no byte is `%`
abbrev AreUnsigned : List ℕ → Type 0
AreUnsigned = AllByRecursion (λ b. eqb b 37 ≡ false)

flipped : (a b : ℕ) → eqb a b ≡ false → eqb b a ≡ false
flipped a b other = grind (arith, nat_tests)

-- the first byte of a section is `%`
unsigned_other : (b : ℕ) (line : List ℕ) → eqb b 37 ≡ false → is_section (b ∷ line) ≡ false
unsigned_other b line other = rw (flipped b 37 other) refl

others-in_front : (b : ℕ) (ls : List (List ℕ)) → eqb b 37 ≡ false → AreOthers ls → AreOthers (in_front b ls)
others-in_front b [] other others = (unsigned_other b [] other, tt)
others-in_front b (l ∷ ls) other others = (unsigned_other b l other, others.1)

-- so no line without it is one
others-lines : (bytes : List ℕ) → AreUnsigned bytes → AreOthers (lines bytes)
others-lines [] are = tt
others-lines (b ∷ bytes) are =
    let behind = others-lines bytes are.1 in
    elim (eqb b 10) as (λ t. AreOthers (cond t ((b ∷ []) ∷ lines bytes) (in_front b (lines bytes)))) [
      | true ↦ (unsigned_other b [] are.0, behind)
      | false ↦ others-in_front b (lines bytes) are.0 behind
    ]

-- bytes with no `%` before a line, or before the rest of one
others-signed : (front line : List ℕ) → AreUnsigned front → lines line ≡ line ∷ [] → (are_whole front ≡ true → is_section line ≡ false) →
    AreOthers (lines (front ++ line))
others-signed [] line are one other = rw one (other refl, tt)
others-signed (b ∷ []) line are one other =
    elim (eqb b 10) as (λ t. (t ≡ true → is_section line ≡ false) → AreOthers (cond t ((b ∷ []) ∷ lines line) (in_front b (lines line)))) [
      | true ↦ λ other. (unsigned_other b [] are.0, rw one (other refl, tt))
      | false ↦ λ other. rw one (unsigned_other b line are.0, tt)
    ] other
others-signed (b ∷ c ∷ front) line are one other =
    let behind = others-signed (c ∷ front) line are.1 one other in
    elim (eqb b 10) as (λ t. AreOthers (cond t ((b ∷ []) ∷ lines (c ∷ front ++ line)) (in_front b (lines (c ∷ front ++ line))))) [
      | true ↦ (unsigned_other b [] are.0, behind)
      | false ↦ others-in_front b (lines (c ∷ front ++ line)) are.0 behind
    ]

-- the bytes before the first `%`
before_sign : (bytes : List ℕ) (n : ℕ) → Nowhere (Passes (is_byte 37) bytes) 0 n → AreUnsigned (take n bytes)
before_sign bytes zero none = tt
before_sign [] (suc n) none = tt
before_sign (b ∷ bytes) (suc n) none = (
  false_from_ne_true (eqb b 37) (none 0 (omega arith) (omega arith)),
  before_sign bytes n (λ k low high. none (suc k) (omega arith) (omega arith)),
)

-- So many bytes of a text are plain, and these stand behind them.
pub record IsPlainTo (bytes behind : List ℕ) (len : ℕ) : Type 0 where
  pub plain : IsPlain (take len bytes) behind
  pub parts : drop len bytes ≡ behind
  pub inside : len + length behind ≡ length bytes

-- a plain piece goes over to them
plain_to-more : (bytes piece behind : List ℕ) (len : ℕ) → IsPlainTo bytes (piece ++ behind) len → IsPlain piece behind →
    IsPlainTo bytes behind (len + length piece)
plain_to-more bytes piece behind len before inner =
    let long = length-append piece behind in
    let inside = before.inside in
    record {
      plain = rw (taken_more bytes piece behind len before.parts) (plain_more (take len bytes) piece behind before.plain inner);
      parts = dropped_more bytes piece behind len before.parts;
      inside = omega arith;
    }

-- whole lines before the first `%` go over
pub plain_to-whole : (bytes rest : List ℕ) (len sign : ℕ) → IsPlainTo bytes rest len →
    NoneBefore (Passes (is_byte 37) rest) 0 (length rest) sign → are_whole (take sign rest) ≡ true →
    IsPlainTo bytes (drop sign rest) (len + sign)
plain_to-whole bytes rest len sign before first whole =
    let front = take sign rest in
    let within : sign < length rest = first.high in
    let long : length front ≡ sign = length-take-le sign rest (le_of_lt within) in
    let parted : IsPlainTo bytes (front ++ drop sign rest) len = rw take-append-drop before in
    let plain : IsPlain front (drop sign rest) = record {
      splits = splits-whole front (drop sign rest) whole;
      others = others-lines front (before_sign rest sign first.before);
    } in
    subst (λ n. IsPlainTo bytes (drop sign rest) (len + n)) long (plain_to-more bytes front (drop sign rest) len parted plain)

-- the lines up to the first with a `%` go over, where that isn't a section
pub plain_to-line : (bytes rest line behind : List ℕ) (len sign : ℕ) → IsPlainTo bytes rest len →
    NoneBefore (Passes (is_byte 37) rest) 0 (length rest) sign → IsFirstLine (drop sign rest) line behind →
    (are_whole (take sign rest) ≡ true → is_section line ≡ false) → IsPlainTo bytes behind (len + (sign + length line))
plain_to-line bytes rest line behind len sign before first signed other =
    let front = take sign rest in
    let within : sign < length rest = first.high in
    let long : length front ≡ sign = length-take-le sign rest (le_of_lt within) in
    let all : rest ≡ (front ++ line) ++ behind =
    sym (take-append-drop sign rest) ∙ ap (λ l. front ++ l) signed.parts ∙ sym (append_assoc front line behind) in
    let parted : IsPlainTo bytes ((front ++ line) ++ behind) len = subst (λ r. IsPlainTo bytes r len) all before in
    let shorter : length behind < length (drop sign rest) = signed.shorter in
    let parts : length (drop sign rest) ≡ length line + length behind = ap length signed.parts ∙ length-append line behind in
    let some : 0 < length line = omega arith in
    let is = first_line line behind some (ap lines (sym signed.parts) ∙ signed.first) in
    let joint : length (front ++ line) ≡ sign + length line = length-append front line ∙ ap (λ n. n + length line) long in
    let plain : IsPlain (front ++ line) behind = record {
      splits = splits-front front line behind some is.splits;
      others = others-signed front line (before_sign rest sign first.before) is.one other;
    } in
    subst (λ n. IsPlainTo bytes behind (len + n)) joint (plain_to-more bytes (front ++ line) behind len parted plain)

-- what so many bytes before the sections say of all
pub record IsTextLen (bytes : List ℕ) (len : ℕ) : Type 0 where
  pub text : take len bytes ≡ text_of (lines bytes)
  pub sections : (number : ℕ) → sections_of number (lines bytes) ≡ (number + length (lines (take len bytes)), lines (drop len bytes))

-- the text ends where what is behind has none
ended : (bytes behind : List ℕ) (len : ℕ) → IsPlainTo bytes behind len → text_of (lines behind) ≡ [] →
    ((number : ℕ) → sections_of number (lines behind) ≡ (number, lines behind)) → IsTextLen bytes len
ended bytes behind len is text sections =
    let front = take len bytes in
    let all : front ++ behind ≡ bytes = rw (← is.parts) (take-append-drop len bytes) in
    let parts : lines bytes ≡ lines front ++ lines behind =
    ap lines (sym all) ∙ is.plain.splits.split behind [] (sym (append-nil behind)) in
    record {
      text = sym (ap text_of parts ∙ text_of-append (lines front) (lines behind) is.plain.others
          ∙ ap (λ t. joined (lines front) ++ t) text ∙ append-nil (joined (lines front)) ∙ joined-lines front);
      sections = λ number. rw (is.parts) (ap (sections_of number) parts
          ∙ sections_of-append number (lines front) (lines behind) is.plain.others
          ∙ sections (number + length (lines front)));
    }

-- the text ends before a section
pub ended-section : (bytes behind line more : List ℕ) (len : ℕ) → IsPlainTo bytes behind len → lines behind ≡ line ∷ lines more →
    is_section line ≡ true → IsTextLen bytes len
ended-section bytes behind line more len is first section =
    ended bytes behind len is (rw (first, section) refl) (λ number. rw (first, section) refl)

-- all bytes are text
pub ended-all : (bytes behind : List ℕ) (len : ℕ) → IsPlainTo bytes behind len → Nowhere (Passes (is_byte 37) behind) 0 (length behind) →
    IsTextLen bytes (length bytes)
ended-all bytes behind len is none =
    let rest : IsPlainTo bytes (behind ++ []) len = rw append-nil is in
    let all : take (length behind) behind ≡ behind = take_all (length behind) behind (omega arith) in
    let free : AreUnsigned behind = subst AreUnsigned all (before_sign behind (length behind) none) in
    let plain : IsPlain behind [] = record { splits = splits-all behind; others = others-lines behind free } in
    rw (← is.inside) (ended bytes [] (len + length behind) (plain_to-more bytes behind [] len rest plain) refl (λ number. refl))
