-- A comment that is read is spelled so, and what spells a comment is read.
use Rattle.std.proofs.Common.{◌≡◌, ℕ, zero, suc, true, false, List, [], ◌∷◌, ◌++◌, length, Option, Some, None, refl, sym, ap, ◌∙◌}
use Rattle.std.proofs.Common.{append_assoc, arith, inl, inr}
use Rattle.std.specs.Prelude.{◌==◌, ◌||◌, not}
use Rattle.std.specs.List.{list_all}
use Rattle.std.proofs.lemmas.Bool.{and_from, and_parts, eqb-true}
use Rattle.std.proofs.lemmas.Bool.Decides.{nat_tests}
use Rattle.std.proofs.lemmas.Option.{same_Some}
use Rattle.cif_grammar.specs.Bytes.{is_blank}
use Rattle.byte_io.proofs.Steps.{chosen_of}
use Rattle.cif_grammar.specs.Comments.{are_blanks_behind, behind_closing, is_comment}
use Rattle.cif_grammar.specs.Grammar.{IsComment, Matched, byte, is_free, matched_text, nothing, within}

-- ---- what is read is spelled so

-- texts, a closing parenthesis behind each, and a rest
abbrev closed_text : List Matched → List ℕ → List ℕ
closed_text [] rest = rest
closed_text (m ∷ ms) rest = matched_text m ++ (41 ∷ closed_text ms rest)

-- what is open at so great a depth: the innermost text, and those round it
record Levels (depth : ℕ) (bytes rest : List ℕ) : Type 0 where
  inner : Matched
  outer : List Matched
  count : length outer ≡ depth
  inner_free : is_free inner ≡ true
  outer_free : list_all is_free outer ≡ true
  parts : bytes ≡ matched_text inner ++ (41 ∷ closed_text outer rest)

closing : (depth : ℕ) (bytes rest : List ℕ) → Levels depth bytes rest → Levels (suc depth) (41 ∷ bytes) rest
closing depth bytes rest h = record {
  inner = nothing;
  outer = h.inner ∷ h.outer;
  count = ap suc h.count;
  inner_free = refl;
  outer_free = and_from (is_free h.inner) (list_all is_free h.outer) h.inner_free h.outer_free;
  parts = ap (λ t. 41 ∷ t) h.parts;
}

further : (b depth : ℕ) (bytes rest : List ℕ) → (b == 41) ≡ false → (b == 40) ≡ false → Levels depth bytes rest
    → Levels depth (b ∷ bytes) rest
further b depth bytes rest no_close no_open h = record {
  inner = byte b h.inner;
  outer = h.outer;
  count = h.count;
  inner_free = rw (no_close, no_open) h.inner_free;
  outer_free = h.outer_free;
  parts = ap (λ t. b ∷ t) h.parts;
}

opening : (depth : ℕ) (bytes rest : List ℕ) → Levels (suc depth) bytes rest → Levels depth (40 ∷ bytes) rest
opening depth bytes rest h = by_outer h.outer h.count h.outer_free h.parts where
  by_outer : (outer : List Matched) → length outer ≡ suc depth → list_all is_free outer ≡ true
      → bytes ≡ matched_text h.inner ++ (41 ∷ closed_text outer rest) → Levels depth (40 ∷ bytes) rest
  by_outer [] count free parts = absurd (omega arith)
  by_outer (m ∷ ms) count free parts =
      let frees = and_parts (is_free m) (list_all is_free ms) free in
      record {
        inner = within h.inner m;
        outer = ms;
        count = omega arith;
        inner_free = and_from (is_free h.inner) (is_free m) h.inner_free frees.0;
        outer_free = frees.1;
        parts = ap (λ t. 40 ∷ t) (parts ∙ sym (append_assoc (matched_text h.inner) (41 ∷ matched_text m) (41 ∷ closed_text ms rest)));
      }

none_some : (rest : List ℕ) → ◌≡◌ {A = Option (List ℕ)} None (Some rest) → ⊥
none_some rest e = cc

closing_takes : (bytes : List ℕ) (depth : ℕ) (rest : List ℕ) → behind_closing depth bytes ≡ Some rest → Levels depth bytes rest
unfolding behind_closing
closing_takes [] depth rest e = absurd (none_some rest e)
closing_takes (b ∷ bs) zero rest e =
    elim (chosen_of (b == 41) _ _ (Some rest) e) [
      | inl close ↦ record {
        inner = nothing;
        outer = [];
        count = refl;
        inner_free = refl;
        outer_free = refl;
        parts = ap (λ l. l ∷ bs) (eqb-true b 41 close.0) ∙ ap (λ t. 41 ∷ t) (same_Some bs rest close.1);
      }
      | inr no_close ↦ elim (chosen_of (b == 40) _ _ (Some rest) no_close.1) [
        | inl begins ↦ rw (eqb-true b 40 begins.0) (opening 0 bs rest (closing_takes bs 1 rest begins.1))
        | inr on ↦ further b 0 bs rest no_close.0 on.0 (closing_takes bs 0 rest on.1)
      ]
    ]
closing_takes (b ∷ bs) (suc depth) rest e =
    elim (chosen_of (b == 41) _ _ (Some rest) e) [
      | inl close ↦ rw (eqb-true b 41 close.0) (closing depth bs rest (closing_takes bs depth rest close.1))
      | inr no_close ↦ elim (chosen_of (b == 40) _ _ (Some rest) no_close.1) [
        | inl begins ↦ rw (eqb-true b 40 begins.0) (opening (suc depth) bs rest (closing_takes bs (suc (suc depth)) rest begins.1))
        | inr on ↦ further b (suc depth) bs rest no_close.0 on.0 (closing_takes bs (suc depth) rest on.1)
      ]
    ]

-- bytes that are read as a comment's
some_rest : (o : Option (List ℕ)) → are_blanks_behind o ≡ true → (rest : List ℕ) × (o ≡ Some rest) × (list_all is_blank rest ≡ true)
some_rest None e = absurd cc
some_rest (Some rest) e = (rest, refl, e)

pub comment_takes : (bytes : List ℕ) → is_comment bytes ≡ true → IsComment (40 ∷ bytes)
comment_takes bytes e =
    let found = some_rest (behind_closing 0 bytes) e in
    let levels = closing_takes bytes 0 found.0 found.1 in
    let none : levels.outer ≡ [] = empty levels.outer levels.count in
    record {
      inside = levels.inner;
      behind = found.0;
      parts = ap (λ t. 40 ∷ t) (levels.parts ∙ ap (λ o. matched_text levels.inner ++ (41 ∷ closed_text o found.0)) none);
      free = levels.inner_free;
      behind_blank = found.2;
    }
  where
    empty : (ms : List Matched) → length ms ≡ 0 → ms ≡ []
    empty [] e = refl
    empty (m ∷ ms) e = absurd (omega arith)

-- ---- what is spelled is read

-- a byte that is no parenthesis
pub free_byte : (b : ℕ) → not (b == 40 || b == 41) ≡ true → ((b == 41) ≡ false) × ((b == 40) ≡ false)
free_byte b h = (grind (arith, nat_tests), grind (arith, nat_tests))

pass_byte : (b depth : ℕ) (bs : List ℕ) → (b == 41) ≡ false → (b == 40) ≡ false → behind_closing depth (b ∷ bs) ≡ behind_closing depth bs
unfolding behind_closing
pass_byte b zero bs no_close no_open = rw (no_close, no_open) refl
pass_byte b (suc depth) bs no_close no_open = rw (no_close, no_open) refl

pass_open : (depth : ℕ) (bs : List ℕ) → behind_closing depth (40 ∷ bs) ≡ behind_closing (suc depth) bs
unfolding behind_closing
pass_open zero bs = refl
pass_open (suc depth) bs = refl

pass_close : (depth : ℕ) (bs : List ℕ) → behind_closing (suc depth) (41 ∷ bs) ≡ behind_closing depth bs
unfolding behind_closing
pass_close depth bs = refl

pass : (m : Matched) (depth : ℕ) (bs : List ℕ) → is_free m ≡ true → behind_closing depth (matched_text m ++ bs) ≡ behind_closing depth bs
pass nothing depth bs free = refl
pass (byte b more) depth bs free =
    let parts = and_parts (not (b == 40 || b == 41)) (is_free more) free in
    let other = free_byte b parts.0 in
    pass_byte b depth (matched_text more ++ bs) other.0 other.1 ∙ pass more depth bs parts.1
pass (within inner more) depth bs free =
    let parts = and_parts (is_free inner) (is_free more) free in
    pass_open depth ((matched_text inner ++ (41 ∷ matched_text more)) ++ bs)
    ∙ ap (behind_closing (suc depth)) (append_assoc (matched_text inner) (41 ∷ matched_text more) bs)
    ∙ pass inner (suc depth) (41 ∷ (matched_text more ++ bs)) parts.0 ∙ pass_close depth (matched_text more ++ bs)
    ∙ pass more depth bs parts.1

last_close : (bs : List ℕ) → behind_closing 0 (41 ∷ bs) ≡ Some bs
unfolding behind_closing
last_close bs = refl

pub comment_again : (text : List ℕ) (h : IsComment text) → is_comment (matched_text h.inside ++ (41 ∷ h.behind)) ≡ true
comment_again text h = rw (pass h.inside 0 (41 ∷ h.behind) h.free, last_close h.behind) h.behind_blank
