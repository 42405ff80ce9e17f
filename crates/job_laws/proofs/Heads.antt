-- The first line with words, and the lines of the text.
use Rattle.std.proofs.Common.{◌≡◌, ℕ, ◌+◌, Bool, true, false, List, [], ◌∷◌, ◌++◌, refl, sym, ap, ◌∙◌}
use Rattle.std.specs.Prelude.{codes, if◌then◌else◌, Ok, Err}
use Rattle.std.specs.List.{AllByRecursion}
use Rattle.job_text.specs.declared.job.JobFault.TheVariants.{Line as FaultLine}
use Rattle.job_text.specs.Text.{is_section, sections_of, text_of}
use Rattle.job_text.specs.Job.{head_of, is_none_of, is_only}
use Rattle.job_text.specs.Words.{words_of}
use Rattle.job_laws.specs.JobLines.{BeginsSections, IsBlank, IsOfText, IsOnly, JobLine, all_of}
use Rattle.job_laws.proofs.Choices.{choose, none_is, not_err, ok_same, only_is}

-- lines without words, and then `%cif`
pub record BeginsWithHead (all others : List JobLine) : Type 0 where
  pub blanks : List JobLine
  pub head : JobLine
  pub parts : all ≡ blanks ++ (head ∷ others)
  pub none : AllByRecursion IsBlank blanks
  pub names : IsOnly (codes "%cif") head

pub head_sound : (n : ℕ) (all : List JobLine) (m : ℕ) (others : List JobLine) → head_of n all ≡ Ok (m, others) → BeginsWithHead all others
head_sound n [] m others h = not_err (m, others) (FaultLine 1) h
head_sound n (line ∷ more) m others h =
    choose (is_none_of (words_of line)) (head_of (n + 1) more)
    (if is_only (codes "%cif") (words_of line) then Ok (n + 1, more) else Err (FaultLine n)) (Ok (m, others)) h
    (λ e same. after_blank line more others (none_is (words_of line) e) (head_sound (n + 1) more m others same))
    (λ e same.
    choose (is_only (codes "%cif") (words_of line)) (Ok (n + 1, more)) (Err (FaultLine n)) (Ok (m, others)) same
    (λ named found.
    here line more others (only_is (codes "%cif") (words_of line) named)
    (ap (λ p. p.1) (ok_same (n + 1, more) (m, others) found)))
    (λ other refused. not_err (m, others) (FaultLine n) refused)) where
      after_blank : (line : JobLine) (more others : List JobLine) → IsBlank line → BeginsWithHead more others →
          BeginsWithHead (line ∷ more) others
      after_blank line more others blank first = record {
        blanks = line ∷ first.blanks;
        head = first.head;
        parts = ap (λ l. line ∷ l) first.parts;
        none = (blank, first.none);
        names = first.names;
      }

      here : (line : JobLine) (more others : List JobLine) → IsOnly (codes "%cif") line → more ≡ others
          → BeginsWithHead (line ∷ more) others
      here line more others named same =
          record { blanks = []; head = line; parts = ap (λ l. line ∷ l) same; none = tt; names = named }

head_here : (n : ℕ) (head : JobLine) (others : List JobLine) → IsOnly (codes "%cif") head → head_of n (head ∷ others) ≡ Ok (n + 1, others)
head_here n head others named =
    ap (λ ws. if is_none_of ws then head_of (n + 1) others
    else if is_only (codes "%cif") ws then Ok (n + 1, others) else Err (FaultLine n)) named

pub head_complete : (n : ℕ) (blanks : List JobLine) (head : JobLine) (others : List JobLine) → AllByRecursion IsBlank blanks →
    IsOnly (codes "%cif") head → (m : ℕ) × (head_of n (blanks ++ (head ∷ others)) ≡ Ok (m, others))
head_complete n [] head others none named = (n + 1, head_here n head others named)
head_complete n (line ∷ blanks) head others none named =
    let more = head_complete (n + 1) blanks head others none.1 named in
    let rest = blanks ++ (head ∷ others) in (
      more.0,
      ap (λ ws. if is_none_of ws then head_of (n + 1) rest
          else if is_only (codes "%cif") ws then Ok (n + 1, rest) else Err (FaultLine n)) none.0 ∙ more.1,
    )

-- ---- the text

-- the lines before the sections
pub record BeginsWithText (n : ℕ) (all : List JobLine) : Type 0 where
  pub text : List JobLine
  pub parts : all ≡ text ++ (sections_of n all).1
  pub plain : AllByRecursion IsOfText text
  pub begins : BeginsSections (sections_of n all).1
  pub same : text_of all ≡ all_of text

text_ends : (n : ℕ) (line : JobLine) (more : List JobLine) → is_section line ≡ true → BeginsWithText n (line ∷ more)
text_ends n line more e =
    let rest : (sections_of n (line ∷ more)).1 ≡ line ∷ more =
    ap (λ t. (if t then (n, line ∷ more) else sections_of (n + 1) more).1) e in
    record {
      text = [];
      parts = sym rest;
      plain = tt;
      begins = rw rest e;
      same = ap (λ t. if t then [] else line ++ text_of more) e;
    }

text_more : (n : ℕ) (line : JobLine) (more : List JobLine) → is_section line ≡ false → BeginsWithText (n + 1) more →
    BeginsWithText n (line ∷ more)
text_more n line more e first =
    let rest : (sections_of n (line ∷ more)).1 ≡ (sections_of (n + 1) more).1 =
    ap (λ t. (if t then (n, line ∷ more) else sections_of (n + 1) more).1) e in
    record {
      text = line ∷ first.text;
      parts = ap (λ l. line ∷ l) first.parts ∙ ap (λ l. line ∷ (first.text ++ l)) (sym rest);
      plain = (e, first.plain);
      begins = rw rest first.begins;
      same = ap (λ t. if t then [] else line ++ text_of more) e ∙ ap (λ t. line ++ t) first.same;
    }

by_section : (n : ℕ) (line : JobLine) (more : List JobLine) (t : Bool) → is_section line ≡ t → BeginsWithText (n + 1) more →
    BeginsWithText n (line ∷ more)
by_section n line more true e first = text_ends n line more e
by_section n line more false e first = text_more n line more e first

pub text_sound : (n : ℕ) (all : List JobLine) → BeginsWithText n all
text_sound n [] = record { text = []; parts = refl; plain = tt; begins = tt; same = refl }
text_sound n (line ∷ more) = by_section n line more (is_section line) refl (text_sound (n + 1) more)

pub text_complete : (n : ℕ) (text sections : List JobLine) → AllByRecursion IsOfText text → BeginsSections sections →
    (m : ℕ) × (sections_of n (text ++ sections) ≡ (m, sections)) × (text_of (text ++ sections) ≡ all_of text)
text_complete n [] [] plain begins = (n, refl, refl)
text_complete n [] (line ∷ more) plain begins = (
  n,
  ap (λ t. if t then (n, line ∷ more) else sections_of (n + 1) more) begins,
  ap (λ t. if t then [] else line ++ text_of more) begins,
)
text_complete n (line ∷ text) sections plain begins =
    let more = text_complete (n + 1) text sections plain.1 begins in
    let rest = text ++ sections in (
      more.0,
      ap (λ t. if t then (n, line ∷ rest) else sections_of (n + 1) rest) plain.0 ∙ more.1,
      ap (λ t. if t then [] else line ++ text_of rest) plain.0 ∙ ap (λ t. line ++ t) more.2,
    )
