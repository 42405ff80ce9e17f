-- Jobs: a CIF text between the line `%cif` and the first section, the steps of the sessions, and the order of the steps.
-- Source: this project's own.
-- Checked on, with a slash for each newline: examples/first-run.job; `%cif x` names line 1;
-- `%cif/E/%order/1/` names line 3; `%cif/E/%sessions/` names line 3; a line ` %session 1` with a
-- blank before it belongs to the CIF text; with two steps of session 1 and none of session 2,
-- `%order/1 x 1/` names the second of these lines, `%order/x/1 2/` the first.
use Rattle.std.specs.Prelude.{ℕ, ◌+◌, List, [], ◌∷◌, ◌++◌, codes, length, count_by, replicate, Bool, true, false, ◌&&◌, ◌==◌}
use Rattle.std.specs.Prelude.{nat_eq, nat_lt, if◌then◌else◌, unwrap_or, Option, None, Some, Result, Ok, Err}
use Rattle.std.specs.List.{list_all}
use Rattle.std.specs.Option.{ok_or, option_eq}
use Rattle.std.specs.Str.{bytes_eq}
use Rattle.job_text.specs.declared.job.JobFault.{JobFault}
use Rattle.job_text.specs.declared.job.JobFault.TheVariants.{Line}
use Rattle.session_steps.specs.declared.Step.{Step}
use Rattle.job_text.specs.Jobs.{Job}
use Rattle.byte_io.specs.Lines.{lines}
use Rattle.job_text.specs.Steps.{step_of}
use Rattle.byte_io.specs.Numbers.{is_number, parsed_number}
use Rattle.job_text.specs.Text.{Place, sections_of, text_of}
use Rattle.job_text.specs.Words.{words_of}

-- the step that follows takes what this one gives, and nothing follows a fault
infixl 10 ◌>>=◌
abbrev pub ◌>>=◌ : {A B : Type 0} → Result A JobFault → (A → Result B JobFault) → Result B JobFault
(Ok x) >>= f = f x
(Err e) >>= f = Err e

-- whether there is no word
abbrev pub is_none_of : List (List ℕ) → Bool
is_none_of [] = true
is_none_of (word ∷ words) = false

-- whether this is the one word
abbrev pub is_only : List ℕ → List (List ℕ) → Bool
is_only name [] = false
is_only name (word ∷ words) = bytes_eq word name && is_none_of words

-- what stands behind the line `%cif`, which is the first with words
abbrev pub head_of : ℕ → List (List ℕ) → Result Place JobFault
head_of number [] = Err (Line 1)
head_of number (line ∷ behind) =
    if is_none_of (words_of line) then head_of (number + 1) behind
    else if is_only (codes "%cif") (words_of line) then Ok (number + 1, behind) else Err (Line number)

-- whether the word spells this number of a session
abbrev pub is_session_number : ℕ → List ℕ → Bool
is_session_number session word = option_eq nat_eq (parsed_number 64 word) (Some session)

-- whether the one word spells this number of a session
abbrev pub is_only_number : ℕ → List (List ℕ) → Bool
is_only_number session [] = false
is_only_number session (word ∷ words) = is_session_number session word && is_none_of words

-- whether the words are `%session` and this number
abbrev pub is_session_line : ℕ → List (List ℕ) → Bool
is_session_line session [] = false
is_session_line session (name ∷ words) = bytes_eq name (codes "%session") && is_only_number session words

-- the steps of each session, in order, and what stands from the order on
abbrev pub Sections : Type 0
Sections = List (List Step) × Place

-- these steps, and the one of the words, if there are any
unfoldable pub steps_with : List Step → ℕ → List (List ℕ) → Result (List Step) JobFault
steps_with steps number words =
    if is_none_of words then Ok steps
    else (ok_or (step_of words) (Line number) >>= λ step. Ok (steps ++ step ∷ []))

-- The scripts of these sessions, and of those that the lines hold, the first of which has these steps so far.
abbrev pub scripts_of : List (List Step) → List Step → ℕ → List (List ℕ) → Result Sections JobFault
scripts_of done steps number [] = Ok (done ++ steps ∷ [], (number, []))
scripts_of done steps number (line ∷ behind) =
    if is_only (codes "%order") (words_of line) then Ok (done ++ steps ∷ [], (number, line ∷ behind))
    else if is_session_line (length done + 2) (words_of line) then scripts_of (done ++ steps ∷ []) [] (number + 1) behind
    else (steps_with steps number (words_of line) >>= λ steps. scripts_of done steps (number + 1) behind)

-- The sections: `%session 1` and the scripts, or the order at once, or nothing.
unfoldable pub sections_at : Place → Result Sections JobFault
sections_at (number, []) = Ok ([], (number, []))
sections_at (number, (line ∷ behind)) =
    if is_only (codes "%order") (words_of line) then Ok ([], (number, line ∷ behind))
    else if is_session_line 1 (words_of line) then scripts_of [] [] (number + 1) behind
    else Err (Line number)

-- the session that a number names; 0 is none, and stands for those above 64 too
unfoldable pub session_of : List ℕ → ℕ
session_of word = unwrap_or (parsed_number 64 word) 0

-- the sessions that the words name; words that aren't numbers name none
abbrev pub named_by : List (List ℕ) → List ℕ
named_by [] = []
named_by (word ∷ words) = if is_number word then session_of word ∷ named_by words else named_by words

-- the sessions that the lines name, in order
abbrev pub named_in : List (List ℕ) → List ℕ
named_in [] = []
named_in (line ∷ lines) = named_by (words_of line) ++ named_in lines

-- the number of the first line, if there is one, that has a word that isn't a number
abbrev pub odd_line : ℕ → List (List ℕ) → Option ℕ
odd_line number [] = None
odd_line number (line ∷ behind) = if list_all is_number (words_of line) then odd_line (number + 1) behind else Some number

-- how many steps all scripts have
abbrev pub total_len : {A : Type 0} → List (List A) → ℕ
total_len [] = 0
total_len (script ∷ scripts) = length script + total_len scripts

-- whether each session, from this number on, stands in the order as often as it has steps
abbrev pub are_counted : {A : Type 0} → ℕ → List (List A) → List ℕ → Bool
are_counted session [] order = true
are_counted session (script ∷ scripts) order =
    (count_by (λ n. n == session) order == length script) && are_counted (session + 1) scripts order

-- whether each session stands in the order as often as it has steps, and nothing else does
unfoldable pub order_fits : {A : Type 0} → List (List A) → List ℕ → Bool
order_fits scripts order = (length order == total_len scripts) && are_counted 1 scripts order

-- all steps of the session of this number, then those of the next
abbrev pub one_by_one : {A : Type 0} → ℕ → List (List A) → List ℕ
one_by_one session [] = []
one_by_one session (script ∷ scripts) = replicate (length script) session ++ one_by_one (session + 1) scripts

-- the order, unless a line is odd
abbrev pub unless_odd : Option ℕ → List ℕ → Result (List ℕ) JobFault
unless_odd None order = Ok order
unless_odd (Some number) order = Err (Line number)

-- The order that these lines name, behind `%order` on this line, which is at fault where the counts are wrong.
unfoldable pub named_order : List (List Step) → ℕ → List (List ℕ) → Result (List ℕ) JobFault
named_order scripts number behind =
    if order_fits scripts (named_in behind) then unless_odd (odd_line (number + 1) behind) (named_in behind) else Err (Line number)

-- The order of the steps: what `%order` names, or one session after the other.
unfoldable pub order_at : List (List Step) → Place → Result (List ℕ) JobFault
order_at scripts (number, []) = Ok (one_by_one 1 scripts)
order_at scripts (number, (line ∷ behind)) = named_order scripts number behind

-- the job of the bytes, whatever their count
unfoldable pub sections_job : List ℕ → Result Job JobFault
sections_job bytes = do
  head ← head_of 1 (lines bytes)
  sections ← sections_at (sections_of head.0 head.1)
  order ← order_at sections.0 sections.1
  Ok (record { cif = text_of head.1; scripts = sections.0; order = order })

-- the job of the bytes, or the number of the first line with a fault; a job that is too long names line 0
unfoldable pub job_of : List ℕ → Result Job JobFault
job_of bytes = if nat_lt 16777216 (length bytes) then Err (Line 0) else sections_job bytes
