-- The journal of a live run: the lines up to the live line, and of those behind it the ones that are steps.
-- Source: this project's own.
-- Checked on: tests/live, which cuts a journal at each of its bytes.
use Rattle.std.specs.Prelude.{◌≡◌, ℕ, ◌+◌, List, [], ◌∷◌, ◌++◌, codes, Bool, true, false, if◌then◌else◌, Option, None, Some}
use Rattle.std.specs.List.{concat}
use Rattle.session_steps.specs.declared.Step.{Step as StepOf}
use Rattle.session_steps.specs.declared.Step.TheVariants.{Cancel, Commit, Do, Open, Redo, Undo}
use Rattle.job_text.specs.declared.live.LiveLine.{LiveLine}
use Rattle.job_text.specs.declared.live.LiveLine.TheVariants.{Ask, Blank, Unknown as UnknownLine, Step, Write}
use Rattle.job_text.specs.Live.{live_line}
use Rattle.job_text.specs.Words.{words_of}
use Rattle.live_run.specs.declared.live.Keeping.{Keeping}
use Rattle.live_run.specs.declared.live.Keeping.TheVariants.{Line, No, Unknown}
use Rattle.live_run.specs.Cif.{before, behind, is_ended, is_live}

-- a text that was kept, and whether it and all before it were on the disk when the call returned
abbrev pub KeptText : Type 0
KeptText = List ℕ × Bool

-- the journal has these entries more; one that can't know its entries still can't
abbrev pub KeptMore : Option (List KeptText) → Option (List KeptText) → List KeptText → Type 0
KeptMore None new entries = new ≡ None
KeptMore (Some old) new entries = new ≡ Some (old ++ entries)

module _ {J : Type 0} (kept : J → Option (List KeptText)) (losses : J → ℕ) (old new : J) where
  -- from the old journal to the new: all of these were kept and nothing else, and it didn't fail
  pub record KeptAll (entries : List KeptText) : Type 0 where
    pub all : KeptMore (kept old) (kept new) entries
    pub unfailing : losses new ≡ losses old

  -- from the old journal to the new: it failed, once, behind some first of these and a prefix of the next
  pub record KeptPart (entries : List KeptText) : Type 0 where
    pub begun : (first more : List KeptText) × (start rest : List ℕ) × (flushed : Bool)
        × (first ++ (start ++ rest, flushed) ∷ more ≡ entries) × KeptMore (kept old) (kept new) (first ++ (start, false) ∷ [])
    pub failed : losses new ≡ losses old + 1

-- the text, with a newline at its end, where it has a byte
abbrev pub as_line : List ℕ → List ℕ
as_line [] = []
as_line (b ∷ text) = if is_ended (b ∷ text) then b ∷ text else (b ∷ text) ++ codes "\n"

-- whether the step ends with what others see, and so is flushed to the disk before its reply
abbrev pub is_lasting : StepOf → Bool
is_lasting Open = false
is_lasting (Do command) = false
is_lasting Commit = true
is_lasting Cancel = false
is_lasting (Undo txn) = true
is_lasting (Redo txn) = true

-- whether a line that says this is kept, and then whether it is flushed
abbrev pub keeping_of : LiveLine → Option Bool
keeping_of Blank = None
keeping_of (Step session step) = Some (is_lasting step)
keeping_of Write = None
keeping_of (Ask question) = None
keeping_of UnknownLine = None

-- the same, by what the answer says
abbrev pub kept_as : Keeping → Option Bool
kept_as No = None
kept_as (Line flushed) = Some flushed
kept_as (Unknown number) = None

abbrev pub entries_by : Option Bool → List ℕ → List KeptText
entries_by None line = []
entries_by (Some flushed) line = (as_line line, flushed) ∷ []

-- what is kept of a line behind the live line: the line, where it is a step
abbrev pub kept_line : List ℕ → List KeptText
kept_line line = entries_by (keeping_of (live_line (words_of line))) line

abbrev pub kept_lines : List (List ℕ) → List KeptText
kept_lines [] = []
kept_lines (line ∷ lines) = kept_line line ++ kept_lines lines

-- what is kept of a head and its live line
abbrev pub kept_head : List ℕ → List ℕ → List KeptText
kept_head head line = (as_line head, false) ∷ (as_line line, true) ∷ []

-- the first line that is live
abbrev pub first_live : List (List ℕ) → List ℕ
first_live [] = []
first_live (line ∷ lines) = if is_live line then line else first_live lines

abbrev pub kept_since : List (List ℕ) → Option (List (List ℕ)) → List KeptText
kept_since lines None = []
kept_since lines (Some fed) = kept_head (concat (before lines)) (first_live lines) ++ kept_lines fed

-- what is kept of lines: nothing before the live line has come
abbrev pub kept_in : List (List ℕ) → List KeptText
kept_in lines = kept_since lines (behind lines)

-- the bytes of entries
abbrev pub bytes_of : List KeptText → List ℕ
bytes_of [] = []
bytes_of (entry ∷ entries) = entry.0 ++ bytes_of entries
