-- The lines of a live run: a CIF text in front of the line `%live`, and what stands behind it.
use Rattle.std.specs.Prelude.{ℕ, ◌+◌, List, [], ◌∷◌, codes, length, filter, Bool, true, false, ◌==◌, ◌&&◌, nat_eq, if◌then◌else◌}
use Rattle.std.specs.Prelude.{Option, None, Some, is_some, Result, Ok, Err}
use Rattle.std.specs.List.{concat, starts_with}
use Rattle.session_steps.specs.declared.Step.{Step}
use Rattle.job_text.specs.declared.job.JobFault.{JobFault}
use Rattle.job_text.specs.declared.job.JobFault.TheVariants.{Line}
use Rattle.job_text.specs.Job.{job_of}
use Rattle.job_text.specs.Jobs.{Job}
use Rattle.byte_io.specs.Lines.{lines}

-- whether the line ends with a newline
abbrev pub is_ended : List ℕ → Bool
is_ended [] = false
is_ended (b ∷ []) = b == 10
is_ended (b ∷ c ∷ bytes) = is_ended (c ∷ bytes)

-- those lines of the bytes that end with a newline
abbrev pub whole : List ℕ → List (List ℕ)
whole bytes = filter is_ended (lines bytes)

-- whether steps begin behind the line
abbrev pub is_live : List ℕ → Bool
is_live line = starts_with nat_eq line (codes "%live")

-- the lines in front of the first that is live
abbrev pub before : List (List ℕ) → List (List ℕ)
before [] = []
before (line ∷ lines) = if is_live line then [] else line ∷ before lines

-- the lines behind it, if there is one
abbrev pub behind : List (List ℕ) → Option (List (List ℕ))
behind [] = None
behind (line ∷ lines) = if is_live line then Some lines else behind lines

-- whether no session has a script
abbrev pub has_no_script : List (List Step) → Bool
has_no_script [] = true
has_no_script (script ∷ scripts) = false

-- the CIF text of a job without scripts, in front of a live line, which has this number; else the fault at that line
abbrev pub cif_from : ℕ → Bool → Result Job JobFault → Result (List ℕ) JobFault
cif_from number live (Err fault) = Err fault
cif_from number live (Ok job) = if live && has_no_script job.scripts then Ok job.cif else Err (Line number)

-- the CIF text of the lines, or the number of the first line with a fault
abbrev pub cif_of : List (List ℕ) → Result (List ℕ) JobFault
cif_of lines = cif_from (length (before lines) + 1) (is_some (behind lines)) (job_of (concat (before lines)))
