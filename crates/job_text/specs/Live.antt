-- Lines of a live run: a step of a session, the word that asks for the layout, or a question.
-- Source: this project's own.
-- Checked on: each job of tests/jobs, its steps sent one by one.
use Rattle.std.specs.Prelude.{ℕ, List, [], ◌∷◌, ◌++◌, codes, decimal, ◌&&◌, ◌==◌, if◌then◌else◌, Option, None, Some}
use Rattle.std.specs.Str.{bytes_eq}
use Rattle.session_steps.specs.declared.Step.{Step as StepOf}
use Rattle.job_text.specs.declared.question.Question.{Question}
use Rattle.job_text.specs.declared.live.LiveLine.{LiveLine}
use Rattle.job_text.specs.declared.live.LiveLine.TheVariants.{Blank, Step, Write, Ask, Unknown}
use Rattle.job_text.specs.Job.{is_none_of, session_of}
use Rattle.job_text.specs.Questions.{question_of}
use Rattle.job_text.specs.Steps.{step_of}

-- the step, if the words say one
abbrev pub step_or_odd : ℕ → Option StepOf → LiveLine
step_or_odd session None = Unknown
step_or_odd session (Some step) = Step session step

-- a session from 1 to 64 takes the step that the words say; no other takes one
abbrev pub step_line : ℕ → List (List ℕ) → LiveLine
step_line session words = if session == 0 then Unknown else step_or_odd session (step_of words)

-- the question, if the words say one; else this line
abbrev pub asked_or : Option Question → LiveLine → LiveLine
asked_or None line = line
asked_or (Some question) line = Ask question

-- what the words of a line say
unfoldable pub live_line : List (List ℕ) → LiveLine
live_line [] = Blank
live_line (word ∷ words) =
    if bytes_eq word (codes "%write") && is_none_of words then Write
    else asked_or (question_of word words) (step_line (session_of word) words)

-- the comment that says that the line of this number is odd
unfoldable pub odd_text : ℕ → List ℕ
odd_text line = codes "(fault line " ++ decimal line ++ codes ");\n"
