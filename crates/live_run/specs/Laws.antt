-- The lines of a live run lead where their steps lead as a job.
use Rattle.std.specs.Prelude.{◌≡◌, ℕ, List, [], ◌∷◌, ◌++◌, map, true, false, None, Some, if◌then◌else◌}
use Rattle.std.specs.List.{AllByRecursion, list_all}
use Rattle.lay_layouts.specs.Layout.{Layout}
use Rattle.undo_book.specs.declared.book.TheConstants.{MAX_CALLS}
use Rattle.session_steps.specs.declared.Step.{Step as StepOf}
use Rattle.session_core.specs.Machine.{after_steps, start}
use Rattle.job_text.specs.declared.live.LiveLine.{LiveLine}
use Rattle.job_text.specs.declared.live.LiveLine.TheVariants.{Ask, Blank, Unknown, Step, Write}
use Rattle.job_text.specs.Live.{live_line}
use Rattle.job_text.specs.Words.{words_of}
use Rattle.live_run.specs.Cif.{behind, whole}
use Rattle.live_run.specs.Feed.{is_not_newline}
use Rattle.live_run.specs.Journal.{bytes_of, kept_in}
use Rattle.live_run.specs.Live.{LiveRun, Said, after_line, after_lines, before_first_line}
use Rattle.live_run.specs.Said.{AreAnswered, IsClosing, IsFirstRun, shown_named, order_said}
use Rattle.live_run.specs.Shown.{text_named}
use Rattle.live_run.specs.declared.showing.Showing.{Showing}
use Rattle.live_run.specs.declared.showing.View.{View}

-- the step that a line says, if it says one
abbrev pub steps_of : LiveLine → List (ℕ × StepOf)
steps_of Blank = []
steps_of (Step session step) = (session, step) ∷ []
steps_of Write = []
steps_of (Ask question) = []
steps_of Unknown = []

-- the steps that lines say, in order
abbrev pub steps_in : List (List ℕ) → List (ℕ × StepOf)
steps_in [] = []
steps_in (line ∷ lines) = steps_of (live_line (words_of line)) ++ steps_in lines

-- a run led where these steps lead, with their sessions and their replies
pub record LedBy (base : Layout) (steps : List (ℕ × StepOf)) (run : LiveRun) : Type 0 where
  pub state : run.state ≡ (after_steps (start base 64 MAX_CALLS) steps).1
  pub replies : run.replies ≡ (after_steps (start base 64 MAX_CALLS) steps).0
  pub sessions : run.sessions ≡ map (λ step. step.0) steps

-- so do lines, whatever they are
abbrev pub LinesAreSteps : Type 0
LinesAreSteps =
    (view : View) (base : Layout) (lines : List (List ℕ)) → LedBy base (steps_in lines) (after_lines (before_first_line view base) lines)

-- a line has one newline, at its end
abbrev pub IsWholeLine : List ℕ → Type 0
IsWholeLine line = (body : List ℕ) × (list_all is_not_newline body ≡ true) × (line ≡ body ++ 10 ∷ [])

abbrev pub AreWholeLines : List (List ℕ) → Type 0
AreWholeLines lines = AllByRecursion IsWholeLine lines

-- two runs are the same but for how many lines came
pub record SameSteps (a b : LiveRun) : Type 0 where
  pub state : a.state ≡ b.state
  pub sessions : a.sessions ≡ b.sessions
  pub replies : a.replies ≡ b.replies
  pub taken : a.taken ≡ b.taken

-- what a journal has of lines, and of the next line any bytes but its newline: a run that begins from it begins where the run of
-- those lines stands
abbrev pub JournalsResume : Type 0
JournalsResume = (showing : Showing) (lines fed : List (List ℕ)) (first : LiveRun) (cut : List ℕ) → AreWholeLines lines
    → behind lines ≡ Some fed → IsFirstRun showing lines first → list_all is_not_newline cut ≡ true
    → (kept : List (List ℕ)) × (behind (whole (bytes_of (kept_in lines) ++ cut)) ≡ Some kept)
    × IsFirstRun showing (whole (bytes_of (kept_in lines) ++ cut)) first
    × SameSteps (after_lines first kept) (after_lines first fed)

-- what a line is answered where shapes stay as they are: a comment, and the layout that the line left, where it is wanted
abbrev pub said_text : LiveRun × Said → List ℕ
said_text took = took.1.0 ++ shown_named took.0.view.names (if took.1.1 then Some took.0.state.history.layout else None)

-- what these lines are answered then, in order
abbrev pub answers : LiveRun → List (List ℕ) → List ℕ
answers run [] = []
answers run (line ∷ lines) = said_text (after_line run line) ++ answers (after_line run line).0 lines

-- what is written at the end then
abbrev pub closing : LiveRun → List ℕ
closing run = order_said run ++ text_named run.view.names run.state.history.layout

-- where shapes stay as they are, lines have one text of answers, and a run one at its end; without names that of the layout itself
abbrev pub PlainRunsSayOne : Type 0
PlainRunsSayOne = (run : LiveRun) → run.view.oriented ≡ false
    → ((lines : List (List ℕ)) (said : List ℕ) → AreAnswered run lines said → said ≡ answers run lines)
    × ((said : List ℕ) → IsClosing run said → said ≡ closing run)
