-- A live run: what each line is answered, and what it leaves.
use Rattle.std.specs.Prelude.{ℕ, ◌+◌, List, [], ◌∷◌, ◌++◌, Bool, true, false, replicate, slice_index, slice_set}
use Rattle.lay_layouts.specs.Layout.{Layout}
use Rattle.undo_book.specs.declared.book.TheConstants.{MAX_CALLS}
use Rattle.std.specs.List.{list_any}
use Rattle.session_steps.specs.declared.Reply.{Reply}
use Rattle.session_steps.specs.declared.Reply.TheVariants.{Fault}
use Rattle.session_steps.specs.declared.Step.{Step as StepOf}
use Rattle.session_core.specs.Machine.{State, start, step_outcome}
use Rattle.job_text.specs.declared.live.LiveLine.{LiveLine}
use Rattle.job_text.specs.declared.live.LiveLine.TheVariants.{Ask, Blank, Unknown, Step, Write}
use Rattle.job_text.specs.Live.{live_line, odd_text}
use Rattle.job_text.specs.Replies.{reply_text}
use Rattle.job_text.specs.Words.{words_of}
use Rattle.live_questions.specs.Answers.{told_text}
use Rattle.live_run.specs.declared.live.Answer.{Answer}
use Rattle.live_run.specs.declared.live.Live.{Live}
use Rattle.live_run.specs.declared.showing.View.{View}

-- the state of the machine, the session of each step and its reply, how many steps each session took, how many lines came, and how
-- the layout is shown
pub record LiveRun : Type 0 where
  pub state : State
  pub sessions : List ℕ
  pub replies : List Reply
  pub taken : List ℕ
  pub lines : ℕ
  pub view : View

-- what contracts see of a live run
abbrev pub run_of : Live → LiveRun
run_of l = record {
  state = l.machine;
  sessions = l.sessions.items;
  replies = l.replies.items;
  taken = l.taken.items;
  lines = l.lines;
  view = l.view;
}

-- a run on this layout before its first line, of 64 sessions, which shows the layout so
abbrev pub before_first_line : View → Layout → LiveRun
before_first_line view base = record {
  state = start base 64 MAX_CALLS;
  sessions = [];
  replies = [];
  taken = replicate 65 0;
  lines = 0;
  view = view;
}

-- whether the step with this reply was refused
abbrev pub is_refusal : Reply → Bool
is_refusal (Fault fault) = true
is_refusal reply = false

-- whether a step was
abbrev pub has_refused : LiveRun → Bool
has_refused run = list_any is_refusal run.replies

-- a comment, and whether the layout is wanted
abbrev pub Said : Type 0
Said = List ℕ × Bool

-- what contracts see of an answer
abbrev pub said_of : Answer → Said
said_of a = (a.comment.items, a.is_layout_wanted)

-- the run with one line more
abbrev pub one_more : LiveRun → LiveRun
one_more run = record {
  state = run.state;
  sessions = run.sessions;
  replies = run.replies;
  taken = run.taken;
  lines = run.lines + 1;
  view = run.view;
}

-- the number of the session's next step
abbrev pub next_of : LiveRun → ℕ → ℕ
next_of run session = slice_index run.taken session + 1

-- the run after a step that was answered so and left this state
abbrev pub stepped : LiveRun → ℕ → Reply × State → LiveRun
stepped run session took = record {
  state = took.1;
  sessions = run.sessions ++ session ∷ [];
  replies = run.replies ++ took.0 ∷ [];
  taken = slice_set run.taken session (next_of run session);
  lines = run.lines + 1;
  view = run.view;
}

-- what a step is answered, and what it leaves
abbrev pub after_step : LiveRun → ℕ → StepOf → LiveRun × Said
after_step run session step =
    let took = step_outcome run.state session step in
    (stepped run session took, (reply_text session (next_of run session) took.0, false))

-- what a line that says this is answered
abbrev pub answered : LiveRun → LiveLine → LiveRun × Said
answered run Blank = (one_more run, ([], false))
answered run (Step session step) = after_step run session step
answered run Write = (one_more run, ([], true))
answered run (Ask question) = (one_more run, (told_text run.view.names question run.state.history, false))
answered run Unknown = (one_more run, (odd_text (run.lines + 1), false))

-- what a line is answered
unfoldable pub after_line : LiveRun → List ℕ → LiveRun × Said
after_line run line = answered run (live_line (words_of line))

-- the run after these lines
abbrev pub after_lines : LiveRun → List (List ℕ) → LiveRun
after_lines run [] = run
after_lines run (line ∷ lines) = after_lines (after_line run line).0 lines
