-- Sessions that take steps on one book: what each step answers, in the order in which refusals are tested,
-- and what it leaves.
-- Source: this project's own.
-- Checked on: `commit` first of all is NotOpen; a second `open` is AlreadyOpen; any step of session
-- 0, or of session 3 among two, is NoSession; tests/jobs/refusals.job.
use Rattle.std.specs.Prelude.{◌≡◌, ◌≢◌, ℕ, ◌-◌, List, [], ◌∷◌, length, Bool, true, false, ◌&&◌, nat_le, Option, None, Some, Result, Ok}
use Rattle.std.specs.Prelude.{Err, if◌then◌else◌, slice_index_or, slice_set, replicate, ◌⊎◌, refl}
use Rattle.std.specs.Coded.{Coded, code_by, coded×, coded_list, coded_option}
use Rattle.lay_layouts.specs.Layout.{Layout}
use Rattle.undo_rules.specs.declared.log.BookFault.{BookFault}
use Rattle.undo_rules.specs.declared.log.BookFault.TheVariants.{LogFull, Foreign, NoMemory as BookMemory}
use Rattle.txn_commands.specs.declared.fault.CmdFault.{CmdFault}
use Rattle.txn_commands.specs.declared.fault.CmdFault.TheVariants.{NoMemory as CommandMemory}
use Rattle.txn_commands.specs.declared.command.Command as commands
use Rattle.txn_commands.specs.declared.command.Done as dones
use Rattle.txn_commands.specs.declared.command.TxnId.{TxnId}
use Rattle.txn_commands.specs.Transactions.{Transaction}
use Rattle.undo_rules.specs.Books.{History}
use Rattle.undo_rules.specs.Steps.{commit_step, fresh, open_step, redo_step, undo_step}
use Rattle.txn_work.specs.Answers.{after_command, answer_to, coded_transaction}
use Rattle.undo_book.specs.Calls.{handed_back}
use Rattle.undo_book.specs.Coded.{coded_history}
use Rattle.session_steps.specs.declared.Reply.{Reply}
use Rattle.session_steps.specs.declared.Reply.TheVariants.{Cancelled, Committed, Done, Fault, Opened, Redone, Undone}
use Rattle.session_steps.specs.declared.Step.{Step}
use Rattle.session_steps.specs.declared.Step.TheVariants.{Cancel, Commit, Do, Open, Redo, Undo}
use Rattle.session_steps.specs.declared.StepFault.TheVariants.{AlreadyOpen, Book, Command, NoSession, NotOpen}

-- the history of the book, and the transaction that each session has open
pub record State : Type 0 where
  pub history : History
  pub works : List (Option Transaction)

-- a state is stored as its parts
abbrev pub coded_state : Coded State
coded_state =
    code_by (History × List (Option Transaction)) (coded× coded_history (coded_list (coded_option coded_transaction)))
    (λ s. (s.history, s.works)) (λ p. record { history = p.0; works = p.1 }) (λ _. refl)

-- the state at the start
abbrev pub start : Layout → ℕ → ℕ → State
start base sessions limit = record { history = fresh base limit; works = replicate sessions None }

-- there is such a session
abbrev pub is_session : State → ℕ → Bool
is_session s session = nat_le 1 session && nat_le session (length s.works)

-- the transaction that the session has open
abbrev pub open_of : State → ℕ → Option Transaction
open_of s session = slice_index_or s.works (session - 1) None

-- the state with this history, and this transaction open in the session
abbrev pub with_work : State → History → ℕ → Option Transaction → State
with_work s history session work = record { history = history; works = slice_set s.works (session - 1) work }

-- the state with this history
abbrev pub with_history : State → History → State
with_history s history = record { history = history; works = s.works }

-- ---- what a session's step answers and leaves, where the session has this open

-- a transaction that the book opened is the session's
abbrev pub open_outcome : State → ℕ → Result Transaction BookFault × History → Reply × State
open_outcome s session (Ok txn, history) = (Opened txn.id.txn, with_work s history session (Some txn))
open_outcome s session (Err fault, history) = (Fault (Book fault), with_history s history)

-- with a transaction open there is no second
abbrev pub open_in : State → ℕ → Option Transaction → Reply × State
open_in s session None = open_outcome s session (open_step s.history session)
open_in s session (Some txn) = (Fault AlreadyOpen, s)

-- the answer to a command as a reply
abbrev pub command_reply : Result dones.Done CmdFault → Reply
command_reply (Ok done) = Done done
command_reply (Err fault) = Fault (Command fault)

-- a command runs in the session's transaction, and the book isn't touched
abbrev pub run_in : State → ℕ → commands.Command → Option Transaction → Reply × State
run_in s session command None = (Fault NotOpen, s)
run_in s session command (Some txn) = (
  command_reply (answer_to txn command),
  with_work s s.history session
      (Some (after_command txn command)),
)

-- after a commit the session has nothing open; a refused one leaves it what is handed back, and nothing where it was stale
abbrev pub commit_outcome : State → ℕ → Transaction → Result TxnId BookFault × History → Reply × State
commit_outcome s session txn (Ok id, history) = (Committed id, with_work s history session None)
commit_outcome s session txn (Err fault, history) = (Fault (Book fault), with_work s history session (handed_back fault txn))

abbrev pub commit_in : State → ℕ → Option Transaction → Reply × State
commit_in s session None = (Fault NotOpen, s)
commit_in s session (Some txn) = commit_outcome s session txn (commit_step s.history txn)

-- a cancel gives the transaction up, and the book isn't touched
abbrev pub cancel_in : State → ℕ → Option Transaction → Reply × State
cancel_in s session None = (Fault NotOpen, s)
cancel_in s session (Some txn) = (Cancelled, with_work s s.history session None)

-- an undo leaves what the sessions have open
abbrev pub undo_in : State → Result (Unit {0}) BookFault × History → Reply × State
undo_in s (Ok done, history) = (Undone, with_history s history)
undo_in s (Err fault, history) = (Fault (Book fault), with_history s history)

-- and so does a redo
abbrev pub redo_in : State → Result (Unit {0}) BookFault × History → Reply × State
redo_in s (Ok done, history) = (Redone, with_history s history)
redo_in s (Err fault, history) = (Fault (Book fault), with_history s history)

-- a step of a session that is there
abbrev pub step_in : State → ℕ → Step → Reply × State
step_in s session Open = open_in s session (open_of s session)
step_in s session (Do command) = run_in s session command (open_of s session)
step_in s session Commit = commit_in s session (open_of s session)
step_in s session Cancel = cancel_in s session (open_of s session)
step_in s session (Undo txn) = undo_in s (undo_step s.history session txn)
step_in s session (Redo txn) = redo_in s (redo_step s.history session txn)

-- what a step of a session answers, and the state that it leaves
abbrev pub step_outcome : State → ℕ → Step → Reply × State
step_outcome s session step = if is_session s session then step_in s session step else (Fault NoSession, s)

-- ---- out of memory

-- the answer to a step that is out of memory
abbrev pub memory_reply : Step → Reply
memory_reply Open = Fault (Book BookMemory)
memory_reply (Do command) = Fault (Command CommandMemory)
memory_reply Commit = Fault (Book BookMemory)
memory_reply Cancel = Fault (Book BookMemory)
memory_reply (Undo txn) = Fault (Book BookMemory)
memory_reply (Redo txn) = Fault (Book BookMemory)

-- an answer that out of memory never takes the place of
abbrev pub is_certain : Reply → Bool
is_certain Cancelled = true
is_certain (Fault NoSession) = true
is_certain (Fault AlreadyOpen) = true
is_certain (Fault NotOpen) = true
is_certain (Fault (Book LogFull)) = true
is_certain reply = false

-- from the old state to the new: this was wanted and is so; or, where memory was refused, this is the
-- answer and nothing changed
abbrev pub TakesOr : Reply → State → Reply × State → Reply → State → Type 0
TakesOr memory old wanted reply new =
    ((reply ≡ wanted.0) × (new ≡ wanted.1)) ⊎ ((is_certain wanted.0 ≡ false) × (reply ≡ memory) × (new ≡ old))

-- a step is answered as it is to be and leaves what it is to leave, or memory is wanted and nothing changes
abbrev pub TakesStep : State → ℕ → Step → Reply → State → Type 0
TakesStep old session step reply new = TakesOr (memory_reply step) old (step_outcome old session step) reply new

-- the work of the session's transaction isn't foreign to the book
abbrev pub IsNotForeign : Reply → Type 0
IsNotForeign reply = reply ≢ Fault (Book Foreign)

-- ---- many steps

-- from the old state to the new, one step after another
abbrev pub Ran : State → List (ℕ × Step) → List Reply → State → Type 0
Ran old [] [] new = new ≡ old
Ran old [] (reply ∷ replies) new = ⊥
Ran old (step ∷ steps) [] new = ⊥
Ran old (step ∷ steps) (reply ∷ replies) new = (mid : State) × TakesStep old step.0 step.1 reply mid × Ran mid steps replies new

-- what the steps are answered, and the state that they leave, where no memory is refused
abbrev pub after_steps : State → List (ℕ × Step) → List Reply × State
after_steps s [] = ([], s)
after_steps s (step ∷ steps) =
    let one = step_outcome s step.0 step.1 in
    let more = after_steps one.1 steps in
    (one.0 ∷ more.0, more.1)

-- an answer out of memory
abbrev pub is_memory : Reply → Bool
is_memory (Fault (Command CommandMemory)) = true
is_memory (Fault (Book BookMemory)) = true
is_memory reply = false
