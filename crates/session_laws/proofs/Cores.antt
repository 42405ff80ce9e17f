-- What a session's step does, from the history and the transaction that the session has open.
use Rattle.std.proofs.Common.{◌≡◌, ◌≢◌, ℕ, ◌-◌, Bool, true, false, cond, List, Option, None, Some, Result, Ok, Err, slice_set, refl, ap}
use Rattle.std.proofs.Common.{sym, ◌∙◌}
use Rattle.std.proofs.lemmas.List.{set-get_or}
use Rattle.txn_commands.specs.declared.command.Command.{Command}
use Rattle.txn_commands.specs.declared.command.TxnId.{TxnId}
use Rattle.txn_commands.specs.Transactions.{Transaction}
use Rattle.txn_work.specs.Answers.{after_command, answer_to}
use Rattle.undo_rules.specs.declared.log.BookFault.{BookFault}
use Rattle.undo_rules.specs.Books.{History}
use Rattle.undo_rules.specs.Steps.{commit_step, found, open_step, redo_step, undo_step}
use Rattle.undo_book.specs.Calls.{handed_back}
use Rattle.session_steps.specs.declared.Reply.{Reply}
use Rattle.session_steps.specs.declared.Reply.TheVariants.{Cancelled, Committed, Fault, Opened, Redone, Undone}
use Rattle.session_steps.specs.declared.Step.{Step}
use Rattle.session_steps.specs.declared.Step.TheVariants.{Cancel, Commit, Do, Open, Redo, Undo}
use Rattle.session_steps.specs.declared.StepFault.TheVariants.{AlreadyOpen, Book, NoSession, NotOpen}
use Rattle.session_core.specs.Machine as machine
use Rattle.session_core.specs.Machine.{State, command_reply, is_session, open_of, step_in, step_outcome, with_history}
use Rattle.session_core.specs.Machine.{with_work}

-- a step's reply, and the history and the open transaction that it leaves
abbrev pub Core : Type 0
Core = Reply × History × Option Transaction

abbrev pub opened : Result Transaction BookFault × History → Core
opened (Ok txn, h) = (Opened txn.id.txn, h, Some txn)
opened (Err fault, h) = (Fault (Book fault), h, None)

abbrev pub open_core : History → ℕ → Option Transaction → Core
open_core h session None = opened (open_step h session)
open_core h session (Some txn) = (Fault AlreadyOpen, h, Some txn)

abbrev pub run_core : History → Command → Option Transaction → Core
run_core h command None = (Fault NotOpen, h, None)
run_core h command (Some txn) = (command_reply (answer_to txn command), h, Some (after_command txn command))

abbrev pub committed : Transaction → Result TxnId BookFault × History → Core
committed txn (Ok id, h) = (Committed id, h, None)
committed txn (Err fault, h) = (Fault (Book fault), h, handed_back fault txn)

abbrev pub commit_core : History → Option Transaction → Core
commit_core h None = (Fault NotOpen, h, None)
commit_core h (Some txn) = committed txn (commit_step h txn)

abbrev pub cancel_core : History → Option Transaction → Core
cancel_core h None = (Fault NotOpen, h, None)
cancel_core h (Some txn) = (Cancelled, h, None)

abbrev pub changed : Reply → Option Transaction → Result (Unit {0}) BookFault × History → Core
changed reply work (Ok done, h) = (reply, h, work)
changed reply work (Err fault, h) = (Fault (Book fault), h, work)

abbrev pub core : History → ℕ → Step → Option Transaction → Core
core h session Open work = open_core h session work
core h session (Do command) work = run_core h command work
core h session Commit work = commit_core h work
core h session Cancel work = cancel_core h work
core h session (Undo txn) work = changed Undone work (undo_step h session txn)
core h session (Redo txn) work = changed Redone work (redo_step h session txn)

-- put back in the session's place
abbrev pub put : State → ℕ → Core → Reply × State
put s session c = (c.0, with_work s c.1 session c.2)

-- ---- a step is its core

-- with what it has open in its place the session is as it was
pub stays : (s : State) (h : History) (session : ℕ) (work : Option Transaction) → open_of s session ≡ work →
    with_work s h session work ≡ with_history s h
stays s h session work found =
    ap (λ (ws : List (Option Transaction)). record { history = h; works = ws })
    (ap (slice_set s.works (session - 1)) (sym found) ∙ set-get_or s.works (session - 1) None)

open_is : (s : State) (session : ℕ) (work : Option Transaction) → open_of s session ≡ work →
    machine.open_in s session work ≡ put s session (open_core s.history session work)
open_is s session (Some txn) found = ap (λ t. (Fault AlreadyOpen, t)) (sym (stays s s.history session (Some txn) found))
open_is s session None found = by (open_step s.history session).0 (open_step s.history session).1 where
  by : (r : Result Transaction BookFault) (h : History) → machine.open_outcome s session (r, h) ≡ put s session (opened (r, h))
  by (Ok txn) h = refl
  by (Err fault) h = ap (λ t. (Fault (Book fault), t)) (sym (stays s h session None found))

run_is : (s : State) (session : ℕ) (command : Command) (work : Option Transaction) → open_of s session ≡ work →
    machine.run_in s session command work ≡ put s session (run_core s.history command work)
run_is s session command None found = ap (λ t. (Fault NotOpen, t)) (sym (stays s s.history session None found))
run_is s session command (Some txn) found = refl

commit_is : (s : State) (session : ℕ) (work : Option Transaction) → open_of s session ≡ work →
    machine.commit_in s session work ≡ put s session (commit_core s.history work)
commit_is s session None found = ap (λ t. (Fault NotOpen, t)) (sym (stays s s.history session None found))
commit_is s session (Some txn) found = by (commit_step s.history txn).0 (commit_step s.history txn).1 where
  by : (r : Result TxnId BookFault) (h : History) → machine.commit_outcome s session txn (r, h) ≡ put s session (committed txn (r, h))
  by (Ok id) h = refl
  by (Err fault) h = refl

cancel_is : (s : State) (session : ℕ) (work : Option Transaction) → open_of s session ≡ work →
    machine.cancel_in s session work ≡ put s session (cancel_core s.history work)
cancel_is s session None found = ap (λ t. (Fault NotOpen, t)) (sym (stays s s.history session None found))
cancel_is s session (Some txn) found = refl

undo_is : (s : State) (session : ℕ) (r : Result (Unit {0}) BookFault) (h : History) →
    machine.undo_in s (r, h) ≡ put s session (changed Undone (open_of s session) (r, h))
undo_is s session (Ok done) h = ap (λ t. (Undone, t)) (sym (stays s h session (open_of s session) refl))
undo_is s session (Err fault) h = ap (λ t. (Fault (Book fault), t)) (sym (stays s h session (open_of s session) refl))

redo_is : (s : State) (session : ℕ) (r : Result (Unit {0}) BookFault) (h : History) →
    machine.redo_in s (r, h) ≡ put s session (changed Redone (open_of s session) (r, h))
redo_is s session (Ok done) h = ap (λ t. (Redone, t)) (sym (stays s h session (open_of s session) refl))
redo_is s session (Err fault) h = ap (λ t. (Fault (Book fault), t)) (sym (stays s h session (open_of s session) refl))

in_is : (s : State) (session : ℕ) (step : Step) → step_in s session step ≡ put s session (core s.history session step (open_of s session))
in_is s session Open = open_is s session (open_of s session) refl
in_is s session (Do command) = run_is s session command (open_of s session) refl
in_is s session Commit = commit_is s session (open_of s session) refl
in_is s session Cancel = cancel_is s session (open_of s session) refl
in_is s session (Undo txn) = undo_is s session (undo_step s.history session txn).0 (undo_step s.history session txn).1
in_is s session (Redo txn) = redo_is s session (redo_step s.history session txn).0 (redo_step s.history session txn).1

pub step_is : (s : State) (session : ℕ) (step : Step) → is_session s session ≡ true →
    step_outcome s session step ≡ put s session (core s.history session step (open_of s session))
step_is s session step there = ap (λ b. cond b (step_in s session step) (Fault NoSession, s)) there ∙ in_is s session step

-- a session whose step is answered otherwise is there
pub is_there : (s : State) (session : ℕ) (step : Step) → (step_outcome s session step).0 ≢ Fault NoSession → is_session s session ≡ true
is_there s session step answered = by (is_session s session) answered where
  by : (b : Bool) → (cond b (step_in s session step) (Fault NoSession, s)).0 ≢ Fault NoSession → b ≡ true
  by true answered = refl
  by false answered = absurd (answered refl)
