-- Legal logs: each call is of a session that is there, and has the answer of the book's step at its place.
-- Source: this project's own.
use Rattle.std.specs.Prelude.{◌≡◌, ℕ, ◌≤◌, ◌==◌, List, [], ◌∷◌, ◌++◌, Option, None, Some, Result, Ok, Err, ◌⊎◌, if◌then◌else◌, slice_get}
use Rattle.lay_layouts.specs.Layout.{Layout}
use Rattle.lay_layouts.specs.Sound.{IsSound}
use Rattle.txn_commands.specs.declared.command.Command.{Command}
use Rattle.txn_commands.specs.declared.command.TxnId.{TxnId}
use Rattle.txn_commands.specs.Effects.{Run, after_each, begun}
use Rattle.txn_commands.specs.Records.{records_between}
use Rattle.txn_commands.specs.Transactions.{Transaction}
use Rattle.undo_rules.specs.declared.log.Answer.{Answer}
use Rattle.undo_rules.specs.declared.log.Answer.TheVariants.{Opened, Committed, Undone, Redone, Refused}
use Rattle.undo_rules.specs.declared.log.BookFault.{BookFault}
use Rattle.undo_rules.specs.declared.log.BookFault.TheVariants.{Foreign, LogFull, NoMemory}
use Rattle.undo_rules.specs.declared.log.Call.{Call}
use Rattle.undo_rules.specs.declared.log.Call.TheVariants.{Commit, Open, Redo, Undo}
use Rattle.undo_rules.specs.declared.log.Logged.{Logged}
use Rattle.undo_rules.specs.Books.{History, Pending, SessionState}
use Rattle.undo_rules.specs.Steps.{commit_step, fresh, open_step, redo_step, state_of, undo_step}

-- ---- what is logged of a call

-- a refusal that is logged
abbrev pub refusal : BookFault → Option Answer
refusal LogFull = None
refusal NoMemory = None
refusal Foreign = None
refusal fault = Some (Refused fault)

-- what is logged of a call that is answered so, where it is logged
abbrev pub answer_of : {T : Type 0} → Answer → Result T BookFault → Option Answer
answer_of done (Ok value) = Some done
answer_of done (Err fault) = refusal fault

-- the same of an open: the answer has the number of the transaction
abbrev pub opened_answer : Result Transaction BookFault → Option Answer
opened_answer (Ok txn) = Some (Opened txn.id.txn)
opened_answer (Err fault) = refusal fault

-- what is logged of a call, and the history that it leaves
abbrev pub told : {T : Type 0} → Answer → Result T BookFault × History → Option Answer × History
told done step = (answer_of done step.0, step.1)

abbrev pub told_open : Result Transaction BookFault × History → Option Answer × History
told_open step = (opened_answer step.0, step.1)

-- ---- the transaction of a logged commit

-- the transaction of commands that ran so on the layout at the pending open
abbrev pub work_on : TxnId → List Command → Pending → Run → Transaction
work_on txn commands pending run = record {
  id = txn;
  opened = pending.place;
  snapshot = pending.snapshot;
  commands = commands;
  writes = records_between pending.snapshot run.layout;
  footprint = run.footprint;
}

-- the commands, run on the layout at the pending open, are the transaction that the session has open
abbrev pub meant_by : TxnId → List Command → Pending → Option Run → Option Transaction
meant_by txn commands pending None = None
meant_by txn commands pending (Some run) = Some (work_on txn commands pending run)

abbrev pub meant_of : TxnId → List Command → Option Pending → Option Transaction
meant_of txn commands None = None
meant_of txn commands (Some pending) = meant_by txn commands pending (after_each txn commands (begun pending.snapshot))

-- the transaction of these commands that its session has open, where each command is accepted
abbrev pub meant : History → TxnId → List Command → Option Transaction
meant h txn commands = meant_of txn commands (state_of h txn.session).pending

abbrev pub commit_meant : History → Option Transaction → Option Answer × History
commit_meant h None = (None, h)
commit_meant h (Some txn) = told Committed (commit_step h txn)

-- ---- legal logs

-- what is logged of a session's call, and the history that it leaves: a commit is of a transaction of the session
abbrev pub outcome : History → ℕ → Call → Option Answer × History
outcome h session Open = told_open (open_step h session)
outcome h session (Commit txn commands) = if txn.session == session then commit_meant h (meant h txn commands) else (None, h)
outcome h session (Undo txn) = told Undone (undo_step h session txn)
outcome h session (Redo txn) = told Redone (redo_step h session txn)

-- the call leads from the first history to the second
pub record Leads (sessions : ℕ) (h : History) (c : Logged) (next : History) : Type 0 where
  pub low : 1 ≤ c.session
  pub high : c.session ≤ sessions
  pub outcome : outcome h c.session c.call ≡ (Some c.answer, next)

-- the calls lead from the first history to the last
abbrev pub IsLegal : ℕ → History → List Logged → History → Type 0
IsLegal sessions h [] end = end ≡ h
IsLegal sessions h (c ∷ cs) end = (next : History) × Leads sessions h c next × IsLegal sessions next cs end

-- what contracts see of a desk: the layout, the number of sessions and the most logged calls that it was made with
pub record Desk : Type 0 where
  pub base : Layout
  pub sessions : ℕ
  pub limit : ℕ

-- the same desk on this layout
abbrev pub on_base : Layout → Desk → Desk
on_base base desk = record { base = base; sessions = desk.sessions; limit = desk.limit }

-- the history is that after a legal log from the desk's base, sessions and limit
abbrev pub IsFrom : Desk → History → Type 0
IsFrom desk h = IsLegal desk.sessions (fresh desk.base desk.limit) h.log h

-- ---- layouts at pending opens

-- the layout at each pending open is sound
abbrev pub ArePendingSound : List SessionState → Type 0
ArePendingSound states = (i : ℕ) (state : SessionState) (pending : Pending) → slice_get states i ≡ Some state
    → state.pending ≡ Some pending → IsSound pending.snapshot

-- ---- a call of the book

-- a call that is logged leads to a history with one more call in its log, and one that isn't changes nothing
pub record Grew (h : History) (session : ℕ) (call : Call) (answer : Answer) (next : History) : Type 0 where
  pub log : next.log ≡ h.log ++ record { session = session; call = call; answer = answer } ∷ []
  pub base : next.base ≡ h.base
  pub limit : next.limit ≡ h.limit
  pub pending : IsSound h.layout → ArePendingSound h.sessions → ArePendingSound next.sessions

abbrev pub Grown : History → ℕ → Call → Option Answer × History → Type 0
Grown h session call (None, next) = next ≡ h
Grown h session call (Some answer, next) = Grew h session call answer next

-- the call is answered and leaves what it is to leave; or it isn't logged and changes nothing
abbrev pub Stepped : History → ℕ → Call → Option Answer → History → Type 0
Stepped h session call answer next = (outcome h session call ≡ (answer, next)) ⊎ ((answer ≡ None) × (next ≡ h))

-- what is answered or out of memory, as a call of a book is
abbrev pub TakesCall : {T : Type 0} → History → Result T BookFault × History → Result T BookFault → History → Type 0
TakesCall old wanted result new = ((result ≡ wanted.0) × (new ≡ wanted.1)) ⊎ ((result ≡ Err NoMemory) × (new ≡ old))
