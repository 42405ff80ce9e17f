-- Where the calls of sessions lead that share a log, as those do that run in threads.
use Rattle.std.specs.Prelude.{◌≡◌, ℕ, ◌+◌, ◌≤◌, Bool, true, false, List, [], ◌∷◌, Some, length}
use Rattle.std.specs.List.{AllByRecursion}
use Rattle.lay_layouts.specs.Layout.{Layout}
use Rattle.lay_layouts.specs.Sound.{IsSound}
use Rattle.txn_commands.specs.declared.command.TxnId.{TxnId}
use Rattle.undo_rules.specs.declared.log.Answer.{Answer}
use Rattle.undo_rules.specs.declared.log.Answer.TheVariants.{Committed, Opened, Redone, Refused, Undone}
use Rattle.undo_rules.specs.declared.log.BookFault.TheVariants.{Foreign, LogFull}
use Rattle.undo_rules.specs.declared.log.Call.TheVariants.{Redo, Undo}
use Rattle.undo_rules.specs.declared.log.Logged.{Logged}
use Rattle.undo_rules.specs.Books.{History, IsHistory}
use Rattle.undo_rules.specs.Steps.{fresh, is_log_full, with_mark}
use Rattle.undo_book.specs.Replays.{replay}
use Rattle.desk_rules.specs.Legal.{Desk, IsFrom, IsLegal, Leads}
use Rattle.desk_rules.specs.Seats.{calls_added, own_calls}
use Rattle.locked_desk.specs.Runs.{logged_reply}
use Rattle.locked_desk.specs.Scripts.{RunsScripts, desk_for, desk_scripts}
use Rattle.session_steps.specs.declared.Reply.{Reply}
use Rattle.session_steps.specs.declared.Reply.TheVariants.{Fault}
use Rattle.session_steps.specs.declared.Step.{Step}
use Rattle.session_steps.specs.declared.Step.TheVariants.{Commit}
use Rattle.session_steps.specs.declared.StepFault.TheVariants.{Book}
use Rattle.session_laws.specs.Histories.{KeepsOperations}
use Rattle.session_laws.specs.Undoing.{IsUnread}

-- a legal log of calls of at most 64 sessions on a sound base, and the book that it leads to
pub record IsBookFrom (base : Layout) (sessions : ℕ) (log : List Logged) (book : History) : Type 0 where
  pub sound : IsSound base
  pub few : sessions ≤ 64
  pub limit : ℕ
  pub legal : IsLegal sessions (fresh base limit) log book

-- what the scripts of sessions in threads lead to is such a book
abbrev pub ThreadsLeadToBooks : Type 0
ThreadsLeadToBooks =
    (base : Layout) (scripts : List (List Step)) (replies : List (List Reply)) (book : History) → IsSound base
    → RunsScripts base scripts replies book → IsBookFrom base (length (desk_scripts scripts)) book.log book

-- ---- refusals that aren't logged

-- after a legal log from the desk, with so many calls of the session, the log is full
pub record IsFull (desk : Desk) (session calls : ℕ) : Type 0 where
  pub history : History
  pub legal : IsFrom desk history
  pub count : length (own_calls session history.log) ≡ calls
  pub full : is_log_full history ≡ true

-- that the log is full is replied only where it is, with as many calls of the session as it has logged so far, and Foreign only to a
-- commit
pub record IsForCause (desk : Desk) (session calls : ℕ) (step : Step) (reply : Reply) : Type 0 where
  pub full : reply ≡ Fault (Book LogFull) → IsFull desk session calls
  pub foreign : reply ≡ Fault (Book Foreign) → step ≡ Commit

-- so it is of each step of a session that has logged so many calls before
abbrev pub AreForCause : Desk → ℕ → ℕ → List Step → List Reply → Type 0
AreForCause desk session calls [] [] = Unit {0}
AreForCause desk session calls (step ∷ steps) (reply ∷ replies) =
    IsForCause desk session calls step reply × AreForCause desk session (calls + calls_added (logged_reply reply)) steps replies
AreForCause desk session calls steps replies = ⊥

-- and of each session's, from this session on
abbrev pub AllAreForCause : Desk → ℕ → List (List Step) → List (List Reply) → Type 0
AllAreForCause desk session [] [] = Unit {0}
AllAreForCause desk session (steps ∷ scripts) (replies ∷ more) =
    AreForCause desk session 0 steps replies × AllAreForCause desk (session + 1) scripts more
AllAreForCause desk session scripts replies = ⊥

abbrev pub ThreadsAreRefusedForCause : Type 0
ThreadsAreRefusedForCause =
    (base : Layout) (scripts : List (List Step)) (replies : List (List Reply)) (book : History) → RunsScripts base scripts replies book
    → AllAreForCause (desk_for base (desk_scripts scripts)) 1 (desk_scripts scripts) replies

-- ---- where logs lead

-- the book is a history from the base
abbrev pub LogsLeadToHistories : Type 0
LogsLeadToHistories =
    (base : Layout) (sessions : ℕ) (log : List Logged) (book : History) → IsBookFrom base sessions log book
    → IsHistory book × (book.base ≡ base)

-- and what each operation of a live transaction drew stays in it
abbrev pub LogsKeepOperations : Type 0
LogsKeepOperations =
    (base : Layout) (sessions : ℕ) (log : List Logged) (book : History) → IsBookFrom base sessions log book → KeepsOperations base book

-- an undo of a live transaction of which no later live one touched what it wrote is answered Undone where it is logged, and the
-- layout is that of the same history without it
abbrev pub LogsTakeOut : Type 0
LogsTakeOut =
    (base : Layout) (sessions : ℕ) (log : List Logged) (book : History) → IsBookFrom base sessions log book
    → (session : ℕ) (txn : TxnId) (answer : Answer) (next : History) → IsUnread book txn
    → Leads sessions book (record { session = session; call = Undo txn; answer = answer }) next
    → (answer ≡ Undone) × (replay (with_mark book false txn) ≡ Some next.layout)

-- ---- redo at once

-- the answer to a call that changed which transactions are live
abbrev pub is_changing : Answer → Bool
is_changing (Opened number) = false
is_changing Committed = true
is_changing Undone = true
is_changing Redone = true
is_changing (Refused fault) = false

-- none of these calls has one
abbrev pub AreIdleCalls : List Logged → Type 0
AreIdleCalls calls = AllByRecursion (λ (call : Logged). is_changing call.answer ≡ false) calls

-- After an accepted undo, whatever calls are logged, so long as no commit, undo or redo is accepted among them, a redo by any
-- session is answered Redone where it is logged, and the layout is the one before the undo.
abbrev pub RedosInLogsPutBack : Type 0
RedosInLogsPutBack =
    (base : Layout) (sessions : ℕ) (log : List Logged) (book : History) → IsBookFrom base sessions log book
    → (session : ℕ) (txn : TxnId) (undone : History)
    → Leads sessions book (record { session = session; call = Undo txn; answer = Undone }) undone
    → (between : List Logged) (then : History) → IsLegal sessions undone between then → AreIdleCalls between
    → (other : ℕ) (answer : Answer) (last : History)
    → Leads sessions then (record { session = other; call = Redo txn; answer = answer }) last
    → (answer ≡ Redone) × (last.layout ≡ book.layout)
