-- What holds of legal logs and of the calls in them.
use Rattle.std.specs.Prelude.{◌≡◌, ℕ, ◌≤◌, List, length, None, true}
use Rattle.std.specs.List.{AllByRecursion}
use Rattle.lay_layouts.specs.Layout.{Layout}
use Rattle.lay_layouts.specs.Sound.{IsSound}
use Rattle.txn_commands.specs.Transactions.{IsTransaction, Transaction}
use Rattle.undo_rules.specs.declared.log.Answer.TheVariants.{Committed}
use Rattle.undo_rules.specs.declared.log.Call.TheVariants.{Commit}
use Rattle.undo_rules.specs.declared.log.Logged.{Logged}
use Rattle.undo_rules.specs.Books.{History}
use Rattle.undo_rules.specs.Laws.{IsOwnWork}
use Rattle.undo_rules.specs.Steps.{commit_step, fresh, is_own}
use Rattle.desk_rules.specs.declared.seat_call.SeatCall.{SeatCall}
use Rattle.desk_rules.specs.Close.{AreSeatsRising, HasAll, IsClosed, missing_call, own_total}
use Rattle.desk_rules.specs.Legal.{ArePendingSound, Desk, IsLegal, Stepped, answer_of}
use Rattle.desk_rules.specs.Seats.{AreCallsRising, LogHasCall, Seat, own_calls}

-- the history after a legal log has that log, and what it began with
pub record HasLog (first : Layout) (most : ℕ) (calls : List Logged) (h : History) : Type 0 where
  pub log : h.log ≡ calls
  pub base : h.base ≡ first
  pub limit : h.limit ≡ most

abbrev pub LogsAreKept : Type 0
LogsAreKept = (sessions : ℕ) (base : Layout) (limit : ℕ) (log : List Logged) (h : History) → IsLegal sessions (fresh base limit) log h
    → HasLog base limit log h

-- a legal log leads to one history
abbrev pub LogsLeadToOne : Type 0
LogsLeadToOne = (sessions : ℕ) (start : History) (log : List Logged) (g h : History) → IsLegal sessions start log g
    → IsLegal sessions start log h → g ≡ h

-- calls of a session at rising places, all in a log, are all its calls where they are as many
abbrev pub SameCountMeansAll : Type 0
SameCountMeansAll = (session : ℕ) (log : List Logged) (own : List SeatCall) → AreCallsRising session 0 own
    → AllByRecursion (LogHasCall log) own
    → length own ≡ length (own_calls session log) → own ≡ own_calls session log

-- where each session has a seat, and no more seats are there than sessions, and their calls are all in the log and as many as it
-- has, a desk is closed
abbrev pub ACountCloses : Type 0
ACountCloses = (desk : Desk) (sessions : ℕ) (book : History) (seats : List Seat)
    → IsLegal sessions (fresh book.base book.limit) book.log book
    → AreSeatsRising seats → missing_call book.log seats ≡ None → length seats ≤ desk.sessions → HasAll desk.sessions seats
    → own_total seats ≡ length book.log → book.base ≡ desk.base → book.limit ≡ desk.limit → IsClosed desk seats book

-- a commit of a work is that of the transaction which the log means by its commands: these run on the layout at the pending open
abbrev pub ACommitIsMeant : Type 0
ACommitIsMeant = (h : History) (work : Transaction) → IsTransaction work → IsSound work.snapshot → ArePendingSound h.sessions
    → (is_own h work ≡ true → IsOwnWork h work)
    → Stepped h work.id.session (Commit work.id work.commands) (answer_of Committed (commit_step h work).0) (commit_step h work).1
