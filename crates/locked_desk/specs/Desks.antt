-- What the calls of a desk answer.
use Rattle.std.specs.Prelude.{◌≡◌, ℕ, ◌==◌, List, [], Option, None, Some, Result, Ok, Err, ◌⊎◌, Bool, true, false, if◌then◌else◌}
use Rattle.txn_commands.specs.declared.command.TxnId.{TxnId}
use Rattle.txn_commands.specs.Transactions.{Transaction}
use Rattle.undo_rules.specs.declared.log.Answer.{Answer}
use Rattle.undo_rules.specs.declared.log.Answer.TheVariants.{Committed, Opened}
use Rattle.undo_rules.specs.declared.log.BookFault.{BookFault}
use Rattle.undo_rules.specs.declared.log.BookFault.TheVariants.{Foreign, LogFull, NoMemory}
use Rattle.undo_rules.specs.declared.log.Call.TheVariants.{Open}
use Rattle.undo_rules.specs.Books.{History}
use Rattle.undo_rules.specs.Steps.{commit_step, is_log_full}
use Rattle.undo_book.specs.declared.commit.CommitRefusal.{CommitRefusal}
use Rattle.undo_book.specs.Calls.{handed_back}
use Rattle.desk_rules.specs.declared.seat_call.SeatCall.{SeatCall}
use Rattle.desk_rules.specs.Close.{Misses}
use Rattle.desk_rules.specs.Legal.{Desk, refusal}
use Rattle.desk_rules.specs.Refusals.{IsRefused, fault_in}
use Rattle.desk_rules.specs.Seats.{EndsWith, Gains, GainsLogged, NextCall, Seat, last_of, next_at, place_or_zero, seat_behind}
use Rattle.locked_desk.specs.declared.fault.DeskFault.{DeskFault}
use Rattle.locked_desk.specs.declared.fault.DeskFault.TheVariants.{Book, Differs}
use Rattle.locked_desk.specs.declared.fault.DeskRefusal.{DeskRefusal}

-- the refusal that names the session and its last place
abbrev pub differs_refusal : ℕ → List SeatCall → DeskFault
differs_refusal session own = Differs session (place_or_zero (last_of own))

-- a refusal of the desk's own names the seat's session and last place
abbrev pub NamesSeat : DeskFault → Seat → Type 0
NamesSeat (Book fault) seat = Unit {0}
NamesSeat (Differs session place) seat = Differs session place ≡ differs_refusal seat.session seat.own

-- what is logged of a refusal
abbrev pub fault_answer : DeskFault → Option Answer
fault_answer (Book fault) = refusal fault
fault_answer (Differs session place) = None

-- what is logged of a call that the desk answers so
abbrev pub desk_answer : {T : Type 0} → Answer → Result T DeskFault → Option Answer
desk_answer done (Ok value) = Some done
desk_answer done (Err fault) = fault_answer fault

-- the book's answer as the desk's
abbrev pub by_book : {T : Type 0} → Result T BookFault → Result T DeskFault
by_book (Ok value) = Ok value
by_book (Err fault) = Err (Book fault)

-- a refusal by the book is its step's after a legal log from the desk, or memory was refused
abbrev pub IsRefusedAs : Desk → Seat → (History → Option BookFault) → DeskFault → Type 0
IsRefusedAs desk seat step (Book fault) = IsRefused desk seat step fault
IsRefusedAs desk seat step (Differs session place) = Unit {0}

-- ---- open

-- the call of an open that made this work
abbrev pub open_call : Seat → Transaction → NextCall
open_call seat work = next_at seat Open work.opened

-- the seat gains the open, which is at the end of the log of a history from the desk, and the work begins on its layout
pub record OpensAt (desk : Desk) (old : Seat) (work : Transaction) (new : Seat) : Type 0 where
  pub gained : new ≡ seat_behind (open_call old work) (Opened work.id.txn)
  pub history : History
  pub ends : EndsWith desk history (open_call old work) (Opened work.id.txn)
  pub snapshot : work.snapshot ≡ history.layout
  pub session : work.id.session ≡ old.session
  pub commands : work.commands ≡ []

-- the book answers so, or the desk's own look differs. Where the lock doesn't have the desk's base the call is logged
abbrev pub Opens : Desk → Result Transaction DeskFault → Seat → Seat → Type 0
Opens desk (Ok work) old new = OpensAt desk old work new
Opens desk (Err (Book fault)) old new = GainsLogged desk (refusal fault) old Open new
Opens desk (Err (Differs session place)) old new =
    ((new ≡ old) × (Differs session place ≡ differs_refusal old.session old.own))
    ⊎ ((session ≡ 0) × (place ≡ 0) × (number : ℕ) × Gains desk old Open (Opened number) new)

-- ---- commit

-- what is logged of a commit that the book answers so
abbrev pub commit_answer : Result TxnId CommitRefusal → Option Answer
commit_answer (Ok txn) = Some Committed
commit_answer (Err refused) = refusal refused.fault

-- and of one that the desk answers so
abbrev pub desk_commit_answer : Result TxnId DeskRefusal → Option Answer
desk_commit_answer (Ok txn) = Some Committed
desk_commit_answer (Err refused) = fault_answer refused.fault

-- the work is handed back where the desk's own look differs, and else as the book does
abbrev pub work_back : DeskFault → Transaction → Option Transaction
work_back (Book fault) work = handed_back fault work
work_back (Differs session place) work = Some work

abbrev pub desk_refused : DeskFault → Transaction → DeskRefusal
desk_refused fault work = record { fault = fault; work = work_back fault work }

-- the book's answer to a commit as the desk's
abbrev pub commit_by_book : Result TxnId CommitRefusal → Result TxnId DeskRefusal
commit_by_book (Ok txn) = Ok txn
commit_by_book (Err refused) = Err (record { fault = Book refused.fault; work = refused.work })

-- a work of another session is refused so
abbrev pub full_or_foreign : Bool → BookFault
full_or_foreign true = LogFull
full_or_foreign false = Foreign

abbrev pub other_fault : History → BookFault
other_fault h = full_or_foreign (is_log_full h)

-- what a session's commit is refused with, where it is: a work of another session doesn't come to the book
abbrev pub commit_fault : ℕ → Transaction → History → Option BookFault
commit_fault session work h = if work.id.session == session then fault_in (commit_step h work).0 else Some (other_fault h)

-- ---- the look at the log

-- the look at the last call found no such log, or memory was refused
abbrev pub IsLooked : DeskFault → ℕ → List SeatCall → Type 0
IsLooked fault session own = (fault ≡ Book NoMemory) ⊎ (fault ≡ differs_refusal session own)

-- no memory is left for a snapshot, or the refusal names the first of the seat's calls that a legal log from the desk doesn't
-- have, or 0 where the lock doesn't have what the desk was made with
abbrev pub IsShownFault : Desk → Seat → DeskFault → Type 0
IsShownFault desk seat (Book fault) = fault ≡ NoMemory
IsShownFault desk seat (Differs session place) =
    ((session ≡ seat.session) × Misses desk seat place) ⊎ ((session ≡ 0) × (place ≡ 0))

-- so a commit of a work of another session than the seat's is answered
abbrev pub IsOtherFault : DeskFault → Type 0
IsOtherFault (Book fault) = (fault ≡ LogFull) ⊎ (fault ≡ Foreign) ⊎ (fault ≡ NoMemory)
IsOtherFault (Differs session place) = Unit {0}

abbrev pub IsForeignOrFull : Result TxnId DeskRefusal → Type 0
IsForeignOrFull (Ok txn) = ⊥
IsForeignOrFull (Err refused) = IsOtherFault refused.fault
