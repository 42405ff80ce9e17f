-- Refusals of a desk's book, and the logs after which they come.
-- Source: this project's own.
use Rattle.std.specs.Prelude.{◌≡◌, ◌⊎◌, ℕ, Option, None, Some, Result, Ok, Err, length}
use Rattle.lay_layouts.specs.Layout.{Layout}
use Rattle.txn_commands.specs.declared.command.TxnId.{TxnId}
use Rattle.undo_rules.specs.declared.log.BookFault.{BookFault}
use Rattle.undo_rules.specs.declared.log.BookFault.TheVariants.{NoMemory}
use Rattle.undo_rules.specs.Books.{History}
use Rattle.undo_rules.specs.Steps.{open_step, redo_step, undo_step}
use Rattle.desk_rules.specs.Legal.{Desk, IsFrom, on_base, refusal}
use Rattle.desk_rules.specs.Seats.{IsLastIn, Seat, last_of, own_calls}

-- ---- what the book's step refuses a session's call with, where it does

abbrev pub fault_in : {T : Type 0} → Result T BookFault → Option BookFault
fault_in (Ok value) = None
fault_in (Err fault) = Some fault

abbrev pub open_fault : ℕ → History → Option BookFault
open_fault session h = fault_in (open_step h session).0

abbrev pub undo_fault : ℕ → TxnId → History → Option BookFault
undo_fault session txn h = fault_in (undo_step h session txn).0

abbrev pub redo_fault : ℕ → TxnId → History → Option BookFault
redo_fault session txn h = fault_in (redo_step h session txn).0

-- ---- refused calls

-- There is a legal log from the desk after which the call is refused so. It has as many calls of the session as the seat, and the
-- seat's last at its place. Its base is the desk's own where the refusal isn't logged, as of a full log
pub record Refuses (desk : Desk) (seat : Seat) (step : History → Option BookFault) (fault : BookFault) : Type 0 where
  pub base : Layout
  pub history : History
  pub legal : IsFrom (on_base base desk) history
  pub count : length (own_calls seat.session history.log) ≡ length seat.own
  pub last : IsLastIn history.log (last_of seat.own)
  pub refuses : step history ≡ Some fault
  pub own : refusal fault ≡ None → base ≡ desk.base

-- the same, or memory was refused
abbrev pub IsRefused : Desk → Seat → (History → Option BookFault) → BookFault → Type 0
IsRefused desk seat step fault = (fault ≡ NoMemory) ⊎ Refuses desk seat step fault
