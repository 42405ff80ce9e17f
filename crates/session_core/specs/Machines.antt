-- What contracts see of a machine, and what it keeps.
use Rattle.std.specs.Prelude.{◌≡◌, ℕ, ◌+◌, ◌≤◌, length, None, Some, slice_index_or}
use Rattle.txn_commands.specs.Transactions.{Transaction}
use Rattle.undo_rules.specs.Books.{History, SessionState}
use Rattle.undo_rules.specs.Steps.{unused}
use Rattle.session_core.specs.declared.machine.Machine.TheInside.{Inside}
use Rattle.session_core.specs.Machine.{State}

-- what contracts see
abbrev pub machine_state : Inside → State
machine_state m = record { history = m.book; works = m.works.items }

-- what the book keeps of the session at this place, from 0
abbrev pub kept_session : History → ℕ → SessionState
kept_session history place = slice_index_or history.sessions place unused

-- the transaction is the one that the session at this place opened last, on the layout at its open, and that
-- hasn't ended
pub record IsOpen (history : History) (place : ℕ) (txn : Transaction) : Type 0 where
  pub session : txn.id.session ≡ place + 1
  pub opens : (kept_session history place).opens ≡ txn.id.txn
  pub pending : (kept_session history place).pending ≡ Some (record { place = txn.opened; snapshot = txn.snapshot })

-- at most 64 sessions, and each open transaction is the one that the book keeps for its session
pub record IsState (s : State) : Type 0 where
  pub few : length s.works ≤ 64
  pub sessions : length s.history.sessions ≡ 64
  pub works : (place : ℕ) → (txn : Transaction) → slice_index_or s.works place None ≡ Some txn → IsOpen s.history place txn

-- what a machine keeps
abbrev pub IsMachine : Inside → Type 0
IsMachine m = IsState (machine_state m)
