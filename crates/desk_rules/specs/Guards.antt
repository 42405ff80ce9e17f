-- What is behind a desk's lock.
use Rattle.std.specs.Prelude.{◌≡◌, ℕ, ◌+◌, ◌≤◌, ◌<◌, ◌==◌, ◌-◌, ◌&&◌, List, length, slice_index, slice_set, Bool, true, false, nat_le}
use Rattle.undo_rules.specs.declared.log.Logged.{Logged}
use Rattle.undo_rules.specs.Books.{History}
use Rattle.undo_rules.specs.Steps.{fresh}
use Rattle.desk_rules.specs.declared.seat_call.SeatCall.{SeatCall}
use Rattle.desk_rules.specs.Legal.{ArePendingSound, Desk, IsLegal}
use Rattle.desk_rules.specs.Seats.{is_last_in, last_of, own_calls}

-- how many sessions there are, the book, how many calls of each session its log has, and the ledger's total
pub record Guard : Type 0 where
  pub sessions : ℕ
  pub book : History
  pub counts : List ℕ
  pub total : ℕ

-- these are the numbers of calls of the sessions in the log
pub record AreCallCounts (sessions : ℕ) (counts : List ℕ) (log : List Logged) : Type 0 where
  pub all : length counts ≡ sessions
  pub each : (i : ℕ) → i < sessions → slice_index counts i ≡ length (own_calls (i + 1) log)

-- the book is the history after a legal log, its own, from its base; the ledger counts the calls of that log
pub record IsGuard (g : Guard) : Type 0 where
  pub few : g.sessions ≤ 64
  pub legal : IsLegal g.sessions (fresh g.book.base g.book.limit) g.book.log g.book
  pub pending : ArePendingSound g.book.sessions
  pub counts : AreCallCounts g.sessions g.counts g.book.log
  pub total : g.total ≡ length g.book.log

-- it is behind the lock of a desk with so many sessions and this limit
abbrev pub Fits : Desk → Guard → Type 0
Fits desk g = (g.sessions ≡ desk.sessions) × (g.book.limit ≡ desk.limit)

-- the log has the session's last call at its place, and as many calls of the session
abbrev pub has_last : Guard → ℕ → List SeatCall → Bool
has_last g session own =
    (nat_le 1 session && nat_le session g.sessions)
    && ((slice_index g.counts (session - 1) == length own) && is_last_in g.book.log (last_of own))

-- one more call is counted at this place, where there is one more
abbrev pub with_one_counted : Bool → List ℕ → ℕ → List ℕ
with_one_counted true counts i = slice_set counts i (slice_index counts i + 1)
with_one_counted false counts i = counts

abbrev pub ones : Bool → ℕ
ones true = 1
ones false = 0
