-- Closing a desk with its seats, and what a snapshot shows.
use Rattle.std.specs.Prelude.{◌≡◌, ◌≢◌, ◌⊎◌, ℕ, ◌+◌, ◌<◌, ◌≤◌, ◌==◌, ◌||◌, List, [], ◌∷◌, length, Bool, true, false, Option}
use Rattle.std.specs.Prelude.{None, Some, if◌then◌else◌, ◌++◌}
use Rattle.std.specs.Prelude.{zero, suc, map}
use Rattle.std.specs.List.{AllByRecursion}
use Rattle.lay_layouts.specs.Layout.{Layout}
use Rattle.undo_rules.specs.declared.log.Logged.{Logged}
use Rattle.undo_rules.specs.Books.{History}
use Rattle.desk_rules.specs.declared.seat_call.SeatCall.{SeatCall}
use Rattle.desk_rules.specs.Legal.{Desk, IsFrom}
use Rattle.desk_rules.specs.Seats.{AreCallsRising, Seat, is_in, last_of, own_calls, place_or_zero}

-- how many calls the seats have
abbrev pub own_total : List Seat → ℕ
own_total [] = 0
own_total (seat ∷ seats) = length seat.own + own_total seats

-- the session has a seat
abbrev pub has_seat : ℕ → List Seat → Bool
has_seat session [] = false
has_seat session (seat ∷ seats) = (seat.session == session) || has_seat session seats

-- the first of the calls that the log doesn't have at its place
abbrev pub missing_place : List Logged → List SeatCall → Option ℕ
missing_place log [] = None
missing_place log (k ∷ ks) = if is_in log k then missing_place log ks else Some k.place

abbrev pub or_missing : ℕ → Option ℕ → Option (ℕ × ℕ) → Option (ℕ × ℕ)
or_missing session None rest = rest
or_missing session (Some place) rest = Some (session, place)

-- the first such call of a seat, with its session
abbrev pub missing_call : List Logged → List Seat → Option (ℕ × ℕ)
missing_call log [] = None
missing_call log (seat ∷ seats) = or_missing seat.session (missing_place log seat.own) (missing_call log seats)

-- each seat's calls are its session's, at rising places
abbrev pub AreSeatsRising : List Seat → Type 0
AreSeatsRising seats = AllByRecursion (λ (seat : Seat). AreCallsRising seat.session 0 seat.own) seats

-- each session up to this one has a seat
abbrev pub HasAll : ℕ → List Seat → Type 0
HasAll n seats = (session : ℕ) → 1 ≤ session → session ≤ n → has_seat session seats ≡ true

-- the log is legal from the desk's base, sessions and limit, each seat has just its session's calls of it, and each session has a seat;
-- nothing else is in the log
pub record IsClosed (desk : Desk) (seats : List Seat) (book : History) : Type 0 where
  pub legal : IsFrom desk book
  pub own : AllByRecursion (λ (seat : Seat). own_calls seat.session book.log ≡ seat.own) seats
  pub all : HasAll desk.sessions seats
  pub count : own_total seats ≡ length book.log

-- the seats of a desk without calls
abbrev pub empty_seats : ℕ → List Seat
empty_seats zero = []
empty_seats (suc n) = empty_seats n ++ record { session = n + 1; own = [] } ∷ []

-- ---- what a snapshot shows

-- the layout after a legal log from the desk's base, sessions and limit, in which the session's calls are the seat's
pub record Shows (desk : Desk) (seat : Seat) (shown : Layout) : Type 0 where
  pub history : History
  pub legal : IsFrom desk history
  pub own : own_calls seat.session history.log ≡ seat.own
  pub layout : shown ≡ history.layout
  -- on a desk of one session this log is the seat's list
  pub alone : desk.sessions ≡ 1 → map (λ (k : SeatCall). k.logged) seat.own ≡ history.log

-- the place is that of the first of the seat's calls that the log doesn't have at its place; or of the seat's last, where the log
-- has them all, and others of the session, or the desk hasn't that session
abbrev pub IsMissed : Desk → Seat → List Logged → ℕ → Type 0
IsMissed desk seat log place = (missing_place log seat.own ≡ Some place)
    ⊎ ((missing_place log seat.own ≡ None) × (place ≡ place_or_zero (last_of seat.own))
    × ((desk.sessions < seat.session) ⊎ (own_calls seat.session log ≢ seat.own)))

-- so it is of a legal log from the desk
pub record Misses (desk : Desk) (seat : Seat) (place : ℕ) : Type 0 where
  pub history : History
  pub legal : IsFrom desk history
  pub missed : IsMissed desk seat history.log place
