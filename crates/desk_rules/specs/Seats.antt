-- Seats: a session's own calls, and logs in which they are.
use Rattle.std.specs.Prelude.{◌≡◌, ℕ, ◌+◌, ◌==◌, ◌≤◌, ◌<◌, List, [], ◌∷◌, ◌++◌, length, Bool, true, false, Option, None, Some}
use Rattle.std.specs.Prelude.{slice_get, refl}
use Rattle.std.specs.Coded.{Coded, code_by, coded×, coded_list, coded_ℕ}
use Rattle.lay_layouts.specs.Layout.{Layout}
use Rattle.undo_rules.specs.declared.log.Answer.{Answer}
use Rattle.undo_rules.specs.declared.log.Call.{Call}
use Rattle.undo_rules.specs.declared.log.Logged.{Logged}
use Rattle.undo_rules.specs.Books.{History}
use Rattle.desk_rules.specs.declared.seat_call.SeatCall.{SeatCall}
use Rattle.desk_rules.specs.contracts.seat_call.SeatCall as kept
use Rattle.desk_rules.specs.Legal.{Desk, IsFrom, on_base}
use Rattle.desk_rules.specs.Same.{logged_eq}

-- what contracts see of a seat: its session, and the session's logged calls
pub record Seat : Type 0 where
  pub session : ℕ
  pub own : List SeatCall

-- a seat is stored as its parts
abbrev pub coded_seat : Coded Seat
coded_seat =
    code_by (ℕ × List SeatCall) (coded× coded_ℕ (coded_list kept.the_row.coded))
    (λ s. (s.session, s.own)) (λ p. record { session = p.0; own = p.1 }) (λ _. refl)

-- ---- the calls of a session

-- the call stands first in the session's list, where it is the session's
abbrev pub with_own : Bool → SeatCall → List SeatCall → List SeatCall
with_own true k ks = k ∷ ks
with_own false k ks = ks

-- the calls of the session in a log, with their places, of which the first is this one
abbrev pub own_from : ℕ → ℕ → List Logged → List SeatCall
own_from session place [] = []
own_from session place (c ∷ cs) =
    with_own (c.session == session) (record { place = place; logged = c }) (own_from session (place + 1) cs)

abbrev pub own_calls : ℕ → List Logged → List SeatCall
own_calls session log = own_from session 0 log

-- calls of the session at rising places, from this one on
abbrev pub AreCallsRising : ℕ → ℕ → List SeatCall → Type 0
AreCallsRising session place [] = Unit {0}
AreCallsRising session place (k ∷ ks) = (place ≤ k.place) × (k.logged.session ≡ session) × AreCallsRising session (k.place + 1) ks

-- ---- calls in a log

-- the log has the call at its place
abbrev pub LogHasCall : List Logged → SeatCall → Type 0
LogHasCall log k = slice_get log k.place ≡ Some k.logged

abbrev pub same_at : Option Logged → Logged → Bool
same_at None call = false
same_at (Some c) call = logged_eq c call

-- the test of that
abbrev pub is_in : List Logged → SeatCall → Bool
is_in log k = same_at (slice_get log k.place) k.logged

-- the last of some calls
abbrev pub last_behind : SeatCall → List SeatCall → SeatCall
last_behind k [] = k
last_behind k (next ∷ ks) = last_behind next ks

abbrev pub last_of : List SeatCall → Option SeatCall
last_of [] = None
last_of (k ∷ ks) = Some (last_behind k ks)

abbrev pub IsLastIn : List Logged → Option SeatCall → Type 0
IsLastIn log None = Unit {0}
IsLastIn log (Some k) = LogHasCall log k

abbrev pub is_last_in : List Logged → Option SeatCall → Bool
is_last_in log None = true
is_last_in log (Some k) = is_in log k

abbrev pub IsPastCall : ℕ → Option SeatCall → Type 0
IsPastCall place None = Unit {0}
IsPastCall place (Some k) = k.place < place

abbrev pub place_or_zero : Option SeatCall → ℕ
place_or_zero None = 0
place_or_zero (Some k) = k.place

-- ---- a call that is made

-- a session's next call: the session, its logged calls before, the call, and its place in the log
pub record NextCall : Type 0 where
  pub session : ℕ
  pub before : List SeatCall
  pub call : Call
  pub place : ℕ

-- the call as it is logged with this answer
abbrev pub kept_next : NextCall → Answer → SeatCall
kept_next next answer = record { place = next.place; logged = record { session = next.session; call = next.call; answer = answer } }

-- The history is that after a legal log from this desk. Its last call is the next one, with this answer and at its place. It has
-- as many calls of the session as the session then has, and the session's call before this one stands before it, at its own place
pub record EndsWith (desk : Desk) (h : History) (next : NextCall) (answer : Answer) : Type 0 where
  pub legal : IsFrom desk h
  pub last : LogHasCall h.log (kept_next next answer)
  pub whole : length h.log ≡ next.place + 1
  pub count : length (own_calls next.session h.log) ≡ length next.before + 1
  pub earlier : IsLastIn h.log (last_of next.before)
  pub below : IsPastCall next.place (last_of next.before)

-- the session's calls behind it, where it is logged with this answer or isn't logged
abbrev pub calls_behind : NextCall → Option Answer → List SeatCall
calls_behind next None = next.before
calls_behind next (Some answer) = next.before ++ kept_next next answer ∷ []

-- how many calls this adds
abbrev pub calls_added : Option Answer → ℕ
calls_added None = 0
calls_added (Some answer) = 1

-- ---- what a seat gains

-- the next call of the seat's session
abbrev pub next_at : Seat → Call → ℕ → NextCall
next_at seat call place = record { session = seat.session; before = seat.own; call = call; place = place }

-- the seat behind the call, which is logged with this answer
abbrev pub seat_behind : NextCall → Answer → Seat
seat_behind next answer = record { session = next.session; own = calls_behind next (Some answer) }

-- the seat gains this call: it is at the end of the log of some history from the desk, on some base
pub record Gains (desk : Desk) (old : Seat) (call : Call) (answer : Answer) (new : Seat) : Type 0 where
  pub place : ℕ
  pub gained : new ≡ seat_behind (next_at old call place) answer
  pub base : Layout
  pub history : History
  pub ends : EndsWith (on_base base desk) history (next_at old call place) answer

-- the seat gains the call where it is logged, and else is as before
abbrev pub GainsLogged : Desk → Option Answer → Seat → Call → Seat → Type 0
GainsLogged desk None old call new = new ≡ old
GainsLogged desk (Some answer) old call new = Gains desk old call answer new
