-- What a refused close names.
use Rattle.std.specs.Prelude.{◌≡◌, ℕ, ◌-◌, ◌≤◌, List, length, false, None, Some, ◌⊎◌}
use Rattle.undo_rules.specs.Books.{History}
use Rattle.desk_rules.specs.Close.{HasAll, has_seat, missing_call, own_total}
use Rattle.desk_rules.specs.Legal.{Desk}
use Rattle.desk_rules.specs.Seats.{Seat}
use Rattle.locked_desk.specs.declared.close.CloseRefusal.{CloseRefusal}
use Rattle.locked_desk.specs.declared.close.CloseRefusal.TheVariants.{Differs, MissingSeat}

-- the least of the desk's sessions without a seat
pub record IsMissing (desk : Desk) (seats : List Seat) (session : ℕ) : Type 0 where
  pub low : 1 ≤ session
  pub high : session ≤ desk.sessions
  pub none : has_seat session seats ≡ false
  pub least : HasAll (session - 1) seats

-- the book has the desk's base and limit
abbrev pub Began : Desk → History → Type 0
Began desk book = (book.base ≡ desk.base) × (book.limit ≡ desk.limit)

-- the book's log has as many calls as the seats. It doesn't have the named call of that seat at its place, which is the first such
-- call; or it has all, and the book hasn't the desk's base and limit
pub record IsDiffering (desk : Desk) (seats : List Seat) (book : History) (session place : ℕ) : Type 0 where
  pub all : HasAll desk.sessions seats
  pub count : own_total seats ≡ length book.log
  pub named : (missing_call book.log seats ≡ Some (session, place))
      ⊎ ((missing_call book.log seats ≡ None) × (session ≡ 0) × (place ≡ 0) × ¬ (Began desk book))

-- all is handed back, and the refusal names what it is to name
abbrev pub IsRefusedClose : {L : Type 0} → Desk → List Seat → CloseRefusal L → Type 0
IsRefusedClose desk seats (MissingSeat session back given) = (back ≡ desk) × (given.items ≡ seats) × IsMissing desk seats session
IsRefusedClose desk seats (Differs session place book given) = (given.items ≡ seats) × IsDiffering desk seats book session place

-- the book hasn't this desk's base and limit
abbrev pub IsOtherOrigin : {L : Type 0} → Desk → List Seat → History → CloseRefusal L → Type 0
IsOtherOrigin desk seats book (MissingSeat session back given) = ⊥
IsOtherOrigin desk seats book (Differs session place left given) =
    (session ≡ 0) × (place ≡ 0) × (left ≡ book) × (given.items ≡ seats) × ¬ (Began desk book)
