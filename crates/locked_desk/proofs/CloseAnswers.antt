-- What a close answers, by what it found.
use Rattle.std.proofs.Common.{◌≡◌, ◌∙◌, ℕ, List, None, Some, Result, Ok, Err, IfErr, IfOk, length, subst, sym, inl, inr}
use Rattle.undo_rules.specs.Books.{History}
use Rattle.desk_rules.specs.Close.{HasAll, IsClosed, missing_call, own_total}
use Rattle.desk_rules.specs.Legal.{Desk}
use Rattle.desk_rules.specs.Seats.{Seat}
use Rattle.locked_desk.specs.declared.close.CloseRefusal.{CloseRefusal}
use Rattle.locked_desk.specs.declared.close.CloseRefusal.TheVariants.{Differs, MissingSeat}
use Rattle.locked_desk.specs.declared.close.Closed.{Closed}
use Rattle.locked_desk.specs.Closing.{Began, IsDiffering, IsOtherOrigin, IsRefusedClose}

abbrev pub ClosesSo : {L : Type 0} → Desk → List Seat → Result Closed (CloseRefusal L) → Type 0
ClosesSo desk seats result = IfOk result (λ closed. IsClosed desk seats closed.book)

abbrev pub RefusesSo : {L : Type 0} → Desk → List Seat → Result Closed (CloseRefusal L) → Type 0
RefusesSo desk seats result = IfErr result (λ refusal. IsRefusedClose desk seats refusal)

pub closed_by : {L : Type 0} (desk : Desk) (seats : List Seat) (book : History) (result : Result Closed (CloseRefusal L))
    → IfOk result (λ closed. (closed.book ≡ book) × Began desk book) → (Began desk book → IsClosed desk seats book)
    → ClosesSo desk seats result
closed_by desk seats book (Ok closed) given is = subst (λ (b : History). IsClosed desk seats b) (sym given.0) (is given.1)
closed_by desk seats book (Err refusal) given is = tt

pub refused_by : {L : Type 0} (desk : Desk) (seats lent : List Seat) (book : History) (result : Result Closed (CloseRefusal L))
    → IfErr result (λ refusal. IsOtherOrigin desk lent book refusal) → lent ≡ seats → HasAll desk.sessions seats
    → own_total seats ≡ length book.log → missing_call book.log seats ≡ None → RefusesSo desk seats result
refused_by desk seats lent book (Ok closed) given lent-is all count none = tt
refused_by desk seats lent book (Err (MissingSeat session back left)) given lent-is all count none = absurd given
refused_by desk seats lent book (Err (Differs session place left back)) given lent-is all count none = (
  given.3 ∙ lent-is,
  subst (λ (b : History). IsDiffering desk seats b session place) (sym given.2) (record {
    all = all;
    count = count;
    named = inr (none, given.0, given.1, given.4);
  }),
)

pub differs_by : (desk : Desk) (seats : List Seat) (book : History) (session place : ℕ) → HasAll desk.sessions seats
    → own_total seats ≡ length book.log → missing_call book.log seats ≡ Some (session, place) → IsDiffering desk seats book session place
differs_by desk seats book session place all count named = record { all = all; count = count; named = inl named }
