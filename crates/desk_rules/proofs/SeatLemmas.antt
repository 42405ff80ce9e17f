-- A seat gains the calls that are logged.
use Rattle.std.proofs.Common.{◌≡◌, ℕ, ◌+◌, ◌≤◌, List, [], ◌∷◌, length, Option, None, Some, refl, ap, sym, ◌∙◌, subst, arith}
use Rattle.std.proofs.lemmas.List.{length-append}
use Rattle.std.specs.Prelude.{IfSome}
use Rattle.lay_layouts.specs.Layout.{Layout}
use Rattle.undo_rules.specs.declared.log.Answer.{Answer}
use Rattle.undo_rules.specs.declared.log.Call.{Call}
use Rattle.undo_rules.specs.Books.{History}
use Rattle.desk_rules.specs.declared.seat_call.SeatCall.{SeatCall}
use Rattle.desk_rules.specs.Legal.{Desk, on_base}
use Rattle.desk_rules.specs.Seats.{AreCallsRising, EndsWith, GainsLogged, NextCall, Seat, calls_added, calls_behind, kept_next, next_at}
use Rattle.desk_rules.proofs.OwnLemmas.{rising_push}

pub rising_kept : (answer : Option Answer) (desk : Desk) (state : History) (next : NextCall)
    → IfSome answer (EndsWith desk state next) → AreCallsRising next.session 0 next.before
    → AreCallsRising next.session 0 (calls_behind next answer)
rising_kept None desk state next made rising = rising
rising_kept (Some answer) desk state next made rising =
    rising_push next.session 0 next.before (kept_next next answer) rising (omega arith) refl made.below

pub length_kept : (answer : Option Answer) (next : NextCall)
    → length (calls_behind next answer) ≡ length next.before + calls_added answer
length_kept None next = omega arith
length_kept (Some answer) next = length-append next.before (kept_next next answer ∷ [])

pub gains_logged : (answer : Option Answer) (desk : Desk) (base : Layout) (state : History) (old : Seat) (call : Call) (place : ℕ)
    → IfSome answer (EndsWith (on_base base desk) state (next_at old call place))
    → GainsLogged desk answer old call (record { session = old.session; own = calls_behind (next_at old call place) answer })
gains_logged None desk base state old call place made = refl
gains_logged (Some answer) desk base state old call place made = record {
  place = place;
  gained = refl;
  base = base;
  history = state;
  ends = made;
}

-- what a seat keeps, behind a call
pub seat_kept : (answer : Option Answer) (desk : Desk) (state : History) (session : ℕ) (own given kept : List SeatCall) (call : Call)
    (place parts amount was : ℕ)
    → AreCallsRising session 0 own × (parts ≡ parts) × (was ≡ length own) → given ≡ own
    → IfSome answer (EndsWith desk state (record { session = session; before = given; call = call; place = place }))
    → kept ≡ calls_behind (record { session = session; before = own; call = call; place = place }) answer
    → parts ≡ 1 → amount ≡ was + calls_added answer
    → AreCallsRising session 0 kept × (parts ≡ 1) × (amount ≡ length kept)
seat_kept answer desk state session own given kept call place parts amount was before given-is made kept-is one amount-is =
    let next : NextCall = record { session = session; before = own; call = call; place = place } in
    let here : IfSome answer (EndsWith desk state next) =
    subst (λ (l : List SeatCall). IfSome answer (EndsWith desk state
    (record { session = session; before = l; call = call; place = place })))
    given-is made in (
      subst (AreCallsRising session 0) (sym kept-is) (rising_kept answer desk state next here before.0),
      one,
      amount-is ∙ ap (λ n. n + calls_added answer) before.2 ∙ sym (length_kept answer next) ∙ ap length (sym kept-is),
    )
