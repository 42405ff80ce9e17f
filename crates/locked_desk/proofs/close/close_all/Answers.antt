use Rattle.std.proofs.Common.{rules, ◌≡◌, ◌≤◌, ◌∙◌, List, None, Some, length, subst}
use Rattle.locked_desk.specs.Closing.{IsDiffering}
use Rattle.desk_rules.specs.Close.{AreSeatsRising, HasAll, missing_call, own_total}
use Rattle.desk_rules.specs.Legal.{Desk}
use Rattle.desk_rules.specs.Seats.{Seat}
use Rattle.desk_rules.proofs.CloseLemmas.{closes, seats_many, some_seats}
use Rattle.locked_desk.proofs.CloseAnswers.{ClosesSo, RefusesSo, closed_by, differs_by, refused_by}
use Rattle.locked_desk.proofs.close.close_all.Goals as goal

pub audited-seats-requires-clause-some : goal.audited-seats-requires-clause-some
audited-seats-requires-clause-some g c =
    let n = c.desk.inside.origin.sessions in
    let all : HasAll n c.args.seats.items = search rules in
    some_seats n c.args.seats.items (subst (λ (d : Desk). 1 ≤ d.sessions) c.origin.view_is c.number.ensures.low) all

pub returns-clause-closed : goal.returns-clause-closed
returns-clause-closed g c =
    let desk : Desk = c.desk.inside.origin in
    let n = desk.sessions in
    let seats : List Seat = c.args.seats.items in
    let book = c.book.inside.book in
    let all : HasAll n seats = search rules in
    let few : length seats ≤ n = search rules in
    let many : length seats ≡ n = seats_many n seats few all in
    let total : own_total seats ≡ length book.log =
    c.audited-seats.ensures.whole (many ∙ c.desk.invariant) ∙ c.book.invariant.0.total in
    let rising : AreSeatsRising seats = c.audited-seats.ensures.rising in
    let none : missing_call book.log seats ≡ None = search rules in
    let is : desk ≡ c.args.desk = search rules in
    subst (λ (d : Desk). ClosesSo d seats c.by_origin.result) is
    (closed_by desk seats book c.by_origin.result c.by_origin.ensures.closed
    (λ began. closes desk c.book.inside.sessions book seats c.book.invariant.0.legal rising none few all total began.0 began.1))

pub returns-clause-refused : goal.returns-clause-refused
returns-clause-refused g c =
    let desk : Desk = c.desk.inside.origin in
    let n = desk.sessions in
    let seats : List Seat = c.args.seats.items in
    let book = c.book.inside.book in
    let all : HasAll n seats = search rules in
    let few : length seats ≤ n = search rules in
    let many : length seats ≡ n = seats_many n seats few all in
    let total : own_total seats ≡ length book.log =
    c.audited-seats.ensures.whole (many ∙ c.desk.invariant) ∙ c.book.invariant.0.total in
    let none : missing_call book.log seats ≡ None = search rules in
    let is : desk ≡ c.args.desk = search rules in
    subst (λ (d : Desk). RefusesSo d seats c.by_origin.result) is
    (refused_by desk seats c.audited-seats.result.items book c.by_origin.result c.by_origin.ensures.refused
    c.audited-seats.ensures.seats all total none)

pub returns-in-Some-clause-refused : goal.returns-in-Some-clause-refused
returns-in-Some-clause-refused g c =
    let desk : Desk = c.desk.inside.origin in
    let n = desk.sessions in
    let seats : List Seat = c.args.seats.items in
    let book = c.book.inside.book in
    let all : HasAll n seats = search rules in
    let few : length seats ≤ n = search rules in
    let many : length seats ≡ n = seats_many n seats few all in
    let total : own_total seats ≡ length book.log =
    c.audited-seats.ensures.whole (many ∙ c.desk.invariant) ∙ c.book.invariant.0.total in
    let named : missing_call book.log seats ≡ Some (c.in-Some.session, c.in-Some.place) = search rules in
    let is : desk ≡ c.args.desk = search rules in (
      c.audited-seats.ensures.seats,
      subst (λ (d : Desk). IsDiffering d seats book c.in-Some.session c.in-Some.place) is
          (differs_by desk seats book c.in-Some.session c.in-Some.place all total named),
    )
