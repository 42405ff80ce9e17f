use Rattle.std.proofs.Common.{rules, ◌≡◌, subst}
use Rattle.desk_rules.specs.Close.{Shows}
use Rattle.desk_rules.specs.Legal.{Desk, IsFrom, on_base}
use Rattle.desk_rules.specs.Seats.{Seat, own_calls}
use Rattle.desk_rules.proofs.CloseLemmas.{shows}
use Rattle.locked_desk.proofs.desk.Desk.snapshot.Goals as goal

pub returns-else-not-is_same-clause-shows : goal.returns-else-not-is_same-clause-shows
returns-else-not-is_same-clause-shows g c =
    let h = c.deref.result.now.book in
    let desk : Desk = c.self.inside.origin in
    let seat : Seat = record { session = c.seat.inside.session; own = c.seat.inside.own.items } in
    let base : h.base ≡ desk.base = search rules in
    let legal : IsFrom desk h = subst (λ b. IsFrom (on_base b desk) h) base c.in-Ok.ensures.legal in
    let calls : own_calls seat.session h.log ≡ seat.own = search rules in
    subst (λ (d : Desk). Shows d c.args.seat.now c.in-Ok.layout) c.self.view_is
    (subst (λ (s : Seat). Shows desk s c.in-Ok.layout) c.seat.view_is
    (shows desk seat c.in-Ok.layout h legal c.number.ensures.low c.in-Ok.ensures.high calls c.in-Ok.ensures.value.0))
