use Rattle.std.proofs.Common.{rules, ◌≡◌, Some, ap, inr, refl, sym}
use Rattle.undo_rules.specs.declared.log.Answer.TheVariants.{Opened}
use Rattle.undo_rules.specs.declared.log.Call.TheVariants.{Open}
use Rattle.desk_rules.specs.Legal.{opened_answer, refusal}
use Rattle.desk_rules.proofs.SeatLemmas.{seat_kept}
use Rattle.locked_desk.proofs.CallLemmas.{gains_kept, opens_at}
use Rattle.locked_desk.proofs.desk.Desk.open.Goals as goal

pub invariant_of-seat-then-not-is_same : goal.invariant_of-seat-then-not-is_same
invariant_of-seat-then-not-is_same g c =
    let was = c.seat.invariant in
    seat_kept (opened_answer c.in-Ok.done.0) _ c.open-opened.new.self.book
    c.seat.inside.session c.seat.inside.own.items c.as_slice.result.now c.keep.new.own.items Open c.in-Ok.done.1
    c.open-opened.new.share.parts c.open-opened.new.share.amount c.seat.inside.share.amount (was.0, refl, was.2) (search rules)
    c.in-Ok.ensures.made (search rules) c.open-opened.ensures.parts c.in-Ok.ensures.amount

pub returns-then-not-is_same-clause-opens : goal.returns-then-not-is_same-clause-opens
returns-then-not-is_same-clause-opens g c = inr (
  refl,
  refl,
  c.in-Ok-result.work.id.txn,
  gains_kept c.self.inside.origin c.args.self.now (opened_answer c.in-Ok.done.0) (Some
      (Opened c.in-Ok-result.work.id.txn)) c.open-opened.new.self.book.base
      c.open-opened.new.self.book c.seat.inside.session c.seat.inside.own.items c.as_slice.result.now c.keep.new.own.items Open
      c.in-Ok.done.1 c.self.view_is c.seat.view_is refl (search rules) (search rules) c.in-Ok.ensures.made
      (sym (ap opened_answer c.in-Ok-result.is)),
)

pub invariant_of-seat-in-Ok-result : goal.invariant_of-seat-in-Ok-result
invariant_of-seat-in-Ok-result g c =
    let was = c.seat.invariant in
    seat_kept (opened_answer c.in-Ok.done.0) _ c.open-opened.new.self.book
    c.seat.inside.session c.seat.inside.own.items c.as_slice.result.now c.keep.new.own.items Open c.in-Ok.done.1
    c.open-opened.new.share.parts c.open-opened.new.share.amount c.seat.inside.share.amount (was.0, refl, was.2) (search rules)
    c.in-Ok.ensures.made (search rules) c.open-opened.ensures.parts c.in-Ok.ensures.amount

pub returns-in-Ok-result-clause-opens : goal.returns-in-Ok-result-clause-opens
returns-in-Ok-result-clause-opens g c =
    let base : c.open-opened.new.self.book.base ≡ c.args.self.now.base = search rules in
    opens_at c.self.inside.origin c.args.self.now c.in-Ok-result.work c.in-Ok.done.0 c.open-opened.new.self.book
    c.seat.inside.session c.seat.inside.own.items c.as_slice.result.now c.keep.new.own.items c.in-Ok.done.1 c.self.view_is c.seat.view_is
    refl
    (search rules) (search rules) c.in-Ok.ensures.made c.in-Ok-result.is c.in-Ok.ensures.work base

pub invariant_of-seat-2 : goal.invariant_of-seat-2
invariant_of-seat-2 g c =
    let was = c.seat.invariant in
    seat_kept (opened_answer c.in-Ok.done.0) _ c.open-opened.new.self.book
    c.seat.inside.session c.seat.inside.own.items c.as_slice.result.now c.keep.new.own.items Open c.in-Ok.done.1
    c.open-opened.new.share.parts c.open-opened.new.share.amount c.seat.inside.share.amount (was.0, refl, was.2) (search rules)
    c.in-Ok.ensures.made (search rules) c.open-opened.ensures.parts c.in-Ok.ensures.amount

pub returns-clause-opens : goal.returns-clause-opens
returns-clause-opens g c = gains_kept c.self.inside.origin c.args.self.now (opened_answer c.in-Ok.done.0)
    (refusal c.in-Err-result.fault) c.open-opened.new.self.book.base
    c.open-opened.new.self.book c.seat.inside.session c.seat.inside.own.items c.as_slice.result.now c.keep.new.own.items Open
    c.in-Ok.done.1 c.self.view_is c.seat.view_is refl (search rules) (search rules) c.in-Ok.ensures.made
    (sym (ap opened_answer c.in-Err-result.is))
