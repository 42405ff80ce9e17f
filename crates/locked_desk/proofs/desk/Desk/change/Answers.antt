use Rattle.std.proofs.Common.{rules, ap, refl, ◌∙◌}
use Rattle.desk_rules.specs.Legal.{answer_of}
use Rattle.desk_rules.proofs.SeatLemmas.{seat_kept}
use Rattle.locked_desk.specs.Desks.{desk_answer}
use Rattle.locked_desk.specs.Ways.{answer_for, call_for, fault_for}
use Rattle.locked_desk.proofs.CallLemmas.{answer_by_book, gains_kept}
use Rattle.locked_desk.proofs.RefusedLemmas.{refused_as_desk}
use Rattle.undo_rules.specs.declared.log.Answer.{Answer}
use Rattle.locked_desk.proofs.desk.Desk.change.Goals as goal

pub invariant_of-seat-2 : goal.invariant_of-seat-2
invariant_of-seat-2 g c =
    let was = c.seat.invariant in
    let done : Answer = answer_for c.args.way in
    seat_kept (answer_of done c.in-Ok.done.0) _ c.change-changed.new.self.book
    c.seat.inside.session c.seat.inside.own.items c.as_slice.result.now c.keep.new.own.items (call_for c.args.way c.args.txn)
    c.in-Ok.done.1
    c.change-changed.new.share.parts c.change-changed.new.share.amount c.seat.inside.share.amount (was.0, refl, was.2)
    (search rules)
    c.in-Ok.ensures.made (search rules) c.change-changed.ensures.parts c.in-Ok.ensures.amount

pub returns-clause-gains : goal.returns-clause-gains
returns-clause-gains g c =
    let done : Answer = answer_for c.args.way in
    gains_kept c.self.inside.origin c.args.self.now (answer_of done c.in-Ok.done.0) (desk_answer done c.by_book.result)
    c.change-changed.new.self.book.base
    c.change-changed.new.self.book c.seat.inside.session c.seat.inside.own.items c.as_slice.result.now c.keep.new.own.items
    (call_for c.args.way c.args.txn)
    c.in-Ok.done.1 c.self.view_is c.seat.view_is refl (search rules) (search rules) c.in-Ok.ensures.made
    (ap (desk_answer done) c.by_book.ensures ∙ answer_by_book done c.in-Ok.done.0)

pub returns-clause-refused : goal.returns-clause-refused
returns-clause-refused g c =
    rw c.by_book.ensures (refused_as_desk c.self.inside.origin c.args.self.now c.seat.inside.session c.seat.inside.own.items
    c.as_slice.result.now
    (λ session. fault_for c.args.way session c.args.txn) c.in-Ok.done.0 c.self.view_is c.seat.view_is (search rules) c.in-Ok.ensures.told)
