use Rattle.std.proofs.Common.{rules, ◌≡◌, ◌∙◌, ap, refl, subst}
use Rattle.std.specs.Prelude.{IfErr, IfSome}
use Rattle.txn_commands.specs.Transactions.{Transaction}
use Rattle.undo_rules.specs.declared.log.Call.TheVariants.{Commit}
use Rattle.desk_rules.specs.Legal.{on_base}
use Rattle.desk_rules.specs.Refusals.{IsRefused}
use Rattle.desk_rules.specs.Seats.{EndsWith}
use Rattle.desk_rules.proofs.SeatLemmas.{seat_kept}
use Rattle.locked_desk.specs.Desks.{commit_answer, commit_fault, desk_commit_answer}
use Rattle.locked_desk.proofs.CallLemmas.{back_by_book, commit_by_book_answer, gains_kept}
use Rattle.locked_desk.proofs.RefusedLemmas.{commit_refused_as_desk}
use Rattle.locked_desk.proofs.desk.Desk.commit.Goals as goal

pub invariant_of-seat-2 : goal.invariant_of-seat-2
invariant_of-seat-2 g c =
    let same : c.prepare.new.self ≡ c.args.work = search rules in
    let made = subst (λ (w : Transaction). IfSome (commit_answer c.in-Ok-committed.done.0) (EndsWith
    (on_base c.commit-committed.new.self.book.base c.self.inside.origin) c.commit-committed.new.self.book (record {
      session = c.seat.inside.session;
      before = c.as_slice.result.now;
      call = Commit w.id w.commands;
      place = c.in-Ok-committed.done.1;
    }))) same c.in-Ok-committed.ensures.made in
    let was = c.seat.invariant in
    seat_kept (commit_answer c.in-Ok-committed.done.0) _ c.commit-committed.new.self.book
    c.seat.inside.session c.seat.inside.own.items c.as_slice.result.now c.keep.new.own.items (Commit c.args.work.id c.args.work.commands)
    c.in-Ok-committed.done.1 c.commit-committed.new.share.parts c.commit-committed.new.share.amount c.seat.inside.share.amount
    (was.0, refl, was.2) (search rules)
    made (search rules) c.commit-committed.ensures.parts c.in-Ok-committed.ensures.amount

pub returns-clause-gains : goal.returns-clause-gains
returns-clause-gains g c =
    let same : c.prepare.new.self ≡ c.args.work = search rules in
    let made = subst (λ (w : Transaction). IfSome (commit_answer c.in-Ok-committed.done.0) (EndsWith
    (on_base c.commit-committed.new.self.book.base c.self.inside.origin) c.commit-committed.new.self.book (record {
      session = c.seat.inside.session;
      before = c.as_slice.result.now;
      call = Commit w.id w.commands;
      place = c.in-Ok-committed.done.1;
    }))) same c.in-Ok-committed.ensures.made in
    gains_kept c.self.inside.origin c.args.self.now (commit_answer c.in-Ok-committed.done.0) (desk_commit_answer c.commit_by_book.result)
    c.commit-committed.new.self.book.base c.commit-committed.new.self.book c.seat.inside.session c.seat.inside.own.items
    c.as_slice.result.now
    c.keep.new.own.items (Commit c.args.work.id c.args.work.commands) c.in-Ok-committed.done.1 c.self.view_is c.seat.view_is refl
    (search rules)
    (search rules)
    made (ap desk_commit_answer c.commit_by_book.ensures ∙ commit_by_book_answer c.in-Ok-committed.done.0)

pub returns-clause-refused : goal.returns-clause-refused
returns-clause-refused g c =
    let same : c.prepare.new.self ≡ c.args.work = search rules in
    let told = subst (λ (w : Transaction). IfErr c.in-Ok-committed.done.0 (λ refusal. IsRefused c.self.inside.origin
    (record { session = c.seat.inside.session; own = c.as_slice.result.now }) (commit_fault c.seat.inside.session w) refusal.fault))
    same c.in-Ok-committed.ensures.told in
    rw c.commit_by_book.ensures (commit_refused_as_desk c.self.inside.origin c.args.self.now c.seat.inside.session c.seat.inside.own.items
    c.as_slice.result.now (λ session. commit_fault session c.args.work) c.in-Ok-committed.done.0 c.self.view_is c.seat.view_is
    (search rules)
    told)

pub returns-clause-back : goal.returns-clause-back
returns-clause-back g c =
    let same : c.prepare.new.self ≡ c.args.work = search rules in
    rw c.commit_by_book.ensures (back_by_book c.prepare.new.self c.args.work c.in-Ok-committed.done.0 same c.in-Ok-committed.ensures.back)
