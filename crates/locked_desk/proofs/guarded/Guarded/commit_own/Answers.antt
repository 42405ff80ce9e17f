use Rattle.std.proofs.Common.{rules, ◌≡◌, ◌∙◌, arith, length, nat_lt, sym, subst}
use Rattle.lay_point.specs.Memory.{IsAnswer}
use Rattle.undo_rules.specs.declared.log.BookFault.TheVariants.{NoMemory}
use Rattle.undo_rules.specs.declared.log.Call.TheVariants.{Commit}
use Rattle.undo_rules.specs.Steps.{commit_step}
use Rattle.undo_book.specs.Calls.{refused, with_refused_work}
use Rattle.desk_rules.specs.Guards.{Guard, ones}
use Rattle.desk_rules.specs.Seats.{calls_added}
use Rattle.locked_desk.specs.Desks.{commit_answer}
use Rattle.desk_rules.proofs.GuardLemmas.{added_is, guard_called, looked, made_logged}
use Rattle.locked_desk.proofs.CallLemmas.{committed_back, committed_named, stepped_commit}
use Rattle.locked_desk.proofs.RefusedLemmas.{taken_work}
use Rattle.locked_desk.proofs.GuardedLemmas.{base_kept, limit_kept}
use Rattle.locked_desk.proofs.guarded.Guarded.commit_own.Goals as goal

pub invariant_of-self : goal.invariant_of-self
invariant_of-self g c =
    let was : Guard = record {
      sessions = c.self.inside.sessions;
      book = c.self.inside.book;
      counts = c.self.inside.counts.items;
      total = c.self.inside.calls.total;
    } in
    let look = looked was c.args.session c.args.own.now (search rules) in
    let stepped = (stepped_commit c.self.inside.book c.commit_with_rest-result.new.self c.args.session c.args.work
    c.commit_with_rest-result.result.0
    (search rules) (search rules) (search rules) c.self.invariant.0.pending c.commit_with_rest-result.ensures.step) in (
      guard_called was c.commit_with_rest-result.new.self c.args.session (Commit c.args.work.id c.args.work.commands)
          (commit_answer c.commit_with_rest-result.result.0) c.args.own.now c.count_call.new.counts.items
          c.count_call.new.calls.total (nat_lt (length c.log-place.result.now) (length c.log.result.now)) c.self.invariant.0
          (search rules) look stepped
          (search rules) (search rules) (search rules),
      c.self.invariant.1 ∙ sym (limit_kept c.self.inside.book c.commit_with_rest-result.new.self c.args.session
          (Commit c.args.work.id c.args.work.commands) (commit_answer c.commit_with_rest-result.result.0) stepped),
    )

pub returns-clause-made : goal.returns-clause-made
returns-clause-made g c =
    let was : Guard = record {
      sessions = c.self.inside.sessions;
      book = c.self.inside.book;
      counts = c.self.inside.counts.items;
      total = c.self.inside.calls.total;
    } in
    let look = looked was c.args.session c.args.own.now (search rules) in
    made_logged c.args.origin.now was c.commit_with_rest-result.new.self c.args.session (length c.log-place.result.now)
    (Commit c.args.work.id c.args.work.commands) (commit_answer c.commit_with_rest-result.result.0) c.args.own.now c.self.invariant.0
    (search rules) (search rules) look (stepped_commit c.self.inside.book c.commit_with_rest-result.new.self c.args.session c.args.work
    c.commit_with_rest-result.result.0
    (search rules) (search rules) (search rules) c.self.invariant.0.pending c.commit_with_rest-result.ensures.step) (search rules)

pub returns-clause-txn : goal.returns-clause-txn
returns-clause-txn g c = committed_named c.self.inside.book c.commit_with_rest-result.new.self c.args.work
    c.commit_with_rest-result.result.0
    c.commit_with_rest-result.ensures.step

pub returns-clause-back : goal.returns-clause-back
returns-clause-back g c = committed_back c.self.inside.book c.commit_with_rest-result.new.self c.args.work
    c.commit_with_rest-result.result.0
    c.commit_with_rest-result.ensures.step

pub returns-clause-amount : goal.returns-clause-amount
returns-clause-amount g c =
    let first : c.log-place.result.now ≡ c.self.inside.book.log = search rules in
    let second : c.log.result.now ≡ c.commit_with_rest-result.new.self.log = search rules in
    let counted : ones (nat_lt (length c.self.inside.book.log) (length c.commit_with_rest-result.new.self.log)) ≡ calls_added
    (commit_answer c.commit_with_rest-result.result.0) =
    added_is c.self.inside.book c.commit_with_rest-result.new.self c.args.session (Commit c.args.work.id c.args.work.commands)
    (commit_answer c.commit_with_rest-result.result.0)
    (stepped_commit c.self.inside.book c.commit_with_rest-result.new.self c.args.session c.args.work c.commit_with_rest-result.result.0
    (search rules)
    (search rules) (search rules) c.self.invariant.0.pending c.commit_with_rest-result.ensures.step) in
    let more : ones (nat_lt (length c.log-place.result.now) (length c.log.result.now))
    ≡ calls_added (commit_answer c.commit_with_rest-result.result.0) =
    (λ i. ones (nat_lt (length (first i)) (length (second i)))) ∙ counted in
    let amount = c.count_call.ensures.amount in
    omega (arith, amount, more)

pub returns-clause-step : goal.returns-clause-step
returns-clause-step g c =
    subst (λ (g : Guard). IsAnswer (refused NoMemory c.args.work) c.commit_with_rest-result.result.0
    (with_refused_work (commit_step g.book c.args.work).0 c.args.work)) c.self.view_is (taken_work
    c.self.inside.book c.commit_with_rest-result.new.self c.args.work (commit_step c.self.inside.book c.args.work)
    c.commit_with_rest-result.result.0
    c.commit_with_rest-result.ensures.step)

pub returns-clause-base : goal.returns-clause-base
returns-clause-base g c =
    subst (λ (g : Guard). c.commit_with_rest-result.new.self.base ≡ g.book.base) c.self.view_is
    (base_kept c.self.inside.book c.commit_with_rest-result.new.self c.args.session (Commit c.args.work.id c.args.work.commands)
    (commit_answer c.commit_with_rest-result.result.0)
    (stepped_commit c.self.inside.book c.commit_with_rest-result.new.self c.args.session c.args.work c.commit_with_rest-result.result.0
    (search rules)
    (search rules) (search rules) c.self.invariant.0.pending c.commit_with_rest-result.ensures.step))
