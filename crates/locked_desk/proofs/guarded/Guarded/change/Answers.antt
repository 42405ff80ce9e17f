use Rattle.std.proofs.Common.{rules, ◌≡◌, ◌∙◌, arith, length, nat_lt, sym, true}
use Rattle.desk_rules.specs.Guards.{Fits, Guard, ones}
use Rattle.desk_rules.specs.Legal.{answer_of}
use Rattle.desk_rules.specs.Seats.{calls_added}
use Rattle.desk_rules.proofs.GuardLemmas.{added_is, guard_called, looked, made_logged}
use Rattle.undo_rules.specs.Steps.{is_log_full}
use Rattle.desk_rules.proofs.RefusalLemmas.{refused_as}
use Rattle.locked_desk.proofs.RefusedLemmas.{fault_given, way_full}
use Rattle.locked_desk.specs.Ways.{answer_for, call_for, fault_for, given_for}
use Rattle.locked_desk.proofs.GuardedLemmas.{limit_kept}
use Rattle.locked_desk.proofs.guarded.Guarded.change.Goals as goal

pub invariant_of-self : goal.invariant_of-self
invariant_of-self g c =
    let was : Guard = record {
      sessions = c.self.inside.sessions;
      book = c.self.inside.book;
      counts = c.self.inside.counts.items;
      total = c.self.inside.calls.total;
    } in
    let look = looked was c.args.session c.args.own.now (search rules) in (
      guard_called was c.take-result.new.book c.args.session (call_for c.args.way c.args.txn)
          (answer_of (answer_for c.args.way) c.take-result.result) c.args.own.now c.count_call.new.counts.items
          c.count_call.new.calls.total (nat_lt (length c.log-place.result.now) (length c.log.result.now)) c.self.invariant.0
          (search rules) look c.take-result.ensures.step
          (search rules) (search rules) (search rules),
      c.self.invariant.1 ∙ sym (limit_kept c.self.inside.book c.take-result.new.book c.args.session
          (call_for c.args.way c.args.txn) (answer_of (answer_for c.args.way) c.take-result.result) c.take-result.ensures.step),
    )

pub returns-clause-made : goal.returns-clause-made
returns-clause-made g c =
    let was : Guard = record {
      sessions = c.self.inside.sessions;
      book = c.self.inside.book;
      counts = c.self.inside.counts.items;
      total = c.self.inside.calls.total;
    } in
    let look = looked was c.args.session c.args.own.now (search rules) in
    let fits : Fits c.args.origin.now was = search rules in
    made_logged c.args.origin.now was c.take-result.new.book c.args.session (length c.log-place.result.now) (call_for c.args.way c.args.txn)
    (answer_of (answer_for c.args.way) c.take-result.result) c.args.own.now c.self.invariant.0 fits
    (search rules) look c.take-result.ensures.step (search rules)

pub returns-clause-amount : goal.returns-clause-amount
returns-clause-amount g c =
    let first : c.log-place.result.now ≡ c.self.inside.book.log = search rules in
    let second : c.log.result.now ≡ c.take-result.new.book.log = search rules in
    let counted : ones (nat_lt (length c.self.inside.book.log) (length c.take-result.new.book.log))
    ≡ calls_added (answer_of (answer_for c.args.way) c.take-result.result) =
    added_is c.self.inside.book c.take-result.new.book c.args.session (call_for c.args.way c.args.txn)
    (answer_of (answer_for c.args.way) c.take-result.result) c.take-result.ensures.step in
    let more : ones (nat_lt (length c.log-place.result.now) (length c.log.result.now))
    ≡ calls_added (answer_of (answer_for c.args.way) c.take-result.result) =
    (λ i. ones (nat_lt (length (first i)) (length (second i)))) ∙ counted in
    let amount = c.count_call.ensures.amount in
    omega (arith, amount, more)

pub returns-clause-told : goal.returns-clause-told
returns-clause-told g c =
    let was : Guard = record {
      sessions = c.self.inside.sessions;
      book = c.self.inside.book;
      counts = c.self.inside.counts.items;
      total = c.self.inside.calls.total;
    } in
    let look = looked was c.args.session c.args.own.now (search rules) in
    let fits : Fits c.args.origin.now was = search rules in
    let full : is_log_full was.book ≡ true → was.book.base ≡ c.args.origin.now.base = search rules in
    refused_as c.args.origin.now was c.args.session c.args.own.now (fault_for c.args.way c.args.session c.args.txn) c.take-result.result
    (given_for c.args.way c.args.session c.args.txn was.book) c.self.invariant.0 fits look c.take-result.ensures.answer
    (fault_given c.args.way c.args.session c.args.txn was.book)
    (λ fault at none. full (way_full c.args.way was.book c.args.session c.args.txn fault at none))
