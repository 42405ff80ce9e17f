use Rattle.std.proofs.Common.{rules, ◌≡◌, ◌∙◌, length, nat_lt, refl, sym, true}
use Rattle.undo_rules.specs.declared.log.Call.TheVariants.{Open}
use Rattle.desk_rules.specs.Guards.{Fits, Guard}
use Rattle.desk_rules.specs.Legal.{opened_answer}
use Rattle.desk_rules.proofs.GuardLemmas.{guard_called, looked, made_logged}
use Rattle.desk_rules.proofs.LegalLemmas.{stepped_open}
use Rattle.undo_rules.specs.Steps.{is_log_full, open_step}
use Rattle.desk_rules.specs.Refusals.{open_fault}
use Rattle.desk_rules.proofs.RefusalLemmas.{open_full, refused_as}
use Rattle.locked_desk.proofs.CallLemmas.{opened_by}
use Rattle.locked_desk.proofs.RefusedLemmas.{taken}
use Rattle.locked_desk.proofs.GuardedLemmas.{limit_kept}
use Rattle.locked_desk.proofs.guarded.Guarded.open.Goals as goal

pub invariant_of-self-2 : goal.invariant_of-self-2
invariant_of-self-2 g c =
    let was : Guard = record {
      sessions = c.self.inside.sessions;
      book = c.self.inside.book;
      counts = c.self.inside.counts.items;
      total = c.self.inside.calls.total;
    } in
    let look = looked was c.args.session c.args.own.now (search rules) in
    let stepped = stepped_open c.self.inside.book c.open-result.new.self c.args.session c.open-result.result
    (opened_by c.self.inside.book c.open-result.new.self c.number.result c.args.session c.open-result.result c.number.ensures.value
    c.open-result.ensures.step) in (
      guard_called was c.open-result.new.self c.args.session Open
          (opened_answer c.open-result.result) c.args.own.now c.count_call.new.counts.items
          c.count_call.new.calls.total (nat_lt (length c.log-place.result.now) (length c.log.result.now)) c.self.invariant.0
          (search rules) look stepped
          (search rules) (search rules) (search rules),
      c.self.invariant.1 ∙ sym (limit_kept c.self.inside.book c.open-result.new.self c.args.session Open
          (opened_answer c.open-result.result) stepped),
    )

pub returns-clause-made : goal.returns-clause-made
returns-clause-made g c =
    let was : Guard = record {
      sessions = c.self.inside.sessions;
      book = c.self.inside.book;
      counts = c.self.inside.counts.items;
      total = c.self.inside.calls.total;
    } in
    let look = looked was c.args.session c.args.own.now (search rules) in
    let fits : Fits c.args.origin.now was = search rules in
    made_logged c.args.origin.now was c.open-result.new.self c.args.session (length c.log-place.result.now) Open
    (opened_answer c.open-result.result) c.args.own.now c.self.invariant.0 fits
    (search rules) look (stepped_open c.self.inside.book c.open-result.new.self c.args.session c.open-result.result
    (opened_by c.self.inside.book c.open-result.new.self c.number.result c.args.session c.open-result.result c.number.ensures.value
    c.open-result.ensures.step)) (search rules)

pub returns-clause-told : goal.returns-clause-told
returns-clause-told g c =
    let was : Guard = record {
      sessions = c.self.inside.sessions;
      book = c.self.inside.book;
      counts = c.self.inside.counts.items;
      total = c.self.inside.calls.total;
    } in
    let look = looked was c.args.session c.args.own.now (search rules) in
    let fits : Fits c.args.origin.now was = search rules in
    let full : is_log_full was.book ≡ true → was.book.base ≡ c.args.origin.now.base = search rules in
    refused_as c.args.origin.now was c.args.session c.args.own.now (open_fault c.args.session) c.open-result.result
    (open_step was.book c.args.session).0 c.self.invariant.0 fits look (taken
    (opened_by c.self.inside.book c.open-result.new.self c.number.result c.args.session c.open-result.result c.number.ensures.value
    c.open-result.ensures.step)) refl
    (λ fault at none. full (open_full was.book c.args.session fault at none))
