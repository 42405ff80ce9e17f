use Rattle.std.proofs.Common.{◌≡◌, ◌∙◌, Some, ap, slice_set, subst, sym}
use Rattle.std.proofs.lemmas.List.{set-set}
use Rattle.session_steps.specs.declared.Step.TheVariants.{Do}
use Rattle.session_core.specs.Machine.{State, TakesStep, command_reply, with_work}
use Rattle.session_core.specs.Machines.{IsState, machine_state}
use Rattle.session_core.proofs.MachineLemmas.{commanded, ran_command, same_parts, taken_out}
use Rattle.session_core.proofs.machine.Machine.run_command.Goals as goal
use Rattle.session_core.proofs.machine.Machine.run_command.Goals.{in-Ok, in-Err}

pub invariant_of-self-2 : goal.invariant_of-self-2
invariant_of-self-2 g c =
    let works = c.self.inside.works.items in
    let place = c.index-place.result in
    let t = taken_out c.self.inside c.args.self.now c.self.view_is c.self.invariant c.args.session place c.index-place.ensures.value
    c.requires c.index_mut.result.now c.take.result c.in-Some.work c.index_mut.ensures.value c.take.ensures.value c.in-Some.is in
    let new = c.run-answer.new.self in
    let same = same_parts c.in-Some.work new c.args.command c.run-answer.result c.run-answer.ensures.ok c.run-answer.ensures.err in
    subst (λ w. IsState (record { history = c.self.inside.book; works = w })) (sym (set-set works place c.take.new.self (Some new)))
    (commanded c.self.inside.book works place c.in-Some.work new c.self.invariant t.inside t.found same)

pub returns-clause-step : goal.returns-clause-step
returns-clause-step g c =
    let s = machine_state c.self.inside in
    let works = c.self.inside.works.items in
    let place = c.index-place.result in
    let session = c.args.session in
    let new = c.run-answer.new.self in
    let t = taken_out c.self.inside c.args.self.now c.self.view_is c.self.invariant session place c.index-place.ensures.value
    c.requires c.index_mut.result.now c.take.result c.in-Some.work c.index_mut.ensures.value c.take.ensures.value c.in-Some.is in
    let end : State = record s { works = slice_set (slice_set works place c.take.new.self) place (Some new) } in
    let is_end : end ≡ with_work s s.history session (Some new) =
    ap (λ w. record s { works = w }) (set-set works place c.take.new.self (Some new)
    ∙ ap (λ n. slice_set works n (Some new)) c.index-place.ensures.value) in
    let reply : c.match-answer.result ≡ command_reply c.run-answer.result = elim c.match-answer.branch [
      | in-Ok w ↦ w.result-is ∙ ap command_reply (sym w.in-Ok.is)
      | in-Err w ↦ w.result-is ∙ ap command_reply (sym w.in-Err.is)
    ] in
    let step = ran_command s end session c.args.command c.in-Some.work new c.run-answer.result t.there t.is_open
    c.run-answer.ensures.answer c.run-answer.ensures.ok c.run-answer.ensures.err is_end in
    subst (λ n. TakesStep n session (Do c.args.command) c.match-answer.result end) c.self.view_is
    (subst (λ r. TakesStep s session (Do c.args.command) r end) (sym reply) step)
