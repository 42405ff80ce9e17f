use Rattle.std.proofs.Common.{◌≡◌, ◌∙◌, List, Option, ap, slice_set, subst, sym}
use Rattle.std.proofs.lemmas.List.{set-set}
use Rattle.txn_commands.specs.Transactions.{Transaction}
use Rattle.session_steps.specs.declared.Step.TheVariants.{Commit}
use Rattle.session_core.specs.Commits.{reply_of, work_of}
use Rattle.session_core.specs.Machine.{State, TakesStep, with_work}
use Rattle.session_core.specs.Machines.{IsState, machine_state}
use Rattle.session_core.proofs.MachineLemmas.{commits_so, left_state, taken_out}
use Rattle.session_core.proofs.machine.Machine.commit.Goals as goal

pub invariant_of-self-2 : goal.invariant_of-self-2
invariant_of-self-2 c =
    let works = c.self.inside.works.items in
    let place = c.index-place.result in
    let t = taken_out c.self.inside c.args.self.now c.self.view_is c.self.invariant c.args.session place c.index-place.ensures.value
    c.requires c.index_mut.result.now c.take.result c.in-Some.work c.index_mut.ensures.value c.take.ensures.value c.in-Some.is in
    let made = commits_so (machine_state c.self.inside) c.commit.new.self c.args.session place c.in-Some.work c.commit.result
    t.is_open t.few
    (c.self.invariant.works place c.in-Some.work t.found) c.commit.ensures.step c.commit.ensures.full in
    subst (λ (w : List (Option Transaction)). IsState (record { history = c.commit.new.self; works = w }))
    (sym (set-set works place c.take.new.self c.outcome-reply.result.1 ∙ ap (slice_set works place) c.outcome-reply.ensures.work))
    (left_state c.self.inside.book c.commit.new.self works place c.in-Some.work (work_of c.commit.result) c.self.invariant t.inside
    made.left)

pub returns-clause-step : goal.returns-clause-step
returns-clause-step c =
    let s = machine_state c.self.inside in
    let works = c.self.inside.works.items in
    let place = c.index-place.result in
    let session = c.args.session in
    let t = taken_out c.self.inside c.args.self.now c.self.view_is c.self.invariant session place c.index-place.ensures.value
    c.requires c.index_mut.result.now c.take.result c.in-Some.work c.index_mut.ensures.value c.take.ensures.value c.in-Some.is in
    let made = commits_so s c.commit.new.self session place c.in-Some.work c.commit.result t.is_open t.few
    (c.self.invariant.works place c.in-Some.work t.found) c.commit.ensures.step c.commit.ensures.full in
    let end : State =
    record { history = c.commit.new.self; works = slice_set (slice_set works place c.take.new.self) place c.outcome-reply.result.1 } in
    let is_end : end ≡ with_work s c.commit.new.self session (work_of c.commit.result) =
    ap (λ w. record { history = c.commit.new.self; works = w }) (set-set works place c.take.new.self c.outcome-reply.result.1
    ∙ ap (slice_set works place) c.outcome-reply.ensures.work
    ∙ ap (λ n. slice_set works n (work_of c.commit.result)) c.index-place.ensures.value) in
    let step : TakesStep s session Commit (reply_of c.commit.result) (with_work s c.commit.new.self session (work_of c.commit.result)) =
    rw (t.there, t.is_open) made.step in
    subst (λ n. TakesStep n session Commit c.outcome-reply.result.0 end) c.self.view_is
    (subst (λ r. TakesStep s session Commit r end) (sym c.outcome-reply.ensures.reply)
    (subst (λ e. TakesStep s session Commit (reply_of c.commit.result) e) (sym is_end) step))

pub returns-clause-own : goal.returns-clause-own
returns-clause-own c =
    let place = c.index-place.result in
    let t = taken_out c.self.inside c.args.self.now c.self.view_is c.self.invariant c.args.session place c.index-place.ensures.value
    c.requires c.index_mut.result.now c.take.result c.in-Some.work c.index_mut.ensures.value c.take.ensures.value c.in-Some.is in
    let made = commits_so (machine_state c.self.inside) c.commit.new.self c.args.session place c.in-Some.work c.commit.result
    t.is_open t.few
    (c.self.invariant.works place c.in-Some.work t.found) c.commit.ensures.step c.commit.ensures.full in
    λ e. made.own (sym c.outcome-reply.ensures.reply ∙ e)
