use Rattle.std.proofs.Common.{◌≡◌, Err, Ok, Result, rules, subst, sym, true}
use Rattle.std.specs.Prelude.{IfErr}
use Rattle.lay_layouts.specs.declared.id.ItemId.{ItemId}
use Rattle.lay_layouts.specs.Layout.{Layout}
use Rattle.lay_point.specs.Memory.{IsAnswer}
use Rattle.txn_commands.specs.declared.command.Done.{Done}
use Rattle.txn_commands.specs.declared.fault.CmdFault.{CmdFault}
use Rattle.txn_commands.specs.declared.fault.CmdFault.TheVariants.{NoMemory}
use Rattle.txn_commands.specs.Acts.{Act}
use Rattle.txn_commands.specs.Effects.{is_too_much, next_id}
use Rattle.txn_commands.specs.Plans.{plan}
use Rattle.txn_commands.specs.Transactions.{Transaction}
use Rattle.txn_work.specs.Answers.{answer_to, run_so_far}
use Rattle.txn_work.proofs.Kept.{full_is, refusal_is}
use Rattle.txn_work.proofs.work.Work.planned.Goals as goal

pub returns-in_err-act-clause-err : goal.returns-in_err-act-clause-err
returns-in_err-act-clause-err g c =
    let kept_on = c.keep_whole.new.self in
    let there : IsAnswer NoMemory c.plan.result
    (plan (next_id kept_on.id (run_so_far kept_on)) c.args.command.now (run_so_far kept_on).layout) =
    subst (λ (l : Layout). IsAnswer NoMemory c.plan.result (plan (next_id kept_on.id (run_so_far kept_on)) c.args.command.now l))
    c.seen.ensures (subst (λ (i : ItemId). IsAnswer NoMemory c.plan.result (plan i c.args.command.now c.seen.result)) c.next_id.ensures
    c.plan.ensures) in
    let same : kept_on ≡ c.args.self.now = search rules in
    let planned : IsAnswer NoMemory c.plan.result
    (plan (next_id c.args.self.now.id (run_so_far c.args.self.now)) c.args.command.now (run_so_far c.args.self.now).layout) =
    subst (λ (t : Transaction). IsAnswer NoMemory c.plan.result (plan (next_id t.id (run_so_far t)) c.args.command.now
    (run_so_far t).layout)) same there in
    let fault : CmdFault = c.in_err-act.field-0.0 in
    let is : c.plan.result ≡ Err fault = search rules in
    let left : c.from_residual-in_err-act.result ≡ Err fault = search rules in
    subst (λ (r : Result Act CmdFault). IfErr r (λ f. IsAnswer {T = Done} NoMemory (Err f) (answer_to c.args.self.now c.args.command.now)))
    (sym left) (refusal_is c.args.self.now c.args.command.now fault c.plan.result is planned)

pub returns-then-has_no_room_for-clause-err : goal.returns-then-has_no_room_for-clause-err
returns-then-has_no_room_for-clause-err g c =
    let kept_on = c.keep_whole.new.self in
    let there : IsAnswer NoMemory c.plan.result
    (plan (next_id kept_on.id (run_so_far kept_on)) c.args.command.now (run_so_far kept_on).layout) =
    subst (λ (l : Layout). IsAnswer NoMemory c.plan.result (plan (next_id kept_on.id (run_so_far kept_on)) c.args.command.now l))
    c.seen.ensures (subst (λ (i : ItemId). IsAnswer NoMemory c.plan.result (plan i c.args.command.now c.seen.result)) c.next_id.ensures
    c.plan.ensures) in
    let same : kept_on ≡ c.args.self.now = search rules in
    let planned : IsAnswer NoMemory c.plan.result
    (plan (next_id c.args.self.now.id (run_so_far c.args.self.now)) c.args.command.now (run_so_far c.args.self.now).layout) =
    subst (λ (t : Transaction). IsAnswer NoMemory c.plan.result (plan (next_id t.id (run_so_far t)) c.args.command.now
    (run_so_far t).layout)) same there in
    let fills : is_too_much (run_so_far kept_on) c.in_ok-act.act ≡ true = search rules in
    let full : is_too_much (run_so_far c.args.self.now) c.in_ok-act.act ≡ true =
    subst (λ (t : Transaction). is_too_much (run_so_far t) c.in_ok-act.act ≡ true) same fills in
    let is : c.plan.result ≡ Ok c.in_ok-act.act = search rules in
    full_is c.args.self.now c.args.command.now c.in_ok-act.act c.plan.result is planned full
