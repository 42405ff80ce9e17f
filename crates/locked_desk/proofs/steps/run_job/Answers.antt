use Rattle.std.proofs.Common.{rules, ◌≡◌, ◌++◌, ◌∷◌, [], None, sym, subst}
use Rattle.locked_desk.specs.Runs.{AreAnswers, RanSteps, SeatedSession}
use Rattle.locked_desk.proofs.RunLemmas.{answers_push, ran_push}
use Rattle.locked_desk.proofs.steps.run_job.Goals as goal

-- the step led on from the steps before it
pub loop-step-preserved : goal.loop-step-preserved
loop-step-preserved g c =
    let loop = c.loop-step in
    let desk = c.args.desk.now in
    let reply = c.in_ok-reply.reply in
    let items : c.push.new.self.items ≡ loop.replies.items ++ reply ∷ [] = search rules in
    let from : SeatedSession = record { seat = c.args.job.seat; work = None } in
    let mid : SeatedSession = record { seat = loop.seat; work = loop.held } in
    let after : SeatedSession = record { seat = c.take_step.new.seat; work = c.in_ok-reply.next } in
    record {
      ran = subst (λ rs. RanSteps desk from (loop.yielded ++ c.in-Some.step ∷ []) rs after) (sym items)
          (ran_push desk from loop.yielded loop.replies.items mid c.in-Some.step reply after loop.invariant.ran c.in_ok-reply.ensures);
      answers = subst (λ rs. AreAnswers c.args.job.seat rs after.seat) (sym items)
          (answers_push desk c.args.job.seat mid loop.replies.items c.in-Some.step reply after loop.invariant.answers
          c.in_ok-reply.ensures);
    }
