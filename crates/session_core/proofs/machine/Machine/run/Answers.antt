use Rattle.std.proofs.Common.{◌≡◌, ◌++◌, ◌∷◌, ℕ, List, [], rules, subst, sym}
use Rattle.std.proofs.lemmas.List.Elements.{All-append}
use Rattle.std.specs.List.{All}
use Rattle.session_steps.specs.declared.Step.{Step}
use Rattle.undo_book.specs.declared.book.TheConstants.{MAX_CALLS}
use Rattle.session_core.specs.Machine.{IsNotForeign, start}
use Rattle.session_core.proofs.RunLemmas.{Completes, complete_end, complete_step}
use Rattle.session_core.proofs.machine.Machine.run.Goals as goal

-- the step led on from the steps before it
pub loop-session-preserved : goal.loop-session-preserved
loop-session-preserved g c =
    let old = start c.args.base c.args.sessions MAX_CALLS in
    let all = c.args.steps.items in
    let session = c.in-Some.session in
    let reply = c.step-reply.result in
    let left : c.loop-session.session-iterator ≡ (session, c.in-Some.step) ∷ c.next.new.self = search rules in
    let items : c.push.new.self.items ≡ c.loop-session.replies.items ++ reply ∷ [] = search rules in
    record {
      ran = subst (λ rs. Completes old all rs c.step-reply.new.self c.next.new.self) (sym items)
          (complete_step old all c.next.new.self c.loop-session.replies.items c.loop-session.machine c.step-reply.new.self session
          c.in-Some.step reply
          (subst (λ (l : List (ℕ × Step)). Completes old all c.loop-session.replies.items c.loop-session.machine l) left
          c.loop-session.invariant.ran) c.step-reply.ensures.step);
      own = subst (All IsNotForeign) (sym items) (All-append IsNotForeign c.loop-session.replies.items
          (reply ∷ []) c.loop-session.invariant.own (search rules));
    }

pub returns-clause-steps : goal.returns-clause-steps
returns-clause-steps g c =
    let old = start c.args.base c.args.sessions MAX_CALLS in
    let none : c.loop-session.session-iterator ≡ [] = search rules in
    complete_end old c.args.steps.items c.loop-session.replies.items c.loop-session.machine
    (subst (λ (l : List (ℕ × Step)). Completes old c.args.steps.items c.loop-session.replies.items c.loop-session.machine l) none
    c.loop-session.invariant.ran)
