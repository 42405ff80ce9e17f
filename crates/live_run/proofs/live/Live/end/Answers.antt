use Rattle.std.proofs.Common.{◌≡◌, ◌∙◌, ℕ, List, [], ap, replicate, rules, arith}
use Rattle.session_steps.specs.Turns.{dealt}
use Rattle.job_text.specs.Order.{order_of, order_text}
use Rattle.session_steps.proofs.DealtLemmas.{few_hands}
use Rattle.live_run.proofs.live.Live.end.Goals as goal

-- as many hands as sessions
pub order_of-requires : goal.order_of-requires
order_of-requires c =
    let hands : c.as_slice-2.result.now ≡ dealt c.args.self.sessions.items c.args.self.replies.items (replicate 64 []) = search rules in
    rw hands (few_hands c.args.self.sessions.items c.args.self.replies.items 64 (omega arith))

pub returns-clause-order : goal.returns-clause-order
returns-clause-order c =
    let log = c.args.self.machine.history.log in
    let told : c.in_ok-replies.replies ≡ dealt c.as_slice.result.now c.args.self.replies.items (replicate 64 [])
    = c.in_ok-replies.ensures in
    let order : c.in_ok-order.order.items ≡ order_of log c.in_ok-replies.replies = search rules in
    let printed : c.in_ok-comments.field-0.items ≡ order_text c.in_ok-order.order.items = search rules in
    printed ∙ ap order_text (order ∙ ap (order_of log)
    (told ∙ ap (λ (o : List ℕ). dealt o c.args.self.replies.items (replicate 64 [])) c.as_slice.ensures.value))
