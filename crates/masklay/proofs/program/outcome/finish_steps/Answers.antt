use Rattle.std.proofs.Common.{◌≡◌, ◌∙◌, ◌≤◌, [], Ok, ap, false, inr, length, replicate, rules}
use Rattle.std.specs.List.{list_any}
use Rattle.session_core.specs.Machine.{Ran, after_steps, is_memory, start}
use Rattle.session_steps.specs.Turns.{dealt, in_turn}
use Rattle.undo_book.specs.declared.book.TheConstants.{MAX_CALLS}
use Rattle.job_text.specs.Order.{order_of}
use Rattle.masklay.specs.Outcome.{finished_by, sessions_for}
use Rattle.masklay.specs.declared.program.outcome.Finished.{Finished}
use Rattle.session_core.proofs.MachineLemmas.{ran_all}
use Rattle.session_steps.proofs.DealtLemmas.{few_hands}
use Rattle.masklay.proofs.program.outcome.finish_steps.Goals as goal

-- as many hands as sessions, so no more than 64
pub order_of-requires : goal.order_of-requires
order_of-requires g c =
    let few : c.sessions_for-sessions.result ≤ 64 = search rules in
    let hands : c.as_slice-4.result.now ≡ dealt c.args.order c.in_ok-machine.replies.items
    (replicate c.sessions_for-sessions.result []) = search rules in
    rw hands (few_hands c.args.order c.in_ok-machine.replies.items c.sessions_for-sessions.result few)

pub returns : goal.returns
returns g c =
    let n = c.sessions_for-sessions.result in
    let base = c.args.base in
    let order = c.args.order in
    let steps = in_turn order c.args.scripts in
    let machine = c.in_ok-machine.machine in
    let replies = c.in_ok-machine.replies.items in
    let ran : Ran (start base n MAX_CALLS) steps replies machine = search rules in
    let plain : list_any is_memory replies ≡ false = search rules in
    let all = ran_all steps replies (start base n MAX_CALLS) machine ran plain in
    let told : c.in_ok-replies.replies ≡ dealt order replies (replicate n []) = search rules in
    let printed : c.from_vec.result ≡ order_of machine.history.log c.in_ok-replies.replies = search rules in
    let layout : c.end-layout.result.0 ≡ machine.history.layout = search rules in
    let finished : Finished = record { replies = c.in_ok-replies.replies; order = c.from_vec.result; layout = c.end-layout.result.0 } in
    let parts : finished ≡ finished_by n order (replies, machine) = λ i. record {
      replies = told i;
      order = (printed ∙ ap (order_of machine.history.log) told) i;
      layout = layout i;
    } in
    let so : finished ≡ finished_by n order (after_steps (start base n MAX_CALLS) steps) =
    parts ∙ (λ i. finished_by n order (all.0 i, all.1 i)) in
    let count : n ≡ sessions_for (length c.args.scripts) = search rules in
    inr (ap Ok (so ∙ ap (λ k. finished_by k order (after_steps (start base k MAX_CALLS) steps)) count))
