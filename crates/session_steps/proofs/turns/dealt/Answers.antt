use Rattle.std.proofs.Common.{◌≡◌, ◌≤◌, true, List, [], ◌∷◌, ap, drop, length, replicate, rules, subst, sym, ◌∙◌}
use Rattle.std.specs.Prelude.{IfOk}
use Rattle.session_steps.specs.declared.Reply.{Reply}
use Rattle.session_steps.specs.Turns.{dealt, is_first_alone}
use Rattle.session_steps.proofs.DealtLemmas.{dealt_alone}
use Rattle.session_steps.proofs.TurnLemmas.{dealt_none}
use Rattle.session_steps.proofs.turns.dealt.Goals as goal

-- no reply is left
pub returns-in-None : goal.returns-in-None
returns-in-None c =
    let ended : c.loop-session.left ≡ [] = search rules in
    let hands = c.loop-session.hands.items in
    let order = drop c.loop-session.session-index c.args.order.now in
    let same : hands ≡ dealt c.args.order.now c.args.replies.items (replicate c.args.sessions []) =
    sym (dealt_none order hands) ∙ ap (λ rs. dealt order rs hands) (sym ended) ∙ c.loop-session.invariant in
    subst (λ (l : List (List Reply)). IfOk c.shown-in-None.result (λ shown. shown ≡ l)) same c.shown-in-None.ensures

-- the first session has them all
pub returns-then-is_first_alone : goal.returns-then-is_first_alone
returns-then-is_first_alone c =
    let order = c.args.order.now in
    let replies = c.args.replies.items in
    let one : c.args.sessions ≡ 1 = search rules in
    let few : length replies ≤ length order = search rules in
    let alone : is_first_alone order ≡ true = search rules in
    let kept : c.in_ok-vec.field-0.items ≡ replies ∷ [] = search rules in
    let is : c.in_ok-vec.field-0.items ≡ dealt order replies (replicate c.args.sessions []) =
    kept ∙ sym (dealt_alone order replies [] alone few) ∙ ap (λ n. dealt order replies (replicate n [])) (sym one) in
    subst (λ (l : List (List Reply)). IfOk c.shown.result (λ hands. hands ≡ l)) is c.shown.ensures
