use Rattle.std.proofs.Common.{◌≡◌, List, None, Option, replicate, rules, subst, sym}
use Rattle.txn_commands.specs.Transactions.{Transaction}
use Rattle.undo_rules.specs.Books.{History}
use Rattle.undo_rules.specs.Steps.{fresh}
use Rattle.session_core.specs.Machines.{IsState}
use Rattle.session_core.proofs.MachineLemmas.{started}
use Rattle.session_core.proofs.machine.Machine.with_log.Goals as goal

pub invariant_of-result : goal.invariant_of-result
invariant_of-result c =
    let book : c.in_ok-with_log.field-0 ≡ fresh c.args.base c.args.limit = search rules in
    let works : c.in_ok-no_works.field-0.items ≡ replicate c.args.sessions None = search rules in
    subst (λ (h : History). IsState (record { history = h; works = c.in_ok-no_works.field-0.items })) (sym book)
    (subst (λ (w : List (Option Transaction)). IsState (record { history = fresh c.args.base c.args.limit; works = w })) (sym works)
    (started c.args.base c.args.sessions c.args.limit c.requires.high))
