use Rattle.std.proofs.Common.{◌≡◌, ◌∙◌, Ok, Option, Some, ap, false, rules, subst, sym}
use Rattle.std.specs.Prelude.{IfSome}
use Rattle.lay_layouts.specs.Layout.{Layout}
use Rattle.lay_layouts.specs.Sound.{IsSound}
use Rattle.txn_commands.specs.Effects.{is_too_much, next_id}
use Rattle.txn_commands.specs.Plans.{plan}
use Rattle.txn_commands.specs.Transactions.{Transaction}
use Rattle.txn_commands.specs.Writing.{rewritten}
use Rattle.txn_work.specs.Answers.{run_so_far}
use Rattle.txn_work.specs.Works.{transaction_of}
use Rattle.txn_work.proofs.Kept.{next_sound}
use Rattle.txn_work.proofs.work.Work.whole_after.Goals as goal

-- the act was planned on the layout that is kept, and a run keeps a layout sound
pub of-requires : goal.of-requires
of-requires c =
    let old = transaction_of c.self.inside in
    let act = c.args.act.now in
    let same : old ≡ c.args.self.now = c.self.view_is in
    let kept : c.self.inside.whole ≡ Some c.in_ok-whole.whole.now = search rules in
    let whole : c.in_ok-whole.whole.now ≡ (run_so_far old).layout =
    subst (λ (o : Option Layout). IfSome o (λ l. l ≡ (run_so_far old).layout)) kept c.self.invariant.whole in
    let next : c.in_ok-next.next ≡ rewritten c.version.result.now act.items act.symbols = search rules in
    let is : c.in_ok-next.next ≡ rewritten (run_so_far old).layout act.items act.symbols =
    next ∙ ap (λ (l : Layout). rewritten l act.items act.symbols) (c.version.ensures.value ∙ whole) in
    let planned : plan (next_id old.id (run_so_far old)) c.args.command.now (run_so_far old).layout ≡ Ok act =
    subst (λ (t : Transaction). plan (next_id t.id (run_so_far t)) c.args.command.now (run_so_far t).layout ≡ Ok act) (sym same)
    c.requires.planned in
    let room : is_too_much (run_so_far old) act ≡ false =
    subst (λ (t : Transaction). is_too_much (run_so_far t) act ≡ false) (sym same) c.requires.room in
    subst IsSound (sym is) (next_sound old c.self.inside.made c.args.command.now act c.self.invariant.kept planned room)
