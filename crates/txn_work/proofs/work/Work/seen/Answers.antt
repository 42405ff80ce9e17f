use Rattle.std.proofs.Common.{◌≡◌, ◌∙◌, Option, ap, rules, subst, sym}
use Rattle.std.specs.Prelude.{IfSome, option_copied}
use Rattle.lay_layouts.specs.Layout.{Layout}
use Rattle.txn_commands.specs.Records.{applied}
use Rattle.txn_commands.specs.Transactions.{Transaction}
use Rattle.txn_work.specs.Answers.{run_so_far}
use Rattle.txn_work.specs.Works.{transaction_of}
use Rattle.txn_work.proofs.Kept.{overlays, same_whole, seen_so_far}
use Rattle.txn_work.proofs.work.Work.seen.Goals as goal

pub new-requires-clause-over : goal.new-requires-clause-over
new-requires-clause-over c = overlays _ _ c.self.invariant.kept

pub new-requires-clause-whole : goal.new-requires-clause-whole
new-requires-clause-whole c =
    let w = c.self.inside in
    let kept : option_copied c.as_ref.result ≡ w.whole = search rules in
    subst (λ (o : Option Layout). IfSome o (λ l. l ≡ applied w.snapshot w.writes)) (sym kept)
    (same_whole w.whole (seen_so_far (transaction_of w) w.made c.self.invariant.kept) c.self.invariant.whole)

pub returns : goal.returns
returns c = c.new.ensures ∙ seen_so_far _ _ c.self.invariant.kept ∙ ap (λ (t : Transaction). (run_so_far t).layout) c.self.view_is
