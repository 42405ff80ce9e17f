use Rattle.std.proofs.Common.{◌≡◌, rules}
use Rattle.std.proofs.lemmas.Result.{on_ok_weaker}
use Rattle.lay_layouts.specs.Same.{option_item_eq}
use Rattle.txn_commands.specs.Changes.{change_of}
use Rattle.txn_marks.proofs.ChangeLemmas.{item_kept}
use Rattle.txn_marks.proofs.writes.Writes.set_item.Goals as goal

pub returns-clause-ok : goal.returns-clause-ok
returns-clause-ok c =
    let change : c.in_ok-change.change ≡ change_of option_item_eq c.args.before c.args.after = search rules in
    on_ok_weaker c.keep.result (λ updates.
    item_kept c.self.inside.items.entries c.keep.new.tree.entries c.self.inside.symbols.entries c.args.self.now c.args.id c.args.before
    c.args.after c.in_ok-change.change c.self.view_is change c.keep.ensures.ordered updates.0) c.keep.ensures.ok
