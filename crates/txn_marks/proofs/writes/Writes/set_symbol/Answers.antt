use Rattle.std.proofs.lemmas.Result.{on_ok_weaker}
use Rattle.txn_marks.proofs.ChangeLemmas.{symbol_kept}
use Rattle.txn_marks.proofs.writes.Writes.set_symbol.Goals as goal

pub returns-clause-ok : goal.returns-clause-ok
returns-clause-ok c = on_ok_weaker c.keep.result (λ updates.
    symbol_kept c.self.inside.items.entries c.self.inside.symbols.entries c.keep.new.tree.entries c.args.self.now c.args.number
    c.args.before c.args.after c.cell_change.result c.self.view_is c.cell_change.ensures c.keep.ensures.ordered updates.0)
    c.keep.ensures.ok
