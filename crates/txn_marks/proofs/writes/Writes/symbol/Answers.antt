use Rattle.std.proofs.Common.{◌∙◌, ap}
use Rattle.txn_commands.specs.Records.{Records, slot_change_at}
use Rattle.txn_marks.proofs.ChangeLemmas.{cell_change_there}
use Rattle.txn_marks.proofs.writes.Writes.symbol.Goals as goal

pub returns : goal.returns
returns c =
    c.get.ensures.value ∙ cell_change_there c.self.inside.symbols.entries c.args.number
    ∙ ap (λ (r : Records). slot_change_at r.symbols c.args.number) c.self.view_is
