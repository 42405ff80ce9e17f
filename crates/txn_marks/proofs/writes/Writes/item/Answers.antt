use Rattle.std.proofs.Common.{◌∙◌, ap}
use Rattle.txn_commands.specs.Records.{Records, recorded_change}
use Rattle.txn_marks.proofs.ChangeLemmas.{change_there}
use Rattle.txn_marks.proofs.writes.Writes.item.Goals as goal

pub returns : goal.returns
returns c =
    c.get.ensures.value ∙ change_there c.self.inside.items.entries c.args.id
    ∙ ap (λ (r : Records). recorded_change r.items c.args.id) c.self.view_is
