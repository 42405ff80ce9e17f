use Rattle.std.proofs.Common.{◌∙◌, ap}
use Rattle.std.specs.FinSet.{remove}
use Rattle.txn_commands.specs.Elements.{Touched, elements_exact, elements_total}
use Rattle.txn_marks.proofs.SetLemmas.{key_removed}
use Rattle.txn_marks.proofs.footprint.Footprint.remove.Goals as goal

pub returns : goal.returns
returns c =
    key_removed elements_total elements_exact c.self.inside.elements.keys c.remove.new.self.keys c.args.element c.remove.ensures.updates.0
    ∙ ap (λ (s : Touched). remove s c.args.element) c.self.view_is
