use Rattle.std.proofs.Common.{◌∙◌, ap}
use Rattle.std.specs.FinSet.{contains}
use Rattle.txn_commands.specs.Elements.{Touched, elements_exact, elements_total}
use Rattle.txn_marks.proofs.SetLemmas.{key_there}
use Rattle.txn_marks.proofs.footprint.Footprint.contains.Goals as goal

pub returns : goal.returns
returns c =
    c.contains.ensures ∙ key_there elements_total elements_exact c.self.inside.elements.keys c.args.element
    ∙ ap (λ (s : Touched). contains s c.args.element) c.self.view_is
