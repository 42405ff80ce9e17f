use Rattle.std.proofs.Common.{◌∙◌, ap}
use Rattle.std.specs.FinSet.{insert}
use Rattle.txn_commands.specs.Elements.{Touched, elements_exact, elements_total}
use Rattle.txn_marks.proofs.SetLemmas.{key_added}
use Rattle.txn_marks.proofs.footprint.Footprint.insert.Goals as goal

pub returns-clause-ok : goal.returns-clause-ok
returns-clause-ok c =
    key_added elements_total elements_exact c.self.inside.elements.keys c.insert.new.self.keys c.args.element
    c.in_ok-insert.ensures.updates.0
    ∙ ap (λ (s : Touched). insert s c.args.element) c.self.view_is
