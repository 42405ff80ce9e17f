use Rattle.session_core.proofs.MachineLemmas.{redo_keeps, state_as}
use Rattle.session_core.proofs.machine.Machine.redo.Goals as goal

pub invariant_of-self : goal.invariant_of-self
invariant_of-self c =
    state_as c.self.inside.book c.redo.new.self c.self.inside.works.items c.self.invariant
    (redo_keeps c.self.inside.book c.redo.new.self c.number.result c.args.txn c.redo.result c.redo.ensures.step)
