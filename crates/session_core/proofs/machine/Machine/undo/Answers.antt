use Rattle.session_core.proofs.MachineLemmas.{state_as, undo_keeps}
use Rattle.session_core.proofs.machine.Machine.undo.Goals as goal

pub invariant_of-self : goal.invariant_of-self
invariant_of-self c =
    state_as c.self.inside.book c.undo.new.self c.self.inside.works.items c.self.invariant
    (undo_keeps c.self.inside.book c.undo.new.self c.number.result c.args.txn c.undo.result c.undo.ensures.step)
