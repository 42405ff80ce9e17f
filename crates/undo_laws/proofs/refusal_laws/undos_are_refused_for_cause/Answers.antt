use Rattle.undo_laws.proofs.UndoLemmas.{undos_law}
use Rattle.undo_laws.proofs.refusal_laws.undos_are_refused_for_cause.Goals as goal

pub returns : goal.returns
returns c = undos_law
