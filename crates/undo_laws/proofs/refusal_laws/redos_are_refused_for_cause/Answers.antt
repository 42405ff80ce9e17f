use Rattle.undo_laws.proofs.UndoLemmas.{redos_law}
use Rattle.undo_laws.proofs.refusal_laws.redos_are_refused_for_cause.Goals as goal

pub returns : goal.returns
returns c = redos_law
