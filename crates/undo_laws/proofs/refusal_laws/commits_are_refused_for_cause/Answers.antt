use Rattle.undo_laws.proofs.CommitLemmas.{commits_law}
use Rattle.undo_laws.proofs.refusal_laws.commits_are_refused_for_cause.Goals as goal

pub returns : goal.returns
returns c = commits_law
