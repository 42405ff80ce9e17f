use Rattle.undo_laws.proofs.OwedLemmas.{owed_law}
use Rattle.undo_laws.proofs.footprint_laws.footprints_are_owed.Goals as goal

pub returns : goal.returns
returns c = owed_law
