-- The law is a theorem about all histories.
use Rattle.undo_laws.proofs.Staying.{stay}
use Rattle.undo_laws.proofs.region_laws.operations_stay_in_histories.Goals as goal

pub returns : goal.returns
returns c = stay
