use Rattle.undo_index.proofs.KeptLemmas.{none_there}
use Rattle.undo_index.proofs.listing.Listing.new.Goals as goal

pub returns : goal.returns
returns c = none_there c.new.result.keys c.new-2.result c.new.ensures.empty c.new-2.ensures
