use Rattle.lay_items.proofs.MarkLemmas.{none_held}
use Rattle.lay_items.proofs.runs.Runs.new.Goals as goal

pub returns : goal.returns
returns c = none_held c.new.result c.new-2.result c.new.ensures c.new-2.ensures
