-- The walks, their ends and the shapes there are the same.
use Rattle.lay_flat.proofs.Below.{same_flattening}
use Rattle.lay_flat.proofs.flat_laws.flattening_reads_what_is_below.Goals as goal

pub returns : goal.returns
returns c = same_flattening
