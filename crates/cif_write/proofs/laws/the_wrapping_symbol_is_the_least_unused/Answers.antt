use Rattle.cif_write.proofs.UnusedLemmas.{least_unused_is}
use Rattle.cif_write.proofs.laws.the_wrapping_symbol_is_the_least_unused.Goals as goal

pub returns : goal.returns
returns c = least_unused_is c.args._symbols.now
