use Rattle.cif_laws.proofs.CheckLemmas.{in_order}
use Rattle.cif_laws.proofs.fault_laws.checks_come_in_order.Goals as goal

pub returns : goal.returns
returns c = in_order
