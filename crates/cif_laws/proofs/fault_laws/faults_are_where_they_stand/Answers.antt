use Rattle.cif_laws.proofs.FaultGrammar.{faults_stand}
use Rattle.cif_laws.proofs.fault_laws.faults_are_where_they_stand.Goals as goal

pub returns : goal.returns
returns c = faults_stand
