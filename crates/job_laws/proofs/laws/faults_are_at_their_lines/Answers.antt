-- The line that is named is at fault, and a wrong order is named.
use Rattle.job_laws.proofs.FaultsNamed.{faults_named, wrong_named}
use Rattle.job_laws.proofs.laws.faults_are_at_their_lines.Goals as goal

pub returns-clause-at : goal.returns-clause-at
returns-clause-at c = faults_named

pub returns-clause-order : goal.returns-clause-order
returns-clause-order c = wrong_named
