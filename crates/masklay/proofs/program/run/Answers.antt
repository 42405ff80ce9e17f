use Rattle.masklay.proofs.OutputLemmas.{one_output}
use Rattle.masklay.proofs.program.run.Goals as goal

pub returns-then-options-clause-one : goal.returns-then-options-clause-one
returns-then-options-clause-one g c = one_output
