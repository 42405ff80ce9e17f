use Rattle.live_run.proofs.LineLemmas.{lines_lead}
use Rattle.live_run.proofs.laws.lines_are_steps.Goals as goal

pub returns : goal.returns
returns c = lines_lead
