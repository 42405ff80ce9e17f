use Rattle.live_run.proofs.PlainLemmas.{plain_runs}
use Rattle.live_run.proofs.laws.plain_runs_say_one.Goals as goal

pub returns : goal.returns
returns c = plain_runs
