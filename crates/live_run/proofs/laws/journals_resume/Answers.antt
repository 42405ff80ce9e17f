use Rattle.live_run.proofs.ResumeLemmas.{journals_lead}
use Rattle.live_run.proofs.laws.journals_resume.Goals as goal

pub returns : goal.returns
returns c = journals_lead
