-- Reading finds the lines, and lines that are a job's are read as that job.
use Rattle.job_laws.proofs.Whole.{jobs_read, only_jobs_read}
use Rattle.job_laws.proofs.laws.jobs_are_their_lines.Goals as goal

pub returns-clause-accepted : goal.returns-clause-accepted
returns-clause-accepted c = jobs_read

pub returns-clause-no_other : goal.returns-clause-no_other
returns-clause-no_other c = only_jobs_read
