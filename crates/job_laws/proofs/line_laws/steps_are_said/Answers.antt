-- What is read was said so, and what is said is read.
use Rattle.job_laws.proofs.Sayings.{says_read, steps_said}
use Rattle.job_laws.proofs.line_laws.steps_are_said.Goals as goal

pub returns-clause-said : goal.returns-clause-said
returns-clause-said c = steps_said

pub returns-clause-read : goal.returns-clause-read
returns-clause-read c = says_read
