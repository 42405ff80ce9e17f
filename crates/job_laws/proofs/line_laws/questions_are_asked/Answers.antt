-- What is taken for a question was asked so, and what is asked is taken for it.
use Rattle.job_laws.proofs.Asked.{asks_read, questions_asked}
use Rattle.job_laws.proofs.line_laws.questions_are_asked.Goals as goal

pub returns-clause-asked : goal.returns-clause-asked
returns-clause-asked c = questions_asked

pub returns-clause-read : goal.returns-clause-read
returns-clause-read c = asks_read
