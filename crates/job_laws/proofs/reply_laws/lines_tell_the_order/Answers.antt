-- Between two numbers there is no digit.
use Rattle.job_laws.proofs.OrderRead.{numbers_read, orders_told}
use Rattle.job_laws.proofs.reply_laws.lines_tell_the_order.Goals as goal

pub returns-clause-read : goal.returns-clause-read
returns-clause-read c = numbers_read

pub returns-clause-told : goal.returns-clause-told
returns-clause-told c = orders_told
