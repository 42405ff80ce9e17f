-- The line is words, which are read as the reply.
use Rattle.job_laws.proofs.ReplyRead.{lines_tell}
use Rattle.job_laws.proofs.reply_laws.lines_tell_replies.Goals as goal

pub returns : goal.returns
returns c = lines_tell
