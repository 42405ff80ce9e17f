use Rattle.std.proofs.Common.{rules}
use Rattle.byte_io.proofs.BufferedLemmas.{Buffered-is, Buffered-then}
use Rattle.job_text.specs.Replies.{turning_text}
use Rattle.job_text.proofs.reply_text.put_turning.Goals as goal

pub returns : goal.returns
unfolding turning_text
returns g c =
    Buffered-is
    (Buffered-then c.put_mirror.ensures c.put_quarter.ensures)
    (search rules)
