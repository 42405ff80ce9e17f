use Rattle.std.proofs.Common.{rules}
use Rattle.byte_io.proofs.BufferedLemmas.{Buffered-is, Buffered-then}
use Rattle.job_text.specs.Replies.{several_text}
use Rattle.job_text.proofs.reply_text.put_several.Goals as goal

pub returns : goal.returns
unfolding several_text
returns g c =
    Buffered-is
    (Buffered-then (Buffered-then c.put_made.ensures c.put.ensures) c.put_id.ensures)
    (search rules)
