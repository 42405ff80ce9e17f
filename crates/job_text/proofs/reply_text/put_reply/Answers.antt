use Rattle.std.proofs.Common.{rules}
use Rattle.byte_io.proofs.BufferedLemmas.{Buffered-is, Buffered-then}
use Rattle.job_text.specs.Replies.{reply_text}
use Rattle.job_text.proofs.reply_text.put_reply.Goals as goal

pub returns : goal.returns
unfolding reply_text
returns g c =
    Buffered-is
    (Buffered-then (Buffered-then (Buffered-then (Buffered-then (Buffered-then (Buffered-then c.put_byte.ensures
    c.put_unsigned.ensures) c.put_byte-2.ensures)
    c.put_unsigned-2.ensures) c.put_byte-3.ensures) c.put_answer.ensures) c.put.ensures)
    (search rules)
