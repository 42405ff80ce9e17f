use Rattle.std.proofs.Common.{rules}
use Rattle.byte_io.proofs.BufferedLemmas.{Buffered-is, Buffered-then}
use Rattle.job_text.specs.Replies.{fault_text}
use Rattle.job_text.proofs.reply_text.put_refusal.Goals as goal

pub returns : goal.returns
unfolding fault_text
returns g c =
    Buffered-is
    (Buffered-then (Buffered-then (Buffered-then (Buffered-then c.put.ensures c.put_unsigned.ensures)
    c.put_byte.ensures) c.put-2.ensures) c.put_named.ensures)
    (search rules)
