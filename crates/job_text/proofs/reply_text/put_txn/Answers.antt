use Rattle.std.proofs.Common.{rules}
use Rattle.byte_io.proofs.BufferedLemmas.{Buffered-is, Buffered-then}
use Rattle.job_text.proofs.reply_text.put_txn.Goals as goal

pub returns : goal.returns
returns g c =
    Buffered-is
    (Buffered-then (Buffered-then c.put_unsigned.ensures c.put_byte.ensures) c.put_unsigned-2.ensures)
    (search rules)
