use Rattle.std.proofs.Common.{rules}
use Rattle.byte_io.proofs.BufferedLemmas.{Buffered-is, Buffered-then}
use Rattle.job_text.proofs.reply_text.put_spaced.Goals as goal

pub returns : goal.returns
returns g c =
    Buffered-is
    (Buffered-then c.put_byte.ensures c.put_txn.ensures)
    (search rules)
