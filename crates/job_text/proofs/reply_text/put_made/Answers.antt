use Rattle.std.proofs.Common.{rules}
use Rattle.byte_io.proofs.BufferedLemmas.{Buffered-is, Buffered-then}
use Rattle.job_text.proofs.reply_text.put_made.Goals as goal

pub returns : goal.returns
returns g c =
    Buffered-is
    (Buffered-then c.put.ensures c.put_item_id.ensures)
    (search rules)
