use Rattle.std.proofs.Common.{rules}
use Rattle.byte_io.proofs.BufferedLemmas.{Buffered-is, Buffered-then}
use Rattle.job_text.specs.Replies.{found_text}
use Rattle.job_text.proofs.reply_text.put_shape.Goals as goal

pub returns : goal.returns
unfolding found_text
returns g c =
    Buffered-is
    (Buffered-then (Buffered-then (Buffered-then (Buffered-then c.put.ensures c.put_cell.ensures)
    c.put_byte.ensures) c.put-2.ensures) c.put_rings.ensures)
    (search rules)
