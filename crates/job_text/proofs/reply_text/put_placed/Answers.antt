use Rattle.std.proofs.Common.{rules}
use Rattle.byte_io.proofs.BufferedLemmas.{Buffered-is, Buffered-then}
use Rattle.job_text.specs.Replies.{found_text}
use Rattle.job_text.proofs.reply_text.put_placed.Goals as goal

pub returns : goal.returns
unfolding found_text
returns g c =
    Buffered-is
    (Buffered-then (Buffered-then (Buffered-then (Buffered-then (Buffered-then (Buffered-then c.put.ensures c.put_cell.ensures)
    c.put_byte.ensures)
    c.put_unsigned.ensures) c.put_byte-2.ensures) c.put_turning.ensures) c.put_point.ensures)
    (search rules)
