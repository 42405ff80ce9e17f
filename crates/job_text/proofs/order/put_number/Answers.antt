use Rattle.std.proofs.Common.{rules}
use Rattle.byte_io.proofs.BufferedLemmas.{Buffered-is, Buffered-then}
use Rattle.job_text.specs.Order.{order_number_text}
use Rattle.job_text.proofs.order.put_number.Goals as goal

pub returns : goal.returns
unfolding order_number_text
returns g c =
    Buffered-is
    (Buffered-then (Buffered-then (Buffered-then c.put_head.ensures c.put_byte.ensures) c.put_unsigned.ensures) c.put_tail.ensures)
    (search rules)
