use Rattle.std.proofs.Common.{rules}
use Rattle.byte_io.proofs.BufferedLemmas.{Buffered-is, Buffered-then}
use Rattle.cif_write.proofs.text.put_call.Goals as goal

pub returns : goal.returns
returns g c =
    Buffered-is (Buffered-then (Buffered-then (Buffered-then c.put.ensures c.put_unsigned.ensures) c.put_turn.ensures) c.put-2.ensures)
    (search rules)
