use Rattle.std.proofs.Common.{rules}
use Rattle.byte_io.proofs.BufferedLemmas.{Buffered-is, Buffered-then}
use Rattle.cif_write.proofs.boxes.put_box.Goals as goal

pub returns : goal.returns
returns g c =
    Buffered-is (Buffered-then (Buffered-then (Buffered-then c.put_byte.ensures c.put_pair.ensures) c.put_point.ensures) c.put.ensures)
    (search rules)
