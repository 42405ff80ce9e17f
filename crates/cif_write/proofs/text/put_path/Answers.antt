use Rattle.std.proofs.Common.{rules}
use Rattle.byte_io.proofs.BufferedLemmas.{Buffered-is, Buffered-then}
use Rattle.cif_write.proofs.text.put_path.Goals as goal

pub returns : goal.returns
returns g c = Buffered-is (Buffered-then (Buffered-then c.put_byte.ensures c.put_bridged.ensures) c.put.ensures) (search rules)
