use Rattle.std.proofs.Common.{rules}
use Rattle.byte_io.proofs.BufferedLemmas.{Buffered-is, Buffered-then}
use Rattle.cif_write.proofs.turns.put_shift.Goals as goal

pub returns-then-ne : goal.returns-then-ne
returns-then-ne g c = Buffered-is (Buffered-then c.put.ensures c.put_point.ensures) (search rules)
