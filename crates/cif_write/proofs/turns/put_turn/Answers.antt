use Rattle.byte_io.proofs.BufferedLemmas.{Buffered-then}
use Rattle.cif_write.proofs.turns.put_turn.Goals as goal

pub returns : goal.returns
returns g c = Buffered-then (Buffered-then c.put_mirror.ensures c.put_quarter.ensures) c.put_shift.ensures
