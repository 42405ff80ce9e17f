use Rattle.cif_laws.proofs.ReadBack.{read_back, wrapped_sound}
use Rattle.cif_laws.proofs.WrittenAgain.{written_the_same}
use Rattle.cif_laws.proofs.trip_laws.what_is_written_is_read_back.Goals as goal

pub returns : goal.returns
returns c = record { again = read_back; sound = wrapped_sound; same = written_the_same }
