use Rattle.cif_laws.proofs.ReadAlike.{boxes_back}
use Rattle.cif_laws.proofs.RoundParity.{same_places}
use Rattle.cif_laws.proofs.trip_laws.boxes_are_read_back.Goals as goal

pub returns : goal.returns
returns c = record { again = boxes_back; places = same_places }
