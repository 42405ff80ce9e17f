use Rattle.cif_names.proofs.ReaderPlaces.{readers_places}
use Rattle.cif_names.proofs.laws.places_are_the_readers.Goals as goal

pub returns : goal.returns
returns c = readers_places
