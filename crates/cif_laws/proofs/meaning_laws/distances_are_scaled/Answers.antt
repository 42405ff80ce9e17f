use Rattle.cif_laws.proofs.PlaceLemmas.{distances_law}
use Rattle.cif_laws.proofs.meaning_laws.distances_are_scaled.Goals as goal

pub returns : goal.returns
returns c = distances_law
