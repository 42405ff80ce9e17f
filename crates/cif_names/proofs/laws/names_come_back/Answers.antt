use Rattle.cif_names.proofs.TitleLemmas.{name_back}
use Rattle.cif_names.proofs.laws.names_come_back.Goals as goal

pub returns : goal.returns
returns c = name_back
