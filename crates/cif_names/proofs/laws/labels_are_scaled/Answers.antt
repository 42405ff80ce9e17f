use Rattle.cif_names.proofs.LabelUnits.{labels_scaled}
use Rattle.cif_names.proofs.laws.labels_are_scaled.Goals as goal

pub returns : goal.returns
returns c = labels_scaled
