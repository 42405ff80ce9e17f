use Rattle.cif_laws.proofs.AxisLemmas.{boxes_law}
use Rattle.cif_laws.proofs.meaning_laws.boxes_hold_their_points.Goals as goal

pub returns : goal.returns
returns c = boxes_law
