use Rattle.cif_laws.proofs.ChangeLemmas.{calls_law}
use Rattle.cif_laws.proofs.meaning_laws.calls_move_points.Goals as goal

pub returns : goal.returns
returns c = calls_law
