-- Each law is a theorem about all runs.
use Rattle.undo_laws.proofs.Others.{ids_stay_free, others_stay}
use Rattle.undo_laws.proofs.Places.{places_told}
use Rattle.undo_laws.proofs.Replacing.{shapes_replaced}
use Rattle.undo_laws.proofs.region_laws.commands_draw_operations.Goals as goal

pub returns-clause-replaced : goal.returns-clause-replaced
returns-clause-replaced c = shapes_replaced

pub returns-clause-places : goal.returns-clause-places
returns-clause-places c = places_told

pub returns-clause-others : goal.returns-clause-others
returns-clause-others c = others_stay

pub returns-clause-free : goal.returns-clause-free
returns-clause-free c = ids_stay_free
