-- Each law is a theorem about all flattenings.
use Rattle.bool_rules.proofs.ShapeLemmas.{shapes_are_determined, shapes_tell_places}
use Rattle.bool_rules.proofs.shape_laws.shapes_tell_places.Goals as goal

pub returns-clause-places : goal.returns-clause-places
returns-clause-places c = shapes_tell_places

pub returns-clause-determined : goal.returns-clause-determined
returns-clause-determined c = shapes_are_determined
