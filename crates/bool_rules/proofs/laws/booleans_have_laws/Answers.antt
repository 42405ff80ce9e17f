-- Each law is a theorem about all layouts.
use Rattle.bool_rules.proofs.BooleanLaws.{booleans_are_drawn, booleans_read, booleans_tell}
use Rattle.bool_rules.proofs.Flats.{flattenings_are_flat}
use Rattle.bool_rules.proofs.laws.booleans_have_laws.Goals as goal

pub returns-clause-flat : goal.returns-clause-flat
returns-clause-flat c = flattenings_are_flat

pub returns-clause-reads : goal.returns-clause-reads
returns-clause-reads c = booleans_read

pub returns-clause-places : goal.returns-clause-places
returns-clause-places c = booleans_tell

pub returns-clause-drawn : goal.returns-clause-drawn
returns-clause-drawn c = booleans_are_drawn
