-- Each law is a theorem about all lists of rings.
use Rattle.snap_laws.proofs.Exists.{rounding_exists, rounding_is_computed}
use Rattle.snap_laws.proofs.Unique.{rounding_is_unique}
use Rattle.snap_laws.proofs.InRange.{rounded_is_in_range, rounded_is_rounded}
use Rattle.snap_laws.proofs.round_laws.roundings_are_unique.Goals as goal

pub returns-clause-exists : goal.returns-clause-exists
returns-clause-exists c = rounding_exists

pub returns-clause-unique : goal.returns-clause-unique
returns-clause-unique c = rounding_is_unique

pub returns-clause-computed : goal.returns-clause-computed
returns-clause-computed c = rounding_is_computed

pub returns-clause-rounded : goal.returns-clause-rounded
returns-clause-rounded c = rounded_is_rounded

pub returns-clause-in_range : goal.returns-clause-in_range
returns-clause-in_range c = rounded_is_in_range
