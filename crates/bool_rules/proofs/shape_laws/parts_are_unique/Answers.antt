-- Each law is a theorem about all lists of rings.
use Rattle.bool_rules.proofs.LabelLemmas.{parts_exist}
use Rattle.bool_rules.proofs.OneDivision.{parts_are_unique}
use Rattle.bool_rules.proofs.shape_laws.parts_are_unique.Goals as goal

pub returns-clause-exist : goal.returns-clause-exist
returns-clause-exist c = parts_exist

pub returns-clause-unique : goal.returns-clause-unique
returns-clause-unique c = parts_are_unique
