-- Each law is a lemma of its own.
use Rattle.lay_point.proofs.Products.{*ℤ_assoc, *ℤ-+ℤ}
use Rattle.lay_point.proofs.Division.{rounded}
use Rattle.lay_point.proofs.laws.whole_numbers_have_laws.Goals as goal

pub returns-clause-associate : goal.returns-clause-associate
returns-clause-associate c = *ℤ_assoc

pub returns-clause-distribute : goal.returns-clause-distribute
returns-clause-distribute c = *ℤ-+ℤ

-- the quotient rounded down, taken half a unit further
pub returns-clause-round : goal.returns-clause-round
returns-clause-round c = rounded
