-- Each law is a theorem.
use Rattle.bool_rules.proofs.OwnerLemmas.{answers_of_rings, owners_of_rings, shapes_of_rings}
use Rattle.bool_rules.proofs.ring_laws.answers_are_those_of_rings.Goals as goal

pub returns-clause-owners : goal.returns-clause-owners
returns-clause-owners c = owners_of_rings

pub returns-clause-answers : goal.returns-clause-answers
returns-clause-answers c = answers_of_rings

pub returns-clause-shapes : goal.returns-clause-shapes
returns-clause-shapes c = shapes_of_rings
