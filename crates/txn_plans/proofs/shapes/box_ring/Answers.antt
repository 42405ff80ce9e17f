use Rattle.std.proofs.Common.{ap, ◌∙◌}
use Rattle.std.proofs.lemmas.Bool.{or_parts}
use Rattle.lay_point.specs.declared.point.Point.{Point}
use Rattle.lay_point.specs.Rings.{rectangle}
use Rattle.txn_commands.specs.Figures.{lower_left}
use Rattle.txn_rules.proofs.Rings.{corners_in_range}
use Rattle.txn_plans.proofs.Shifting.{below}
use Rattle.txn_plans.proofs.shapes.box_ring.Goals as goal

pub rectangle-requires-clause-low : goal.rectangle-requires-clause-low
rectangle-requires-clause-low c = rw c.lower_left.ensures (corners_in_range c.args.a c.args.b c.requires.near).0

pub rectangle-requires-clause-high : goal.rectangle-requires-clause-high
rectangle-requires-clause-high c = rw c.upper_right.ensures (corners_in_range c.args.a c.args.b c.requires.near).1

pub rectangle-requires-clause-wide : goal.rectangle-requires-clause-wide
rectangle-requires-clause-wide c =
    rw (c.lower_left.ensures, c.upper_right.ensures) (below c.args.a.x c.args.b.x (or_parts _ _ c.requires.sides).0)

pub rectangle-requires-clause-tall : goal.rectangle-requires-clause-tall
rectangle-requires-clause-tall c =
    rw (c.lower_left.ensures, c.upper_right.ensures) (below c.args.a.y c.args.b.y (or_parts _ _ c.requires.sides).1)

pub returns : goal.returns
returns c =
    c.rectangle.ensures.value ∙ ap (λ (l : Point). rectangle l c.upper_right.result) c.lower_left.ensures
    ∙ ap (rectangle (lower_left c.args.a c.args.b)) c.upper_right.ensures
