use Rattle.std.proofs.Common.{rules, ◌≡◌, Some, None}
use Rattle.txn_plans.specs.Moving.{rings_moved}
use Rattle.txn_plans.proofs.Shifting.{all-fit}
use Rattle.txn_plans.proofs.changes.moved.Goals as goal

pub returns-in_default : goal.returns-in_default
returns-in_default c =
    let none : None ≡ rings_moved c.args.by c.in-Shape.rings = search rules in
    rw (c.in-Shape.is, all-fit c.args.by c.in-Shape.rings) (search rules)

pub returns-in_ok-rings-in-Shape-2 : goal.returns-in_ok-rings-in-Shape-2
returns-in_ok-rings-in-Shape-2 c =
    let some : Some c.in_ok-rings-in-Shape-2.rings ≡ rings_moved c.args.by c.in-Shape.rings = search rules in
    rw (c.in-Shape.is, all-fit c.args.by c.in-Shape.rings) (search rules)
