use Rattle.std.proofs.Common.{◌≡◌, ◌++◌, map}
use Rattle.txn_commands.specs.Acts.{removals}
use Rattle.txn_commands.specs.Plans.{shape_ids}
use Rattle.txn_plans.proofs.booleans.removals.Given as goal

-- with those of the shapes that are left they are the writes of all
abbrev pub invariant-loop-id : goal.invariant-loop-id
invariant-loop-id l =
    l.items.items ++ removals (map (λ shape. shape.0) l.id-iterator) ≡ removals (shape_ids l.fn.layout l.fn.cell l.fn.layer)
