-- Where the items that are left are named, all are.
use Rattle.std.specs.List.{AllByRecursion}
use Rattle.cif_laws.specs.Laws.{IsOnNamedLayer}
use Rattle.cif_laws.proofs.again.look_at_layers.Given as goal

abbrev pub invariant-loop-item : goal.invariant-loop-item
invariant-loop-item l =
    AllByRecursion (λ e. IsOnNamedLayer e.1) l.item-iterator → AllByRecursion (λ e. IsOnNamedLayer e.1) l.initial.item-iterator
