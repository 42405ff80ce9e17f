use Rattle.std.proofs.Common.{◌≡◌, drop, take}
use Rattle.txn_commands.specs.Figures.{shifted_rings}
use Rattle.txn_plans.specs.Moving.{rings_fit}
use Rattle.txn_plans.proofs.changes.moved_rings.Given as goal

-- the rings so far are moved, and those that are left decide whether all fit
abbrev pub invariant-loop-ring : goal.invariant-loop-ring
invariant-loop-ring l = record {
  moved : l.moved.items ≡ shifted_rings l.by (take l.ring-index l.rings);
  fits : rings_fit l.by (drop l.ring-index l.rings) ≡ rings_fit l.by l.rings;
}
