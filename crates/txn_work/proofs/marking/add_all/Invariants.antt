use Rattle.std.proofs.Common.{◌≡◌, drop, take}
use Rattle.txn_commands.specs.Elements.{with_elements}
use Rattle.txn_work.proofs.marking.add_all.Given as goal

-- those so far were added, those that are left are to be
abbrev pub invariant-loop-element : goal.invariant-loop-element
invariant-loop-element l = record {
  before : l.footprint ≡ with_elements l.fn.footprint (take l.element-index l.fresh);
  after : with_elements l.footprint (drop l.element-index l.fresh) ≡ with_elements l.fn.footprint l.fresh;
}
