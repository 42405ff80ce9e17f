use Rattle.std.proofs.Common.{◌≡◌, take}
use Rattle.txn_work.specs.Marking.{missing_in}
use Rattle.txn_work.proofs.marking.missing.Given as goal

-- those so far
abbrev pub invariant-loop-element : goal.invariant-loop-element
invariant-loop-element l = l.fresh.items ≡ missing_in l.footprint (take l.element-index l.elements)
