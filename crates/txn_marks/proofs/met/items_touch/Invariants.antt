use Rattle.std.proofs.Common.{◌≡◌, drop}
use Rattle.txn_marks.specs.Met.{are_met}
use Rattle.txn_marks.proofs.met.items_touch.Given as goal

-- those that are left decide
abbrev pub invariant-loop-id : goal.invariant-loop-id
invariant-loop-id l = are_met l.footprint (drop l.id-index l.items) ≡ are_met l.footprint l.items
