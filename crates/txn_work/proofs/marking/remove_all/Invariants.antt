use Rattle.std.proofs.Common.{◌≡◌, drop}
use Rattle.txn_work.specs.Marking.{without_elements}
use Rattle.txn_work.proofs.marking.remove_all.Given as goal

-- those that are left are to be removed
abbrev pub invariant-loop-element : goal.invariant-loop-element
invariant-loop-element l = without_elements l.footprint (drop l.element-index l.elements) ≡ without_elements l.fn.footprint l.elements
