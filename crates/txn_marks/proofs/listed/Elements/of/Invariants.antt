use Rattle.std.proofs.Common.{◌≡◌, ◌++◌}
use Rattle.std.specs.FinSet.{from_list}
use Rattle.txn_commands.specs.Elements.{element_cmp}
use Rattle.txn_marks.proofs.listed.Elements.of.Given as goal

-- the elements so far, and those that are left, are all
abbrev pub invariant-loop-element : goal.invariant-loop-element
invariant-loop-element l = from_list {R = element_cmp} (l.list.items ++ l.element-iterator) ≡ l.footprint
