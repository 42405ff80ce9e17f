use Rattle.std.proofs.Common.{◌≡◌}
use Rattle.std.specs.List.{list_all}
use Rattle.txn_commands.specs.Compared.{same_in}
use Rattle.txn_marks.proofs.same.all_same.Given as goal

-- the elements that are left decide
abbrev pub invariant-loop-element : goal.invariant-loop-element
invariant-loop-element l = list_all (same_in l.l l.m) l.element-iterator ≡ list_all (same_in l.l l.m) l.elements.keys
