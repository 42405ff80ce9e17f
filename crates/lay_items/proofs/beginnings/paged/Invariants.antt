use Rattle.std.proofs.Common.{◌≡◌, ◌++◌, map}
use Rattle.lay_items.specs.Runs.{with_none}
use Rattle.lay_items.proofs.beginnings.paged.Given as goal

-- the marks so far, and those that are left, are all
abbrev pub invariant-loop-mark : goal.invariant-loop-mark
invariant-loop-mark l = l.pages ++ map with_none l.mark-iterator ≡ map with_none l.fn.marks.items
