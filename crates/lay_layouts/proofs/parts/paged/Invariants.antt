use Rattle.std.proofs.Common.{◌≡◌, ◌++◌}
use Rattle.lay_layouts.proofs.parts.paged.Given as goal

-- those so far, and those that are left, are all
abbrev pub invariant-loop-number : goal.invariant-loop-number
invariant-loop-number l = l.pages ++ l.number-iterator ≡ l.slots.entries
