use Rattle.std.proofs.Common.{◌≡◌, ◌++◌}
use Rattle.lay_tests.proofs.runs.runs_of.Given as goal

-- those so far, and those that are left, are all
abbrev pub invariant-loop-id : goal.invariant-loop-id
invariant-loop-id l = l.taken ++ l.id-iterator ≡ l.items
