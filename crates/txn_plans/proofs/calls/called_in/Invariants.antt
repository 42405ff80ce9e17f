use Rattle.std.proofs.Common.{◌≡◌, ◌++◌, map}
use Rattle.txn_plans.specs.Searching.{called_in, search_target}
use Rattle.txn_plans.proofs.calls.called_in.Given as goal

-- the symbols that are left come behind those so far
abbrev pub invariant-loop-target : goal.invariant-loop-target
invariant-loop-target l = l.called.items ++ map search_target l.target-iterator ≡ called_in l.layout l.fn.cell
