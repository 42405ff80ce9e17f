use Rattle.std.proofs.Common.{◌≡◌, ◌+◌, length}
use Rattle.txn_plans.specs.Searching.{symbols_from}
use Rattle.txn_plans.proofs.Searches.{Searches, left}
use Rattle.txn_plans.proofs.calls.symbols_from.Given as goal

-- what is pending is searched within as many steps as it may take
abbrev pub invariant-loop-number : goal.invariant-loop-number
invariant-loop-number l = record {
  seen : l.seen ≡ l.found.items;
  searches : Searches l.layout l.pending.items l.found.items (symbols_from l.layout l.fn.from);
}

abbrev pub decreases-loop-number : goal.decreases-loop-number
decreases-loop-number l = length l.pending.items + left l.layout l.found.items
