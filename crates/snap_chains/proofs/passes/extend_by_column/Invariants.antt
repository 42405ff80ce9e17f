use Rattle.std.proofs.Common.{◌≡◌, ◌++◌, ◌+◌, ◌-◌}
use Rattle.std.specs.List.{range_with_len}
use Rattle.snap_chains.specs.Passes.{passes_by}
use Rattle.snap_chains.proofs.passes.extend_by_column.Given as goal

-- the passes up to this number
abbrev pub invariant-loop-number : goal.invariant-loop-number
invariant-loop-number l =
    l.passes.items ≡ l.fn.passes.items ++ passes_by l.owner (range_with_len l.first (l.number + 1 - l.first))
