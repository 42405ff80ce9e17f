use Rattle.std.proofs.Common.{◌≡◌}
use Rattle.std.specs.Prelude.{replicate}
use Rattle.snap_chains.proofs.owner_lists.OwnerLists.empty.Given as goal

-- so many empty parts so far
abbrev pub invariant-loop : goal.invariant-loop
invariant-loop l = l.parts.items ≡ replicate l.counter (record { from = 0; to = 0 })
