use Rattle.std.proofs.Common.{◌≡◌, None, replicate}
use Rattle.lay_cells.proofs.tally.no_tallies.Given as goal

-- so many so far
abbrev pub invariant-loop : goal.invariant-loop
invariant-loop l = l.tallies.items ≡ replicate l.counter None
