use Rattle.std.proofs.Common.{◌≡◌}
use Rattle.snap_slabs.specs.Slabs.{AreSlabs}
use Rattle.snap_slabs.proofs.SlabLemmas.{behind}
use Rattle.snap_slabs.proofs.slabs.slabs_of.Given as goal

-- the slabs so far, and the centres behind them
abbrev pub invariant-loop : goal.invariant-loop
invariant-loop l = record {
  slabs : AreSlabs l.size l.centres l.slabs.items;
  rest : l.rest ≡ behind l.size l.centres l.slabs.items;
}
