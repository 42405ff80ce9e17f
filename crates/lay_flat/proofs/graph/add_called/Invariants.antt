use Rattle.std.proofs.Common.{◌≡◌, drop}
use Rattle.lay_items.specs.Graphs.{with_called}
use Rattle.lay_flat.proofs.graph.add_called.Given as goal

-- those of the calls that are left are still to be added
abbrev pub invariant-loop-target : goal.invariant-loop-target
invariant-loop-target l = with_called l.symbols (drop l.target-index l.calls) ≡ with_called l.fn.symbols l.calls
