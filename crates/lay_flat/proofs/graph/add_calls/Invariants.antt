use Rattle.std.proofs.Common.{◌≡◌, ◌++◌, drop, map}
use Rattle.lay_items.specs.Graphs.{AreCallsTo, in_graph}
use Rattle.lay_flat.proofs.graph.add_calls.Given as goal

-- the calls that are left stand behind those that were added
abbrev pub invariant-loop-target : goal.invariant-loop-target
invariant-loop-target l = record {
  symbols : l.graph.symbols ≡ l.fn.graph.symbols;
  calls : l.graph.calls ++ map (in_graph l.fn.cell) (drop l.target-index l.calls) ≡ l.fn.graph.calls ++ map (in_graph l.fn.cell) l.calls;
  rest : AreCallsTo l.fn.graph.symbols (drop l.target-index l.calls);
}
