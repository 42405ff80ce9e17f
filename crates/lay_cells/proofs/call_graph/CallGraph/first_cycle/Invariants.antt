use Rattle.std.proofs.Common.{ℕ, ◌<◌}
use Rattle.lay_cells.specs.Walks.{ClosesCycle, call_at}
use Rattle.lay_cells.proofs.call_graph.CallGraph.first_cycle.Given as goal

-- none of the calls so far closes a cycle
abbrev pub invariant-loop-index : goal.invariant-loop-index
invariant-loop-index l = (i : ℕ) → i < l.index → ¬ (ClosesCycle l.fn.self.calls (call_at l.fn.self.calls i))
