use Rattle.std.proofs.Common.{◌≡◌, ℕ, [], ◌+◌, length}
use Rattle.lay_cells.specs.Graph.{row, rows_of}
use Rattle.lay_cells.proofs.call_graph.empty_rows.Given as goal

-- so many rows, all without targets
abbrev pub invariant-loop-symbol : goal.invariant-loop-symbol
invariant-loop-symbol l = record {
  len : length (rows_of l.rows.items) ≡ l._symbol + 1;
  empty : (p : ℕ) → row (rows_of l.rows.items) p ≡ [];
}
