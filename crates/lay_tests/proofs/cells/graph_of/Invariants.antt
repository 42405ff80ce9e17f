use Rattle.std.proofs.Common.{◌≡◌}
use Rattle.lay_tests.proofs.cells.graph_of.Given as goal

abbrev pub invariant-loop-caller : goal.invariant-loop-caller
invariant-loop-caller l = l.graph.symbols ≡ l.symbols
