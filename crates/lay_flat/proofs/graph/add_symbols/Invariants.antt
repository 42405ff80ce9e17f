use Rattle.std.proofs.Common.{◌≡◌, ◌≤◌, ◌-◌, ◌++◌, length, take}
use Rattle.lay_items.specs.Graphs.{symbol_calls}
use Rattle.lay_flat.proofs.graph.add_symbols.Given as goal

-- the calls of the symbols before the index were added
abbrev pub invariant-loop-number : goal.invariant-loop-number
invariant-loop-number l = record {
  within : l.index ≤ length l.symbols;
  same : l.graph.symbols ≡ l.symbols;
  layout : l.lists ≡ l.fn.lists;
  calls : l.graph.calls ≡ l.fn.graph.calls ++ symbol_calls l.fn.lists (take l.index l.symbols);
}

abbrev pub decreases-loop-number : goal.decreases-loop-number
decreases-loop-number l = length l.symbols - l.index
