use Rattle.std.proofs.Common.{◌≡◌, ◌++◌, map, take}
use Rattle.lay_cells.specs.declared.cell_id.CellId.TheVariants.{Symbol}
use Rattle.txn_plans.proofs.calls.push_symbols.Given as goal

-- the symbols so far come behind
abbrev pub invariant-loop-number : goal.invariant-loop-number
invariant-loop-number l = l.cells.items ≡ l.fn.cells.items ++ map Symbol (take l.number-index l.symbols)
