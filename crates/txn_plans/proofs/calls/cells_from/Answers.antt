use Rattle.std.proofs.Common.{◌≡◌, ◌++◌, List, map, rules, ◌∙◌}
use Rattle.lay_cells.specs.declared.cell_id.CellId.TheVariants.{Symbol}
use Rattle.txn_plans.specs.Searching.{symbols_from, top_in}
use Rattle.txn_plans.proofs.Searches.{ends_reached}
use Rattle.txn_plans.proofs.calls.cells_from.Goals as goal

pub returns : goal.returns
returns c =
    let all : c.push_symbols.new.cells.items ≡ top_in c.args.from ++ map Symbol (symbols_from c.args.layout.now c.args.from) =
    search rules in
    all ∙ (ends_reached c.args.layout.now c.args.from).1
