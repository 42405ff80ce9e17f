use Rattle.std.proofs.Common.{◌≡◌, ◌≤◌, ◌<◌, ◌^◌, inl, ap, arith, length, rules}
use Rattle.std.specs.FinMap as finite
use Rattle.lay_layouts.specs.Items.{items_in}
use Rattle.live_questions.proofs.CellLemmas.{length-items_in}
use Rattle.live_questions.proofs.cells.count_of.Goals as goal

-- the cell has no more items than the layout
pub count-requires-clause-fits : goal.count-requires-clause-fits
count-requires-clause-fits c =
    let bounded : length (items_in c.args.layout.now c.args.cell) ≤ finite.len c.args.layout.now.items =
    length-items_in c.args.layout.now c.args.cell in
    let all : c.size-size.result ≡ finite.len c.args.layout.now.items = c.size-size.ensures in
    let small : c.size-size.result < 2 ^ 64 = search rules in
    let left : length c.items.result ≡ length (items_in c.args.layout.now c.args.cell) = ap length c.items.ensures in
    inl (omega arith)
