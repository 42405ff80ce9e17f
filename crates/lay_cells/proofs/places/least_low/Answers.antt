use Rattle.std.proofs.Common.{◌<◌, length, slice_index_or, arith, rules}
use Rattle.std.proofs.lemmas.List.Elements.{Contains-get_or}
use Rattle.lay_cells.proofs.places.least_low.Goals as goal

pub index-requires : goal.index-requires
index-requires c =
    let inside : slice_index_or c.args.row.now c.loop-target.target-index 0 < length c.args.marks.now.items =
    c.requires _ (Contains-get_or c.args.row.now c.loop-target.target-index 0 (omega arith)) in
    search (rules, inside)
