use Rattle.std.proofs.Common.{◌≡◌, ◌∷◌, ap, map, rules}
use Rattle.std.specs.List.{flat_map}
use Rattle.lay_cells.specs.declared.cell_id.CellId.TheVariants.{Symbol}
use Rattle.cif_names.specs.Titles.{title_at}
use Rattle.live_questions.specs.Answers.{cell_line}
use Rattle.cif_write.proofs.BegunLemmas.{Begun-then}
use Rattle.live_questions.proofs.cells.put_symbols.Goals as goal

pub loop-number-preserved : goal.loop-number-preserved
loop-number-preserved g c =
    let first : c.loop-number.number-iterator ≡ c.in-Some.number.now ∷ c.next.new.self = search rules in
    Begun-then _ c.loop-number.invariant c.put_cell_line.ensures
    (ap (λ ns. flat_map (cell_line (title_at c.args.titles.now) c.args.layout.now) (map Symbol ns)) first)
