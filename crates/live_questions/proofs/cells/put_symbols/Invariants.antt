-- All was put but the lines of the symbols that are left.
use Rattle.std.proofs.Common.{map}
use Rattle.std.specs.List.{flat_map}
use Rattle.lay_cells.specs.declared.cell_id.CellId.TheVariants.{Symbol}
use Rattle.cif_names.specs.Titles.{title_at}
use Rattle.live_questions.specs.Answers.{cell_line}
use Rattle.cif_write.proofs.BegunLemmas.{Begun}
use Rattle.live_questions.proofs.cells.put_symbols.Given as goal

abbrev pub invariant-loop-number : goal.invariant-loop-number
invariant-loop-number g l =
    Begun g.O.Out.written g.O.Out.failures l.initial.out l.initial.buffer l.out l.buffer
    (flat_map (cell_line (title_at l.titles) l.layout) (map Symbol l.number-iterator))
    (flat_map (cell_line (title_at l.titles) l.layout) (map Symbol l.initial.number-iterator))
