use Rattle.std.proofs.Common.{◌≡◌, ◌∙◌, ◌++◌, ℕ, List, ap, map}
use Rattle.std.specs.FinMap as finite
use Rattle.std.specs.List.{flat_map}
use Rattle.byte_io.proofs.BufferedLemmas.{Buffered-is, Buffered-then}
use Rattle.cif_names.specs.Titles.{title_at, title_in}
use Rattle.lay_cells.specs.declared.cell_id.CellId.TheVariants.{Symbol, Top}
use Rattle.live_questions.specs.Answers.{cell_line, cells_text}
use Rattle.live_questions.proofs.cells.put_cells.Goals as goal

-- the top cell, then the symbols
pub returns : goal.returns
unfolding cells_text
returns g c =
    let layout = c.args.layout.now in
    let titles : title_at c.in_ok-titles.titles ≡ title_in c.args.names.now = λ i n. c.in_ok-titles.ensures n i in
    Buffered-is (Buffered-then c.put_cell_line.ensures c.put_symbols.ensures)
    (ap (λ (ns : List ℕ). cell_line (title_at c.in_ok-titles.titles) layout Top ++ flat_map
    (cell_line (title_at c.in_ok-titles.titles) layout) (map Symbol ns)) c.in_ok-numbers.ensures
    ∙ ap (λ (t : ℕ → List ℕ). cell_line t layout Top ++ flat_map (cell_line t layout) (map Symbol (finite.keys layout.symbols))) titles)
