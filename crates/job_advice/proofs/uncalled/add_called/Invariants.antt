use Rattle.std.proofs.Common.{◌≡◌}
use Rattle.lay_cells.specs.declared.cell_id.CellId.TheVariants.{Symbol}
use Rattle.lay_items.specs.Graphs.{with_called}
use Rattle.lay_layouts.specs.Lent.{calls_in}
use Rattle.job_advice.proofs.uncalled.add_called.Given as goal

-- those of the calls that are left are still to be added
abbrev pub invariant-loop-target : goal.invariant-loop-target
invariant-loop-target l =
    with_called l.called l.target-iterator ≡ with_called l.fn.called (calls_in l.layout (Symbol l.fn.number))
