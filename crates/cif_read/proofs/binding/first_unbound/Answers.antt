use Rattle.std.proofs.Common.{arith}
use Rattle.std.proofs.lemmas.List.Elements.{All-from_get_or}
use Rattle.lay_cells.specs.declared.cell_id.CellId.TheVariants.{Top}
use Rattle.cif_read.specs.Binding.{IsBound}
use Rattle.cif_read.proofs.binding.first_unbound.Goals as goal

pub returns : goal.returns
returns c =
    All-from_get_or (IsBound c.args.symbols.now) c.args.calls.now (record { offset = 0; caller = Top; target = 0 })
    (λ i h. c.loop-index.invariant i (omega arith))
