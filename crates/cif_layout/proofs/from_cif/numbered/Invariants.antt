use Rattle.std.proofs.Common.{◌≡◌, ◌++◌}
use Rattle.cif_layout.specs.FromCif.{items_of_elements}
use Rattle.cif_layout.proofs.from_cif.numbered.Given as goal

-- the items that are numbered, and the elements that are left, are all
abbrev pub invariant-loop-cell : goal.invariant-loop-cell
invariant-loop-cell l = l.items ++ items_of_elements l.cell-iterator ≡ items_of_elements l.fn.elements.items
