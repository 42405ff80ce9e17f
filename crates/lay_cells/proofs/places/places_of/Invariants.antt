use Rattle.std.proofs.Common.{◌≡◌, length}
use Rattle.lay_cells.proofs.places.places_of.Given as goal

abbrev pub invariant-loop-mark : goal.invariant-loop-mark
invariant-loop-mark l = length l.places.items ≡ l.mark-index
