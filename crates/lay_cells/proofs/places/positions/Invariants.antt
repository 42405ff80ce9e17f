use Rattle.lay_cells.specs.Places.{AreBelow}
use Rattle.lay_cells.proofs.places.positions.Given as goal

abbrev pub invariant-loop-position : goal.invariant-loop-position
invariant-loop-position l = AreBelow l.positions.items l.end
