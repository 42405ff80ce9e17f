use Rattle.std.proofs.Common.{length}
use Rattle.lay_cells.specs.Places.{AreBelow}
use Rattle.lay_cells.proofs.places.push_new.Given as goal

abbrev pub invariant-loop-target : goal.invariant-loop-target
invariant-loop-target l = AreBelow l.pending.items (length l.marks.items)
