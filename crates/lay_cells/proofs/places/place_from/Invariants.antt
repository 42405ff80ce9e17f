use Rattle.std.proofs.Common.{◌≡◌, length}
use Rattle.lay_cells.specs.Places.{AreBelow}
use Rattle.lay_cells.proofs.places.place_from.Given as goal

abbrev pub invariant-loop-position : goal.invariant-loop-position
invariant-loop-position l = record {
  len : length l.marks.items ≡ length l.initial.marks.items;
  below : AreBelow l.path.items (length l.initial.marks.items);
}

abbrev pub decreases-loop-position : goal.decreases-loop-position
decreases-loop-position l = length l.path.items
