use Rattle.std.proofs.Common.{◌≡◌, length}
use Rattle.lay_cells.specs.Places.{AreBelow}
use Rattle.lay_cells.proofs.places.callers_first.Given as goal

abbrev pub invariant-loop-turn : goal.invariant-loop-turn
invariant-loop-turn l = record {
  len : length l.marks.items ≡ length l.rows.items;
  pending : AreBelow l.pending.items (length l.rows.items);
  path : AreBelow l.path.items (length l.rows.items);
}
