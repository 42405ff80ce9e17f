use Rattle.std.proofs.Common.{◌≡◌, ℕ, ◌<◌, length}
use Rattle.lay_cells.specs.Graph.{rows_of}
use Rattle.lay_cells.specs.Tallies.{AreTallies, IsLow, IsTallied}
use Rattle.lay_cells.proofs.tally.tallied.Given as goal

-- what is known is right, and each cell whose walks have fewer calls than there were rounds is known
abbrev pub invariant-loop-round : goal.invariant-loop-round
invariant-loop-round l = record {
  whole : length l.tallies.items ≡ length (rows_of l.rows.items);
  sound : AreTallies (rows_of l.rows.items) l.tallies.items;
  known : (p : ℕ) → p < length (rows_of l.rows.items) → IsLow (rows_of l.rows.items) l._round p → IsTallied l.tallies.items p;
}
