use Rattle.std.proofs.Common.{take}
use Rattle.lay_cells.specs.Graph.{row, rows_of}
use Rattle.lay_cells.specs.Tallies.{IsSum}
use Rattle.lay_cells.proofs.tally.tally_of.Given as goal

-- the sum of the targets so far
abbrev pub invariant-loop-target : goal.invariant-loop-target
invariant-loop-target l = IsSum (rows_of l.rows.items) (take l.target-index (row (rows_of l.rows.items) l.position)) l.sum
