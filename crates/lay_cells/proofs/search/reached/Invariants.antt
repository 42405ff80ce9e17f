use Rattle.std.proofs.Common.{◌+◌, length}
use Rattle.lay_cells.specs.Graph.{rows_of}
use Rattle.lay_cells.specs.Marks.{IsSearch, unmarked}
use Rattle.lay_cells.proofs.search.reached.Given as goal

abbrev pub invariant-loop-position : goal.invariant-loop-position
invariant-loop-position l = IsSearch (rows_of l.rows.items) l.start l.marks.items l.pending.items

-- each turn takes a pending cell, and each cell that becomes pending is marked
abbrev pub decreases-loop-position : goal.decreases-loop-position
decreases-loop-position l = unmarked l.marks.items + length l.pending.items
