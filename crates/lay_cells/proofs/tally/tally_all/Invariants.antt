use Rattle.std.proofs.Common.{map, take}
use Rattle.lay_cells.specs.Graph.{rows_of}
use Rattle.lay_cells.specs.Tallies.{AreTallied}
use Rattle.lay_cells.proofs.tally.tally_all.Given as goal

-- the positions so far are tallied
abbrev pub invariant-loop-position : goal.invariant-loop-position
invariant-loop-position l =
    AreTallied (rows_of l.rows.items) l.initial.tallies.items (map (λ entry. entry.1) (take l.position-index l.order)) l.tallies.items
