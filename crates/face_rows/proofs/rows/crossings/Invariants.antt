use Rattle.face_rows.proofs.RowLemmas.{AreCrossings}
use Rattle.face_rows.proofs.rows.crossings.Given as goal

-- where those of the edges so far cross the row
abbrev pub invariant-loop-number : goal.invariant-loop-number
invariant-loop-number l = AreCrossings l.edges l.fn.row l.number l.crossings.items
