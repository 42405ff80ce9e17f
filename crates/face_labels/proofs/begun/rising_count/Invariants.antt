use Rattle.std.proofs.Common.{◌≡◌, ◌<◌, ℕ, true, get_or}
use Rattle.std.specs.Prelude.{int_lt}
use Rattle.face_rows.specs.Lines.{edge_at}
use Rattle.face_rows.specs.Rows.{upward}
use Rattle.face_labels.proofs.begun.rising_count.Given as goal

-- those so far rise
abbrev pub invariant-loop-index : goal.invariant-loop-index
invariant-loop-index l = (k : ℕ) → k < l.index → int_lt l.fn.point.y (upward (edge_at l.edges (get_or l.begun k 0))).1.y ≡ true
