use Rattle.std.proofs.Common.{◌≡◌, ◌<◌, ◌≤◌, ℕ, get_or, length}
use Rattle.face_sweep.specs.declared.stops.Stop.{Stop}
use Rattle.face_sweep.specs.Points.{HasLow}
use Rattle.face_labels.specs.RowSides.{HasLabel, IsLineAt}
use Rattle.face_labels.proofs.labels.labels_at.Given as goal

-- the line is that of the next stop, and the edges that begin at the stops so far have their labels
abbrev pub invariant-loop-index : goal.invariant-loop-index
invariant-loop-index l = record {
  count : length l.labels.items ≡ length l.edges.0;
  line : (d : Stop) → l.index < length l.fn.shared.stops.list.items
      → IsLineAt l.edges l.fn.shared.reach (get_or l.fn.shared.stops.list.items l.index d).point l.line;
  labels : (k n : ℕ) (d : Stop) → l.first ≤ k → k < l.index → k < length l.fn.shared.stops.list.items → n < length l.edges.0
      → HasLow l.edges (get_or l.fn.shared.stops.list.items k d).point n → HasLabel l.fn.op l.edges l.labels.items n;
}
