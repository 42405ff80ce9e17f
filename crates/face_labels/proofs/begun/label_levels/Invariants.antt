use Rattle.std.proofs.Common.{◌≡◌, ◌<◌, ℕ, get_or, length}
use Rattle.face_labels.specs.RowSides.{HasLabel}
use Rattle.face_labels.proofs.begun.label_levels.Given as goal

-- those so far have their labels
abbrev pub invariant-loop-index : goal.invariant-loop-index
invariant-loop-index l = record {
  count : length l.labels.items ≡ length l.edges.0;
  kept : (n : ℕ) → HasLabel l.fn.op l.edges l.initial.labels.items n → HasLabel l.fn.op l.edges l.labels.items n;
  labels : (k : ℕ) → k < l.index → HasLabel l.fn.op l.edges l.labels.items (get_or l.levels k 0);
}
