use Rattle.std.proofs.Common.{◌≡◌, ◌<◌, ◌≤◌, ◌++◌, ℕ, drop, get_or, length, reverse, take}
use Rattle.std.specs.Prelude.{slice_range}
use Rattle.face_sweep.specs.Counts.{AreCounts}
use Rattle.face_sweep.specs.OwnRows.{AreOwn, HaveLists, own_of}
use Rattle.face_sweep.specs.Reaches.{keys_of}
use Rattle.face_sweep.specs.Sides.{AreLefts, is_odd_in}
use Rattle.face_labels.specs.RowSides.{HasLabel}
use Rattle.face_labels.proofs.begun.find_begun.Given as goal

-- what is kept of those from the index on is there, the last first, these are in the lists, and the labels are written
abbrev pub invariant-loop-index : goal.invariant-loop-index
invariant-loop-index l = record {
  from : l.fn.group.from ≤ l.index;
  bound : l.index ≤ l.fn.group.to;
  right : AreCounts l.right (is_odd_in l.edges (drop l.index l.numbers));
  lefts : AreLefts l.edges (slice_range l.numbers l.index l.fn.group.to) (reverse l.lefts.items);
  room : HaveLists l.edges (keys_of l.reach) l.own;
  own : AreOwn (keys_of l.reach)
      (λ o. own_of l.edges o (drop l.index l.numbers) ++ own_of l.edges o (take l.fn.group.from l.numbers)) l.own;
  count : length l.labels.items ≡ length l.edges.0;
  written : (n : ℕ) → HasLabel l.fn.op l.edges l.initial.labels.items n → HasLabel l.fn.op l.edges l.labels.items n;
  labels : (k : ℕ) → l.index ≤ k → k < l.fn.group.to → HasLabel l.fn.op l.edges l.labels.items (get_or l.numbers k 0);
}

abbrev pub decreases-loop-index : goal.decreases-loop-index
decreases-loop-index l = l.index
