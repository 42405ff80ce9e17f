use Rattle.std.proofs.Common.{◌≤◌, drop, length, reverse}
use Rattle.face_sweep.specs.Counts.{AreCounts}
use Rattle.face_sweep.specs.OwnRows.{AreOwn, HaveLists, own_of}
use Rattle.face_sweep.specs.Reaches.{keys_of}
use Rattle.face_sweep.specs.Sides.{AreLefts, is_odd_in}
use Rattle.face_labels.proofs.finds.find_lefts.Given as goal

-- what is kept of those from the index on is there, the last first, and these are in the lists
abbrev pub invariant-loop-index : goal.invariant-loop-index
invariant-loop-index l = record {
  bound : l.index ≤ length l.numbers;
  right : AreCounts l.right (is_odd_in l.edges (drop l.index l.numbers));
  lefts : AreLefts l.edges (drop l.index l.numbers) (reverse l.lefts.items);
  room : HaveLists l.edges (keys_of l.reach) l.own;
  own : AreOwn (keys_of l.reach) (λ o. own_of l.edges o (drop l.index l.numbers)) l.own;
}

abbrev pub decreases-loop-index : goal.decreases-loop-index
decreases-loop-index l = l.index
