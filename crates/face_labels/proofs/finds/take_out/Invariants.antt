use Rattle.std.proofs.Common.{◌++◌, drop, take}
use Rattle.face_sweep.specs.OwnRows.{AreOwn, HaveLists, own_of}
use Rattle.face_sweep.specs.Reaches.{keys_of}
use Rattle.face_labels.proofs.finds.take_out.Given as goal

-- those before the index are out of the lists
abbrev pub invariant-loop-index : goal.invariant-loop-index
invariant-loop-index l = record {
  room : HaveLists l.edges (keys_of l.reach) l.own;
  own : AreOwn (keys_of l.reach)
      (λ o. own_of l.edges o (drop l.index l.numbers) ++ own_of l.edges o (take l.fn.group.from l.numbers)) l.own;
}
