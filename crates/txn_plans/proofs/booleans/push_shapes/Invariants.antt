use Rattle.std.proofs.Common.{◌≡◌, ◌≤◌, ◌+◌, ◌++◌, length}
use Rattle.std.specs.Vec.Iter.{into_iter_items}
use Rattle.txn_commands.specs.Acts.{new_shapes}
use Rattle.txn_plans.specs.Shaping.{points_of}
use Rattle.txn_plans.proofs.booleans.push_shapes.Given as goal

-- with those of the shapes that are left they are all, and there are ids for these
abbrev pub invariant-loop-rings : goal.invariant-loop-rings
invariant-loop-rings l = record {
  pushed : l.items.items ++ new_shapes l.id l.cell l.layer (points_of (into_iter_items l.rings-iterator))
      ≡ l.fn.items.items ++ new_shapes l.fn.new l.cell l.layer (points_of l.fn.shapes.items);
  room : l.id.seq + length (into_iter_items l.rings-iterator) ≤ 4294967295;
}
