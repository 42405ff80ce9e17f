use Rattle.std.proofs.Common.{◌≡◌, ◌++◌}
use Rattle.std.specs.Vec.Iter.{into_iter_items}
use Rattle.lay_items.proofs.numbered.numbered.Given as goal

-- the items that are numbered, and those that are left, are all
abbrev pub invariant-loop-item : goal.invariant-loop-item
invariant-loop-item l = l.numbered ++ into_iter_items l.item-iterator ≡ l.fn.items.items
