use Rattle.std.proofs.Common.{◌≡◌, length}
use Rattle.lay_layouts.specs.Lent.{calls_lent}
use Rattle.lay_items.proofs.iter.CallsIterator.next.Given as goal

-- what was passed over is no call
abbrev pub invariant-loop-id : goal.invariant-loop-id
invariant-loop-id l = calls_lent l.self-inside.items ≡ l.fn.self

abbrev pub decreases-loop-id : goal.decreases-loop-id
decreases-loop-id l = length l.self-inside.items
