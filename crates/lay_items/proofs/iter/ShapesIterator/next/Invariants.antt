use Rattle.std.proofs.Common.{◌≡◌, length}
use Rattle.lay_layouts.specs.Lent.{shapes_among}
use Rattle.lay_items.proofs.iter.ShapesIterator.next.Given as goal

-- what was passed over is no shape on the layer
abbrev pub invariant-loop-id : goal.invariant-loop-id
invariant-loop-id l = shapes_among l.self-inside.layer l.self-inside.items ≡ l.fn.self

abbrev pub decreases-loop-id : goal.decreases-loop-id
decreases-loop-id l = length l.self-inside.items
