use Rattle.std.proofs.Common.{map}
use Rattle.lay_cells.specs.Places.{ArePositions}
use Rattle.lay_cells.proofs.places.callees_first.Given as goal

-- the positions so far
abbrev pub invariant-loop-position : goal.invariant-loop-position
invariant-loop-position l = ArePositions (map (λ entry. entry.1) l.order.items) l.position
