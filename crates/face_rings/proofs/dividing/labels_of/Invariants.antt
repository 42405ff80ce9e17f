use Rattle.std.proofs.Common.{◌≤◌}
use Rattle.face_ring_laws.specs.Heads.{IsNumbered}
use Rattle.face_rings.proofs.dividing.labels_of.Given as goal

-- the labels so far
abbrev pub invariant-loop-number : goal.invariant-loop-number
invariant-loop-number l = IsNumbered l.heads l.number l.labels.items l.count × (l.count ≤ l.number)
