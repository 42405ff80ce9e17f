use Rattle.std.proofs.Common.{◌≤◌, ◌<◌, ℕ, length, ◌-◌}
use Rattle.face_rings.specs.Incidence.{IsUsedAt}
use Rattle.face_rings.proofs.incidence.first_unused.Given as goal

-- all ends on the way are of used edges
abbrev pub invariant-loop-index : goal.invariant-loop-index
invariant-loop-index l = (l.from ≤ l.index) × ((k : ℕ) → l.from ≤ k → k < l.index → IsUsedAt l.used l.ends k)

abbrev pub decreases-loop-index : goal.decreases-loop-index
decreases-loop-index l = length l.ends - l.index
