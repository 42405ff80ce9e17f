use Rattle.std.proofs.Common.{◌≡◌, ℕ, ◌<◌, length}
use Rattle.face_rings.specs.Forest.{IsForest, root_of}
use Rattle.face_rings.proofs.forest.root.Given as goal

-- on the way up all roots are what they were
abbrev pub invariant-loop-parents : goal.invariant-loop-parents
invariant-loop-parents l =
    IsForest l.parents × (l.at < length l.parents) × (root_of l.parents l.at ≡ root_of l.fn.parents l.number)
    × ((k : ℕ) → k < length l.parents → root_of l.parents k ≡ root_of l.fn.parents k)

abbrev pub decreases-loop-parents : goal.decreases-loop-parents
decreases-loop-parents l = l.at
