use Rattle.std.proofs.Common.{◌≡◌, ◌∷◌, ◌++◌, ℕ, take}
use Rattle.lay_point.specs.Rising.{last}
use Rattle.snap_chains.specs.Passes.{passes_by}
use Rattle.snap_chains.proofs.passes.extend_by_numbers.Given as goal

-- the passes of the numbers so far, where p is the first
abbrev pub invariant-loop-to : goal.invariant-loop-to
invariant-loop-to l =
    (p : ℕ) → l.numbers ≡ p ∷ l.later
    → (l.passes.items ≡ l.fn.passes.items ++ passes_by l.owner (p ∷ take l.to-index l.later))
    × (l.from ≡ last p (take l.to-index l.later))
