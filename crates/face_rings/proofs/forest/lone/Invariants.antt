use Rattle.std.proofs.Common.{◌≡◌, ◌<◌, ℕ, length, get_or}
use Rattle.face_rings.proofs.forest.lone.Given as goal

-- the numbers so far
abbrev pub invariant-loop-number : goal.invariant-loop-number
invariant-loop-number l = (length l.all.items ≡ l.number) × ((k : ℕ) → k < l.number → get_or l.all.items k 0 ≡ k)
