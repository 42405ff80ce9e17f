use Rattle.std.proofs.Common.{◌≡◌, ◌<◌, ◌≤◌, ℕ, length, get_or}
use Rattle.face_rings.specs.declared.bottoms.Bottom.{Bottom}
use Rattle.face_rings.proofs.BottomLemmas.{bottom_at}
use Rattle.face_rings.proofs.bottoms.sorted_bottoms.Given as goal

-- the lower sides so far
abbrev pub invariant-loop-number : goal.invariant-loop-number
invariant-loop-number l = (length l.bottoms.items ≡ l.number)
    × ((k : ℕ) (d : Bottom) → k < l.number → get_or l.bottoms.items k d ≡ bottom_at l.boxes k) × (l.number ≤ length l.boxes)
