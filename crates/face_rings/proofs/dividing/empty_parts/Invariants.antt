use Rattle.std.proofs.Common.{◌≡◌, length, All}
use Rattle.face_rings.proofs.dividing.empty_parts.Given as goal

-- so many parts so far, each without rings
abbrev pub invariant-loop : goal.invariant-loop
invariant-loop l = (length l.parts.items ≡ l.counter) × All (λ part. length part.items ≡ 0) l.parts.items
