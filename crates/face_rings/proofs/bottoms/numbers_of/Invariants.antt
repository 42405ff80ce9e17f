use Rattle.std.proofs.Common.{◌≡◌, map, take}
use Rattle.face_rings.proofs.bottoms.numbers_of.Given as goal

-- the numbers so far
abbrev pub invariant-loop-bottom : goal.invariant-loop-bottom
invariant-loop-bottom l = l.numbers.items ≡ map (λ b. b.number) (take l.bottom-index l.bottoms)
