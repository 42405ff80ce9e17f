use Rattle.std.proofs.Common.{◌≡◌, map, take}
use Rattle.face_rows.proofs.rows.numbers_of.Given as goal

-- the numbers so far
abbrev pub invariant-loop-crossing : goal.invariant-loop-crossing
invariant-loop-crossing l = l.numbers.items ≡ map (λ c. c.number) (take l.crossing-index l.crossings)
