use Rattle.std.proofs.Common.{◌≡◌, ◌++◌, map, take}
use Rattle.face_sweep.proofs.stops.put_crossings.Given as goal

-- the numbers so far
abbrev pub invariant-loop-crossing : goal.invariant-loop-crossing
invariant-loop-crossing l = l.begun.items ≡ l.initial.begun.items ++ map (λ c. c.number) (take l.crossing-index l.crossings)
