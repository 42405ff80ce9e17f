use Rattle.std.proofs.Common.{◌≡◌, ◌++◌, take}
use Rattle.face_sweep.specs.Ends.{begin_numbers}
use Rattle.face_sweep.proofs.stops.put_numbers.Given as goal

-- the numbers so far
abbrev pub invariant-loop-begin : goal.invariant-loop-begin
invariant-loop-begin l = l.begun.items ≡ l.initial.begun.items ++ begin_numbers (take l.begin-index l.group)
