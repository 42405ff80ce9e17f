use Rattle.std.proofs.Common.{◌≡◌, map, take}
use Rattle.snap_slabs.specs.Runs.{number_of}
use Rattle.snap_slabs.proofs.rows.numbers_of.Given as goal

-- the numbers so far
abbrev pub invariant-loop-key : goal.invariant-loop-key
invariant-loop-key l = l.numbers.items ≡ map number_of (take l.key-index l.keys)
