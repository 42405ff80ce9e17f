use Rattle.std.proofs.Common.{◌≡◌, ◌<◌, ℕ, Contains, length, take}
use Rattle.snap_slabs.specs.Runs.{centres_at}
use Rattle.snap_chains.proofs.centres.put_numbers.Given as goal

-- the numbers so far
abbrev pub invariant-loop-point : goal.invariant-loop-point
invariant-loop-point l = record {
  centres : centres_at l.numbers l.found.items ≡ take l.point-index l.points;
  inside : (k : ℕ) → Contains l.found.items k → k < length l.numbers;
}
