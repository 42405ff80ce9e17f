use Rattle.std.proofs.Common.{◌≡◌, take}
use Rattle.snap_slabs.specs.Runs.{centres_at}
use Rattle.snap_slabs.proofs.rows.centres_of.Given as goal

-- the centres so far
abbrev pub invariant-loop-number : goal.invariant-loop-number
invariant-loop-number l = l.points.items ≡ centres_at l.centres (take l.number-index l.numbers)
