use Rattle.std.proofs.Common.{◌≡◌, ◌<◌, ◌≤◌, ◌-◌, ℕ, suc, true, false}
use Rattle.snap_pixels.proofs.partition.partition_from.Given as goal

-- the test passes just before `low`, and doesn't at `high`
abbrev pub invariant-loop-low : goal.invariant-loop-low
invariant-loop-low g l = record {
  order : l.low ≤ l.high;
  bound : l.high ≤ l.fn.count;
  before : (index : ℕ) → suc index ≡ l.low → goal.F-post g l.fn.test index true;
  behind : l.high < l.fn.count → goal.F-post g l.fn.test l.high false;
}

abbrev pub decreases-loop-low : goal.decreases-loop-low
decreases-loop-low g l = l.high - l.low
