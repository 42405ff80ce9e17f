use Rattle.std.proofs.Common.{◌<◌, ◌-◌, ◌≤◌, length, take}
use Rattle.lay_layouts.specs.Ids.{id_cmp}
use Rattle.lay_layouts.specs.Layout.{AreRising}
use Rattle.txn_plans.proofs.act.rising_len.Given as goal

-- so many of the first rise
abbrev pub invariant-loop-count : goal.invariant-loop-count
invariant-loop-count l = record {
  some : 0 < l.count;
  within : l.count ≤ length l.items;
  rising : AreRising id_cmp (take l.count l.items);
}

abbrev pub decreases-loop-count : goal.decreases-loop-count
decreases-loop-count l = length l.items - l.count
