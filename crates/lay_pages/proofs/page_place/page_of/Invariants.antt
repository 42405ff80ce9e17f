use Rattle.std.proofs.Common.{◌<◌, ◌-◌, ◌≤◌, drop, length, take}
use Rattle.lay_pages.specs.Shared.{items_of, joined}
use Rattle.lay_pages.specs.Written.{AllAbove, AllBelow}
use Rattle.lay_pages.proofs.page_place.page_of.Given as goal

-- what is before the first is below the key, and what is from the last on above it
abbrev pub invariant-loop-high : goal.invariant-loop-high
invariant-loop-high g l = record {
  parted : l.low < l.high;
  in_range : l.high ≤ length l.pages;
  below : AllBelow g.K.Ord.cmp l.key (joined (take l.low (items_of l.pages)));
  above : AllAbove g.K.Ord.cmp l.key (joined (drop l.high (items_of l.pages)));
}

abbrev pub decreases-loop-high : goal.decreases-loop-high
decreases-loop-high g l = l.high - l.low
