use Rattle.std.proofs.Common.{◌<◌, ◌-◌, ◌≤◌, drop, length, map, take}
use Rattle.lay_pages.specs.Shared.{joined, pages_in}
use Rattle.lay_pages.specs.Written.{AllAbove, AllBelow}
use Rattle.lay_pages.proofs.page_place.book_of.Given as goal

-- what is before the first is below the key, and what is from the last on above it
abbrev pub invariant-loop-high : goal.invariant-loop-high
invariant-loop-high g l = record {
  parted : l.low < l.high;
  in_range : l.high ≤ length l.books;
  below : AllBelow g.K.Ord.cmp l.key (joined (take l.low (map joined (pages_in l.books))));
  above : AllAbove g.K.Ord.cmp l.key (joined (drop l.high (map joined (pages_in l.books))));
}

abbrev pub decreases-loop-high : goal.decreases-loop-high
decreases-loop-high g l = l.high - l.low
