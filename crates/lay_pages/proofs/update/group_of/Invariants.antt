use Rattle.std.proofs.Common.{◌<◌, ◌-◌, ◌≤◌, length, take}
use Rattle.lay_pages.specs.Places.{AreOfPage}
use Rattle.lay_pages.specs.Shared.{pages_in}
use Rattle.lay_pages.proofs.update.group_of.Given as goal

-- so many of the first writes fall into the page
abbrev pub invariant-loop-count : goal.invariant-loop-count
invariant-loop-count g l = record {
  some : 0 < l.count;
  few : l.count ≤ 64;
  within : l.count ≤ length l.writes;
  falls : AreOfPage g.K.Ord.cmp (take l.count l.writes) (pages_in l.books) l.place.book l.place.page;
}

abbrev pub decreases-loop-count : goal.decreases-loop-count
decreases-loop-count g l = 64 - l.count
