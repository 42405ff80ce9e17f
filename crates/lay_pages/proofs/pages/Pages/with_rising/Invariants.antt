use Rattle.std.proofs.Common.{◌≡◌, length}
use Rattle.std.specs.List.Sorted.{IsStrictlySortedBy}
use Rattle.std.specs.Map.{keys_of}
use Rattle.lay_pages.specs.Written.{written_all}
use Rattle.lay_pages.proofs.pages.Pages.with_rising.Given as goal

-- the writes that are left make of what is new what all of them make
abbrev pub invariant-loop-rest : goal.invariant-loop-rest
invariant-loop-rest g l = record {
  so_far : written_all g.K.Ord.cmp l.new l.rest ≡ written_all g.K.Ord.cmp l.fn.self l.writes;
  sorted : IsStrictlySortedBy g.K.Ord.cmp (keys_of l.new);
  rising : IsStrictlySortedBy g.K.Ord.cmp (keys_of l.rest);
}

abbrev pub decreases-loop-rest : goal.decreases-loop-rest
decreases-loop-rest g l = length l.rest
