use Rattle.std.proofs.Common.{◌≡◌, drop}
use Rattle.std.specs.List.Sorted.{IsStrictlySortedBy}
use Rattle.std.specs.Map.{keys_of}
use Rattle.lay_pages.specs.Written.{written_all}
use Rattle.lay_pages.proofs.pages.Pages.with_all.Given as goal

-- the writes that are left make of what is new what all of them make
abbrev pub invariant-loop-key : goal.invariant-loop-key
invariant-loop-key g l = record {
  so_far : written_all g.K.Ord.cmp l.new (drop l.key-index l.writes) ≡ written_all g.K.Ord.cmp l.fn.self l.writes;
  sorted : IsStrictlySortedBy g.K.Ord.cmp (keys_of l.new);
}
