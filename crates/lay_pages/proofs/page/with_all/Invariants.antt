use Rattle.std.proofs.Common.{◌≡◌, ◌++◌, drop}
use Rattle.std.specs.List.Sorted.{IsStrictlySortedBy}
use Rattle.std.specs.Map.{keys_of}
use Rattle.lay_pages.specs.Written.{written_all}
use Rattle.lay_pages.proofs.page.with_all.Given as goal

-- what is new, and the writes that are left over the rest, are all
abbrev pub invariant-loop-key : goal.invariant-loop-key
invariant-loop-key g l = record {
  so_far : l.new.items ++ written_all g.K.Ord.cmp l.rest (drop l.key-index l.writes) ≡ written_all g.K.Ord.cmp l.page l.writes;
  sorted : IsStrictlySortedBy g.K.Ord.cmp (keys_of l.rest);
}
