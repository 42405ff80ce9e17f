use Rattle.std.proofs.Common.{◌≡◌, ◌++◌, drop}
use Rattle.lay_pages.specs.Shared.{items_of}
use Rattle.lay_pages.proofs.share.append.Given as goal

-- what is new, and the lists that are left, are all
abbrev pub invariant-loop-list : goal.invariant-loop-list
invariant-loop-list g l = items_of l.new.items ++ items_of (drop l.list-index l.lists) ≡ items_of l.fn.new.items ++ items_of l.lists
