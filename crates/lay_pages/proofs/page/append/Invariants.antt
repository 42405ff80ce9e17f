use Rattle.std.proofs.Common.{◌≡◌, ◌++◌, drop}
use Rattle.lay_pages.proofs.page.append.Given as goal

-- what is new, and the entries that are left, are all
abbrev pub invariant-loop-key : goal.invariant-loop-key
invariant-loop-key g l = l.new.items ++ drop l.key-index l.entries ≡ l.fn.new.items ++ l.entries
