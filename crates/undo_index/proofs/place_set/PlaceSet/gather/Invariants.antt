use Rattle.std.proofs.Common.{◌≡◌, ◌++◌}
use Rattle.undo_index.proofs.place_set.PlaceSet.gather.Given as goal

-- with those that are left they are all
abbrev pub invariant-loop-place : goal.invariant-loop-place
invariant-loop-place l = l.found.items ++ l.place-iterator ≡ l.fn.found.items ++ l.initial.place-iterator
