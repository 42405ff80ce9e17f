use Rattle.std.proofs.Common.{◌≡◌, ◌++◌, drop}
use Rattle.std.specs.List.{filter_map}
use Rattle.undo_book.specs.Indexed.{name_at}
use Rattle.undo_book.proofs.links.names_at.Given as goal

-- with those of the places that are left they are all
abbrev pub invariant-loop-place : goal.invariant-loop-place
invariant-loop-place l =
    l.names.items ++ filter_map (name_at l.entries) (drop l.place-index l.places) ≡ filter_map (name_at l.entries) l.places
