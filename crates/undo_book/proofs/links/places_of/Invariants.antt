use Rattle.std.proofs.Common.{◌≡◌, ℕ, ◌||◌, ◌&&◌, drop}
use Rattle.std.specs.Prelude.{nat_lt}
use Rattle.std.specs.List.{list_any}
use Rattle.undo_index.specs.First.{has_place}
use Rattle.undo_book.specs.Places.{stands_at}
use Rattle.undo_book.proofs.links.places_of.Given as goal

-- with the places of the names that are left they are all
abbrev pub invariant-loop-name : goal.invariant-loop-name
invariant-loop-name l = (p : ℕ) →
    (has_place l.found.items p || (nat_lt p l.below && list_any (stands_at l.places.entries p) (drop l.name-index l.names)))
    ≡ (nat_lt p l.below && list_any (stands_at l.places.entries p) l.names)
