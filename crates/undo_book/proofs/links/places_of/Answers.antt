use Rattle.std.proofs.Common.{◌≡◌, ◌||◌, ◌&&◌, [], ap, rules}
use Rattle.std.specs.Prelude.{nat_lt}
use Rattle.std.specs.List.{list_any}
use Rattle.undo_index.specs.First.{has_place}
use Rattle.undo_book.specs.Places.{stands_at}
use Rattle.undo_book.proofs.links.places_of.Goals as goal

pub loop-name-init : goal.loop-name-init
loop-name-init c p =
    let none : c.new-found.result.items ≡ [] = search rules in
    ap (λ xs. has_place xs p
    || (nat_lt p c.args.below && list_any (stands_at c.args.places.now.entries p) c.args.names.now)) none
