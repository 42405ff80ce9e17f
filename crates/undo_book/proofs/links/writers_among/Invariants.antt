use Rattle.std.proofs.Common.{◌≡◌, ℕ, ◌||◌, ◌&&◌, drop, slice_get}
use Rattle.std.specs.Prelude.{nat_lt}
use Rattle.std.specs.List.{list_any}
use Rattle.std.specs.FinSet.{items}
use Rattle.txn_commands.specs.Lies.{passes}
use Rattle.undo_index.specs.First.{has_place}
use Rattle.undo_book.specs.Indexed.{wrote}
use Rattle.undo_book.proofs.links.writers_among.Given as goal

-- with those of the elements that are left they are all
abbrev pub invariant-loop-element : goal.invariant-loop-element
invariant-loop-element l = (p : ℕ) →
    (has_place l.found.items p
    || (nat_lt p l.below && list_any (λ e. passes (wrote e) (slice_get l.entries p)) (drop l.element-index l.element-items)))
    ≡ (nat_lt p l.below && list_any (λ e. passes (wrote e) (slice_get l.entries p)) (items l.elements))
