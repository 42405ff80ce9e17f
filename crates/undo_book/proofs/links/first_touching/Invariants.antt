use Rattle.std.proofs.Common.{drop, slice_get}
use Rattle.std.specs.FinSet.{items}
use Rattle.txn_commands.specs.Lies.{passes}
use Rattle.undo_index.proofs.FirstLemmas.{Leaves}
use Rattle.undo_book.specs.Indexed.{touched}
use Rattle.undo_book.proofs.links.first_touching.Given as goal

-- with the first place of the elements that are left it is the first of all
abbrev pub invariant-loop-element : goal.invariant-loop-element
invariant-loop-element l =
    Leaves (λ e p. passes (touched e) (slice_get l.entries p)) l.from (items l.met) (drop l.element-index l.element-items) l.first
