use Rattle.std.proofs.Common.{◌≡◌, drop}
use Rattle.std.specs.List.{list_any}
use Rattle.undo_book.specs.Indexed.{is_linked, wrote}
use Rattle.undo_book.proofs.links.is_written_from.Given as goal

-- the elements that are left decide
abbrev pub invariant-loop-element : goal.invariant-loop-element
invariant-loop-element l =
    list_any (λ e. list_any (wrote e) (drop l.from l.entries)) l.element-iterator
    ≡ list_any (λ entry. is_linked entry l.footprint) (drop l.from l.entries)
