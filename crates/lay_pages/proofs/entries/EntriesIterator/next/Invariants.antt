use Rattle.std.proofs.Common.{◌≡◌, ◌+◌, length}
use Rattle.lay_pages.specs.Shared.{items_of, joined, left, pages_in}
use Rattle.lay_pages.proofs.entries.EntriesIterator.next.Given as goal

-- pages are opened, and no entry is passed over
abbrev pub invariant-loop-page : goal.invariant-loop-page
invariant-loop-page g l =
    left l.self-inside.entries.now (items_of l.self-inside.pages.now) (pages_in l.self-inside.books.now) ≡ l.fn.self

abbrev pub decreases-loop-page : goal.decreases-loop-page
decreases-loop-page g l =
    length l.self-inside.pages.now + (length (joined (pages_in l.self-inside.books.now)) + length l.self-inside.books.now)
