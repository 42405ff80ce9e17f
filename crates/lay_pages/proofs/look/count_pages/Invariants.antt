use Rattle.std.proofs.Common.{◌≡◌, length, take}
use Rattle.lay_pages.specs.Shared.{joined, pages_in}
use Rattle.lay_pages.proofs.look.count_pages.Given as goal

-- those of the books so far
abbrev pub invariant-loop-book : goal.invariant-loop-book
invariant-loop-book g l = l.pages ≡ length (joined (take l.book-index (pages_in l.books)))
