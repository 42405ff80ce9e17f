use Rattle.std.proofs.Common.{◌≡◌, ◌++◌}
use Rattle.std.specs.Vec.Iter.{into_iter_items}
use Rattle.lay_pages.specs.Shared.{AreFilled, filled, items_of}
use Rattle.lay_pages.proofs.builder.books_of.Given as goal

-- the pages so far, and those that are left, are all
abbrev pub invariant-loop-page : goal.invariant-loop-page
invariant-loop-page g l = record {
  pages : filled (items_of l.lists.lists.items) l.lists.last.items ++ into_iter_items l.page-iterator ≡ l.fn.pages.items;
  filled : AreFilled (items_of l.lists.lists.items) l.lists.last.items;
}
