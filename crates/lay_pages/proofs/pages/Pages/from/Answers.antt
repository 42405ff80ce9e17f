use Rattle.std.proofs.Common.{List, subst, sym}
use Rattle.std.specs.Prelude.{not}
use Rattle.std.specs.List.Sorted.{IsStrictlySortedBy}
use Rattle.std.specs.Map.{keys_of}
use Rattle.std.specs.Ordering.{is_lt}
use Rattle.lay_pages.specs.Shared.{entries_in, pages_in}
use Rattle.lay_pages.proofs.OrderLemmas.{sorted-kept}
use Rattle.lay_pages.proofs.pages.Pages.from.Goals as goal

pub returns-clause-sorted : goal.returns-clause-sorted
returns-clause-sorted g c =
    subst (λ (es : List (g.row.K.Denot × g.row.V.Denot)). IsStrictlySortedBy g.K.Ord.cmp (keys_of es)) (sym c.from.ensures)
    (sorted-kept g.met.K.Ord.total g.met.K.PageKey.exact (λ k. not (is_lt (g.K.Ord.cmp k c.args.key)))
    (entries_in (pages_in c.books.result.now)) c.books.ensures.books.sorted)
