use Rattle.std.proofs.Common.{◌∙◌, List, [], arith, ap, length, rules, subst, sym}
use Rattle.std.proofs.lemmas.List.{get_or-map}
use Rattle.lay_pages.specs.Shared.{AreSized, items_of, joined, pages_in}
use Rattle.lay_pages.specs.Written.{IsFirstKey}
use Rattle.lay_pages.proofs.PlaceLemmas.{all-at, head-joined, sized-at}
use Rattle.lay_pages.proofs.ShareLemmas.{count_books, count_items, pages_at}
use Rattle.lay_pages.proofs.page_place.first_in_book.Goals as goal

-- a book has a page
pub first_in_page-requires-clause-in_range : goal.first_in_page-requires-clause-in_range
first_in_page-requires-clause-in_range g c =
    let is = pages_at c.args.books.now c.args.at c.index-books-at.result c.deref-2.result.now [] c.requires.in_range
    c.index-books-at.is (search rules) in
    omega (
      arith,
      sized-at (pages_in c.args.books.now) c.args.at [] (omega (arith, count_books c.args.books.now)) c.requires.books.books,
      ap length is,
      count_items c.deref-2.result.now,
    )

pub first_in_page-requires-clause-sized : goal.first_in_page-requires-clause-sized
first_in_page-requires-clause-sized g c =
    let is = pages_at c.args.books.now c.args.at c.index-books-at.result c.deref-2.result.now [] c.requires.in_range
    c.index-books-at.is (search rules) in
    subst (λ (ps : List (List (g.row.K.Denot × g.row.V.Denot))). AreSized ps) is
    (all-at (λ (ps : List (List (g.row.K.Denot × g.row.V.Denot))). AreSized ps) (pages_in c.args.books.now) c.args.at []
    (omega (arith, count_books c.args.books.now)) c.requires.books.pages)

pub returns : goal.returns
returns g c = λ d.
    let is = pages_at c.args.books.now c.args.at c.index-books-at.result c.deref-2.result.now [] c.requires.in_range
    c.index-books-at.is (search rules) in
    subst (IsFirstKey c.first_in_page.result)
    (sym (get_or-map joined (pages_in c.args.books.now) c.args.at [] d (omega (arith, count_books c.args.books.now)) ∙ ap joined is))
    (head-joined c.first_in_page.result (items_of c.deref-2.result.now) (c.first_in_page.ensures []))
