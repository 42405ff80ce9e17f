use Rattle.std.proofs.Common.{List, rules, subst, sym}
use Rattle.lay_pages.specs.Written.{IsPlace}
use Rattle.lay_pages.proofs.LentLemmas.{lent_book}
use Rattle.lay_pages.proofs.place.place_of.Goals as goal

pub page_of-page-requires-clause-some : goal.page_of-page-requires-clause-some
page_of-page-requires-clause-some g c =
    (lent_book g.K.Ord.cmp c.args.books.now c.book_of-book.result c.index-books-book.result c.deref-2.result.now c.requires.books
    c.book_of-book.ensures.in_range c.index-books-book.is (search rules)).some

pub page_of-page-requires-clause-sized : goal.page_of-page-requires-clause-sized
page_of-page-requires-clause-sized g c =
    (lent_book g.K.Ord.cmp c.args.books.now c.book_of-book.result c.index-books-book.result c.deref-2.result.now c.requires.books
    c.book_of-book.ensures.in_range c.index-books-book.is (search rules)).sized

pub page_of-page-requires-clause-sorted : goal.page_of-page-requires-clause-sorted
page_of-page-requires-clause-sorted g c =
    (lent_book g.K.Ord.cmp c.args.books.now c.book_of-book.result c.index-books-book.result c.deref-2.result.now c.requires.books
    c.book_of-book.ensures.in_range c.index-books-book.is (search rules)).sorted

pub returns : goal.returns
returns g c =
    let lent = lent_book g.K.Ord.cmp c.args.books.now c.book_of-book.result c.index-books-book.result c.deref-2.result.now
    c.requires.books c.book_of-book.ensures.in_range c.index-books-book.is (search rules) in
    record {
      of_books = c.book_of-book.ensures;
      of_pages = subst (λ (ps : List (List (g.row.K.Denot × g.row.V.Denot))). IsPlace g.K.Ord.cmp c.args.key ps c.page_of-page.result)
          (sym lent.is) c.page_of-page.ensures;
    }
