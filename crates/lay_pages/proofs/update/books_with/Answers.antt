use Rattle.std.proofs.Common.{◌≡◌, ◌∙◌, ◌<◌, [], arith, ap, get_or, length, map, rules, sym}
use Rattle.lay_pages.specs.Shared.{items_of, joined, page_parts, pages_in}
use Rattle.lay_pages.proofs.BookLemmas.{books_put}
use Rattle.lay_pages.proofs.LentLemmas.{lent_book}
use Rattle.lay_pages.proofs.ShareLemmas.{count_books, count_items, few_parts, length_map, length_spliced, spliced_at, spliced_pages}
use Rattle.lay_pages.proofs.update.books_with.Goals as goal

-- the page is one of the book's
pub spliced-requires-clause-in_range : goal.spliced-requires-clause-in_range
spliced-requires-clause-in_range g c =
    let here : c.args.place.book < length (map joined (pages_in c.args.books.now)) =
    omega (arith, length_map joined (pages_in c.args.books.now), count_books c.args.books.now, c.requires.book) in
    let lent = lent_book g.K.Ord.cmp c.args.books.now c.args.place.book c.index-books-place.result c.deref-pages.result.now c.requires.books
    here c.index-books-place.is (search rules) in
    omega (arith, c.requires.page, ap length lent.is, count_items c.deref-pages.result.now)

-- there are few of them
pub spliced-requires-2-clause-few : goal.spliced-requires-2-clause-few
spliced-requires-2-clause-few g c =
    let here : c.args.place.book < length (map joined (pages_in c.args.books.now)) =
    omega (arith, length_map joined (pages_in c.args.books.now), count_books c.args.books.now, c.requires.book) in
    let lent = lent_book g.K.Ord.cmp c.args.books.now c.args.place.book c.index-books-place.result c.deref-pages.result.now c.requires.books
    here c.index-books-place.is (search rules) in
    let own = items_of c.deref-pages.result.now in
    let in_pages : c.args.place.page < length own = omega (arith, c.requires.page, ap length lent.is) in
    omega (
      arith,
      ap length c.in_ok-new.ensures,
      length_spliced c.args.place.page own (page_parts c.args.grows c.args.entries.items) in_pages,
      few_parts c.args.grows c.args.entries.items,
      lent.full,
      count_items c.deref-pages.result.now,
      count_items c.in_ok-new.new.items,
    )

pub returns : goal.returns
returns g c =
    let here : c.args.place.book < length (map joined (pages_in c.args.books.now)) =
    omega (arith, length_map joined (pages_in c.args.books.now), count_books c.args.books.now, c.requires.book) in
    let lent = lent_book g.K.Ord.cmp c.args.books.now c.args.place.book c.index-books-place.result c.deref-pages.result.now c.requires.books
    here c.index-books-place.is (search rules) in
    let pages = c.in_ok-new.new.items in
    let pages_are : items_of pages ≡ spliced_at c.args.place.page (get_or (pages_in c.args.books.now) c.args.place.book [])
    (page_parts c.args.grows c.args.entries.items) =
    c.in_ok-new.ensures ∙ ap (λ ps. spliced_at c.args.place.page ps (page_parts c.args.grows c.args.entries.items)) (sym lent.is) in
    let put = books_put g.K.Ord.cmp (pages_in c.args.books.now) (pages_in c.in_ok-books.books.items) c.args.place.book c.args.place.page
    c.args.entries.items (items_of pages) _ _ c.requires.books (omega (arith, count_books c.args.books.now, c.requires.book))
    c.requires.page c.requires.few c.requires.sorted pages_are
    (spliced_pages _ c.args.place.book c.in_ok-books.books.items c.args.books.now pages c.in_ok-books.ensures) in
    record { entries = put.entries_are; books = put.books }
