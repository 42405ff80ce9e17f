use Rattle.std.proofs.Common.{◌∙◌, List, arith, ap, length, subst, sym, take}
use Rattle.std.proofs.lemmas.List.{length-take}
use Rattle.std.specs.List.Sorted.{IsStrictlySortedBy}
use Rattle.std.specs.Map.{keys_of}
use Rattle.lay_pages.specs.Shared.{pages_in}
use Rattle.lay_pages.specs.Written.{written_all}
use Rattle.lay_pages.proofs.RisingLemmas.{page_fits, page_written, sorted_page, sorted_take}
use Rattle.lay_pages.proofs.ShareLemmas.{count_books}
use Rattle.lay_pages.proofs.pages.Pages.with_group.Goals as goal

pub first-requires-clause-rising : goal.first-requires-clause-rising
first-requires-clause-rising g c = sorted_take g.K.Ord.cmp c.min-count.result c.args.writes.now c.requires.rising

pub entries_at-page-requires-clause-book : goal.entries_at-page-requires-clause-book
entries_at-page-requires-clause-book g c = c.group_of-count.ensures.book

pub entries_at-page-requires-clause-page : goal.entries_at-page-requires-clause-page
entries_at-page-requires-clause-page g c = c.group_of-count.ensures.page

pub with_all-requires-clause-sorted : goal.with_all-requires-clause-sorted
with_all-requires-clause-sorted g c =
    subst (λ (es : List (g.row.K.Denot × g.row.V.Denot)). IsStrictlySortedBy g.K.Ord.cmp (keys_of es)) (sym c.entries_at-page.ensures)
    (sorted_page g.K.Ord.cmp (pages_in c.books-books.result.now) c.group_of-count.result.0.book c.group_of-count.result.0.page
    c.books-books.ensures.books (omega (arith, count_books c.books-books.result.now, c.group_of-count.ensures.book))
    c.group_of-count.ensures.page)

pub with_all-requires-clause-rising : goal.with_all-requires-clause-rising
with_all-requires-clause-rising g c = sorted_take g.K.Ord.cmp c.group_of-count.result.1 c.args.writes.now c.requires.rising

-- a page has no more entries than there are
pub len_with-requires : goal.len_with-requires
len_with-requires g c =
    let books = pages_in c.books-books.result.now in
    let place = c.group_of-count.result.0 in
    let fits = page_fits books place.book place.page (omega (arith, count_books c.books-books.result.now, c.group_of-count.ensures.book))
    c.group_of-count.ensures.page in
    omega (
      arith,
      fits,
      ap length c.entries_at-page.ensures,
      c.self.invariant.count,
      ap length c.self.view_is,
      ap length c.books-books.ensures.entries,
    )

pub books_with-requires-clause-book : goal.books_with-requires-clause-book
books_with-requires-clause-book g c = c.group_of-count.ensures.book

pub books_with-requires-clause-page : goal.books_with-requires-clause-page
books_with-requires-clause-page g c = c.group_of-count.ensures.page

pub books_with-requires-clause-few : goal.books_with-requires-clause-few
books_with-requires-clause-few g c =
    let books = pages_in c.books-books.result.now in
    let place = c.group_of-count.result.0 in
    let ws = take c.group_of-count.result.1 c.args.writes.now in
    let written = page_written g.met.K.Ord.total g.met.K.PageKey.exact books place.book place.page ws c.entries_at-page.result.now
    c.in_ok-entries.entries.items c.books-books.ensures.books
    (omega (arith, count_books c.books-books.result.now, c.group_of-count.ensures.book))
    c.group_of-count.ensures.page c.group_of-count.ensures.falls c.entries_at-page.ensures c.in_ok-entries.ensures in
    omega (arith, written.few, c.group_of-count.ensures.few, length-take c.group_of-count.result.1 c.args.writes.now)

pub books_with-requires-clause-sorted : goal.books_with-requires-clause-sorted
books_with-requires-clause-sorted g c =
    let books = pages_in c.books-books.result.now in
    let place = c.group_of-count.result.0 in
    let ws = take c.group_of-count.result.1 c.args.writes.now in
    let written = page_written g.met.K.Ord.total g.met.K.PageKey.exact books place.book place.page ws c.entries_at-page.result.now
    c.in_ok-entries.entries.items c.books-books.ensures.books
    (omega (arith, count_books c.books-books.result.now, c.group_of-count.ensures.book))
    c.group_of-count.ensures.page c.group_of-count.ensures.falls c.entries_at-page.ensures c.in_ok-entries.ensures in
    written.sorted

pub of-requires : goal.of-requires
of-requires g c =
    let books = pages_in c.books-books.result.now in
    let place = c.group_of-count.result.0 in
    let ws = take c.group_of-count.result.1 c.args.writes.now in
    let written = page_written g.met.K.Ord.total g.met.K.PageKey.exact books place.book place.page ws c.entries_at-page.result.now
    c.in_ok-entries.entries.items c.books-books.ensures.books
    (omega (arith, count_books c.books-books.result.now, c.group_of-count.ensures.book))
    c.group_of-count.ensures.page c.group_of-count.ensures.falls c.entries_at-page.ensures c.in_ok-entries.ensures in
    record {
      kept = c.in_ok-books.ensures.books;
      count = omega (
        arith,
        written.count,
        c.in_ok-len.ensures,
        ap length c.entries_at-page.ensures,
        c.self.invariant.count,
        ap length c.self.view_is,
        ap length c.books-books.ensures.entries,
        ap length c.in_ok-books.ensures.entries,
      );
    }

-- the first of the writes are made
pub returns-clause-entries : goal.returns-clause-entries
returns-clause-entries g c =
    let books = pages_in c.books-books.result.now in
    let place = c.group_of-count.result.0 in
    let ws = take c.group_of-count.result.1 c.args.writes.now in
    let written = page_written g.met.K.Ord.total g.met.K.PageKey.exact books place.book place.page ws c.entries_at-page.result.now
    c.in_ok-entries.entries.items c.books-books.ensures.books
    (omega (arith, count_books c.books-books.result.now, c.group_of-count.ensures.book))
    c.group_of-count.ensures.page c.group_of-count.ensures.falls c.entries_at-page.ensures c.in_ok-entries.ensures in
    c.in_ok-of.ensures ∙ c.in_ok-books.ensures.entries ∙ sym written.is
    ∙ ap (λ (es : List (g.row.K.Denot × g.row.V.Denot)). written_all g.K.Ord.cmp es ws) c.books-books.ensures.entries
