use Rattle.std.proofs.Common.{◌∙◌, ◌≤◌, ◌++◌, List, [], arith, ap, get_or, length, rules, subst, sym, take}
use Rattle.std.proofs.lemmas.List.{append-nil}
use Rattle.std.specs.List.{AllByRecursion}
use Rattle.lay_pages.specs.Shared.{AreSized, entries_in, items_of, joined, pages_in}
use Rattle.lay_pages.specs.Written.{last_entry}
use Rattle.lay_pages.proofs.ShareLemmas.{all_take, count_books, length_map}
use Rattle.lay_pages.proofs.LastLemmas.{last_behind, take_items, take_pages}
use Rattle.lay_pages.proofs.LentLemmas.{lent_book}
use Rattle.lay_pages.proofs.beside.last_before.Goals as goal

pub last_in_books-requires-clause-books : goal.last_in_books-requires-clause-books
last_in_books-requires-clause-books g c =
    subst (λ (books : List (List (List (g.row.K.Denot × g.row.V.Denot)))). AreSized books)
    (sym (take_pages c.args.place.book c.args.books.now))
    (all_take (λ (ps : List (List (g.row.K.Denot × g.row.V.Denot))). (1 ≤ length ps) × (length ps ≤ 64)) c.args.place.book
    (pages_in c.args.books.now) c.requires.books.books)

pub last_in_books-requires-clause-pages : goal.last_in_books-requires-clause-pages
last_in_books-requires-clause-pages g c =
    subst (λ (books : List (List (List (g.row.K.Denot × g.row.V.Denot)))).
    AllByRecursion (λ (ps : List (List (g.row.K.Denot × g.row.V.Denot))). AreSized ps) books)
    (sym (take_pages c.args.place.book c.args.books.now))
    (all_take (λ (ps : List (List (g.row.K.Denot × g.row.V.Denot))). AreSized ps) c.args.place.book
    (pages_in c.args.books.now) c.requires.books.pages)

-- before the first page of a book are the books before
pub returns-then-place-eq0 : goal.returns-then-place-eq0
returns-then-place-eq0 g c =
    let books = pages_in c.args.books.now in
    let book = get_or books c.args.place.book [] in
    c.last_in_books.ensures ∙ (λ i. last_entry (entries_in (take_pages c.args.place.book c.args.books.now i)))
    ∙ ap last_entry (sym (append-nil (entries_in (take c.args.place.book books))))
    ∙ (λ i. last_entry (entries_in (take c.args.place.book books) ++ joined (take (sym c.if-place-eq0.true i) book)))

pub last_in_book-requires : goal.last_in_book-requires
last_in_book-requires g c =
    let lent = lent_book g.K.Ord.cmp c.args.books.now c.args.place.book c.index-books-place.result c.deref-book.result.now
    c.requires.books (omega (arith, c.requires.book, count_books c.args.books.now, length_map joined (pages_in c.args.books.now)))
    c.index-books-place.is (search rules) in
    subst (λ (ps : List (List (g.row.K.Denot × g.row.V.Denot))). AreSized ps)
    (sym (take_items c.args.place.page c.deref-book.result.now))
    (all_take (λ (es : List (g.row.K.Denot × g.row.V.Denot)). (1 ≤ length es) × (length es ≤ 64)) c.args.place.page
    (items_of c.deref-book.result.now) lent.sized)

-- before another are pages of that book
pub returns : goal.returns
returns g c =
    let lent = lent_book g.K.Ord.cmp c.args.books.now c.args.place.book c.index-books-place.result c.deref-book.result.now
    c.requires.books (omega (arith, c.requires.book, count_books c.args.books.now, length_map joined (pages_in c.args.books.now)))
    c.index-books-place.is (search rules) in
    let page = c.args.place.page in
    let pages = items_of c.deref-book.result.now in
    let before = entries_in (take c.args.place.book (pages_in c.args.books.now)) in
    c.last_in_book.ensures ∙ ap (λ ps. last_entry (joined ps)) (take_items page c.deref-book.result.now)
    ∙ last_behind before pages page lent.sized (omega (arith, c.if-place-eq0.false))
    (omega (arith, c.requires.page, ap length lent.is))
    ∙ (λ i. last_entry (before ++ joined (take page (sym lent.is i))))
