use Rattle.std.proofs.Common.{◌∙◌, ◌+◌, ◌++◌, ◌-◌, [], append_assoc, drop, get_or, length, map, rules, sym, take}
use Rattle.std.proofs.lemmas.List.{take_rest}
use Rattle.lay_pages.specs.Shared.{entries_in, items_of, joined, pages_in}
use Rattle.lay_pages.specs.Written.{from_key}
use Rattle.lay_pages.proofs.FillLemmas.{drop_pages, from-level}
use Rattle.lay_pages.proofs.ShareLemmas.{drop_map}
use Rattle.lay_pages.proofs.LentLemmas.{lent_book}
use Rattle.lay_pages.proofs.entries.Entries.from.Goals as goal

pub from_in_book-requires-clause-some : goal.from_in_book-requires-clause-some
from_in_book-requires-clause-some g c =
    (lent_book g.K.Ord.cmp c.args.books.now c.book_of-at.result c.index-books-at.result c.deref-2.result.now c.requires
    c.book_of-at.ensures.in_range c.index-books-at.is (search rules)).some

pub from_in_book-requires-clause-sized : goal.from_in_book-requires-clause-sized
from_in_book-requires-clause-sized g c =
    (lent_book g.K.Ord.cmp c.args.books.now c.book_of-at.result c.index-books-at.result c.deref-2.result.now c.requires
    c.book_of-at.ensures.in_range c.index-books-at.is (search rules)).sized

pub from_in_book-requires-clause-sorted : goal.from_in_book-requires-clause-sorted
from_in_book-requires-clause-sorted g c =
    (lent_book g.K.Ord.cmp c.args.books.now c.book_of-at.result c.index-books-at.result c.deref-2.result.now c.requires
    c.book_of-at.ensures.in_range c.index-books-at.is (search rules)).sorted

pub returns : goal.returns
returns g c =
    let lent = lent_book g.K.Ord.cmp c.args.books.now c.book_of-at.result c.index-books-at.result c.deref-2.result.now c.requires
    c.book_of-at.ensures.in_range c.index-books-at.is (search rules) in
    let lists = pages_in c.args.books.now in
    let next = c.book_of-at.result + 1 in
    let key = c.args.key in
    let rest = take_rest c.args.books.now next in
    let behind = drop_pages next c.args.books.now in
    let firsts = c.from_in_book.result.0.now in
    let pages = items_of c.from_in_book.result.1.now in
    sym (append_assoc firsts (joined pages) (entries_in (pages_in (take (length c.args.books.now - next) (drop next c.args.books.now)))))
    ∙ (λ i. c.from_in_book.ensures i ++ entries_in (pages_in (rest i)))
    ∙ (λ i. from_key g.K.Ord.cmp key (sym lent.entries i) ++ entries_in (behind i))
    ∙ (λ i. from_key g.K.Ord.cmp key (get_or (map joined lists) c.book_of-at.result []) ++ joined (sym (drop_map joined next lists) i))
    ∙ sym (from-level g.met.K.Ord.total key (map joined lists) c.book_of-at.result [] c.book_of-at.ensures)
