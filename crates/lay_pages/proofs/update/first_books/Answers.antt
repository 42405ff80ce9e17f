use Rattle.std.proofs.Common.{◌≡◌, rules, true}
use Rattle.lay_pages.specs.Shared.{items_of, page_parts}
use Rattle.lay_pages.proofs.BookLemmas.{books_first}
use Rattle.lay_pages.proofs.update.first_books.Goals as goal

pub returns : goal.returns
returns g c =
    let pages = c.push_parts.new.lists.items in
    let books = c.push_parts-2.new.lists.items in
    let pages_are : items_of pages ≡ page_parts true c.args.entries.items = search rules in
    let books_are : items_of books ≡ page_parts true pages = search rules in
    let put = books_first g.K.Ord.cmp c.args.entries.items pages books c.requires.few c.requires.sorted pages_are books_are in
    record { entries = put.entries_are; books = put.books }
