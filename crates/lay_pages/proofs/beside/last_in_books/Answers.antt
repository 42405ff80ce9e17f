use Rattle.std.proofs.Common.{◌∙◌, rules}
use Rattle.lay_pages.proofs.LastLemmas.{last_book}
use Rattle.lay_pages.proofs.beside.last_in_books.Goals as goal

pub last_in_book-requires : goal.last_in_book-requires
last_in_book-requires g c =
    (last_book c.args.books.now c.in_ok-last.field-0.now c.deref-in_ok-last.result.now c.in_ok-last.ensures.value (search rules)
    c.requires.books c.requires.pages).sized

pub returns : goal.returns
returns g c =
    c.last_in_book.ensures
    ∙ (last_book c.args.books.now c.in_ok-last.field-0.now c.deref-in_ok-last.result.now c.in_ok-last.ensures.value (search rules)
    c.requires.books c.requires.pages).entry
