use Rattle.std.proofs.Common.{◌∙◌, rules}
use Rattle.lay_pages.proofs.LastLemmas.{last_page}
use Rattle.lay_pages.proofs.beside.last_in_book.Goals as goal

pub returns : goal.returns
returns g c =
    c.last_in_page.ensures
    ∙ last_page c.args.book.now c.in_ok-last.field-0.now c.deref-in_ok-last.result.now c.in_ok-last.ensures.value (search rules) c.requires
