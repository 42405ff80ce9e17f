use Rattle.std.proofs.Common.{◌∙◌, ◌+◌, ◌++◌, List, [], rules, subst, sym}
use Rattle.std.proofs.lemmas.List.{take_rest}
use Rattle.std.specs.List.Sorted.{IsStrictlySortedBy}
use Rattle.std.specs.Map.{keys_of}
use Rattle.lay_pages.specs.Shared.{items_of, joined}
use Rattle.lay_pages.specs.Written.{from_key}
use Rattle.lay_pages.proofs.FillLemmas.{drop_items, from-level}
use Rattle.lay_pages.proofs.PlaceLemmas.{sorted-at}
use Rattle.lay_pages.proofs.LentLemmas.{lent_page}
use Rattle.lay_pages.proofs.entries.from_in_book.Goals as goal

pub from-requires : goal.from-requires
from-requires g c =
    let is = lent_page c.args.book.now c.page_of-at.result c.index-book-at.result c.deref-2.result.now c.page_of-at.ensures.in_range
    c.index-book-at.is (search rules) in
    subst (λ (es : List (g.row.K.Denot × g.row.V.Denot)). IsStrictlySortedBy g.K.Ord.cmp (keys_of es)) is
    (sorted-at g.K.Ord.cmp (items_of c.args.book.now) c.page_of-at.result [] c.page_of-at.ensures.in_range c.requires.sorted)

pub returns : goal.returns
returns g c =
    let is = lent_page c.args.book.now c.page_of-at.result c.index-book-at.result c.deref-2.result.now c.page_of-at.ensures.in_range
    c.index-book-at.is (search rules) in
    let next = c.page_of-at.result + 1 in
    let rest = take_rest c.args.book.now next in
    let behind = drop_items next c.args.book.now in
    let key = c.args.key in
    (λ i. c.from.ensures i ++ joined (items_of (rest i))) ∙ (λ i. from_key g.K.Ord.cmp key (sym is i) ++ joined (behind i))
    ∙ sym (from-level g.met.K.Ord.total key (items_of c.args.book.now) c.page_of-at.result [] c.page_of-at.ensures)
