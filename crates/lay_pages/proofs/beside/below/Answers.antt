use Rattle.std.proofs.Common.{◌∙◌, List, ap, subst, sym}
use Rattle.std.specs.List.Sorted.{IsStrictlySortedBy}
use Rattle.std.specs.Map.{keys_of}
use Rattle.lay_pages.specs.Shared.{pages_in}
use Rattle.lay_pages.specs.Written.{lower}
use Rattle.lay_pages.proofs.BesideLemmas.{last_none, last_some}
use Rattle.lay_pages.proofs.PageOfLemmas.{sorted_in}
use Rattle.lay_pages.proofs.beside.below.Goals as goal

pub around-requires : goal.around-requires
around-requires g c =
    subst (λ (es : List (g.row.K.Denot × g.row.V.Denot)). IsStrictlySortedBy g.K.Ord.cmp (keys_of es)) (sym c.entries_at.ensures)
    (sorted_in c.args.key (pages_in c.args.books.now) c.place_of-place.result.book c.place_of-place.result.page c.requires
    c.place_of-place.ensures)

-- none before the key is in the page into which it falls
pub returns-then-is_empty-2 : goal.returns-then-is_empty-2
returns-then-is_empty-2 g c =
    c.last_before.ensures
    ∙ last_none g.met.K.Ord.total c.args.key (pages_in c.args.books.now) c.place_of-place.result.book c.place_of-place.result.page
    c.place_of-place.ensures c.around.result.0.now (c.around.ensures.before ∙ ap (lower g.K.Ord.cmp c.args.key) c.entries_at.ensures)
    (sym c.is_empty-2.ensures ∙ c.if-is_empty-2.true)

pub returns : goal.returns
returns g c =
    c.last_in_page.ensures
    ∙ last_some g.met.K.Ord.total c.args.key (pages_in c.args.books.now) c.place_of-place.result.book c.place_of-place.result.page
    c.place_of-place.ensures c.around.result.0.now (c.around.ensures.before ∙ ap (lower g.K.Ord.cmp c.args.key) c.entries_at.ensures)
    (sym c.is_empty-2.ensures ∙ c.if-is_empty-2.false)
