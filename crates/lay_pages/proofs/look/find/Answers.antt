use Rattle.std.proofs.Common.{◌∙◌, List, ap, subst, sym}
use Rattle.std.specs.FinMap.{find}
use Rattle.std.specs.List.Sorted.{IsStrictlySortedBy}
use Rattle.std.specs.Map.{keys_of}
use Rattle.lay_pages.specs.Shared.{pages_in}
use Rattle.lay_pages.proofs.PageOfLemmas.{found_in, sorted_in}
use Rattle.lay_pages.proofs.look.find.Goals as goal

pub find-requires : goal.find-requires
find-requires g c =
    subst (λ (es : List (g.row.K.Denot × g.row.V.Denot)). IsStrictlySortedBy g.K.Ord.cmp (keys_of es)) (sym c.entries_at.ensures)
    (sorted_in c.args.key (pages_in c.args.books.now) c.place_of.result.book c.place_of.result.page c.requires c.place_of.ensures)

pub returns : goal.returns
returns g c =
    c.find.ensures ∙ ap (find g.K.Ord.cmp c.args.key) c.entries_at.ensures
    ∙ found_in c.args.key (pages_in c.args.books.now) c.place_of.result.book c.place_of.result.page g.met.K.Ord.total
    g.met.K.PageKey.exact c.place_of.ensures
