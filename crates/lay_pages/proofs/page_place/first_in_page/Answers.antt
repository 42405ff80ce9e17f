use Rattle.std.proofs.Common.{[], arith, ap, length, rules, subst, sym}
use Rattle.lay_pages.specs.Shared.{items_of}
use Rattle.lay_pages.specs.Written.{IsFirstKey}
use Rattle.lay_pages.proofs.PlaceLemmas.{sized-at}
use Rattle.lay_pages.proofs.ShareLemmas.{count_items, items_at}
use Rattle.lay_pages.proofs.page_place.first_in_page.Goals as goal

-- a page has an entry
pub first_key-requires : goal.first_key-requires
first_key-requires g c =
    let is = items_at c.args.pages.now c.args.at c.index-pages-at.result c.deref-2.result.now [] c.requires.in_range
    c.index-pages-at.is (search rules) in
    omega (
      arith,
      sized-at (items_of c.args.pages.now) c.args.at [] (omega (arith, count_items c.args.pages.now)) c.requires.sized,
      ap length is,
    )

pub returns : goal.returns
returns g c = λ d.
    let is = items_at c.args.pages.now c.args.at c.index-pages-at.result c.deref-2.result.now d c.requires.in_range
    c.index-pages-at.is (search rules) in
    subst (IsFirstKey c.first_key.result) (sym is) c.first_key.ensures
