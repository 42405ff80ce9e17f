use Rattle.std.proofs.Common.{◌≡◌, Option, arith, get_or, rules, subst}
use Rattle.lay_pages.specs.Places.{IsPageOf}
use Rattle.lay_pages.specs.Shared.{pages_in}
use Rattle.lay_pages.specs.declared.place.Place.{Place}
use Rattle.lay_pages.proofs.RisingLemmas.{taken_more}
use Rattle.lay_pages.proofs.update.group_of.Goals as goal

-- one write more
pub loop-count-preserved : goal.loop-count-preserved
loop-count-preserved g c =
    let here = c.place_of-place.result in
    let same : c.place_of.result ≡ here = search rules in
    let books = pages_in c.args.books.now in
    let at = c.index-writes-count.result in
    let falls = subst (λ (p : Place). IsPageOf g.K.Ord.cmp (get_or c.args.writes.now c.loop-count.count at).0 books p.book p.page) same
    c.place_of.ensures in
    record {
      some = omega arith;
      few = omega arith;
      within = omega arith;
      falls = taken_more (λ (w : g.row.K.Denot × Option g.row.V.Denot). IsPageOf g.K.Ord.cmp w.0 books here.book here.page)
          c.args.writes.now c.loop-count.count at (omega arith) c.loop-count.invariant.falls falls;
    }
