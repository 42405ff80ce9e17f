use Rattle.std.proofs.Common.{◌<◌, ◌+◌, ◌-◌, ◌/◌, ℕ, [], length, arith, rules}
use Rattle.lay_pages.specs.Shared.{items_of}
use Rattle.lay_pages.proofs.PlaceLemmas.{high-moves, low-moves}
use Rattle.lay_pages.proofs.ShareLemmas.{count_items}
use Rattle.lay_pages.proofs.page_place.page_of.Goals as goal

-- the end moves down
pub loop-high-preserved-in-Greater : goal.loop-high-preserved-in-Greater
loop-high-preserved-in-Greater g c =
    let middle : ℕ = c.loop-high.low + (c.loop-high.high - c.loop-high.low) / 2 in
    let lt : middle < length (items_of c.args.pages.now) = omega (arith, count_items c.args.pages.now) in
    record {
      parted = omega arith;
      in_range = omega arith;
      below = c.loop-high.invariant.below;
      above = high-moves g.met.K.Ord.total g.met.K.PageKey.exact c.args.key _ (items_of c.args.pages.now) middle [] lt
          c.requires.sorted (c.first_in_page.ensures []) (search rules);
    }

-- the start moves up
pub loop-high-preserved : goal.loop-high-preserved
loop-high-preserved g c =
    let middle : ℕ = c.loop-high.low + (c.loop-high.high - c.loop-high.low) / 2 in
    let lt : middle < length (items_of c.args.pages.now) = omega (arith, count_items c.args.pages.now) in
    record {
      parted = omega arith;
      in_range = omega arith;
      below = low-moves g.met.K.Ord.total g.met.K.PageKey.exact c.args.key _ (items_of c.args.pages.now) middle [] lt
          c.requires.sorted (c.first_in_page.ensures []) (search rules);
      above = c.loop-high.invariant.above;
    }
