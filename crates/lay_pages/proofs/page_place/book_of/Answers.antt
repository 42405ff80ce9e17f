use Rattle.std.proofs.Common.{◌<◌, ◌+◌, ◌-◌, ◌/◌, ℕ, [], length, map, arith, rules}
use Rattle.lay_pages.specs.Shared.{joined, pages_in}
use Rattle.lay_pages.proofs.PlaceLemmas.{high-moves, low-moves}
use Rattle.lay_pages.proofs.ShareLemmas.{count_books, length_map}
use Rattle.lay_pages.proofs.page_place.book_of.Goals as goal

-- the end moves down
pub loop-high-preserved-in-Greater : goal.loop-high-preserved-in-Greater
loop-high-preserved-in-Greater g c =
    let middle : ℕ = c.loop-high.low + (c.loop-high.high - c.loop-high.low) / 2 in
    let lt : middle < length (map joined (pages_in c.args.books.now)) =
    omega (arith, length_map joined (pages_in c.args.books.now), count_books c.args.books.now) in
    record {
      parted = omega arith;
      in_range = omega arith;
      below = c.loop-high.invariant.below;
      above = high-moves g.met.K.Ord.total g.met.K.PageKey.exact c.args.key _ (map joined (pages_in c.args.books.now)) middle [] lt
          c.requires.books.sorted (c.first_in_book.ensures []) (search rules);
    }

-- the start moves up
pub loop-high-preserved : goal.loop-high-preserved
loop-high-preserved g c =
    let middle : ℕ = c.loop-high.low + (c.loop-high.high - c.loop-high.low) / 2 in
    let lt : middle < length (map joined (pages_in c.args.books.now)) =
    omega (arith, length_map joined (pages_in c.args.books.now), count_books c.args.books.now) in
    record {
      parted = omega arith;
      in_range = omega arith;
      below = low-moves g.met.K.Ord.total g.met.K.PageKey.exact c.args.key _ (map joined (pages_in c.args.books.now)) middle [] lt
          c.requires.books.sorted (c.first_in_book.ensures []) (search rules);
      above = c.loop-high.invariant.above;
    }
