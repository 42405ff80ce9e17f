use Rattle.std.proofs.Common.{◌≡◌, ◌<◌, ◌≤◌, ◌+◌, [], arith, ap, length, refl, rules, take}
use Rattle.lay_pages.specs.Shared.{joined, pages_in}
use Rattle.lay_pages.proofs.BookLemmas.{all_taken, pages_many, pages_more, pages_within}
use Rattle.lay_pages.proofs.ShareLemmas.{count_books, count_items, pages_at}
use Rattle.lay_pages.proofs.look.count_pages.Goals as goal

-- there are fewer pages than entries
pub overflow_add-pages : goal.overflow_add-pages
overflow_add-pages g c =
    let i = c.loop-book.book-index in
    let lt : i < length c.args.books.now = search rules in
    let in_lists : i < length (pages_in c.args.books.now) = omega (arith, count_books c.args.books.now, lt) in
    let one = pages_at c.args.books.now i c.book-item.result c.book-item.result.value.items [] lt c.book-item.is refl in
    let count : c.len-pages.result ≡ length c.book-item.result.value.items = search rules in
    let so_far : c.loop-book.pages ≡ length (joined (take i (pages_in c.args.books.now))) = c.loop-book.invariant in
    let len_fits : c.args.len < 18446744073709551616 = search rules in
    let fits : c.loop-book.pages + c.len-pages.result < 18446744073709551616 =
    omega (
      arith,
      count,
      so_far,
      ap length one,
      count_items c.book-item.result.value.items,
      pages_more (pages_in c.args.books.now) i in_lists,
      pages_within (pages_in c.args.books.now) (i + 1),
      (pages_many (pages_in c.args.books.now) c.requires.books.pages).few,
      c.requires.count,
      len_fits,
    ) in
    search rules

pub loop-book-preserved : goal.loop-book-preserved
loop-book-preserved g c =
    let i = c.loop-book.book-index in
    let lt : i < length c.args.books.now = search rules in
    let in_lists : i < length (pages_in c.args.books.now) = omega (arith, count_books c.args.books.now, lt) in
    let one = pages_at c.args.books.now i c.book-item.result c.book-item.result.value.items [] lt c.book-item.is refl in
    let count : c.len-pages.result ≡ length c.book-item.result.value.items = search rules in
    let so_far : c.loop-book.pages ≡ length (joined (take i (pages_in c.args.books.now))) = c.loop-book.invariant in
    let more : c.loop-book.pages + c.len-pages.result ≡ length (joined (take (i + 1) (pages_in c.args.books.now))) =
    omega (
      arith,
      count,
      so_far,
      ap length one,
      count_items c.book-item.result.value.items,
      pages_more (pages_in c.args.books.now) i
          in_lists,
    ) in
    more

pub returns-clause-few : goal.returns-clause-few
returns-clause-few g c =
    let end : length (pages_in c.args.books.now) ≤ c.loop-book.book-index = omega (arith, count_books c.args.books.now) in
    omega (
      arith,
      c.loop-book.invariant,
      ap (λ ls. length (joined ls)) (all_taken (pages_in c.args.books.now) c.loop-book.book-index end),
      (pages_many (pages_in c.args.books.now) c.requires.books.pages).few,
    )

pub returns-clause-full : goal.returns-clause-full
returns-clause-full g c =
    let end : length (pages_in c.args.books.now) ≤ c.loop-book.book-index = omega (arith, count_books c.args.books.now) in
    omega (
      arith,
      c.loop-book.invariant,
      ap (λ ls. length (joined ls)) (all_taken (pages_in c.args.books.now) c.loop-book.book-index end),
      (pages_many (pages_in c.args.books.now) c.requires.books.pages).full,
    )
