use Rattle.std.proofs.Common.{◌≡◌, ◌∙◌, List, [], arith, ap, length, subst, sym}
use Rattle.std.specs.List.Sorted.{IsStrictlySortedBy}
use Rattle.std.specs.Map.{keys_of}
use Rattle.lay_pages.proofs.RisingLemmas.{full_all, sorted_all, sorted_none}
use Rattle.lay_pages.proofs.pages.Pages.first.Goals as goal

pub with_all-requires-clause-sorted : goal.with_all-requires-clause-sorted
with_all-requires-clause-sorted g c = sorted_none g.K.Ord.cmp c.deref.result.now (c.deref.ensures.value ∙ c.new-none.ensures.items)

pub first_books-requires-clause-few : goal.first_books-requires-clause-few
first_books-requires-clause-few g c =
    let none = c.deref.result.now in
    let is : none ≡ [] = c.deref.ensures.value ∙ c.new-none.ensures.items in
    omega (
      arith,
      ap length c.in_ok-entries.ensures,
      ap length is,
      full_all g.met.K.Ord.total g.met.K.PageKey.exact none c.args.writes.now (sorted_none g.K.Ord.cmp none is),
      c.requires.few,
    )

pub first_books-requires-clause-sorted : goal.first_books-requires-clause-sorted
first_books-requires-clause-sorted g c =
    let none = c.deref.result.now in
    let is : none ≡ [] = c.deref.ensures.value ∙ c.new-none.ensures.items in
    subst (λ (es : List (g.row.K.Denot × g.row.V.Denot)). IsStrictlySortedBy g.K.Ord.cmp (keys_of es)) (sym c.in_ok-entries.ensures)
    (sorted_all g.met.K.Ord.total g.met.K.PageKey.exact none c.args.writes.now (sorted_none g.K.Ord.cmp none is))

pub of-requires : goal.of-requires
of-requires g c = record {
  kept = c.in_ok-books.ensures.books;
  count = omega (arith, c.len-len.ensures, ap length c.in_ok-books.ensures.entries);
}
