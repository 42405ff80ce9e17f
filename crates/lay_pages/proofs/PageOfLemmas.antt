-- The page into which a key falls, among all entries of the books.
use Rattle.std.proofs.Common.{◌≡◌, ◌∙◌, ◌<◌, ℕ, List, [], arith, ap, get_or, length, map, sym}
use Rattle.std.proofs.lemmas.List.{get_or-map}
use Rattle.std.specs.declared.cmp.Ordering.{Ordering}
use Rattle.std.specs.Cmp.{IsTotalOrder}
use Rattle.std.specs.FinMap.{IsAntisymmetric, find}
use Rattle.std.specs.List.Sorted.{IsStrictlySortedBy}
use Rattle.std.specs.Map.{keys_of}
use Rattle.lay_pages.specs.Shared.{AreBooks, entries_in, joined}
use Rattle.lay_pages.proofs.BookLemmas.{book_at}
use Rattle.lay_pages.proofs.OrderLemmas.{find-level}
use Rattle.lay_pages.proofs.PlaceLemmas.{sorted-at}
use Rattle.lay_pages.proofs.ShareLemmas.{length_map}
use Rattle.lay_pages.specs.Places.{IsPageOf, page_in}

module _ {K X : Type 0} {R : K → K → Ordering} (k : K) (books : List (List (List (K × X)))) (book page : ℕ) where
  pub book_inside : IsPageOf R k books book page → book < length books
  book_inside falls = omega (arith, length_map joined books, falls.of_books.in_range)

  pub sorted_in : AreBooks R books → IsPageOf R k books book page → IsStrictlySortedBy R (keys_of (page_in books book page))
  sorted_in kept falls =
      sorted-at R (get_or books book []) page [] falls.of_pages.in_range (book_at R books book kept (book_inside falls)).sorted

  -- what is found in it is found in all
  pub found_in : IsTotalOrder R → IsAntisymmetric R → IsPageOf R k books book page
      → find R k (page_in books book page) ≡ find R k (entries_in books)
  found_in total exact falls =
      sym (find-level total exact k (get_or books book []) page [] falls.of_pages)
      ∙ ap (find R k) (sym (get_or-map joined books book [] [] (book_inside falls)))
      ∙ sym (find-level total exact k (map joined books) book [] falls.of_books)
