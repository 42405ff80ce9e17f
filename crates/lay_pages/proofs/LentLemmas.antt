-- A book of books and a page of a book, as they are lent for a key.
use Rattle.std.proofs.Common.{◌≡◌, ◌∙◌, ◌<◌, ◌≤◌, ℕ, List, [], arith, ap, get_or, length, map, subst}
use Rattle.std.proofs.lemmas.List.{get_or-map}
use Rattle.std.specs.declared.cmp.Ordering.{Ordering}
use Rattle.std.specs.declared.sync.Arc.{Arc}
use Rattle.std.specs.declared.vec.Vec.{Vec}
use Rattle.std.specs.List.Sorted.{IsStrictlySortedBy}
use Rattle.std.specs.Map.{keys_of}
use Rattle.lay_pages.specs.Shared.{AreBooks, AreSized, items_of, joined, pages_in}
use Rattle.lay_pages.proofs.BookLemmas.{book_at}
use Rattle.lay_pages.proofs.ShareLemmas.{count_books, count_items, items_at, length_map, pages_at}

-- the page of this index
pub lent_page : {X Y Z : Type 0} (book : List (Arc (Vec X Y) Z)) (at : ℕ) (one : Arc (Vec X Y) Z) (es : List X)
    → at < length (items_of book) → one ≡ get_or book at one → es ≡ one.value.items → get_or (items_of book) at [] ≡ es
lent_page book at one es lt is items = items_at book at one es [] (omega (arith, count_items book, lt)) is items

-- these are the pages of the book of this index
pub record IsLent {K X Y Z V W : Type 0} (R : K → K → Ordering) (books : List (Arc (Vec (Arc (Vec (K × X) Y) Z) V) W)) (at : ℕ)
    (pages : List (Arc (Vec (K × X) Y) Z)) : Type 0 where
  pub is : get_or (pages_in books) at [] ≡ items_of pages
  pub entries : get_or (map joined (pages_in books)) at [] ≡ joined (items_of pages)
  pub some : 0 < length pages
  pub full : length pages ≤ 64
  pub sized : AreSized (items_of pages)
  pub sorted : IsStrictlySortedBy R (keys_of (joined (items_of pages)))

pub lent_book : {K X Y Z V W : Type 0} (R : K → K → Ordering) (books : List (Arc (Vec (Arc (Vec (K × X) Y) Z) V) W)) (at : ℕ)
    (one : Arc (Vec (Arc (Vec (K × X) Y) Z) V) W) (pages : List (Arc (Vec (K × X) Y) Z)) → AreBooks R (pages_in books)
    → at < length (map joined (pages_in books)) → one ≡ get_or books at one → pages ≡ one.value.items → IsLent R books at pages
lent_book {K} {X} R books at one pages kept in_range this items =
    let lt : at < length (pages_in books) = omega (arith, length_map joined (pages_in books), in_range) in
    let same = pages_at books at one pages [] (omega (arith, count_books books, lt)) this items in
    let book = book_at R (pages_in books) at kept lt in
    record {
      is = same;
      entries = get_or-map joined (pages_in books) at [] [] lt ∙ ap joined same;
      some = omega (arith, book.some, ap length same, count_items pages);
      full = omega (arith, book.full, ap length same, count_items pages);
      sized = subst (λ (ps : List (List (K × X))). AreSized ps) same book.sized;
      sorted = subst (λ (ps : List (List (K × X))). IsStrictlySortedBy R (keys_of (joined ps))) same book.sorted;
    }
