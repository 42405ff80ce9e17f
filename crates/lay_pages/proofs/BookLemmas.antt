-- Books of pages: what one of them keeps, and what entries in place of those of a page leave.
use Rattle.std.proofs.Common.{◌≡◌, ◌∙◌, ◌<◌, ◌≤◌, ◌+◌, ◌*◌, ◌++◌, ℕ, zero, suc, Bool, true, List, [], ◌∷◌}
use Rattle.std.proofs.Common.{append_assoc, refl, ap, sym, arith, drop, take, length, get_or, map, subst}
use Rattle.std.proofs.lemmas.List.{get_or-map, length-append}
use Rattle.std.specs.declared.cmp.Ordering.{Ordering}
use Rattle.std.specs.declared.sync.Arc.{Arc}
use Rattle.std.specs.declared.vec.Vec.{Vec}
use Rattle.std.specs.List.{AllByRecursion}
use Rattle.std.specs.List.Sorted.{IsStrictlySortedBy}
use Rattle.std.specs.Map.{keys_of}
use Rattle.lay_pages.specs.Shared.{AreBooks, AreSized, entries_in, items_of, joined, page_parts, pages_in}
use Rattle.lay_pages.specs.Places.{with_page}
use Rattle.lay_pages.proofs.PlaceLemmas.{all-at, sized-at, sorted-at}
use Rattle.lay_pages.proofs.ShareLemmas.{AreCut, all_append, all_spliced, are_cut, count_items, drop_map, few_parts, joined_parts}
use Rattle.lay_pages.proofs.ShareLemmas.{joined_spliced, joined_twice, length_map, length_spliced, parts_cut, sized_parts, spliced_at}
use Rattle.lay_pages.proofs.ShareLemmas.{spliced_map, take_map}

-- what is so of a book
pub record IsBook {K X : Type 0} (R : K → K → Ordering) (pages : List (List (K × X))) : Type 0 where
  pub some : 1 ≤ length pages
  pub full : length pages ≤ 64
  pub sized : AreSized pages
  pub sorted : IsStrictlySortedBy R (keys_of (joined pages))

pub book_at : {K X : Type 0} (R : K → K → Ordering) (lists : List (List (List (K × X)))) (at : ℕ) → AreBooks R lists → at < length lists
    → IsBook R (get_or lists at [])
book_at {K} {X} R lists at books lt = record {
  some = (sized-at lists at [] lt books.books).0;
  full = (sized-at lists at [] lt books.books).1;
  sized = all-at (λ (ps : List (List (K × X))). AreSized ps) lists at [] lt books.pages;
  sorted = subst (λ (es : List (K × X)). IsStrictlySortedBy R (keys_of es)) (get_or-map joined lists at [] [] lt)
      (sorted-at R (map joined lists) at [] (omega (arith, length_map joined lists, lt)) books.sorted);
}

-- ---- others in place of a page

-- books with entries in place of those of a page
pub record ArePut {K X : Type 0} (R : K → K → Ordering) (entries : List (K × X)) (new : List (List (List (K × X)))) : Type 0 where
  pub entries_are : entries_in new ≡ entries
  pub books : AreBooks R new

module _ {K X : Type 0} (R : K → K → Ordering) (old new : List (List (List (K × X)))) (book page : ℕ) where
  pub books_put : (entries : List (K × X)) (pages : List (List (K × X))) (grows is_last : Bool) → AreBooks R old → book < length old
      → page < length (get_or old book []) → length entries ≤ 128 → IsStrictlySortedBy R (keys_of (with_page old book page entries))
      → pages ≡ spliced_at page (get_or old book []) (page_parts grows entries) → new ≡ spliced_at book old (page_parts is_last pages)
      → ArePut R (with_page old book page entries) new
  books_put entries pages grows is_last books in_books in_pages few sorted pages_are is = record {
    entries_are = same;
    books = record {
      books = subst (λ (ls : List (List (List (K × X)))). AreSized ls) (sym is)
          (all_spliced (λ (ps : List (List (K × X))). (1 ≤ length ps) × (length ps ≤ 64)) book old (page_parts is_last pages) books.books
          parts.books);
      pages = subst (λ (ls : List (List (List (K × X)))). AllByRecursion (λ (ps : List (List (K × X))). AreSized ps) ls) (sym is)
          (all_spliced (λ (ps : List (List (K × X))). AreSized ps) book old (page_parts is_last pages) books.pages parts.sized);
      sorted = subst (λ (es : List (K × X)). IsStrictlySortedBy R (keys_of es)) (sym same) sorted;
    };
  } where
    own : List (List (K × X))
    own = get_or old book []

    many : length pages ≤ 128
    many =
        omega (
          arith,
          ap length pages_are,
          length_spliced page own (page_parts grows entries) in_pages,
          few_parts grows entries,
          (book_at R old book books in_books).full,
        )

    sized : AreSized pages
    sized =
        subst (λ (ps : List (List (K × X))). AreSized ps) (sym pages_are)
        (all_spliced (λ (es : List (K × X)). (1 ≤ length es) × (length es ≤ 64)) page own (page_parts grows entries)
        (book_at R old book books in_books).sized (sized_parts grows entries few))

    parts : AreCut pages (page_parts is_last pages)
    parts = parts_cut is_last pages many sized

    front : List (K × X)
    front = joined (take page own)

    back : List (K × X)
    back = joined (drop (page + 1) own)

    behind : List (K × X)
    behind = entries_in (drop (book + 1) old)

    in_book : joined pages ≡ front ++ (entries ++ back)
    in_book =
        joined_spliced page pages own (page_parts grows entries) pages_are ∙ (λ i. front ++ (joined_parts grows entries i ++ back))

    same : entries_in new ≡ with_page old book page entries
    same =
        joined_spliced book (map joined new) (map joined old) (map joined (page_parts is_last pages))
        (spliced_map joined book new old (page_parts is_last pages) is)
        ∙ (λ i. joined (take_map joined book old i) ++ ((parts.entries ∙ in_book) i ++ joined (drop_map joined (book + 1) old i)))
        ∙ ap (λ es. entries_in (take book old) ++ es) (append_assoc front (entries ++ back) behind)
        ∙ ap (λ es. entries_in (take book old) ++ (front ++ es)) (append_assoc entries back behind)
        ∙ sym (append_assoc (entries_in (take book old)) front (entries ++ (back ++ behind)))

-- the first books
pub books_first : {K X Y Z V W : Type 0} (R : K → K → Ordering) (entries : List (K × X)) (pages : List (Arc (Vec (K × X) Y) Z))
    (books : List (Arc (Vec (Arc (Vec (K × X) Y) Z) V) W)) → length entries ≤ 128 → IsStrictlySortedBy R (keys_of entries)
    → items_of pages ≡ page_parts true entries → items_of books ≡ page_parts true pages → ArePut R entries (pages_in books)
books_first {K} {X} R entries pages books few sorted pages_are books_are =
    let sized = subst (λ (ps : List (List (K × X))). AreSized ps) (sym pages_are) (sized_parts true entries few) in
    let cut = are_cut true pages books (omega (arith, count_items pages, ap length pages_are, few_parts true entries)) sized books_are in
    let same = cut.entries ∙ ap joined pages_are ∙ joined_parts true entries in
    record {
      entries_are = same;
      books = record {
        books = cut.books;
        pages = cut.sized;
        sorted = subst (λ (es : List (K × X)). IsStrictlySortedBy R (keys_of es)) (sym same) sorted;
      };
    }

-- ---- how many pages there are

pub sized_joined : {A : Type 0} (lists : List (List (List A))) → AllByRecursion (λ (ps : List (List A)). AreSized ps) lists
    → AreSized (joined lists)
sized_joined [] all = tt
sized_joined {A} (ps ∷ lists) all =
    all_append (λ (xs : List A). (1 ≤ length xs) × (length xs ≤ 64)) ps (joined lists) all.0 (sized_joined lists all.1)

pub record AreMany (entries pages : ℕ) : Type 0 where
  pub few : pages ≤ entries
  pub full : entries ≤ 64 * pages

pub many : {A : Type 0} (pages : List (List A)) → AreSized pages → AreMany (length (joined pages)) (length pages)
many [] sized = record { few = omega arith; full = omega arith }
many (p ∷ pages) sized =
    let rest = many pages sized.1 in record {
      few = omega (arith, length-append p (joined pages), rest.few, sized.0.0);
      full = omega (arith, length-append p (joined pages), rest.full, sized.0.1);
    }

pub pages_many : {A : Type 0} (lists : List (List (List A))) → AllByRecursion (λ (ps : List (List A)). AreSized ps) lists
    → AreMany (length (entries_in lists)) (length (joined lists))
pages_many lists all =
    subst (λ n. AreMany n (length (joined lists))) (sym (ap length (joined_twice lists))) (many (joined lists) (sized_joined lists all))

-- those of one book more
pub pages_more : {A : Type 0} (lists : List (List (List A))) (i : ℕ) → i < length lists
    → length (joined (take (i + 1) lists)) ≡ length (joined (take i lists)) + length (get_or lists i [])
pages_more {A} lists i lt = ap (λ n. length (joined (take n lists))) up ∙ by lists i lt where
  up : i + 1 ≡ suc i
  up = omega arith

  by : (lists : List (List (List A))) (i : ℕ) → i < length lists
      → length (joined (take (suc i) lists)) ≡ length (joined (take i lists)) + length (get_or lists i [])
  by [] i lt = absurd (omega arith)
  by (x ∷ lists) zero lt = omega (arith, length-append x [])
  by (x ∷ lists) (suc i) lt =
      omega (arith, by lists i (omega arith), length-append x (joined (take (suc i) lists)), length-append x (joined (take i lists)))

pub pages_within : {A : Type 0} (lists : List (List (List A))) (i : ℕ) → length (joined (take i lists)) ≤ length (joined lists)
pages_within lists zero = omega arith
pages_within [] (suc i) = omega arith
pages_within (x ∷ lists) (suc i) =
    omega (arith, pages_within lists i, length-append x (joined (take i lists)), length-append x (joined lists))

pub all_taken : {A : Type 0} (xs : List A) (i : ℕ) → length xs ≤ i → take i xs ≡ xs
all_taken [] zero h = refl
all_taken [] (suc i) h = refl
all_taken (x ∷ xs) zero h = absurd (omega arith)
all_taken (x ∷ xs) (suc i) h = ap (λ ys. x ∷ ys) (all_taken xs i (omega arith))
