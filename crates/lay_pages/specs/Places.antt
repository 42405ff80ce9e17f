-- The page of a book into which a key falls, and what is on both sides of it.
use Rattle.std.specs.Prelude.{ℕ, ◌+◌, List, [], ◌++◌, Option, drop, map, slice_index_or, take}
use Rattle.std.specs.declared.cmp.Ordering.{Ordering}
use Rattle.std.specs.List.{AllByRecursion}
use Rattle.lay_pages.specs.Shared.{entries_in, joined}
use Rattle.lay_pages.specs.Written.{IsPlace}

-- the page of this index in the book of this index
abbrev pub page_in : {X : Type 0} → List (List (List X)) → ℕ → ℕ → List X
page_in books book page = slice_index_or (slice_index_or books book []) page []

-- all entries before that page
abbrev pub entries_before : {X : Type 0} → List (List (List X)) → ℕ → ℕ → List X
entries_before books book page = entries_in (take book books) ++ joined (take page (slice_index_or books book []))

-- all entries after that page
abbrev pub entries_after : {X : Type 0} → List (List (List X)) → ℕ → ℕ → List X
entries_after books book page = joined (drop (page + 1) (slice_index_or books book [])) ++ entries_in (drop (book + 1) books)

-- all entries, with these in place of those of that page
abbrev pub with_page : {X : Type 0} → List (List (List X)) → ℕ → ℕ → List X → List X
with_page books book page entries = entries_before books book page ++ (entries ++ entries_after books book page)

-- a key falls into this page of this book
pub record IsPageOf {K X : Type 0} (R : K → K → Ordering) (k : K) (books : List (List (List (K × X)))) (book page : ℕ) : Type 0 where
  pub of_books : IsPlace R k (map joined books) book
  pub of_pages : IsPlace R k (slice_index_or books book []) page

-- the keys of these writes do
abbrev pub AreOfPage : {K X : Type 0} → (K → K → Ordering) → List (K × Option X) → List (List (List (K × X))) → ℕ → ℕ → Type 0
AreOfPage R writes books book page = AllByRecursion (λ write. IsPageOf R write.0 books book page) writes
