-- The last of the elements of lists, and of shared lists.
use Rattle.std.proofs.Common.{◌≡◌, ◌∙◌, ◌<◌, ◌≤◌, ◌-◌, ◌++◌, ℕ, suc, List, [], ◌∷◌, Some, arith, ap, length, map, refl, subst, sym, take}
use Rattle.std.proofs.lemmas.List.{append-nil, length-append, length-take}
use Rattle.std.proofs.lemmas.Option.{none-some, same_Some}
use Rattle.std.specs.List.{AllByRecursion, slice_get}
use Rattle.std.specs.Option.{option_map}
use Rattle.std.specs.declared.sync.Arc.{Arc}
use Rattle.std.specs.declared.vec.Vec.{Vec}
use Rattle.lay_pages.specs.Shared.{AreSized, entries_in, items_of, joined, pages_in}
use Rattle.lay_pages.specs.Written.{last_entry}
use Rattle.lay_pages.proofs.ShareLemmas.{all_take, take_map}

-- it is the one of the last index
pub last_get : {A : Type 0} (xs : List A) → slice_get xs (length xs - 1) ≡ last_entry xs
last_get [] = refl
last_get (x ∷ []) = refl
last_get (x ∷ (y ∷ ys)) =
    let back : length (x ∷ (y ∷ ys)) - 1 ≡ suc (length (y ∷ ys) - 1) = omega arith in
    ap (slice_get (x ∷ (y ∷ ys))) back ∙ last_get (y ∷ ys)

-- of two lists one after the other it is that of the second, unless that is empty
pub last_append : {A : Type 0} (xs ys : List A) → 1 ≤ length ys → last_entry (xs ++ ys) ≡ last_entry ys
last_append [] ys some = refl
last_append (x ∷ []) [] some = absurd (omega arith)
last_append (x ∷ []) (y ∷ ys) some = refl
last_append (x ∷ (z ∷ xs)) ys some = last_append (z ∷ xs) ys some

last_map : {A B : Type 0} (f : A → B) (xs : List A) → last_entry (map f xs) ≡ option_map f (last_entry xs)
last_map f [] = refl
last_map f (x ∷ []) = refl
last_map f (x ∷ (y ∷ ys)) = last_map f (y ∷ ys)

-- what is so of all is so of the last
all_last : {A : Type 0} (P : A → Type 0) (xs : List A) (one : A) → last_entry xs ≡ Some one → AllByRecursion P xs → P one
all_last P [] one is all = absurd (none-some one is)
all_last P (x ∷ []) one is all = subst P (same_Some x one is) all.0
all_last P (x ∷ (y ∷ ys)) one is all = all_last P (y ∷ ys) one is all.1

-- each has an element
abbrev pub AreSome : {A : Type 0} → List (List A) → Type 0
AreSome lists = AllByRecursion (λ xs. 1 ≤ length xs) lists

-- of lists that are joined it is that of the last list
last_joined : {A : Type 0} (lists : List (List A)) (one : List A) → last_entry lists ≡ Some one → AreSome lists
    → last_entry (joined lists) ≡ last_entry one
last_joined [] one is some = absurd (none-some one is)
last_joined (xs ∷ []) one is some = ap last_entry (append-nil xs ∙ same_Some xs one is)
last_joined (xs ∷ (ys ∷ lists)) one is some =
    last_append xs (joined (ys ∷ lists)) (omega (arith, length-append ys (joined lists), some.1.0))
    ∙ last_joined (ys ∷ lists) one is some.1

some_sized : {A : Type 0} (lists : List (List A)) → AreSized lists → AreSome lists
some_sized [] sized = tt
some_sized (xs ∷ lists) sized = (sized.0.0, some_sized lists sized.1)

-- lists, of which there is one, have an element
some_joined : {A : Type 0} (lists : List (List A)) → 1 ≤ length lists → AreSized lists → 1 ≤ length (joined lists)
some_joined [] some sized = absurd (omega arith)
some_joined (xs ∷ lists) some sized = omega (arith, length-append xs (joined lists), sized.0.0)

some_books : {A : Type 0} (books : List (List (List A))) → AreSized books → AllByRecursion (λ (ps : List (List A)). AreSized ps) books
    → AreSome (map joined books)
some_books [] sized pages = tt
some_books (ps ∷ books) sized pages = (some_joined ps sized.0.0 pages.0, some_books books sized.1 pages.1)

-- ---- shared lists

-- the last page of a book, as it is lent
pub last_page : {X Y Z : Type 0} (book : List (Arc (Vec X Y) Z)) (one : Arc (Vec X Y) Z) (es : List X)
    → Some one ≡ slice_get book (length book - 1) → es ≡ one.value.items → AreSized (items_of book)
    → last_entry es ≡ last_entry (joined (items_of book))
last_page {X} {Y} {Z} book one es is items sized =
    sym (last_joined (items_of book) es last (some_sized (items_of book) sized)) where
      last : last_entry (items_of book) ≡ Some es
      last =
          last_map (λ (s : Arc (Vec X Y) Z). s.value.items) book
          ∙ ap (option_map (λ (s : Arc (Vec X Y) Z). s.value.items)) (sym (is ∙ last_get book)) ∙ ap Some (sym items)

-- the pages of the last book, as it is lent
pub record IsLast {X Y Z V W : Type 0} (books : List (Arc (Vec (Arc (Vec X Y) Z) V) W)) (pages : List (Arc (Vec X Y) Z)) : Type 0 where
  pub sized : AreSized (items_of pages)
  pub entry : last_entry (joined (items_of pages)) ≡ last_entry (entries_in (pages_in books))

pub last_book : {X Y Z V W : Type 0} (books : List (Arc (Vec (Arc (Vec X Y) Z) V) W)) (one : Arc (Vec (Arc (Vec X Y) Z) V) W)
    (pages : List (Arc (Vec X Y) Z)) → Some one ≡ slice_get books (length books - 1) → pages ≡ one.value.items
    → AreSized (pages_in books) → AllByRecursion (λ (ps : List (List X)). AreSized ps) (pages_in books) → IsLast books pages
last_book {X} {Y} {Z} {V} {W} books one pages is items books_sized sized = record {
  sized = all_last (λ (ps : List (List X)). AreSized ps) (pages_in books) (items_of pages) last sized;
  entry = sym (last_joined (map joined (pages_in books)) (joined (items_of pages))
      (last_map joined (pages_in books) ∙ ap (option_map joined) last) (some_books (pages_in books) books_sized sized));
} where
  last : last_entry (pages_in books) ≡ Some (items_of pages)
  last =
      last_map (λ (s : Arc (Vec (Arc (Vec X Y) Z) V) W). items_of s.value.items) books
      ∙ ap (option_map (λ (s : Arc (Vec (Arc (Vec X Y) Z) V) W). items_of s.value.items)) (sym (is ∙ last_get books))
      ∙ ap (λ (ps : List (Arc (Vec X Y) Z)). Some (items_of ps)) (sym items)

-- ---- the first of shared lists

pub take_items : {X Y Z : Type 0} (n : ℕ) (shared : List (Arc (Vec X Y) Z)) → items_of (take n shared) ≡ take n (items_of shared)
take_items {X} {Y} {Z} n shared = sym (take_map (λ (s : Arc (Vec X Y) Z). s.value.items) n shared)

pub take_pages : {X Y Z V W : Type 0} (n : ℕ) (shared : List (Arc (Vec (Arc (Vec X Y) Z) V) W))
    → pages_in (take n shared) ≡ take n (pages_in shared)
take_pages {X} {Y} {Z} {V} {W} n shared = sym (take_map (λ (s : Arc (Vec (Arc (Vec X Y) Z) V) W). items_of s.value.items) n shared)

-- with the first pages of a book behind them, the last of entries is that of these pages
pub last_behind : {A : Type 0} (before : List A) (pages : List (List A)) (n : ℕ) → AreSized pages → 1 ≤ n → n < length pages
    → last_entry (joined (take n pages)) ≡ last_entry (before ++ joined (take n pages))
last_behind {A} before pages n sized low high =
    let few = all_take (λ (xs : List A). (1 ≤ length xs) × (length xs ≤ 64)) n pages sized in
    sym (last_append before (joined (take n pages))
    (some_joined (take n pages) (omega (arith, length-take n pages)) few))
