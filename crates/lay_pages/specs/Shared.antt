-- Lists of shared lists: what they hold, their sizes, and the parts that a list is put into.
use Rattle.std.specs.Prelude.{◌≡◌, ℕ, ◌≤◌, ◌/◌, List, [], ◌∷◌, ◌++◌, Bool, cond, drop, length, map, nat_le, take}
use Rattle.std.specs.declared.cmp.Ordering.{Ordering}
use Rattle.std.specs.declared.sync.Arc.{Arc}
use Rattle.std.specs.declared.vec.Vec.{Vec}
use Rattle.std.specs.List.{AllByRecursion}
use Rattle.std.specs.List.Sorted.{IsStrictlySortedBy}
use Rattle.std.specs.Map.{keys_of}

abbrev pub items_of : {X Y Z : Type 0} → List (Arc (Vec X Y) Z) → List (List X)
items_of {X = X} {Y = Y} {Z = Z} shared = map (λ (s : Arc (Vec X Y) Z). s.value.items) shared

-- the pages of books
abbrev pub pages_in : {X Y Z V W : Type 0} → List (Arc (Vec (Arc (Vec X Y) Z) V) W) → List (List (List X))
pages_in {X = X} {Y = Y} {Z = Z} {V = V} {W = W} shared = map (λ (s : Arc (Vec (Arc (Vec X Y) Z) V) W). items_of s.value.items) shared

abbrev pub joined : {X : Type 0} → List (List X) → List X
joined [] = []
joined (xs ∷ lists) = xs ++ joined lists

-- each has one element to 64
abbrev pub AreSized : {X : Type 0} → List (List X) → Type 0
AreSized lists = AllByRecursion (λ xs. (1 ≤ length xs) × (length xs ≤ 64)) lists

-- all entries of books
abbrev pub entries_in : {X : Type 0} → List (List (List X)) → List X
entries_in books = joined (map joined books)

-- a list of up to 64, or two where there are more: the first has 64 where the list grows at its end, else half of all
abbrev pub page_parts : {X : Type 0} → Bool → List X → List (List X)
page_parts grows [] = []
page_parts grows (x ∷ xs) =
    cond (nat_le (length (x ∷ xs)) 64) ((x ∷ xs) ∷ [])
    (take (cond grows 64 (length (x ∷ xs) / 2)) (x ∷ xs) ∷ drop (cond grows 64 (length (x ∷ xs) / 2)) (x ∷ xs) ∷ [])

-- books of pages of entries in order
pub record AreBooks {K X : Type 0} (R : K → K → Ordering) (lists : List (List (List (K × X)))) : Type 0 where
  pub books : AreSized lists
  pub pages : AllByRecursion AreSized lists
  pub sorted : IsStrictlySortedBy R (keys_of (entries_in lists))

-- and how many entries there are
pub record AreCountedBooks {K X : Type 0} (R : K → K → Ordering) (lists : List (List (List (K × X)))) (len : ℕ) : Type 0 where
  pub kept : AreBooks R lists
  pub count : len ≡ length (entries_in lists)

-- lists, and the one behind them that grows
abbrev pub filled : {X : Type 0} → List (List X) → List X → List X
filled lists last = joined lists ++ last

pub record AreFilled {X : Type 0} (lists : List (List X)) (last : List X) : Type 0 where
  pub sized : AreSized lists
  pub full : length last ≤ 64

-- and how many elements there are
pub record AreTaken {X : Type 0} (lists : List (List X)) (last : List X) (len : ℕ) : Type 0 where
  pub taken : AreFilled lists last
  pub count : len ≡ length (filled lists last)

-- what is left of a page, of the pages of a book and of books
abbrev pub left : {X : Type 0} → List X → List (List X) → List (List (List X)) → List X
left entries pages books = entries ++ (joined pages ++ entries_in books)
