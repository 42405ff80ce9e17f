-- Lists that are filled one after another, and what is left of them from a key on.
use Rattle.std.proofs.Common.{◌≡◌, ◌∙◌, ◌+◌, ◌≤◌, ◌++◌, ℕ, suc, List, [], ◌∷◌, refl, ap, sym, arith}
use Rattle.std.proofs.Common.{drop, get_or, length, map, subst, take, cond}
use Rattle.std.proofs.lemmas.List.{append-nil, map-append}
use Rattle.std.specs.Prelude.{not}
use Rattle.std.specs.declared.cmp.Ordering.{Ordering}
use Rattle.std.specs.declared.cmp.Ordering.TheVariants.{Less}
use Rattle.std.specs.declared.sync.Arc.{Arc}
use Rattle.std.specs.declared.vec.Vec.{Vec}
use Rattle.std.specs.Cmp.{IsTotalOrder}
use Rattle.std.specs.List.{AllByRecursion}
use Rattle.std.specs.Ordering.{is_lt}
use Rattle.lay_pages.specs.Shared.{AreSized, filled, items_of, joined, pages_in}
use Rattle.lay_pages.specs.Written.{AllAbove, AllBelow, IsPlace, from_key}
use Rattle.lay_pages.proofs.PlaceLemmas.{joined-at}
use Rattle.lay_pages.proofs.SearchLemmas.{turned}
use Rattle.lay_pages.proofs.ShareLemmas.{AreCut, drop_map, joined_append, joined_twice, length_map, mapped_twice}
use Rattle.lay_pages.proofs.WrittenLemmas.{filter-append}

-- ---- a list is ended

pub filled_end : {A : Type 0} (lists : List (List A)) (last : List A) → joined (lists ++ (last ∷ [])) ≡ filled lists last
filled_end lists last = joined_append lists (last ∷ []) ∙ ap (λ xs. joined lists ++ xs) (append-nil last)

-- and another is begun
pub filled_more : {A : Type 0} (lists new : List (List A)) (last fresh : List A) → new ≡ lists ++ (last ∷ []) → fresh ≡ []
    → filled new fresh ≡ filled lists last
filled_more lists new last fresh is none =
    (λ i. joined (is i) ++ none i) ∙ append-nil (joined (lists ++ (last ∷ []))) ∙ filled_end lists last

-- ---- pages are put into books

joined_map : {A B : Type 0} (f : A → B) (lists : List (List A)) → joined (map (λ xs. map f xs) lists) ≡ map f (joined lists)
joined_map f [] = refl
joined_map f (xs ∷ lists) = ap (λ ys. map f xs ++ ys) (joined_map f lists) ∙ sym (map-append f xs (joined lists))

sized_map : {A B : Type 0} (f : A → B) (lists : List (List A)) → AreSized lists → AreSized (map (λ xs. map f xs) lists)
sized_map f [] sized = tt
sized_map f (xs ∷ lists) sized =
    let same = length_map f xs in
    ((omega (arith, same, sized.0.0), omega (arith, same, sized.0.1)), sized_map f lists sized.1)

pub left_all : {A : Type 0} (P : A → Type 0) (xs ys : List A) → AllByRecursion P (xs ++ ys) → AllByRecursion P xs
left_all P [] ys all = tt
left_all P (x ∷ xs) ys all = (all.0, left_all P xs ys all.1)

pub right_all : {A : Type 0} (P : A → Type 0) (xs ys : List A) → AllByRecursion P (xs ++ ys) → AllByRecursion P ys
right_all P [] ys all = all
right_all P (x ∷ xs) ys all = right_all P xs ys all.1

all_joined : {A : Type 0} (P : A → Type 0) (lists : List (List A)) → AllByRecursion P (joined lists)
    → AllByRecursion (λ (xs : List A). AllByRecursion P xs) lists
all_joined P [] all = tt
all_joined P (xs ∷ lists) all = (left_all P xs (joined lists) all, all_joined P lists (right_all P xs (joined lists) all))

pub booked : {X Y Z V W : Type 0} (pages : List (Arc (Vec X Y) Z)) (books : List (Arc (Vec (Arc (Vec X Y) Z) V) W))
    → joined (items_of books) ≡ pages → AreSized (items_of books) → AreSized (items_of pages) → AreCut (items_of pages) (pages_in books)
booked {X} {Y} {Z} {V} {W} pages books is sized all =
    subst (λ (lists : List (List (List X))). AreCut (items_of pages) lists) shape (record {
      entries = joined_twice (map (λ (ps : List (Arc (Vec X Y) Z)). items_of ps) (items_of books)) ∙ ap joined same;
      books = sized_map (λ (s : Arc (Vec X Y) Z). s.value.items) (items_of books) sized;
      sized = all_joined (λ (xs : List X). (1 ≤ length xs) × (length xs ≤ 64))
          (map (λ (ps : List (Arc (Vec X Y) Z)). items_of ps) (items_of books))
          (subst (λ (lists : List (List X)). AreSized lists) (sym same) all);
    }) where
      shape : map (λ (ps : List (Arc (Vec X Y) Z)). items_of ps) (items_of books) ≡ pages_in books
      shape = mapped_twice (λ (ps : List (Arc (Vec X Y) Z)). items_of ps) (λ (s : Arc (Vec (Arc (Vec X Y) Z) V) W). s.value.items) books

      same : joined (map (λ (ps : List (Arc (Vec X Y) Z)). items_of ps) (items_of books)) ≡ items_of pages
      same = joined_map (λ (s : Arc (Vec X Y) Z). s.value.items) (items_of books) ∙ ap (λ (ps : List (Arc (Vec X Y) Z)). items_of ps) is

-- ---- from a key on

pub drop_items : {X Y Z : Type 0} (n : ℕ) (shared : List (Arc (Vec X Y) Z)) → items_of (drop n shared) ≡ drop n (items_of shared)
drop_items {X} {Y} {Z} n shared = sym (drop_map (λ (s : Arc (Vec X Y) Z). s.value.items) n shared)

pub drop_pages : {X Y Z V W : Type 0} (n : ℕ) (shared : List (Arc (Vec (Arc (Vec X Y) Z) V) W))
    → pages_in (drop n shared) ≡ drop n (pages_in shared)
drop_pages {X} {Y} {Z} {V} {W} n shared = sym (drop_map (λ (s : Arc (Vec (Arc (Vec X Y) Z) V) W). items_of s.value.items) n shared)

module _ {K X : Type 0} {R : K → K → Ordering} (total : IsTotalOrder R) where
  from-below : (k : K) (es : List (K × X)) → AllBelow R k es → from_key R k es ≡ []
  from-below k [] all = refl
  from-below k (e ∷ es) all =
      ap (λ o. cond (not (is_lt o)) (e ∷ from_key R k es) (from_key R k es)) all.0 ∙ from-below k es all.1

  from-above : (k : K) (es : List (K × X)) → AllAbove R k es → from_key R k es ≡ es
  from-above k [] all = refl
  from-above k (e ∷ es) all =
      ap (λ o. cond (not (is_lt o)) (e ∷ from_key R k es) (from_key R k es)) (turned total k e.0 Less all.0)
      ∙ ap (λ xs. e ∷ xs) (from-above k es all.1)

  pub from-level : (k : K) (lists : List (List (K × X))) (at : ℕ) (d : List (K × X)) → IsPlace R k lists at
      → from_key R k (joined lists) ≡ from_key R k (get_or lists at d) ++ joined (drop (at + 1) lists)
  from-level k lists at d place =
      let up : suc at ≡ at + 1 = omega arith in
      ap (from_key R k) (joined-at lists at d place.in_range)
      ∙ filter-append total (λ e. not (is_lt (R e.0 k))) (joined (take at lists)) (get_or lists at d ++ joined (drop (suc at) lists))
      ∙ ap (λ es. es ++ from_key R k (get_or lists at d ++ joined (drop (suc at) lists)))
      (from-below k (joined (take at lists)) place.below)
      ∙ filter-append total (λ e. not (is_lt (R e.0 k))) (get_or lists at d) (joined (drop (suc at) lists))
      ∙ (λ i. from_key R k (get_or lists at d) ++ from_key R k (joined (drop (up i) lists)))
      ∙ ap (λ es. from_key R k (get_or lists at d) ++ es) (from-above k (joined (drop (at + 1) lists)) place.above)
