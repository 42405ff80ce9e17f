-- Lists of shared lists: what is at an index, others in place of one, and lists in parts.
use Rattle.std.proofs.Common.{◌≡◌, ◌∙◌, ◌+◌, ◌/◌, ◌<◌, ◌≤◌, ◌++◌, ℕ, zero, suc, Bool, true, false, List, [], ◌∷◌, append_assoc, refl, ap}
use Rattle.std.proofs.Common.{cond, sym, take, drop, get_or, length, map, arith, subst}
use Rattle.std.specs.Prelude.{nat_le}
use Rattle.std.proofs.lemmas.List.{append-nil, get_or-map, length-append, length-drop, length-take, take-append-drop}
use Rattle.std.proofs.lemmas.Bool.Decides.{nat_tests}
use Rattle.std.specs.declared.sync.Arc.{Arc}
use Rattle.std.specs.declared.vec.Vec.{Vec}
use Rattle.std.specs.List.{AllByRecursion}
use Rattle.lay_pages.specs.Shared.{AreSized, entries_in, items_of, joined, page_parts, pages_in}

-- ---- what maps keep

pub drop_map : {A B : Type 0} (f : A → B) (n : ℕ) (xs : List A) → drop n (map f xs) ≡ map f (drop n xs)
drop_map f zero xs = refl
drop_map f (suc n) [] = refl
drop_map f (suc n) (x ∷ xs) = drop_map f n xs

pub take_map : {A B : Type 0} (f : A → B) (n : ℕ) (xs : List A) → take n (map f xs) ≡ map f (take n xs)
take_map f zero xs = refl
take_map f (suc n) [] = refl
take_map f (suc n) (x ∷ xs) = ap (λ ys. f x ∷ ys) (take_map f n xs)

append_map : {A B : Type 0} (f : A → B) (xs ys : List A) → map f (xs ++ ys) ≡ map f xs ++ map f ys
append_map f [] ys = refl
append_map f (x ∷ xs) ys = ap (λ zs. f x ∷ zs) (append_map f xs ys)

pub length_map : {A B : Type 0} (f : A → B) (xs : List A) → length (map f xs) ≡ length xs
length_map f [] = refl
length_map f (x ∷ xs) = ap suc (length_map f xs)

pub mapped_twice : {A B C : Type 0} (f : B → C) (g : A → B) (xs : List A) → map f (map g xs) ≡ map (λ x. f (g x)) xs
mapped_twice f g [] = refl
mapped_twice f g (x ∷ xs) = ap (λ ys. f (g x) ∷ ys) (mapped_twice f g xs)

-- ---- others in place of one

-- a list with others in place of one
abbrev pub spliced_at : {A : Type 0} → ℕ → List A → List A → List A
spliced_at at xs others = take at xs ++ (others ++ drop (at + 1) xs)

-- as it is put together part by part
pub spliced_is : {A B : Type 0} (f : A → B) (xs : List A) (ys : List B) (at : ℕ) (new1 new2 new3 : List B)
    → new1 ≡ map f (take at xs) → new2 ≡ new1 ++ ys → new3 ≡ new2 ++ map f (drop (at + 1) xs) → new3 ≡ spliced_at at (map f xs) ys
spliced_is f xs ys at new1 new2 new3 one two three =
    three ∙ ap (λ zs. zs ++ map f (drop (at + 1) xs)) (two ∙ ap (λ zs. zs ++ ys) one)
    ∙ append_assoc (map f (take at xs)) ys (map f (drop (at + 1) xs))
    ∙ (λ i. sym (take_map f at xs) i ++ (ys ++ sym (drop_map f (at + 1) xs) i))

pub spliced_map : {A B : Type 0} (f : A → B) (at : ℕ) (new xs others : List A) → new ≡ spliced_at at xs others
    → map f new ≡ spliced_at at (map f xs) (map f others)
spliced_map f at new xs others is =
    ap (map f) is ∙ append_map f (take at xs) (others ++ drop (at + 1) xs)
    ∙ ap (λ zs. map f (take at xs) ++ zs) (append_map f others (drop (at + 1) xs))
    ∙ (λ i. sym (take_map f at xs) i ++ (map f others ++ sym (drop_map f (at + 1) xs) i))

pub all_append : {A : Type 0} (P : A → Type 0) (xs ys : List A) → AllByRecursion P xs → AllByRecursion P ys
    → AllByRecursion P (xs ++ ys)
all_append P [] ys one two = two
all_append P (x ∷ xs) ys one two = (one.0, all_append P xs ys one.1 two)

pub all_take : {A : Type 0} (P : A → Type 0) (n : ℕ) (xs : List A) → AllByRecursion P xs → AllByRecursion P (take n xs)
all_take P zero xs all = tt
all_take P (suc n) [] all = tt
all_take P (suc n) (x ∷ xs) all = (all.0, all_take P n xs all.1)

pub all_drop : {A : Type 0} (P : A → Type 0) (n : ℕ) (xs : List A) → AllByRecursion P xs → AllByRecursion P (drop n xs)
all_drop P zero xs all = all
all_drop P (suc n) [] all = tt
all_drop P (suc n) (x ∷ xs) all = all_drop P n xs all.1

pub all_spliced : {A : Type 0} (P : A → Type 0) (at : ℕ) (xs others : List A) → AllByRecursion P xs → AllByRecursion P others
    → AllByRecursion P (spliced_at at xs others)
all_spliced P at xs others all more =
    all_append P (take at xs) (others ++ drop (at + 1) xs) (all_take P at xs all)
    (all_append P others (drop (at + 1) xs) more (all_drop P (at + 1) xs all))

pub length_spliced : {A : Type 0} (at : ℕ) (xs others : List A) → at < length xs
    → length (spliced_at at xs others) + 1 ≡ length xs + length others
length_spliced at xs others lt =
    omega (
      arith,
      length-append (take at xs) (others ++ drop (at + 1) xs),
      length-append others (drop (at + 1) xs),
      length-take at xs,
      length-drop (at + 1) xs,
    )

-- ---- joined lists

pub joined_append : {A : Type 0} (xs ys : List (List A)) → joined (xs ++ ys) ≡ joined xs ++ joined ys
joined_append [] ys = refl
joined_append (x ∷ xs) ys = ap (λ zs. x ++ zs) (joined_append xs ys) ∙ sym (append_assoc x (joined xs) (joined ys))

-- others in place of one, joined
pub joined_spliced : {A : Type 0} (at : ℕ) (new lists others : List (List A)) → new ≡ spliced_at at lists others
    → joined new ≡ joined (take at lists) ++ (joined others ++ joined (drop (at + 1) lists))
joined_spliced at new lists others is =
    ap joined is ∙ joined_append (take at lists) (others ++ drop (at + 1) lists)
    ∙ ap (λ es. joined (take at lists) ++ es) (joined_append others (drop (at + 1) lists))

pub joined_twice : {A : Type 0} (lists : List (List (List A))) → joined (map joined lists) ≡ joined (joined lists)
joined_twice [] = refl
joined_twice (x ∷ xs) = ap (λ zs. joined x ++ zs) (joined_twice xs) ∙ sym (joined_append x (joined xs))

-- ---- lists in parts

pub joined_parts : {A : Type 0} (grows : Bool) (xs : List A) → joined (page_parts grows xs) ≡ xs
joined_parts grows [] = refl
joined_parts {A} grows (x ∷ xs) = by (nat_le (length (x ∷ xs)) 64) where
  two : (n : ℕ) → joined (take n (x ∷ xs) ∷ drop n (x ∷ xs) ∷ []) ≡ x ∷ xs
  two n = ap (λ zs. take n (x ∷ xs) ++ zs) (append-nil (drop n (x ∷ xs))) ∙ take-append-drop n (x ∷ xs)

  by : (b : Bool)
      → joined (cond b ((x ∷ xs) ∷ []) (take (cond grows 64 (length (x ∷ xs) / 2)) (x ∷ xs) ∷ drop (cond grows 64 (length (x ∷ xs) / 2))
      (x ∷ xs) ∷ [])) ≡ x ∷ xs
  by true = append-nil (x ∷ xs)
  by false = two (cond grows 64 (length (x ∷ xs) / 2))

pub few_parts : {A : Type 0} (grows : Bool) (xs : List A) → length (page_parts grows xs) ≤ 2
few_parts grows [] = omega arith
few_parts {A} grows (x ∷ xs) = by (nat_le (length (x ∷ xs)) 64) where
  by : (b : Bool)
      → length (cond b ((x ∷ xs) ∷ []) (take (cond grows 64 (length (x ∷ xs) / 2)) (x ∷ xs) ∷ drop (cond grows 64 (length (x ∷ xs) / 2))
      (x ∷ xs) ∷ [])) ≤ 2
  by true = omega arith
  by false = omega arith

pub all_parts : {A : Type 0} (P : A → Type 0) (grows : Bool) (xs : List A) → AllByRecursion P xs
    → AllByRecursion (λ (ys : List A). AllByRecursion P ys) (page_parts grows xs)
all_parts P grows [] all = tt
all_parts {A} P grows (x ∷ xs) all = by (nat_le (length (x ∷ xs)) 64) where
  by : (b : Bool) → AllByRecursion (λ (ys : List A). AllByRecursion P ys)
      (cond b ((x ∷ xs) ∷ []) (take (cond grows 64 (length (x ∷ xs) / 2)) (x ∷ xs) ∷ drop (cond grows 64 (length (x ∷ xs) / 2)) (x ∷ xs)
      ∷ []))
  by true = (all, tt)
  by false = (
    all_take P (cond grows 64 (length (x ∷ xs) / 2)) (x ∷ xs) all,
    (all_drop P (cond grows 64 (length (x ∷ xs) / 2)) (x ∷ xs) all, tt),
  )

pub sized_parts : {A : Type 0} (grows : Bool) (xs : List A) → length xs ≤ 128 → AreSized (page_parts grows xs)
sized_parts grows [] le = tt
sized_parts {A} grows (x ∷ xs) le = by grows (nat_le (length (x ∷ xs)) 64) refl where
  two : (n : ℕ) → 1 ≤ n → n ≤ 64 → n < length (x ∷ xs) → length (x ∷ xs) ≤ n + 64
      → AreSized (take n (x ∷ xs) ∷ drop n (x ∷ xs) ∷ [])
  two n low high lt more =
      let t = length-take n (x ∷ xs) in
      let d = length-drop n (x ∷ xs) in
      ((omega (arith, t), omega (arith, t)), ((omega (arith, d), omega (arith, d)), tt))

  by : (g b : Bool) → nat_le (length (x ∷ xs)) 64 ≡ b
      → AreSized (cond b ((x ∷ xs) ∷ []) (take (cond g 64 (length (x ∷ xs) / 2)) (x ∷ xs) ∷ drop (cond g 64 (length (x ∷ xs) / 2))
      (x ∷ xs) ∷ []))
  by g true is = ((omega arith, grind (arith, nat_tests)), tt)
  by true false is =
      let more : 64 < length (x ∷ xs) = grind (arith, nat_tests) in two 64 (omega arith) (omega arith) more (omega (arith, le))
  by false false is =
      let more : 64 < length (x ∷ xs) = grind (arith, nat_tests) in
      two (length (x ∷ xs) / 2) (omega (arith, more)) (omega (arith, le)) (omega (arith, more)) (omega (arith, le))

pub parts_map : {A B : Type 0} (f : A → B) (grows : Bool) (xs : List A) → map (λ ys. map f ys) (page_parts grows xs) ≡ page_parts grows
    (map f xs)
parts_map f grows [] = refl
parts_map {A} {B} f grows (x ∷ xs) =
    by (nat_le (length (x ∷ xs)) 64) (cond grows 64 (length (x ∷ xs) / 2))
    ∙ ap (λ n. cond (nat_le (suc n) 64) ((f x ∷ map f xs) ∷ [])
    (take (cond grows 64 (suc n / 2)) (f x ∷ map f xs) ∷ drop (cond grows 64 (suc n / 2)) (f x ∷ map f xs) ∷ []))
    (sym (length_map f xs)) where
      by : (b : Bool) (n : ℕ) → map (λ ys. map f ys) (cond b ((x ∷ xs) ∷ []) (take n (x ∷ xs) ∷ drop n (x ∷ xs) ∷ []))
          ≡ cond b ((f x ∷ map f xs) ∷ []) (take n (f x ∷ map f xs) ∷ drop n (f x ∷ map f xs) ∷ [])
      by true n = refl
      by false n = λ i. sym (take_map f n (x ∷ xs)) i ∷ sym (drop_map f n (x ∷ xs)) i ∷ []

-- ---- one of the shared lists

pub items_at : {X Y Z : Type 0} (shared : List (Arc (Vec X Y) Z)) (i : ℕ) (one : Arc (Vec X Y) Z) (es d : List X) → i < length shared
    → one ≡ get_or shared i one → es ≡ one.value.items → get_or (items_of shared) i d ≡ es
items_at {X} {Y} {Z} shared i one es d lt is items =
    get_or-map (λ (s : Arc (Vec X Y) Z). s.value.items) shared i one d lt
    ∙ ap (λ (s : Arc (Vec X Y) Z). s.value.items) (sym is) ∙ sym items

pub pages_at : {X Y Z V W : Type 0} (shared : List (Arc (Vec (Arc (Vec X Y) Z) V) W)) (i : ℕ) (one : Arc (Vec (Arc (Vec X Y) Z) V) W)
    (pages : List (Arc (Vec X Y) Z)) (d : List (List X)) → i < length shared → one ≡ get_or shared i one → pages ≡ one.value.items
    → get_or (pages_in shared) i d ≡ items_of pages
pages_at {X} {Y} {Z} {V} {W} shared i one pages d lt is items =
    get_or-map (λ (s : Arc (Vec (Arc (Vec X Y) Z) V) W). items_of s.value.items) shared i one d lt
    ∙ ap (λ (s : Arc (Vec (Arc (Vec X Y) Z) V) W). items_of s.value.items) (sym is)
    ∙ ap (λ (ps : List (Arc (Vec X Y) Z)). items_of ps) (sym items)

pub count_items : {X Y Z : Type 0} (shared : List (Arc (Vec X Y) Z)) → length (items_of shared) ≡ length shared
count_items {X} {Y} {Z} shared = length_map (λ (s : Arc (Vec X Y) Z). s.value.items) shared

pub count_books : {X Y Z V W : Type 0} (shared : List (Arc (Vec (Arc (Vec X Y) Z) V) W)) → length (pages_in shared) ≡ length shared
count_books {X} {Y} {Z} {V} {W} shared = length_map (λ (s : Arc (Vec (Arc (Vec X Y) Z) V) W). items_of s.value.items) shared

-- ---- books

-- books of pages: what they hold, and their sizes
pub record AreCut {X : Type 0} (pages : List (List X)) (lists : List (List (List X))) : Type 0 where
  pub entries : entries_in lists ≡ joined pages
  pub books : AreSized lists
  pub sized : AllByRecursion AreSized lists

pub parts_cut : {X : Type 0} (grows : Bool) (pages : List (List X)) → length pages ≤ 128 → AreSized pages
    → AreCut pages (page_parts grows pages)
parts_cut {X} grows pages le sized = record {
  entries = joined_twice (page_parts grows pages) ∙ ap joined (joined_parts grows pages);
  books = sized_parts grows pages le;
  sized = all_parts (λ (xs : List X). (1 ≤ length xs) × (length xs ≤ 64)) grows pages sized;
}

-- the pages of books, as they are of lists
books_twice : {X Y Z V W : Type 0} (books : List (Arc (Vec (Arc (Vec X Y) Z) V) W))
    → map (λ (ps : List (Arc (Vec X Y) Z)). items_of ps) (items_of books) ≡ pages_in books
books_twice {X} {Y} {Z} {V} {W} books =
    mapped_twice (λ (ps : List (Arc (Vec X Y) Z)). items_of ps) (λ (s : Arc (Vec (Arc (Vec X Y) Z) V) W). s.value.items) books

pub are_cut : {X Y Z V W : Type 0} (grows : Bool) (list : List (Arc (Vec X Y) Z)) (new : List (Arc (Vec (Arc (Vec X Y) Z) V) W))
    → length list ≤ 128 → AreSized (items_of list) → items_of new ≡ page_parts grows list → AreCut (items_of list) (pages_in new)
are_cut {X} {Y} {Z} {V} {W} grows list new le sized is =
    subst (λ (books : List (List (List X))). AreCut (items_of list) books) (sym shape)
    (parts_cut grows (items_of list) (omega (arith, count_items list, le)) sized) where
      shape : pages_in new ≡ page_parts grows (items_of list)
      shape =
          sym (books_twice new) ∙ ap (map (λ (ps : List (Arc (Vec X Y) Z)). items_of ps)) is
          ∙ parts_map (λ (s : Arc (Vec X Y) Z). s.value.items) grows list

-- pages in place of those of one book
pub spliced_pages : {X Y Z V W : Type 0} (grows : Bool) (at : ℕ) (new xs : List (Arc (Vec (Arc (Vec X Y) Z) V) W))
    (pages : List (Arc (Vec X Y) Z)) → items_of new ≡ spliced_at at (items_of xs) (page_parts grows pages)
    → pages_in new ≡ spliced_at at (pages_in xs) (page_parts grows (items_of pages))
spliced_pages {X} {Y} {Z} grows at new xs pages is =
    sym (books_twice new)
    ∙ spliced_map (λ (ps : List (Arc (Vec X Y) Z)). items_of ps) at (items_of new) (items_of xs) (page_parts grows pages) is
    ∙ (λ i. spliced_at at (books_twice xs i) (parts_map (λ (s : Arc (Vec X Y) Z). s.value.items) grows pages i))
