-- Many writes: into a part of the entries, one after another, in rising order, and how many entries they leave.
use Rattle.std.proofs.Common.{◌≡◌, ◌∙◌, ◌<◌, ◌≤◌, ◌+◌, ◌++◌, ℕ, zero, suc, List, [], ◌∷◌, Option, None, Some}
use Rattle.std.proofs.Common.{append_assoc, ap, arith, drop, get_or, length, map, refl, subst, sym, take}
use Rattle.std.proofs.lemmas.List.{append-nil, at_drop_more, get_or-map, length-append, take-append-drop}
use Rattle.std.specs.declared.cmp.Ordering.{Ordering}
use Rattle.std.specs.declared.cmp.Ordering.TheVariants.{Less}
use Rattle.std.specs.Cmp.{IsTotalOrder}
use Rattle.std.specs.FinMap.{IsAntisymmetric}
use Rattle.std.specs.List.{AllByRecursion}
use Rattle.std.specs.List.Sorted.{IsStrictlySortedBy}
use Rattle.std.specs.Map.{keys_of}
use Rattle.lay_pages.specs.Shared.{AreBooks, entries_in, joined}
use Rattle.lay_pages.specs.Written.{AllAbove, AllBelow, after_write, higher, lower, written_all, written_entries}
use Rattle.lay_pages.specs.Places.{AreOfPage, IsPageOf, entries_after, entries_before, page_in, with_page}
use Rattle.lay_pages.proofs.OrderLemmas.{all-lower, sorted-written, written-full}
use Rattle.lay_pages.proofs.BookLemmas.{book_at}
use Rattle.lay_pages.proofs.PlaceLemmas.{joined-at, sized-at, sorted-at, sorted-left, sorted-right}
use Rattle.lay_pages.proofs.ShareLemmas.{all_append, drop_map, length_map, take_map}
use Rattle.lay_pages.proofs.WrittenLemmas.{written-between}

-- ---- lists

-- of the first ones of a list one more
pub taken_more : {A : Type 0} (P : A → Type 0) (xs : List A) (n : ℕ) (d : A) → n < length xs → AllByRecursion P (take n xs)
    → P (get_or xs n d) → AllByRecursion P (take (n + 1) xs)
taken_more {A} P xs n d lt all one = subst (λ m. AllByRecursion P (take m xs)) up (by xs n lt all one) where
  up : suc n ≡ n + 1
  up = omega arith

  by : (xs : List A) (n : ℕ) → n < length xs → AllByRecursion P (take n xs) → P (get_or xs n d) → AllByRecursion P (take (suc n) xs)
  by [] n lt all one = absurd (omega arith)
  by (x ∷ xs) zero lt all one = (one, tt)
  by (x ∷ xs) (suc n) lt all one = (all.0, by xs n (omega arith) all.1 one)

-- keys in order, of the first entries of a list and of the others
pub sorted_take : {K X : Type 0} (R : K → K → Ordering) (n : ℕ) (es : List (K × X)) → IsStrictlySortedBy R (keys_of es)
    → IsStrictlySortedBy R (keys_of (take n es))
sorted_take {K} {X} R n es sorted =
    sorted-left R (take n es) (drop n es)
    (subst (λ (fs : List (K × X)). IsStrictlySortedBy R (keys_of fs)) (sym (take-append-drop n es)) sorted)

pub sorted_drop : {K X : Type 0} (R : K → K → Ordering) (n : ℕ) (es : List (K × X)) → IsStrictlySortedBy R (keys_of es)
    → IsStrictlySortedBy R (keys_of (drop n es))
sorted_drop {K} {X} R n es sorted =
    sorted-right R (take n es) (drop n es)
    (subst (λ (fs : List (K × X)). IsStrictlySortedBy R (keys_of fs)) (sym (take-append-drop n es)) sorted)

pub sorted_none : {K X : Type 0} (R : K → K → Ordering) (es : List (K × X)) → es ≡ [] → IsStrictlySortedBy R (keys_of es)
unfolding IsStrictlySortedBy
sorted_none {K} {X} R es none = subst (λ (fs : List (K × X)). IsStrictlySortedBy R (keys_of fs)) (sym none) tt

pub sorted_one : {K : Type 0} (R : K → K → Ordering) (k : K) → IsStrictlySortedBy R (k ∷ [])
unfolding IsStrictlySortedBy
sorted_one R k = (tt, tt)

-- ---- some of the writes, and then the others

pub written_append : {K X : Type 0} (R : K → K → Ordering) (es : List (K × X)) (us vs : List (K × Option X))
    → written_all R es (us ++ vs) ≡ written_all R (written_all R es us) vs
written_append R es [] vs = refl
written_append R es (u ∷ us) vs = written_append R (after_write R u.0 u.1 es) us vs

pub written_parts : {K X : Type 0} (R : K → K → Ordering) (es : List (K × X)) (n : ℕ) (ws : List (K × Option X))
    → written_all R (written_all R es (take n ws)) (drop n ws) ≡ written_all R es ws
written_parts R es n ws = sym (written_append R es (take n ws) (drop n ws)) ∙ ap (written_all R es) (take-append-drop n ws)

module _ {K X : Type 0} {R : K → K → Ordering} (total : IsTotalOrder R) (exact : IsAntisymmetric R) where
  -- entries are below the keys of all writes
  abbrev pub AreBefore : List (K × X) → List (K × Option X) → Type 0
  AreBefore low ws = AllByRecursion (λ w. AllBelow R w.0 low) ws

  abbrev pub AreBehind : List (K × X) → List (K × Option X) → Type 0
  AreBehind high ws = AllByRecursion (λ w. AllAbove R w.0 high) ws

  -- writes between entries below their keys and entries above them
  pub written_between : (low mid high : List (K × X)) (ws : List (K × Option X)) → AreBefore low ws → AreBehind high ws
      → written_all R (low ++ (mid ++ high)) ws ≡ low ++ (written_all R mid ws ++ high)
  written_between low mid high [] below above = refl
  written_between low mid high (w ∷ ws) below above =
      ap (λ es. written_all R es ws) (written-between total w.0 w.1 low mid high below.0 above.0)
      ∙ written_between low (after_write R w.0 w.1 mid) high ws below.1 above.1

  -- writes behind entries
  none_behind : (ws : List (K × Option X)) → AreBehind [] ws
  none_behind [] = tt
  none_behind (w ∷ ws) = (tt, none_behind ws)

  written_behind : (low high : List (K × X)) (ws : List (K × Option X)) → AreBefore low ws
      → written_all R (low ++ high) ws ≡ low ++ written_all R high ws
  written_behind low high ws below =
      ap (λ es. written_all R (low ++ es) ws) (sym (append-nil high))
      ∙ written_between low high [] ws below (none_behind ws) ∙ ap (λ es. low ++ es) (append-nil (written_all R high ws))

  -- what is below a key is below those behind it
  below_more : (k q : K) (es : List (K × X)) → R k q ≡ Less → AllByRecursion (λ x. R x k ≡ Less) (keys_of es) → AllBelow R q es
  below_more k q [] less all = tt
  below_more k q (e ∷ es) less all = (total.trans e.0 k q all.0 less, below_more k q es less all.1)

  entry_below : (k q : K) (x : Option X) → R k q ≡ Less → AllBelow R q (written_entries k x)
  entry_below k q None less = tt
  entry_below k q (Some x) less = (less, tt)

  -- a write, and what is below its key, are below the keys that follow
  before_rest : (k : K) (x : Option X) (es : List (K × X)) (ws : List (K × Option X)) → AllByRecursion (λ y. R k y ≡ Less) (keys_of ws)
      → AreBefore (lower R k es ++ written_entries k x) ws
  before_rest k x es [] all = tt
  before_rest k x es (w ∷ ws) all = (
    all_append (λ (e : K × X). R e.0 w.0 ≡ Less) (lower R k es) (written_entries k x)
        (below_more k w.0 (lower R k es) all.0 (all-lower total exact k es)) (entry_below k w.0 x all.0),
    before_rest k x es ws all.1,
  )

  -- one write more, in rising order
  pub write_more : (new one two rest low high : List (K × X)) (ws : List (K × Option X)) (i : ℕ) (w d : K × Option X)
      (whole : List (K × X)) → IsStrictlySortedBy R (keys_of ws) → i < length ws → w ≡ get_or ws i d → low ≡ lower R w.0 rest
      → high ≡ higher R w.0 rest → one ≡ new ++ low → two ≡ one ++ written_entries w.0 w.1
      → new ++ written_all R rest (drop i ws) ≡ whole → two ++ written_all R high (drop (i + 1) ws) ≡ whole
  unfolding IsStrictlySortedBy
  write_more new one two rest low high ws i w d whole rising lt is lows highs first second so_far =
      let vs = drop (i + 1) ws in
      let up : w ∷ vs ≡ drop i ws = ap (λ v. v ∷ vs) is ∙ sym (at_drop_more (λ (us : List (K × Option X)). us) ws i d lt) in
      let sorted = subst (λ (us : List (K × Option X)). IsStrictlySortedBy R (keys_of us)) (sym up) (sorted_drop R i ws rising) in
      let front = lower R w.0 rest ++ written_entries w.0 w.1 in
      let turn : written_all R rest (w ∷ vs) ≡ front ++ written_all R (higher R w.0 rest) vs =
      ap (λ es. written_all R es vs) (sym (append_assoc (lower R w.0 rest) (written_entries w.0 w.1) (higher R w.0 rest)))
      ∙ written_behind front (higher R w.0 rest) vs (before_rest w.0 w.1 rest vs sorted.0) in
      ap (λ es. es ++ written_all R high vs) (second ∙ ap (λ es. es ++ written_entries w.0 w.1) first)
      ∙ (λ k. ((new ++ lows k) ++ written_entries w.0 w.1) ++ written_all R (highs k) vs)
      ∙ ap (λ es. es ++ written_all R (higher R w.0 rest) vs) (append_assoc new (lower R w.0 rest) (written_entries w.0 w.1))
      ∙ append_assoc new front (written_all R (higher R w.0 rest) vs) ∙ ap (λ es. new ++ es) (sym turn)
      ∙ ap (λ us. new ++ written_all R rest us) up ∙ so_far

module _ {K X : Type 0} {R : K → K → Ordering} (total : IsTotalOrder R) (exact : IsAntisymmetric R) where
  -- the entries stay in order
  pub sorted_all : (es : List (K × X)) (ws : List (K × Option X)) → IsStrictlySortedBy R (keys_of es)
      → IsStrictlySortedBy R (keys_of (written_all R es ws))
  sorted_all es [] sorted = sorted
  sorted_all es (w ∷ ws) sorted = sorted_all (after_write R w.0 w.1 es) ws (sorted-written total exact w.0 w.1 es sorted)

  -- one more for each write at most
  pub full_all : (es : List (K × X)) (ws : List (K × Option X)) → IsStrictlySortedBy R (keys_of es)
      → length (written_all R es ws) ≤ length es + length ws
  full_all es [] sorted = omega arith
  full_all es (w ∷ ws) sorted =
      omega (
        arith,
        full_all (after_write R w.0 w.1 es) ws (sorted-written total exact w.0 w.1 es sorted),
        written-full total exact w.0 w.1 es sorted,
      )

-- ---- a page of the books

-- all entries are those before the page, its own and those after it
pub page_within : {A : Type 0} (books : List (List (List A))) (book page : ℕ) → book < length books → page < length (get_or books book [])
    → entries_in books ≡ with_page books book page (page_in books book page)
page_within {A} books book page in_books in_pages =
    let own = get_or books book [] in
    let up : suc page ≡ page + 1 = omega arith in
    let more : suc book ≡ book + 1 = omega arith in
    let front = joined (take page own) in
    let back = joined (drop (page + 1) own) in
    let behind = entries_in (drop (book + 1) books) in
    let one = page_in books book page in
    let in_book : joined own ≡ front ++ (one ++ back) =
    joined-at own page [] in_pages ∙ (λ i. front ++ (one ++ joined (drop (up i) own))) in
    let here : book < length (map joined books) = omega (arith, in_books, length_map joined books) in
    joined-at (map joined books) book [] here
    ∙ (λ i. joined (take_map joined book books i)
    ++ (get_or-map joined books book [] [] in_books i ++ joined (drop_map joined (more i) books i)))
    ∙ (λ i. entries_in (take book books) ++ (in_book i ++ behind))
    ∙ ap (λ es. entries_in (take book books) ++ es) (append_assoc front (one ++ back) behind)
    ∙ ap (λ es. entries_in (take book books) ++ (front ++ es)) (append_assoc one back behind)
    ∙ sym (append_assoc (entries_in (take book books)) front (one ++ (back ++ behind)))

module _ {K X : Type 0} {R : K → K → Ordering} (books : List (List (List (K × X)))) (book page : ℕ) where
  -- a key that falls into a page is above what is before it, and below what is after it
  below_page : (k : K) → IsPageOf R k books book page → AllBelow R k (entries_before books book page)
  below_page k falls =
      all_append (λ (e : K × X). R e.0 k ≡ Less) (entries_in (take book books)) (joined (take page (get_or books book [])))
      (subst (λ (ls : List (List (K × X))). AllBelow R k (joined ls)) (take_map joined book books) falls.of_books.below)
      falls.of_pages.below

  above_page : (k : K) → IsPageOf R k books book page → AllAbove R k (entries_after books book page)
  above_page k falls =
      all_append (λ (e : K × X). R k e.0 ≡ Less) (joined (drop (page + 1) (get_or books book []))) (entries_in (drop (book + 1) books))
      falls.of_pages.above
      (subst (λ (ls : List (List (K × X))). AllAbove R k (joined ls)) (drop_map joined (book + 1) books) falls.of_books.above)

  all_below : (total : IsTotalOrder R) (exact : IsAntisymmetric R) (ws : List (K × Option X)) → AreOfPage R ws books book page
      → AreBefore total exact (entries_before books book page) ws
  all_below total exact [] all = tt
  all_below total exact (w ∷ ws) all = (below_page w.0 all.0, all_below total exact ws all.1)

  all_above : (total : IsTotalOrder R) (exact : IsAntisymmetric R) (ws : List (K × Option X)) → AreOfPage R ws books book page
      → AreBehind total exact (entries_after books book page) ws
  all_above total exact [] all = tt
  all_above total exact (w ∷ ws) all = (above_page w.0 all.0, all_above total exact ws all.1)

  -- writes that fall into a page leave all others
  pub written_page : (total : IsTotalOrder R) (exact : IsAntisymmetric R) (ws : List (K × Option X)) → book < length books
      → page < length (get_or books book [])
      → AreOfPage R ws books book page
      → written_all R (entries_in books) ws ≡ with_page books book page (written_all R (page_in books book page) ws)
  written_page total exact ws in_books in_pages all =
      ap (λ es. written_all R es ws) (page_within books book page in_books in_pages)
      ∙ written_between total exact (entries_before books book page) (page_in books book page) (entries_after books book page) ws
      (all_below total exact ws all) (all_above total exact ws all)

-- what is so where writes fall into a page, and these are its entries after them
pub record IsWritten {K X : Type 0} (R : K → K → Ordering) (books : List (List (List (K × X)))) (book page : ℕ)
    (ws : List (K × Option X)) (entries : List (K × X)) : Type 0 where
  pub is : written_all R (entries_in books) ws ≡ with_page books book page entries
  pub sorted : IsStrictlySortedBy R (keys_of (with_page books book page entries))
  pub few : length entries ≤ 64 + length ws
  pub count : length (with_page books book page entries) + length (page_in books book page) ≡ length (entries_in books) + length entries

pub page_fits : {A : Type 0} (books : List (List (List A))) (book page : ℕ) → book < length books → page < length (get_or books book [])
    → length (page_in books book page) ≤ length (entries_in books)
page_fits books book page in_books in_pages =
    let one = page_in books book page in
    omega (
      arith,
      ap length (page_within books book page in_books in_pages),
      length-append (entries_before books book page) (one ++ entries_after books book page),
      length-append one (entries_after books book page),
    )

pub sorted_page : {K X : Type 0} (R : K → K → Ordering) (books : List (List (List (K × X)))) (book page : ℕ) → AreBooks R books
    → book < length books → page < length (get_or books book []) → IsStrictlySortedBy R (keys_of (page_in books book page))
sorted_page R books book page kept in_books in_pages =
    sorted-at R (get_or books book []) page [] in_pages (book_at R books book kept in_books).sorted

pub page_written : {K X : Type 0} {R : K → K → Ordering} (total : IsTotalOrder R) (exact : IsAntisymmetric R)
    (books : List (List (List (K × X)))) (book page : ℕ) (ws : List (K × Option X)) (one entries : List (K × X)) → AreBooks R books
    → book < length books → page < length (get_or books book []) → AreOfPage R ws books book page → one ≡ page_in books book page
    → entries ≡ written_all R one ws → IsWritten R books book page ws entries
page_written {K} {X} {R} total exact books book page ws one entries kept in_books in_pages falls one_is is =
    let own = get_or books book [] in
    let full = (sized-at own page [] in_pages (book_at R books book kept in_books).sized).1 in
    let sorted = sorted_page R books book page kept in_books in_pages in
    let here : entries ≡ written_all R (page_in books book page) ws = is ∙ ap (λ es. written_all R es ws) one_is in
    let all : written_all R (entries_in books) ws ≡ with_page books book page entries =
    written_page books book page total exact ws in_books in_pages falls ∙ ap (with_page books book page) (sym here) in
    let before = entries_before books book page in
    let after = entries_after books book page in
    record {
      is = all;
      sorted = subst (λ (es : List (K × X)). IsStrictlySortedBy R (keys_of es)) all
          (sorted_all total exact (entries_in books) ws kept.sorted);
      few = omega (arith, ap length here, full_all total exact (page_in books book page) ws sorted, full);
      count = omega (
        arith,
        ap length (page_within books book page in_books in_pages),
        length-append before (page_in books book page ++ after),
        length-append (page_in books book page) after,
        length-append before (entries ++ after),
        length-append entries after,
      );
    }
