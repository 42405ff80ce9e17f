-- The entries before a key and those after it: in which page they are, and which of them are lent first.
use Rattle.std.proofs.Common.{◌≡◌, ◌∙◌, ◌≤◌, ◌+◌, ◌++◌, ℕ, suc, Bool, true, false, true≢false, List, [], ◌∷◌, Option, Some, None}
use Rattle.std.proofs.Common.{append_assoc, ap, arith, cond}
use Rattle.std.proofs.Common.{drop, get_or, length, map, nat_eq, refl, subst, sym, take}
use Rattle.std.proofs.lemmas.Bool.Decides.{nat_tests}
use Rattle.std.proofs.lemmas.List.{append-nil, get_or-map}
use Rattle.std.specs.Prelude.{not}
use Rattle.std.specs.declared.cmp.Ordering.{Ordering}
use Rattle.std.specs.declared.cmp.Ordering.TheVariants.{Equal, Greater, Less}
use Rattle.std.specs.Cmp.{IsTotalOrder}
use Rattle.std.specs.FinMap.{IsAntisymmetric}
use Rattle.std.specs.List.{AllByRecursion}
use Rattle.std.specs.List.Sorted.{IsStrictlySortedBy}
use Rattle.std.specs.Map.{keys_of}
use Rattle.std.specs.Option.{MatchOption}
use Rattle.std.specs.Ordering.{is_eq, is_lt}
use denote.Ref.{Bor}
use Rattle.lay_pages.specs.Shared.{entries_in, joined}
use Rattle.lay_pages.specs.Written.{AllAbove, IsPlace, first_entry, from_key, higher, last_entry, lent_entry, lower}
use Rattle.lay_pages.proofs.PlaceLemmas.{joined-at}
use Rattle.lay_pages.proofs.SearchLemmas.{turned}
use Rattle.lay_pages.proofs.ShareLemmas.{take_map}
use Rattle.lay_pages.proofs.WrittenLemmas.{filter-append, higher-above, lower-above, lower-below}
use Rattle.lay_pages.proofs.LastLemmas.{last_append}
use Rattle.lay_pages.proofs.PageOfLemmas.{book_inside}
use Rattle.lay_pages.specs.Places.{IsPageOf, entries_before, page_in}

-- ---- before a key

module _ {K X : Type 0} {R : K → K → Ordering} (total : IsTotalOrder R) where
  -- of lists that are joined: those of the lists before the one into which the key falls, and some of that one
  lower-level : (k : K) (lists : List (List (K × X))) (at : ℕ) (d : List (K × X)) → IsPlace R k lists at
      → lower R k (joined lists) ≡ joined (take at lists) ++ lower R k (get_or lists at d)
  lower-level k lists at d place =
      let up : suc at ≡ at + 1 = omega arith in
      let before = joined (take at lists) in
      let one = get_or lists at d in
      ap (lower R k) (joined-at lists at d place.in_range)
      ∙ filter-append total (λ e. is_lt (R e.0 k)) before (one ++ joined (drop (suc at) lists))
      ∙ (λ i. lower-below total k before place.below i ++ filter-append total (λ e. is_lt (R e.0 k)) one (joined (drop (suc at) lists)) i)
      ∙ (λ i. before ++ (lower R k one ++ lower R k (joined (drop (up i) lists))))
      ∙ (λ i. before ++ (lower R k one ++ lower-above total k (joined (drop (at + 1) lists)) place.above i))
      ∙ ap (λ es. before ++ es) (append-nil (lower R k one))

  -- of books: the entries before the page into which the key falls, and some of that page
  lower-in : (k : K) (books : List (List (List (K × X)))) (book page : ℕ) → IsPageOf R k books book page
      → lower R k (entries_in books) ≡ entries_before books book page ++ lower R k (page_in books book page)
  lower-in k books book page falls =
      let here = get_or-map joined books book [] [] (book_inside k books book page falls) in
      let before = joined (take page (get_or books book [])) in
      let low = lower R k (page_in books book page) in
      lower-level k (map joined books) book [] falls.of_books
      ∙ (λ i. joined (take_map joined book books i) ++ lower R k (here i))
      ∙ ap (λ es. entries_in (take book books) ++ es) (lower-level k (get_or books book []) page [] falls.of_pages)
      ∙ sym (append_assoc (entries_in (take book books)) before low)

-- ---- the last of them

module _ {K X : Type 0} {R : K → K → Ordering} (total : IsTotalOrder R) (k : K) (books : List (List (List (K × X)))) (book page : ℕ) where
  -- where none is in the page into which the key falls, it is the last before that page
  pub last_none : IsPageOf R k books book page → (low : List (K × X)) → low ≡ lower R k (page_in books book page)
      → nat_eq (length low) 0 ≡ true
      → last_entry (entries_before books book page) ≡ last_entry (lower R k (entries_in books))
  last_none falls low is none =
      let before = entries_before books book page in
      ap last_entry (sym (append-nil before)) ∙ (λ i. last_entry (before ++ sym (empty low none) i)) ∙ (λ i. last_entry (before ++ is i))
      ∙ ap last_entry (sym (lower-in total k books book page falls))
    where
      empty : (es : List (K × X)) → nat_eq (length es) 0 ≡ true → es ≡ []
      empty [] h = refl
      empty (e ∷ es) h =
          let same : length (e ∷ es) ≡ 0 = grind (arith, nat_tests) in absurd (omega (arith, same))

  -- else it is the last of these
  pub last_some : IsPageOf R k books book page → (low : List (K × X)) → low ≡ lower R k (page_in books book page)
      → nat_eq (length low) 0 ≡ false → last_entry low ≡ last_entry (lower R k (entries_in books))
  last_some falls low is other =
      sym (last_append (entries_before books book page) low (some low other))
      ∙ (λ i. last_entry (entries_before books book page ++ is i))
      ∙ ap last_entry (sym (lower-in total k books book page falls))
    where
      some : (es : List (K × X)) → nat_eq (length es) 0 ≡ false → 1 ≤ length es
      some [] h = absurd (true≢false h)
      some (e ∷ es) h = omega arith

-- ---- after a key

-- what an iterator lends is the first of those that were left
lent_first : {K V : Type 0} (lent : Option (K × Bor V)) (es fs : List (K × V))
    → MatchOption lent ((es ≡ []) × (fs ≡ [])) (λ x. es ≡ (x.0, x.1.now) ∷ fs) → lent_entry lent ≡ first_entry es
lent_first None es fs steps = ap first_entry (sym steps.0)
lent_first (Some x) es fs steps = ap first_entry (sym steps)

module _ {K X : Type 0} {R : K → K → Ordering} (total : IsTotalOrder R) (exact : IsAntisymmetric R) (k : K) where
  -- those after the key are among those from it on
  higher-from : (es : List (K × X)) → higher R k es ≡ higher R k (from_key R k es)
  higher-from [] = refl
  higher-from (e ∷ es) = by (R e.0 k) refl (higher-from es) where
    by : (o : Ordering) → R e.0 k ≡ o → higher R k es ≡ higher R k (from_key R k es)
        → higher R k (e ∷ es) ≡ higher R k (cond (not (is_lt (R e.0 k))) (e ∷ from_key R k es) (from_key R k es))
    by Less is rest =
        ap (λ o. cond (is_lt o) (e ∷ higher R k es) (higher R k es)) (turned total e.0 k Less is) ∙ rest
        ∙ ap (λ o. higher R k (cond (not (is_lt o)) (e ∷ from_key R k es) (from_key R k es))) (sym is)
    by Equal is rest =
        ap (λ es. cond (is_lt (R k e.0)) (e ∷ es) es) rest
        ∙ ap (λ o. higher R k (cond (not (is_lt o)) (e ∷ from_key R k es) (from_key R k es))) (sym is)
    by Greater is rest =
        ap (λ es. cond (is_lt (R k e.0)) (e ∷ es) es) rest
        ∙ ap (λ o. higher R k (cond (not (is_lt o)) (e ∷ from_key R k es) (from_key R k es))) (sym is)

  -- none is before it
  all-from : (es : List (K × X)) → AllByRecursion (λ (e : K × X). not (is_lt (R e.0 k)) ≡ true) (from_key R k es)
  all-from [] = tt
  all-from (e ∷ es) = by (not (is_lt (R e.0 k))) refl (all-from es) where
    by : (b : Bool) → not (is_lt (R e.0 k)) ≡ b → AllByRecursion (λ (e : K × X). not (is_lt (R e.0 k)) ≡ true) (from_key R k es)
        → AllByRecursion (λ (e : K × X). not (is_lt (R e.0 k)) ≡ true) (cond b (e ∷ from_key R k es) (from_key R k es))
    by true is rest = (is, rest)
    by false is rest = rest

  -- where none is left from the key on, none is after it
  pub above_none : (es left : List (K × X)) → left ≡ from_key R k es → left ≡ [] → first_entry (higher R k es) ≡ None
  above_none es left is none = ap first_entry (higher-from es ∙ ap (higher R k) (sym is ∙ none))

  -- behind the key's own entry are those after it
  higher-behind : (es : List (K × X)) (e : K × X) (fs : List (K × X)) → from_key R k es ≡ e ∷ fs
      → IsStrictlySortedBy R (keys_of (from_key R k es)) → is_eq (R e.0 k) ≡ true → higher R k es ≡ fs
  unfolding IsStrictlySortedBy
  higher-behind es e fs is sorted same =
      higher-from es ∙ ap (higher R k) is ∙ by (R e.0 k) refl same where
        all : (gs : List (K × X)) → AllByRecursion (λ y. R e.0 y ≡ Less) (keys_of gs) → AllAbove R e.0 gs
        all [] h = tt
        all (g ∷ gs) h = (h.0, all gs h.1)

        above : R e.0 k ≡ Equal → AllAbove R k fs
        above tie =
            let order = subst (λ (gs : List (K × X)). IsStrictlySortedBy R (keys_of gs)) is sorted in
            subst (λ q. AllAbove R q fs) (exact e.0 k tie) (all fs order.0)

        by : (o : Ordering) → R e.0 k ≡ o → is_eq o ≡ true → higher R k (e ∷ fs) ≡ fs
        by Less at h = absurd cc
        by Equal at h =
            ap (λ o. cond (is_lt o) (e ∷ higher R k fs) (higher R k fs)) (turned total e.0 k Equal at) ∙ higher-above total k fs (above at)
        by Greater at h = absurd cc

  -- so what is lent second, behind the key's own entry, is the first after the key
  pub above_behind : (es left rest behind : List (K × X)) (e : K × X) (lent : Option (K × Bor X)) → left ≡ from_key R k es
      → IsStrictlySortedBy R (keys_of left) → left ≡ e ∷ rest → is_eq (R e.0 k) ≡ true
      → MatchOption lent ((rest ≡ []) × (behind ≡ [])) (λ x. rest ≡ (x.0, x.1.now) ∷ behind)
      → lent_entry lent ≡ first_entry (higher R k es)
  above_behind es left rest behind e lent is sorted first same steps =
      lent_first lent rest behind steps
      ∙ ap first_entry (sym (higher-behind es e rest (sym is ∙ first)
      (subst (λ (gs : List (K × X)). IsStrictlySortedBy R (keys_of gs)) is sorted) same))

  -- the first from the key on is the first after it, unless it is the key's own entry
  higher-first : (es : List (K × X)) (e : K × X) (fs : List (K × X)) → from_key R k es ≡ e ∷ fs → is_eq (R e.0 k) ≡ false
      → Some e ≡ first_entry (higher R k es)
  higher-first es e fs is other =
      sym (ap first_entry (higher-from es ∙ ap (higher R k) is) ∙ by (R e.0 k) refl other kept) where
        kept : not (is_lt (R e.0 k)) ≡ true
        kept = (subst (λ (gs : List (K × X)). AllByRecursion (λ (g : K × X). not (is_lt (R g.0 k)) ≡ true) gs) is (all-from es)).0

        by : (o : Ordering) → R e.0 k ≡ o → is_eq o ≡ false → not (is_lt (R e.0 k)) ≡ true → first_entry (higher R k (e ∷ fs)) ≡ Some e
        by Less at h keeps = absurd cc
        by Equal at h keeps = absurd cc
        by Greater at h keeps = ap (λ o. first_entry (cond (is_lt o) (e ∷ higher R k fs) (higher R k fs))) (turned total e.0 k Greater at)

  -- so it is what is lent first
  pub above_first : (es left rest : List (K × X)) (e : K × X) → left ≡ from_key R k es → left ≡ e ∷ rest → is_eq (R e.0 k) ≡ false
      → Some e ≡ first_entry (higher R k es)
  above_first es left rest e is first other = higher-first es e rest (sym is ∙ first) other
