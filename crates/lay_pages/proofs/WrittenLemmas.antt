-- A write falls into one of the lists that are joined, and the others stay.
use Rattle.std.proofs.Common.{◌≡◌, ◌∙◌, ◌++◌, List, [], ◌∷◌, Option}
use Rattle.std.proofs.Common.{append_assoc, cond, refl, ap, sym, Bool, true, false}
use Rattle.std.proofs.lemmas.List.{append-nil}
use Rattle.std.specs.Prelude.{filter}
use Rattle.std.specs.declared.cmp.Ordering.{Ordering}
use Rattle.std.specs.declared.cmp.Ordering.TheVariants.{Less}
use Rattle.std.specs.Cmp.{IsTotalOrder}
use Rattle.std.specs.Ordering.{is_lt}
use Rattle.lay_pages.specs.Written.{AllAbove, AllBelow, after_write, higher, lower, written_entries}
use Rattle.lay_pages.proofs.SearchLemmas.{turned}

module _ {K X : Type 0} {R : K → K → Ordering} (total : IsTotalOrder R) where
  pub filter-append : (p : K × X → Bool) (es fs : List (K × X)) → filter p (es ++ fs) ≡ filter p es ++ filter p fs
  filter-append p [] fs = refl
  filter-append p (e ∷ es) fs = by (p e) (filter-append p es fs) where
    by : (b : Bool) → filter p (es ++ fs) ≡ filter p es ++ filter p fs
        → cond b (e ∷ filter p (es ++ fs)) (filter p (es ++ fs)) ≡ cond b (e ∷ filter p es) (filter p es) ++ filter p fs
    by true rest = ap (λ xs. e ∷ xs) rest
    by false rest = rest

  pub lower-below : (k : K) (es : List (K × X)) → AllBelow R k es → lower R k es ≡ es
  lower-below k [] all = refl
  lower-below k (e ∷ es) all =
      ap (λ o. cond (is_lt o) (e ∷ lower R k es) (lower R k es)) all.0 ∙ ap (λ xs. e ∷ xs) (lower-below k es all.1)

  higher-below : (k : K) (es : List (K × X)) → AllBelow R k es → higher R k es ≡ []
  higher-below k [] all = refl
  higher-below k (e ∷ es) all =
      ap (λ o. cond (is_lt o) (e ∷ higher R k es) (higher R k es)) (turned total e.0 k Less all.0) ∙ higher-below k es all.1

  pub higher-above : (k : K) (es : List (K × X)) → AllAbove R k es → higher R k es ≡ es
  higher-above k [] all = refl
  higher-above k (e ∷ es) all =
      ap (λ o. cond (is_lt o) (e ∷ higher R k es) (higher R k es)) all.0 ∙ ap (λ xs. e ∷ xs) (higher-above k es all.1)

  pub lower-above : (k : K) (es : List (K × X)) → AllAbove R k es → lower R k es ≡ []
  lower-above k [] all = refl
  lower-above k (e ∷ es) all =
      ap (λ o. cond (is_lt o) (e ∷ lower R k es) (lower R k es)) (turned total k e.0 Less all.0) ∙ lower-above k es all.1

  -- a write between entries below its key and entries above it
  pub written-between : (k : K) (x : Option X) (low mid high : List (K × X)) → AllBelow R k low → AllAbove R k high
      → after_write R k x (low ++ (mid ++ high)) ≡ low ++ (after_write R k x mid ++ high)
  written-between k x low mid high below above =
      let lows : lower R k (low ++ (mid ++ high)) ≡ low ++ lower R k mid =
      filter-append (λ e. is_lt (R e.0 k)) low (mid ++ high)
      ∙ (λ i. lower-below k low below i ++ filter-append (λ e. is_lt (R e.0 k)) mid high i)
      ∙ (λ i. low ++ (lower R k mid ++ lower-above k high above i)) ∙ ap (λ xs. low ++ xs) (append-nil (lower R k mid)) in
      let highs : higher R k (low ++ (mid ++ high)) ≡ higher R k mid ++ high =
      filter-append (λ e. is_lt (R k e.0)) low (mid ++ high)
      ∙ (λ i. higher-below k low below i ++ filter-append (λ e. is_lt (R k e.0)) mid high i)
      ∙ (λ i. higher R k mid ++ higher-above k high above i) in
      (λ i. lows i ++ (written_entries k x ++ highs i))
      ∙ append_assoc low (lower R k mid) (written_entries k x ++ (higher R k mid ++ high))
      ∙ ap (λ xs. low ++ (lower R k mid ++ xs)) (sym (append_assoc (written_entries k x) (higher R k mid) high))
      ∙ ap (λ xs. low ++ xs) (sym (append_assoc (lower R k mid) (written_entries k x ++ higher R k mid) high))
