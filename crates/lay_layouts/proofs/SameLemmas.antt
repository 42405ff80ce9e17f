-- Equality of trees: a test of their entries, entry by entry, is that of their maps.
use Rattle.std.proofs.Common.{◌≡◌, Bool, true, false, List, length, nat_eq, ap, refl, ◌∙◌}
use Rattle.std.specs.declared.cmp.Ordering.{Ordering}
use Rattle.std.specs.Map.{keys_of}
use Rattle.std.specs.Cmp.{IsTotalOrder}
use Rattle.std.specs.Cmp.Lexicographic.{as_long, pointwise}
use Rattle.std.specs.FinMap.{entries, from_entries}
use Rattle.std.specs.List.Sorted.{IsStrictlySortedBy}
use Rattle.std.proofs.lemmas.Bool.Decides.{Decides-eqb}
use Rattle.lay_layouts.specs.SameMap.{keyed_value_eq, map_eq}
use Rattle.lay_layouts.proofs.MapLemmas.{entries_again}

-- the entries of the maps of two trees are compared as those of the trees
pub map_eq-of : {K X : Type 0} (R : K → K → Ordering) → IsTotalOrder R
    → (key_eq : K → K → Bool) (value_eq : X → X → Bool) (es fs : List (K × X)) →
    IsStrictlySortedBy R (keys_of es) → IsStrictlySortedBy R (keys_of fs)
    → map_eq key_eq value_eq (from_entries {R = R} es) (from_entries {R = R} fs) ≡ pointwise (keyed_value_eq key_eq value_eq) es fs
unfolding map_eq
map_eq-of R total key_eq value_eq es fs sorted_es sorted_fs =
    let same = keyed_value_eq key_eq value_eq in
    ap (λ xs. pointwise same xs (entries (from_entries {R = R} fs))) (entries_again R total es sorted_es)
    ∙ ap (pointwise same es) (entries_again R total fs sorted_fs)

-- lists of different lengths differ
pub of_lengths : {A : Type 0} (same : A → A → Bool) (xs ys : List A) → nat_eq (length xs) (length ys) ≡ false → pointwise same xs ys ≡ false
of_lengths same xs ys lens = by_answer (pointwise same xs ys) refl where
  by_answer : (b : Bool) → pointwise same xs ys ≡ b → b ≡ false
  by_answer true h = let t = (Decides-eqb (length xs) (length ys)).1 (as_long same xs ys h) in cc
  by_answer false h = refl
