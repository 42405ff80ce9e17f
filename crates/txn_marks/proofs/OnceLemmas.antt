-- Lists that are brought in order, each element once: they have the elements that they had.
use Rattle.std.proofs.Common.{◌≡◌, Bool, true, false, cond, ◌||◌, List, [], ◌∷◌, refl, sym, ap, ◌∙◌}
use Rattle.std.proofs.lemmas.List.Filters.{dedup_is}
use Rattle.std.proofs.lemmas.List.Sorted.{list_any-IsPermutation}
use Rattle.std.specs.List.{dedup, dedup_from, list_any}
use Rattle.std.specs.List.Retain.{DiffersFromLast, IsFiltered}
use Rattle.std.specs.List.Sorted.{IsPermutation}
use Rattle.std.specs.Cmp.{Equal-is}
use Rattle.std.specs.FinSet.{contains-from_list, from_list, same_set}
use Rattle.txn_commands.specs.declared.element.Element.{Element}
use Rattle.txn_commands.specs.Elements.{element_cmp, element_eq, elements_exact, elements_total}

twice : (a b : Bool) → (a || b) ≡ (a || (a || b))
twice true b = refl
twice false b = refl

-- of any kind, with a test that tells elements apart
module _ {X : Type 0} (same : X → X → Bool) (exact : (x y : X) → same x y ≡ true → x ≡ y) where
  once_from : (xs : List X) (k p : X) → list_any (same p) (dedup_from same k xs) ≡ (same p k || list_any (same p) xs)
  once_from [] k p = refl
  once_from (x ∷ xs) k p = by (same x k) refl (once_from xs k p) (once_from xs x p) where
    by : (b : Bool) → same x k ≡ b → list_any (same p) (dedup_from same k xs) ≡ (same p k || list_any (same p) xs) →
        list_any (same p) (dedup_from same x xs) ≡ (same p x || list_any (same p) xs) →
        list_any (same p) (cond b (dedup_from same k xs) (k ∷ dedup_from same x xs))
        ≡ (same p k || (same p x || list_any (same p) xs))
    by true is kept rest =
        kept ∙ twice (same p k) (list_any (same p) xs)
        ∙ ap (λ y. same p k || (same p y || list_any (same p) xs)) (sym (exact x k is))
    by false is kept rest = ap (λ b. same p k || b) rest

  once_has : (xs : List X) (p : X) → list_any (same p) (dedup same xs) ≡ list_any (same p) xs
  once_has [] p = refl
  once_has (x ∷ xs) p = once_from xs x p

  pub once_each : (all sorted once : List X) → IsPermutation all sorted → IsFiltered (DiffersFromLast same) [] sorted once →
      (p : X) → list_any (same p) once ≡ list_any (same p) all
  once_each all sorted once moved filtered p =
      ap (list_any (same p)) (dedup_is same sorted once filtered) ∙ once_has sorted p
      ∙ sym (list_any-IsPermutation (same p) all sorted moved)

-- ---- elements of a layout

-- each once, they are the same set
pub same_elements : (all sorted once : List Element) → IsPermutation all sorted → IsFiltered (DiffersFromLast element_eq) [] sorted once →
    from_list {R = element_cmp} once ≡ from_list all
same_elements all sorted once moved filtered = same_set elements_total elements_exact _ _ (λ e.
    contains-from_list elements_total once e
    ∙ once_each element_eq (λ x y h. elements_exact x y ((Equal-is (element_cmp x y)).0 h)) all sorted once moved filtered e
    ∙ sym (contains-from_list elements_total all e))
