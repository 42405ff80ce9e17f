-- All elements of a footprint.
use Rattle.std.proofs.Common.{◌≡◌, Bool, true, false, not, ◌||◌, ◌&&◌, List, [], ◌∷◌, refl, sym, ap, ◌∙◌}
use Rattle.std.specs.FinSet.{from_list, items}
use Rattle.std.specs.List.{list_all, list_any}
use Rattle.txn_commands.specs.declared.element.Element.{Element}
use Rattle.txn_commands.specs.Elements.{Touched, element_cmp}
use Rattle.txn_marks.proofs.SetLemmas.{all_items}

any_not : {X : Type 0} (p : X → Bool) (xs : List X) → list_any p xs ≡ not (list_all (λ x. not (p x)) xs)
any_not p [] = refl
any_not p (x ∷ xs) = ap (λ b. p x || b) (any_not p xs) ∙ by (p x) (list_all (λ x. not (p x)) xs) where
  by : (a b : Bool) → (a || not b) ≡ not (not a && b)
  by true b = refl
  by false b = refl

-- one of a tree's elements passes where one of their set does
pub any_items : (p : Element → Bool) (ks : List Element) → list_any p ks ≡ list_any p (items (from_list {R = element_cmp} ks))
any_items p ks =
    any_not p ks ∙ ap not (all_items (λ e. not (p e)) ks) ∙ sym (any_not p (items (from_list {R = element_cmp} ks)))

pub any_so : (p : Element → Bool) (keys : List Element) (elements : Touched) → from_list {R = element_cmp} keys ≡ elements →
    list_any p keys ≡ list_any p (items elements)
any_so p keys elements are = any_items p keys ∙ ap (λ (s : Touched). list_any p (items s)) are
