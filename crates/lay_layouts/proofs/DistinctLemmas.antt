-- Entries whose keys differ, inserted one after the other from the front, make the map of their list.
use Rattle.std.proofs.Common.{◌≡◌, Bool, true, false, List, [], ◌∷◌, Option, Some, None, cond, refl, ap, sym, ◌∙◌}
use Rattle.std.specs.declared.cmp.Ordering.{Ordering}
use Rattle.std.specs.Ordering.{eq_by_cmp}
use Rattle.std.specs.Cmp.{Equal-is, IsTotalOrder}
use Rattle.std.specs.FinMap.{FinMap, IsAntisymmetric, empty, find, from_entries, get, get-empty, get-from_entries, get-insert}
use Rattle.std.specs.FinMap.{insert, same_map}

-- no key is found again behind it
abbrev pub AreDistinct : {K X : Type 0} → (K → K → Ordering) → List (K × X) → Type 0
AreDistinct R [] = Unit {0}
AreDistinct R (e ∷ es) = (find R e.0 es ≡ None) × AreDistinct R es

-- the map with these entries inserted, the first of them first
abbrev pub inserted : {K X : Type 0} {R : K → K → Ordering} → FinMap R X → List (K × X) → FinMap R X
inserted m [] = m
inserted m (e ∷ es) = inserted (insert m e.0 e.1) es

-- the first value that is there
abbrev pub or_else : {X : Type 0} → Option X → Option X → Option X
or_else None old = old
or_else (Some x) old = Some x

pub or_none : {X : Type 0} (o : Option X) → or_else o None ≡ o
or_none None = refl
or_none (Some x) = refl

module _ {K X : Type 0} {R : K → K → Ordering} (total : IsTotalOrder R) (exact : IsAntisymmetric R) where
  get-inserted : (m : FinMap R X) (es : List (K × X)) (q : K) → AreDistinct R es → get (inserted m es) q ≡ or_else (find R q es) (get m q)
  get-inserted m [] q h = refl
  get-inserted m (e ∷ es) q h =
      get-inserted (insert m e.0 e.1) es q h.1 ∙ ap (or_else (find R q es)) (get-insert total m e.0 e.1 q)
      ∙ by_key (eq_by_cmp R q e.0) refl where
        by_key : (b : Bool) → eq_by_cmp R q e.0 ≡ b
            → or_else (find R q es) (cond b (Some e.1) (get m q)) ≡ or_else (cond b (Some e.1) (find R q es)) (get m q)
        by_key true is =
            let none : find R q es ≡ None = ap (λ k. find R k es) (exact q e.0 ((Equal-is (R q e.0)).0 is)) ∙ h.0 in
            ap (λ o. or_else o (Some e.1)) none
        by_key false is = refl

  pub inserted-empty : (es : List (K × X)) → AreDistinct R es → inserted empty es ≡ from_entries {R = R} es
  inserted-empty es h = same_map total exact _ _ (λ q. get-inserted empty es q h ∙ ap (or_else (find R q es)) (get-empty R q)
      ∙ or_none (find R q es) ∙ sym (get-from_entries total es q))
