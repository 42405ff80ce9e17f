-- Equality of finite maps by that of their keys and values: the test, and that it decides.
use Rattle.std.specs.Prelude.{◌≡◌, Bool, ◌&&◌, refl}
use Rattle.std.specs.declared.cmp.Ordering.{Ordering}
use Rattle.std.specs.FinMap as map
use Rattle.std.specs.FinMap.{FinMap}
use Rattle.std.specs.Bool.{Decides}
use Rattle.std.specs.Cmp.Lexicographic.{pointwise}
use Rattle.std.proofs.Common.{ap}
use Rattle.std.proofs.lemmas.Bool.Decides.{Decides-and, Decides-like}
use Rattle.std.proofs.lemmas.Slice.Eq.{slice_eq-Decides}

-- the same value under the same key
abbrev pub keyed_value_eq : {K X : Type 0} → (K → K → Bool) → (X → X → Bool) → K × X → K × X → Bool
keyed_value_eq key_eq value_eq p q = key_eq p.0 q.0 && value_eq p.1 q.1

entry_eq-Decides : {K X : Type 0} (key_eq : K → K → Bool) (value_eq : X → X → Bool)
    → ((a b : K) → Decides (key_eq a b) (a ≡ b)) → ((x y : X) → Decides (value_eq x y) (x ≡ y)) → (p q : K × X)
    → Decides (keyed_value_eq key_eq value_eq p q) (p ≡ q)
entry_eq-Decides {K} {X} key_eq value_eq keys values p q =
    Decides-like (keyed_value_eq key_eq value_eq p q) (λ both. λ i. (both.0 i, both.1 i))
    (λ e. (ap (λ (r : K × X). r.0) e, ap (λ (r : K × X). r.1) e))
    (Decides-and _ _ (keys p.0 q.0) (values p.1 q.1))

-- the same values under the same keys
unfoldable pub map_eq : {K X : Type 0} {R : K → K → Ordering} → (K → K → Bool) → (X → X → Bool) → FinMap R X → FinMap R X → Bool
map_eq key_eq value_eq m n = pointwise (keyed_value_eq key_eq value_eq) (map.entries m) (map.entries n)

pub map_eq-Decides : {K X : Type 0} {R : K → K → Ordering} (key_eq : K → K → Bool) (value_eq : X → X → Bool)
    → ((a b : K) → Decides (key_eq a b) (a ≡ b)) → ((x y : X) → Decides (value_eq x y) (x ≡ y)) → (m n : FinMap R X)
    → Decides (map_eq key_eq value_eq m n) (m ≡ n)
unfolding map_eq
map_eq-Decides key_eq value_eq keys values m n =
    Decides-like (map_eq key_eq value_eq m n) (map.same_entries_map m n) (ap map.entries)
    (slice_eq-Decides (entry_eq-Decides key_eq value_eq keys values) (map.entries m) (map.entries n) (map_eq key_eq value_eq m n) refl)
