-- Pairs of keys and places, in order.
use Rattle.std.specs.Prelude.{ℕ, List}
use Rattle.std.specs.declared.cmp.Ordering.{Ordering}
use Rattle.std.specs.BTreeSet.{BTreeSet, contains, keys_between}
use Rattle.std.specs.declared.ops.Bound.TheVariants.{Excluded, Included}
use Rattle.std.specs.Ordering.{nat_cmp, ordering_then}
use Rattle.std.specs.Prelude.{Bool}

module _ {K : Type 0} (R : K → K → Ordering) where
  -- pairs go by their keys, then by their places
  abbrev pub pair_order : K × ℕ → K × ℕ → Ordering
  pair_order a b = ordering_then (R a.0 b.0) (nat_cmp a.1 b.1)

  -- the place stands under the key
  abbrev pub is_under : BTreeSet (K × ℕ) → K → ℕ → Bool
  is_under pairs key p = contains pair_order pairs (key, p)

  -- the pairs of this key, with places below this one
  abbrev pub pairs_below : K → ℕ → BTreeSet (K × ℕ) → List (K × ℕ)
  pairs_below key below pairs = keys_between pair_order (Included (key, 0)) (Excluded (key, below)) pairs
