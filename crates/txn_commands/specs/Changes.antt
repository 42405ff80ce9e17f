-- What changes from one map to another, key by key.
use Rattle.std.specs.Prelude.{◌≡◌, Bool, List, [], ◌∷◌, ◌++◌, Option, None, Some, if◌then◌else◌}
use Rattle.std.specs.declared.cmp.Ordering.{Ordering}
use Rattle.std.specs.FinMap as map
use Rattle.std.specs.FinMap.{FinMap}
use Rattle.lay_layouts.specs.Layout.{put}

-- a value before and after, None where there is none
pub record Change (V : Type 0) : Type 0 where
  pub before : Option V
  pub after : Option V

-- the change from one value to another, where they differ
abbrev pub change_of : {V : Type 0} → (Option V → Option V → Bool) → Option V → Option V → Option (Change V)
change_of same before after = if same before after then None else Some (record { before = before; after = after })

-- the changes at these keys
abbrev pub changes_at : {K V : Type 0} {R : K → K → Ordering} → (Option V → Option V → Bool) → FinMap R V → FinMap R V → List K
    → FinMap R (Change V)
changes_at same old new [] = map.empty
changes_at same old new (key ∷ keys) =
    put (changes_at same old new keys) key (change_of same (map.get old key) (map.get new key))

-- all changes from one map to another
unfoldable pub change_map : {K V : Type 0} {R : K → K → Ordering} → (Option V → Option V → Bool) → FinMap R V → FinMap R V
    → FinMap R (Change V)
change_map same old new = changes_at same old new (map.keys old ++ map.keys new)

-- a change leads from a value to another; without one they are equal
abbrev pub IsStep : {V : Type 0} → Option (Change V) → Option V → Option V → Type 0
IsStep None old new = old ≡ new
IsStep (Some change) old new = (old ≡ change.before) × (new ≡ change.after)
