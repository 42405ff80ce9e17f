-- How the places under one element are kept.
use Rattle.std.specs.Prelude.{ℕ, List, [], ◌∷◌}
use Rattle.undo_index.specs.declared.place_set.PlaceSet.{PlaceSet}
use Rattle.undo_index.specs.declared.place_set.PlaceSet.TheVariants.{Many, Sole}

-- the places, in order
abbrev pub places_of : PlaceSet → List ℕ
places_of (Sole place) = place ∷ []
places_of (Many places) = places.keys
