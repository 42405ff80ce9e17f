-- Lists of owners that are parts of one.
use Rattle.std.specs.Prelude.{ℕ, ◌≤◌, List, map, slice_range}
use Rattle.snap_chains.specs.declared.owner.Owner.{Owner}
use Rattle.snap_chains.specs.declared.owner_lists.Part.{Part}

abbrev pub list_of : List Owner → Part → List Owner
list_of owners part = slice_range owners part.from part.to

abbrev pub owner_lists_of : List Owner → List Part → List (List Owner)
owner_lists_of owners parts = map (list_of owners) parts

-- the part of a list of so many
abbrev pub IsInside : ℕ → Part → Type 0
IsInside count part = (part.from ≤ part.to) × (part.to ≤ count)
