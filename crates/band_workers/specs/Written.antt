-- What workers give back, written as one list: labels with the numbers of their edges.
use Rattle.std.specs.Prelude.{ℕ, ◌<◌, Bool, List, [], ◌∷◌, Result, Ok, Err, IfOk, slice_set}
use Rattle.std.specs.Global.{Vec}
use Rattle.std.specs.List.{AllByRecursion}
use Rattle.lay_point.specs.declared.memory.NoMemory.{NoMemory}

-- what one worker gives back
abbrev pub Part : Type 0
Part = Result (Vec (ℕ × Bool)) NoMemory

-- each label put at its number
abbrev pub with_labels : List Bool → List (ℕ × Bool) → List Bool
with_labels labels [] = labels
with_labels labels (p ∷ ps) = with_labels (slice_set labels p.0 p.1) ps

-- each label of the parts put at its number; or a part is out of memory
abbrev pub with_parts : List Bool → List Part → Result (List Bool) NoMemory
with_parts labels [] = Ok labels
with_parts labels (Ok part ∷ parts) = with_parts (with_labels labels part.items) parts
with_parts labels (Err fault ∷ parts) = Err fault

-- the numbers are below the count
abbrev pub AreNumbersBelow : ℕ → List (ℕ × Bool) → Type 0
AreNumbersBelow count numbered = AllByRecursion (λ (p : ℕ × Bool). p.0 < count) numbered

-- those of all parts are
abbrev pub ArePartsBelow : ℕ → List Part → Type 0
ArePartsBelow count parts = AllByRecursion (λ (part : Part). IfOk part (λ labels. AreNumbersBelow count labels.items)) parts
