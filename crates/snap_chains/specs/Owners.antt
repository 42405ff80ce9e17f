-- Owners: a shape of an input, by its number.
use Rattle.std.specs.Prelude.{◌≡◌, ◌⊎◌, ◌<◌, ◌==◌, Bool, true, false, ◌&&◌}
use Rattle.snap_chains.specs.declared.owner.Input.{Input}
use Rattle.snap_chains.specs.declared.owner.Input.TheVariants.{First, Second}
use Rattle.snap_chains.specs.declared.owner.Owner.{Owner}

abbrev pub input_eq : Input → Input → Bool
input_eq First First = true
input_eq First Second = false
input_eq Second First = false
input_eq Second Second = true

-- the same shape of the same input
abbrev pub owner_eq : Owner → Owner → Bool
owner_eq o p = input_eq o.input p.input && (o.shape == p.shape)

-- the first input comes before the second
abbrev pub IsInputBefore : Input → Input → Type 0
IsInputBefore i j = (i ≡ First) × (j ≡ Second)

-- by input, then by number
abbrev pub IsOwnerBefore : Owner → Owner → Type 0
IsOwnerBefore o p = IsInputBefore o.input p.input ⊎ ((o.input ≡ p.input) × (o.shape < p.shape))
