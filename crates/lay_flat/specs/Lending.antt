-- Rings that are lent, as far as there is room.
use Rattle.std.specs.Prelude.{◌≡◌, ◌<◌, ◌⊎◌, All, List, length, map}
use Rattle.lay_point.specs.declared.point.Point.{Point}
use Rattle.lay_point.specs.declared.turn.Turn.{Turn}
use Rattle.lay_point.specs.Rings.{IsRing}
use Rattle.lay_flat.specs.declared.fault.FlatFault.{FlatFault}
use Rattle.lay_flat.specs.declared.fault.FlatFault.TheVariants.{NoMemory, TooMany}
use Rattle.lay_flat.specs.declared.flat.TheConstants.{MAX_RINGS}
use Rattle.lay_flat.specs.Flat.{FlatRing}
use Rattle.lay_flat.specs.Flattening.{Drawn}

-- the points of each are a ring's
abbrev pub AreRings : List FlatRing → Type 0
AreRings rings = All (λ r. IsRing r.0) rings

-- the fault is out of memory, or that there are too many of these
abbrev pub IsTooMany : List FlatRing → FlatFault → Type 0
IsTooMany rings fault = (fault ≡ NoMemory) ⊎ ((fault ≡ TooMany) × (MAX_RINGS < length rings))

-- shapes, each with the same turn
abbrev pub drawn_with : Turn → List (List (List Point)) → List Drawn
drawn_with turn shapes = map (λ rings. (turn, rings)) shapes
