-- Going round at most once.
use Rattle.std.specs.Prelude.{◌≡◌, ◌⊎◌, ℤ, pos, ◌≤ℤ◌, List}
use Rattle.lay_point.specs.declared.point.Point.{Point}
use Rattle.lay_point.specs.RingEdges.{edges_of}
use Rattle.lay_oriented.specs.declared.slant.Slant.{Slant}
use Rattle.lay_oriented.specs.Slants.{counts}
use Rattle.lay_oriented.specs.Winding.{winding}

abbrev pub IsZeroOrOne : ℤ → Type 0
IsZeroOrOne n = (n ≡ pos 0) ⊎ (n ≡ pos 1)

-- the slants go round each place once or not at all
abbrev pub AreOnce : List Slant → Type 0
AreOnce slants = (k x y : ℤ) → pos 1 ≤ℤ k → IsZeroOrOne (counts k x y slants)

-- the rings go round each place once or not at all
abbrev pub WindOnce : List (List Point) → Type 0
WindOnce rings = (k x y : ℤ) → pos 1 ≤ℤ k → IsZeroOrOne (winding (edges_of rings) k x y)
