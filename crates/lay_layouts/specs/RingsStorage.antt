-- How the rings of a shape are kept. No public clause cites this module.
use Rattle.std.specs.Prelude.{List, [], ◌∷◌}
use Rattle.std.specs.Arc.{arc_value}
use Rattle.lay_point.specs.declared.point.Point.{Point}
use Rattle.lay_layouts.specs.declared.item.RingsStorage.{RingsStorage}
use Rattle.lay_layouts.specs.declared.item.RingsStorage.TheVariants.{InPlace, One, Several}

-- the rings, in order
abbrev pub kept_rings : RingsStorage → List (List Point)
kept_rings (InPlace ring) = ring ∷ []
kept_rings (One ring) = arc_value ring ∷ []
kept_rings (Several rings) = (arc_value rings).items
