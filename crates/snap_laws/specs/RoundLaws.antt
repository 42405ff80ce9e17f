-- What is so of rounding: it exists, it is unique, and what it makes is in order, clean and in range.
-- Source: Hobby, Practical segment intersection with finite precision output, 1999.
use Rattle.std.specs.Prelude.{◌≡◌, IsTrue, All, List, Contains}
use Rattle.lay_point.specs.declared.point.Point.{Point}
use Rattle.lay_point.specs.Edges.{is_before}
use Rattle.lay_point.specs.Points.{is_in_range}
use Rattle.lay_point.specs.Rings.{IsRing}
use Rattle.snap_chains.specs.declared.owner.Owner.{Owner}
use Rattle.snap_chains.specs.Round.{IsRoundOf}
use Rattle.snap_chains.specs.Rounded.{AreClean, IsRounded, Owned}
use Rattle.snap_laws.specs.Rounding.{rounded_of}

abbrev pub AreOwnedRings : List (Owner × List Point) → Type 0
AreOwnedRings rings = All (λ r. IsRing r.1) rings

-- what is computed is a rounding of the rings
abbrev pub RoundingExists : Type 0
RoundingExists = (rings : List (Owner × List Point)) → AreOwnedRings rings → IsRoundOf rings (rounded_of rings)

-- and there is no other
abbrev pub RoundingIsUnique : Type 0
RoundingIsUnique = (rings : List (Owner × List Point)) → AreOwnedRings rings →
    (r r' : Owned) → IsRoundOf rings r → IsRoundOf rings r' → r ≡ r'

-- so any rounding of the rings is what is computed
abbrev pub RoundingIsComputed : Type 0
RoundingIsComputed = (rings : List (Owner × List Point)) → AreOwnedRings rings → (r : Owned) → IsRoundOf rings r → r ≡ rounded_of rings

-- edges in order, each from its lesser end to its greater, that meet at their ends alone
pub record AreCleanEdges (r : Owned) : Type 0 where
  pub rounded : IsRounded r
  pub clean : AreClean r.0
  pub lesser_first : (e : Point × Point) → Contains r.0 e → IsTrue (is_before e.0 e.1)

abbrev pub RoundedIsRounded : Type 0
RoundedIsRounded = (rings : List (Owner × List Point)) → AreOwnedRings rings → (r : Owned) → IsRoundOf rings r → AreCleanEdges r

-- both ends of the edge are points of a layout
abbrev pub IsEdgeInRange : Point × Point → Type 0
IsEdgeInRange e = IsTrue (is_in_range e.0) × IsTrue (is_in_range e.1)

abbrev pub RoundedIsInRange : Type 0
RoundedIsInRange = (rings : List (Owner × List Point)) → AreOwnedRings rings → (r : Owned) → IsRoundOf rings r →
    (e : Point × Point) → Contains r.0 e → IsEdgeInRange e
