-- The undirected edges of rounded rings, in the order of their lesser ends, and then of their greater ones.
use Rattle.std.specs.Prelude.{◌≡◌, ◌↔◌, ℤ, pos, ◌≤ℤ◌, Bool, false, ◌&&◌, List, [], ◌∷◌, ◌++◌, map, Contains}
use Rattle.lay_point.specs.declared.point.Point.{Point}
use Rattle.lay_point.specs.Edges.{undirected, IsEdgeBefore, same_edge, touches}
use Rattle.snap_pixels.specs.declared.segment.Segment.{Segment}
use Rattle.snap_edge_laws.specs.Edges.{IsOn, IsSharedEnd}
use Rattle.lay_point.specs.Parity.{parity}
use Rattle.lay_point.specs.Rising.{IsRising, pairs}
use Rattle.snap_edge_laws.specs.Rounding.{closed_walk, IsRoundedPath}

-- the edges that the walks go, each as often as they go it, where a pair of neighbours goes the edge u of it
abbrev pub walked_edges : {A E : Type 0} → (A × A → E) → List (List A) → List E
walked_edges u [] = []
walked_edges u (w ∷ ws) = map u (pairs w) ++ walked_edges u ws

-- the walks go the edge an odd number of times
abbrev pub is_owned : List (List Point) → Point × Point → Bool
is_owned walks e = parity (same_edge e) (walked_edges undirected walks)

-- each of the walks is a rounded ring, closed
abbrev pub AreRoundedRings : List Segment → List (List Point) → Type 0
AreRoundedRings segments walks =
    (w : List Point) → Contains walks w → (ring : List Point) × IsRoundedPath segments (closed_walk ring) w

-- the edges that the walks go, each once, in order
pub record AreEdgesOf (walks : List (List Point)) (edges : List (Point × Point)) : Type 0 where
  pub rising : IsRising IsEdgeBefore edges
  pub exact : (e : Point × Point) → Contains edges e ↔ Contains (walked_edges undirected walks) e

-- two different edges of rounded rings have no place in common but a shared end
abbrev pub EdgesAreClean : List Segment → Type 0
EdgesAreClean segments = (walks : List (List Point)) (edges : List (Point × Point)) →
    AreRoundedRings segments walks → AreEdgesOf walks edges →
    (e f : Point × Point) → Contains edges e → Contains edges f → ¬ (e ≡ f) →
    (k x y : ℤ) → pos 1 ≤ℤ k → IsOn e.0 e.1 k x y → IsOn f.0 f.1 k x y → IsSharedEnd e.0 e.1 f.0 f.1 k x y

-- of the edges of all walks that some of the walks go an odd number of times, an even number have a given point for an end
abbrev pub OwnedEdgesAreEven : List Segment → Type 0
OwnedEdgesAreEven segments = (walks some : List (List Point)) (edges : List (Point × Point)) →
    AreRoundedRings segments walks → AreEdgesOf walks edges → ((w : List Point) → Contains some w → Contains walks w) →
    (v : Point) → parity (λ e. is_owned some e && touches v e) edges ≡ false
