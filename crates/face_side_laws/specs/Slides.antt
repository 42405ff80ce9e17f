-- Places inside an edge, and edges from their lower ends to their upper ones.
use Rattle.std.specs.Prelude.{◌≡◌, ◌⊎◌, ℤ, pos, ◌*ℤ◌, ◌≤ℤ◌, ◌<ℤ◌, Bool, false, ◌&&◌, List}
use Rattle.lay_point.specs.declared.point.Point.{Point}
use Rattle.lay_point.specs.Edges.{touches}
use Rattle.lay_point.specs.Parity.{parity, distance_right, is_crossed}
use Rattle.lay_point.proofs.Members.{Has}
use Rattle.snap_edge_laws.specs.Meeting.{MeetAtEnds}

-- the place (x, y) at scale k is inside the edge that rises from a to b
pub record IsPlaceInside (a b : Point) (k x y : ℤ) : Type 0 where
  pub scale : pos 1 ≤ℤ k
  pub on : distance_right k x y a b ≡ pos 0
  pub above : (k *ℤ a.y) <ℤ y
  pub below : y <ℤ (k *ℤ b.y)

-- clean edges, each from its lower end to its upper one, with something for each
pub record AreUpward {W : Type 0} (items : List ((Point × Point) × W)) : Type 0 where
  pub rises : (p : (Point × Point) × W) → Has items p → p.0.0.y ≤ℤ p.0.1.y
  pub proper : (p : (Point × Point) × W) → Has items p → ¬ (p.0.0 ≡ p.0.1)
  pub meets : (p q : (Point × Point) × W) → Has items p → Has items q → (p.0 ≡ q.0) ⊎ MeetAtEnds p.0 q.0

-- an edge, and whether it is marked
abbrev pub Marked : Type 0
Marked = (Point × Point) × Bool

-- a place, as many times as far from the origin as its scale says
pub record ScaledPlace : Type 0 where
  pub scale : ℤ
  pub x : ℤ
  pub y : ℤ

abbrev pub IsInEdge : Point × Point → ScaledPlace → Type 0
IsInEdge edge place = IsPlaceInside edge.0 edge.1 place.scale place.x place.y

-- each point is an end of an even number of the marked edges
abbrev pub AreEvenAtPoints : List Marked → Type 0
AreEvenAtPoints items = (p : Point) → parity (λ item. item.1 && touches p item.0) items ≡ false

-- an odd number of the marked edges is crossed on the way to the right
abbrev pub is_odd_right_of : ScaledPlace → List Marked → Bool
is_odd_right_of place items = parity (λ item. item.1 && is_crossed place.scale place.x place.y item.0) items

-- of clean edges, those that are marked even at each point, all places inside an edge have the same parity on their right
abbrev pub ParitiesSlide : Type 0
ParitiesSlide = (items : List Marked) → AreUpward items → AreEvenAtPoints items
    → (item : Marked) → Has items item → item.0.0.y <ℤ item.0.1.y
    → (one other : ScaledPlace) → IsInEdge item.0 one → IsInEdge item.0 other
    → is_odd_right_of one items ≡ is_odd_right_of other items
