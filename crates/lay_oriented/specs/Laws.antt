-- What holds of winding numbers, of all edges and about all places.
use Rattle.std.specs.Prelude.{◌≡◌, ℤ, pos, ◌+ℤ◌, ◌*ℤ◌, List, [], ◌∷◌, ◌++◌}
use Rattle.std.specs.List.{AllByRecursion}
use Rattle.std.specs.List.Sorted.{IsPermutation}
use Rattle.lay_point.specs.declared.point.Point.{Point}
use Rattle.lay_point.specs.Bridges.{bridged}
use Rattle.lay_point.specs.Parity.{odd}
use Rattle.lay_point.specs.RingEdges.{edges_of, edges_of_ring}
use Rattle.lay_point.specs.Rings.{IsRing}
use Rattle.lay_oriented.specs.Winding.{one_if, winding}

-- the winding number is odd exactly where the parity is
abbrev pub HasParity : Type 0
HasParity = (edges : List (Point × Point)) (k x y : ℤ)
    → (n : ℤ) × (winding edges k x y ≡ pos 2 *ℤ n +ℤ one_if (odd edges k x y))

abbrev pub KeepsOutOrder : Type 0
KeepsOutOrder = (edges others : List (Point × Point)) (k x y : ℤ) → IsPermutation edges others → winding others k x y ≡ winding edges k x y

abbrev pub AddsUp : Type 0
AddsUp = (edges others : List (Point × Point)) (k x y : ℤ) → winding (edges ++ others) k x y ≡ winding edges k x y +ℤ winding others k x y

-- an edge and the same edge turned cancel
abbrev pub Cancels : Type 0
Cancels = (e : Point × Point) (k x y : ℤ) → winding (e ∷ (e.1, e.0) ∷ []) k x y ≡ pos 0

-- the one path round all rings has the winding number of the rings
abbrev pub IsThatOfBridged : Type 0
IsThatOfBridged = (rings : List (List Point)) (k x y : ℤ) → AllByRecursion IsRing rings
    → winding (edges_of_ring (bridged rings)) k x y ≡ winding (edges_of rings) k x y
