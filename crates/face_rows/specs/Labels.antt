-- The edges of an operation: those on whose two sides, close to the midpoint, its answer on the rounded inputs differs.
-- A shape's edges are those that list it. A place (x, y) at scale k, with 1 ≤ k, stands for (x / k, y / k).
-- Source: this project's own rule. The parity of a place, and so the side of an edge that its midpoint is on, is that of
-- lay_point/specs/Parity.antt: the right side, or the upper one of a level edge.
use Rattle.std.specs.Prelude.{ℤ, pos, ◌+ℤ◌, Bool, ◌&&◌, List, filter, flat_map, map}
use Rattle.std.specs.List.{list_any, zip}
use Rattle.lay_point.specs.declared.point.Point.{Point}
use Rattle.lay_point.specs.Parity.{xor, parity, is_crossed}
use Rattle.snap_chains.specs.declared.owner.Input.{Input}
use Rattle.snap_chains.specs.declared.owner.Input.TheVariants.{First, Second}
use Rattle.snap_chains.specs.declared.owner.Owner.{Owner}
use Rattle.snap_chains.specs.Owners.{input_eq}
use Rattle.snap_chains.specs.Rounded.{Owned, is_owner_listed}

-- an edge with the shapes that list it
abbrev pub Item : Type 0
Item = (Point × Point) × List Owner

-- the half line from the place to the right crosses an odd number of the edges that list the shape
abbrev pub odd_of : List Item → Owner → ℤ → ℤ → ℤ → Bool
odd_of items o k x y = parity (λ p. is_owner_listed o p.1 && is_crossed k x y p.0) items

-- the shapes that are listed, each as often as it is
abbrev pub listed_shapes : List Item → List Owner
listed_shapes items = flat_map (λ p. p.1) items

-- some shape of the input passes
abbrev pub some_of : Input → List Owner → (Owner → Bool) → Bool
some_of input shapes test = list_any (λ o. input_eq o.input input && test o) shapes

-- the operation's answer where those shapes have the place inside that pass
abbrev pub answer_on : (Bool → Bool → Bool) → List Owner → (Owner → Bool) → Bool
answer_on op shapes inside = op (some_of First shapes inside) (some_of Second shapes inside)

-- the operation's answer at a place
unfoldable pub answer_at : (Bool → Bool → Bool) → List Item → ℤ → ℤ → ℤ → Bool
answer_at op items k x y = answer_on op (listed_shapes items) (λ o. odd_of items o k x y)

-- what holds on an edge's other side: the shapes that list it are turned
abbrev pub turned_at : Item → (Owner → Bool) → Owner → Bool
turned_at item holds o = xor (is_owner_listed o item.1) (holds o)

-- the operation's answers on the two sides of the edge, at a place on it
abbrev pub differs_at : (Bool → Bool → Bool) → List Item → Item → ℤ → ℤ → ℤ → Bool
differs_at op items item k x y =
    xor (answer_on op (listed_shapes items) (λ o. odd_of items o k x y))
    (answer_on op (listed_shapes items) (turned_at item (λ o. odd_of items o k x y)))

-- they differ, at the edge's midpoint
unfoldable pub differs : (Bool → Bool → Bool) → List Item → Item → Bool
differs op items p = differs_at op items p (pos 2) (p.0.0.x +ℤ p.0.1.x) (p.0.0.y +ℤ p.0.1.y)

abbrev pub owned_items : Owned → List Item
owned_items r = zip r.0 r.1

-- the edges of the operation, in order
abbrev pub edges_of_operation : (Bool → Bool → Bool) → List Item → List (Point × Point)
edges_of_operation op items = map (λ p. p.0) (filter (differs op items) items)
