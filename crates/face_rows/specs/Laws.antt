-- What holds of an operation's edges.
use Rattle.std.specs.Prelude.{◌≡◌, ◌↔◌, ℕ, ℤ, pos, ◌≤ℤ◌, Bool, true, false, List, Contains}
use Rattle.lay_point.specs.declared.point.Point.{Point}
use Rattle.lay_point.specs.Edges.{is_before, touches, IsEdgeBefore}
use Rattle.lay_point.specs.Parity.{odd, parity}
use Rattle.lay_point.specs.Rising.{IsRising}
use Rattle.snap_chains.specs.declared.owner.Input.{Input}
use Rattle.snap_chains.specs.Rounded.{AreClean, IsRounded, Owned}
use Rattle.face_rows.specs.Labels.{answer_at, edges_of_operation, listed_shapes, odd_of, owned_items, some_of}

-- an edge is the pair of its ends, the lesser first
abbrev pub AreLesserFirst : List (Point × Point) → Type 0
AreLesserFirst edges = (e : Point × Point) → Contains edges e → is_before e.0 e.1 ≡ true

-- a place is to the left of an odd number of the operation's edges exactly where the operation holds of the rounded
-- inputs there, if it doesn't hold where neither input does
abbrev pub OperationTellsPlaces : Owned → Type 0
OperationTellsPlaces r = (op : Bool → Bool → Bool) → op false false ≡ false → (k x y : ℤ) → pos 1 ≤ℤ k →
    odd (edges_of_operation op (owned_items r)) k x y ≡ answer_at op (owned_items r) k x y

abbrev pub OperationsTellPlaces : Type 0
OperationsTellPlaces = (r : Owned) → IsRounded r → AreClean r.0 → AreLesserFirst r.0 → OperationTellsPlaces r

-- an even number of the operation's edges stands at each point
abbrev pub OperationIsEven : Owned → Type 0
OperationIsEven r = (op : Bool → Bool → Bool) → op false false ≡ false → (v : Point) →
    parity (touches v) (edges_of_operation op (owned_items r)) ≡ false

abbrev pub OperationsAreEven : Type 0
OperationsAreEven = (r : Owned) → IsRounded r → AreClean r.0 → AreLesserFirst r.0 → OperationIsEven r

-- they are in order
abbrev pub OperationsRise : Type 0
OperationsRise = (r : Owned) → IsRounded r → (op : Bool → Bool → Bool) → IsRising IsEdgeBefore (edges_of_operation op (owned_items r))

-- and are edges of the rounded inputs
abbrev pub OperationsAreAmong : Type 0
OperationsAreAmong = (r : Owned) (op : Bool → Bool → Bool) (e : Point × Point) →
    Contains (edges_of_operation op (owned_items r)) e → Contains r.0 e

-- an input holds at a place where some shape of it has the place inside
abbrev pub InputsAreTheirShapes : Type 0
InputsAreTheirShapes = (r : Owned) (input : Input) (k x y : ℤ) →
    (some_of input (listed_shapes (owned_items r)) (λ o. odd_of (owned_items r) o k x y) ≡ true)
    ↔ ((shape : ℕ) × (odd_of (owned_items r) (record { input = input; shape = shape }) k x y ≡ true))
