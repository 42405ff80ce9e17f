-- The shapes of an operation on two flattenings, computed from their rings.
-- Source: Hobby, Practical segment intersection with finite precision output, 1999, for rounding; that shapes are the parts
-- of the rings of an operation's edges, and the limits, are this project's own.
use Rattle.std.specs.Prelude.{ℕ, ◌+◌, Bool, ◌&&◌, nat_le, List, ◌++◌, length, map}
use Rattle.std.specs.List.{list_all, sum_by}
use Rattle.lay_point.specs.declared.point.Point.{Point}
use Rattle.lay_point.specs.declared.ring.TheConstants.{MAX_RING_POINTS}
use Rattle.lay_point.specs.Bridges.{bridged}
use Rattle.lay_point.specs.Turns.{turned}
use Rattle.lay_flat.specs.Flat.{FlatRing}
use Rattle.snap_chains.specs.declared.owner.Input.{Input}
use Rattle.snap_chains.specs.declared.owner.Input.TheVariants.{First, Second}
use Rattle.snap_chains.specs.declared.owner.Owner.{Owner}
use Rattle.snap_chains.specs.Rounded.{Owned}
use Rattle.snap_laws.specs.Rounding.{rounded_of}
use Rattle.face_rows.specs.declared.op.Op.{Op}
use Rattle.face_rows.specs.Operations.{edges_of_op}
use Rattle.face_ring_laws.specs.Linking.{linked_rings}
use Rattle.bool_rules.specs.Dividing.{parts_of}

-- a shape: its rings, each the list of its points
abbrev pub Rings : Type 0
Rings = List (List Point)

-- the ring where its turn takes it, with its shape of this input
abbrev pub owned_by : Input → FlatRing → Owner × List Point
owned_by input ring = (record { input = input; shape = ring.2 }, map (turned ring.1) ring.0)

-- the rings of both inputs, turned
abbrev pub owned_of : List FlatRing → List FlatRing → List (Owner × List Point)
owned_of a b = map (owned_by First) a ++ map (owned_by Second) b

-- how many sides the rings of both inputs have: a ring has as many as points
abbrev pub segments_of : List FlatRing → List FlatRing → ℕ
segments_of a b = sum_by (λ ring. length ring.0) a + sum_by (λ ring. length ring.0) b

-- the two inputs, rounded together
abbrev pub rounded_inputs : List FlatRing → List FlatRing → Owned
rounded_inputs a b = rounded_of (owned_of a b)

-- the rings that the operation's edges make
abbrev pub op_rings : Op → List FlatRing → List FlatRing → Rings
op_rings op a b = linked_rings (edges_of_op op (rounded_inputs a b))

-- the shapes of the operation
unfoldable pub shapes_of : Op → List FlatRing → List FlatRing → List Rings
shapes_of op a b = parts_of (op_rings op a b)

abbrev pub is_short : List Point → Bool
is_short path = nat_le (length path) MAX_RING_POINTS

-- one path round each of the shapes is short enough for a polygon
abbrev pub are_short : List Rings → Bool
are_short shapes = list_all (λ shape. is_short (bridged shape)) shapes

-- the most sides of all rings of both inputs
abbrev pub max_segments : ℕ
max_segments = 65536

-- there are few enough sides, and each ring and the path round each shape is short
unfoldable pub fits : Op → List FlatRing → List FlatRing → Bool
fits op a b = nat_le (segments_of a b) max_segments && list_all is_short (op_rings op a b) && are_short (shapes_of op a b)
