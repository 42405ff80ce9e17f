-- What is so of the shapes of an operation: where they are, which edges they have, and that there are no others.
use Rattle.std.specs.Prelude.{◌≡◌, ℤ, pos, ◌≤ℤ◌, Bool, All, List, [], count_by, flat_map, map}
use Rattle.std.specs.List.{list_any}
use Rattle.lay_point.specs.declared.point.Point.{Point}
use Rattle.lay_point.specs.Edges.{undirected}
use Rattle.lay_point.specs.Parity.{odd}
use Rattle.lay_point.specs.RingEdges.{edges_of}
use Rattle.lay_flat.specs.Flat.{FlatRing, IsFlat}
use Rattle.snap_chains.specs.Round.{IsRoundOf}
use Rattle.snap_chains.specs.Rounded.{Owned}
use Rattle.face_rows.specs.declared.op.Op.{Op}
use Rattle.face_rows.specs.Operations.{edges_of_op, op_at}
use Rattle.face_ring_laws.specs.Linked.{AreLinked}
use Rattle.face_ring_laws.specs.Parts.{AreParts}
use Rattle.bool_rules.specs.Dividing.{parts_of}
use Rattle.bool_rules.specs.Shapes.{Rings, owned_of, rounded_inputs, shapes_of}

-- what is computed are the parts of the rings
abbrev pub PartsExist : Type 0
PartsExist = (rings : Rings) → AreParts rings (parts_of rings)

-- and there are no others
abbrev pub PartsAreUnique : Type 0
PartsAreUnique = (rings : Rings) (parts parts' : List Rings) → AreParts rings parts → AreParts rings parts' → parts ≡ parts'

-- where the shapes are, and their edges
pub record TellPlaces (op : Op) (a b : List FlatRing) : Type 0 where
  -- some shape has a place inside exactly where the operation holds of the rounded inputs there
  pub places : (k x y : ℤ) → pos 1 ≤ℤ k →
      list_any (λ shape. odd (edges_of shape) k x y) (shapes_of op a b) ≡ op_at op (rounded_inputs a b) k x y
  -- for each test as many of the edges of all shapes pass as of the operation's
  pub once : (test : Point × Point → Bool) →
      count_by test (map undirected (flat_map edges_of (shapes_of op a b))) ≡ count_by test (edges_of_op op (rounded_inputs a b))

abbrev pub ShapesTellPlaces : Type 0
ShapesTellPlaces = (op : Op) (a b : List FlatRing) → All IsFlat a → All IsFlat b → TellPlaces op a b

-- the parts of rings to which the operation's edges of rounded inputs are linked
pub record AreShapes (op : Op) (a b : List FlatRing) (shapes : List Rings) : Type 0 where
  pub inputs : Owned
  pub rounded : IsRoundOf (owned_of a b) inputs
  pub rings : Rings
  pub linked : AreLinked (edges_of_op op inputs) [] rings
  pub parts : AreParts rings shapes

-- the shapes that are computed are these, and there are no others
pub record AreDetermined (op : Op) (a b : List FlatRing) : Type 0 where
  pub exist : AreShapes op a b (shapes_of op a b)
  pub unique : (shapes : List Rings) → AreShapes op a b shapes → shapes ≡ shapes_of op a b

abbrev pub ShapesAreDetermined : Type 0
ShapesAreDetermined = (op : Op) (a b : List FlatRing) → All IsFlat a → All IsFlat b → AreDetermined op a b
