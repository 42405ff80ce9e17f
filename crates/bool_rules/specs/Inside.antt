-- Where rounded rings are, whatever edges list. A place (x, y) at scale k, with 1 ≤ k, stands for (x / k, y / k).
use Rattle.std.specs.Prelude.{◌≡◌, ℤ, pos, ◌≤ℤ◌, Bool, ◌&&◌, All, List}
use Rattle.std.specs.List.{flat_map, list_any}
use Rattle.lay_point.specs.declared.point.Point.{Point}
use Rattle.lay_point.specs.Parity.{odd}
use Rattle.lay_point.specs.RingEdges.{edges_of, pairs}
use Rattle.lay_flat.specs.Flat.{FlatRing, IsFlat}
use Rattle.snap_chains.specs.declared.owner.Input.{Input}
use Rattle.snap_chains.specs.declared.owner.Input.TheVariants.{First, Second}
use Rattle.snap_chains.specs.declared.owner.Owner.{Owner}
use Rattle.snap_chains.specs.OwnedRings.{AreRounded}
use Rattle.snap_chains.specs.Owners.{input_eq}
use Rattle.snap_chains.specs.Round.{IsRoundOf, owner_walks}
use Rattle.snap_chains.specs.Rounded.{Owned}
use Rattle.face_rows.specs.Labels.{odd_of, owned_items}
use Rattle.face_rows.specs.declared.op.Op.{Op}
use Rattle.face_rows.specs.Operations.{answer, op_at}
use Rattle.bool_rules.specs.Shapes.{owned_of, shapes_of}

-- the half line from the place to the right crosses an odd number of the edges that the shape's rounded rings go, each as
-- often as they go it
abbrev pub is_inside_rounded : List (Owner × List Point) → List (List Point) → Owner → ℤ → ℤ → ℤ → Bool
is_inside_rounded rings walks o k x y = odd (flat_map pairs (owner_walks o rings walks)) k x y

-- some shape of the input has the place inside
abbrev pub holds : Input → List (Owner × List Point) → List (List Point) → ℤ → ℤ → ℤ → Bool
holds input rings walks k x y = list_any (λ r. input_eq r.0.input input && is_inside_rounded rings walks r.0 k x y) rings

-- the operation's answer
abbrev pub answer_of_rings : Op → List (Owner × List Point) → List (List Point) → ℤ → ℤ → ℤ → Bool
answer_of_rings op rings walks k x y = answer op (holds First rings walks k x y) (holds Second rings walks k x y)

-- of the edges that list a shape as many are crossed, by parity, as of those that its rounded rings go
abbrev pub OwnersAreThoseOfRings : Type 0
OwnersAreThoseOfRings = (rings : List (Owner × List Point)) (r : Owned) (h : IsRoundOf rings r) (o : Owner) (k x y : ℤ)
    → odd_of (owned_items r) o k x y ≡ is_inside_rounded rings h.walks o k x y

-- so the operation's answer is that of the rounded rings
abbrev pub AnswersAreThoseOfRings : Type 0
AnswersAreThoseOfRings = (rings : List (Owner × List Point)) (r : Owned) (h : IsRoundOf rings r) (op : Op) (k x y : ℤ)
    → op_at op r k x y ≡ answer_of_rings op rings h.walks k x y

-- the rounded rings of two layers, and that some shape of the operation has a place inside exactly where they say so
pub record RingsDecidePlaces (op : Op) (a b : List FlatRing) : Type 0 where
  pub walks : List (List Point)
  pub rounded : AreRounded (owned_of a b) walks
  pub places : (k x y : ℤ) → pos 1 ≤ℤ k →
      list_any (λ shape. odd (edges_of shape) k x y) (shapes_of op a b) ≡ answer_of_rings op (owned_of a b) walks k x y

abbrev pub ShapesAreThoseOfRings : Type 0
ShapesAreThoseOfRings = (op : Op) (a b : List FlatRing) → All IsFlat a → All IsFlat b → RingsDecidePlaces op a b
