-- The four operations, and the edges of each.
use Rattle.std.specs.Prelude.{◌≡◌, ℤ, pos, ◌≤ℤ◌, Bool, false, not, ◌&&◌, ◌||◌, List}
use Rattle.lay_point.specs.declared.point.Point.{Point}
use Rattle.lay_point.specs.Edges.{IsEdgeBefore, touches}
use Rattle.lay_point.specs.Parity.{xor, odd, parity}
use Rattle.lay_point.specs.Rising.{IsRising}
use Rattle.snap_chains.specs.Rounded.{AreClean, IsRounded, Owned}
use Rattle.face_rows.specs.Labels.{answer_at, edges_of_operation, owned_items}
use Rattle.face_rows.specs.Laws.{AreLesserFirst}
use Rattle.face_rows.specs.declared.op.Op.{Op}
use Rattle.face_rows.specs.declared.op.Op.TheVariants.{And, Or, Not, Xor}

-- the operation's answer from whether the first and the second input hold
abbrev pub answer : Op → Bool → Bool → Bool
answer And first second = first && second
answer Or first second = first || second
answer Not first second = first && not second
answer Xor first second = xor first second

-- the edges on whose two sides the operation's answers differ
abbrev pub edges_of_op : Op → Owned → List (Point × Point)
edges_of_op op r = edges_of_operation (answer op) (owned_items r)

-- the operation's answer at a place
abbrev pub op_at : Op → Owned → ℤ → ℤ → ℤ → Bool
op_at op r = answer_at (answer op) (owned_items r)

-- what holds of the edges of an operation on clean rounded inputs: they tell its answer at every place, and they can be
-- linked to rings
pub record TellAnswer (op : Op) (r : Owned) : Type 0 where
  pub places : (k x y : ℤ) → pos 1 ≤ℤ k → odd (edges_of_op op r) k x y ≡ op_at op r k x y
  pub even : (v : Point) → parity (touches v) (edges_of_op op r) ≡ false
  pub rising : IsRising IsEdgeBefore (edges_of_op op r)

abbrev pub OperationsTellAnswers : Type 0
OperationsTellAnswers = (op : Op) (r : Owned) → IsRounded r → AreClean r.0 → AreLesserFirst r.0 → TellAnswer op r
