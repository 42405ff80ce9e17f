-- How far the edges of each shape reach, and which shapes have edges of which their boxes don't tell.
use Rattle.std.specs.Prelude.{
  ◌≡◌,
  ◌≢◌,
  ℕ,
  ◌+◌,
  ◌*◌,
  ◌^◌,
  ◌<◌,
  ℤ,
  Bool,
  true,
  false,
  ◌&&◌,
  ◌||◌,
  if◌then◌else◌,
  ⊤,
  List,
  [],
  ◌∷◌,
  None,
  Option,
  Some,
  length,
  nat_lt,
  slice_get,
  slice_index,
  slice_index_or,
  Contains,
}
use Rattle.std.specs.List.Sorted.{IsStrictlyIncreasing}
use Rattle.std.specs.Ordering.{int_eq}
use Rattle.lay_point.specs.declared.point.Point.{Point}
use Rattle.lay_point.specs.declared.rect.Rect.{Rect}
use Rattle.lay_point.specs.Rects.{IsIn}
use Rattle.snap_chains.specs.declared.owner.Input.{Input}
use Rattle.snap_chains.specs.declared.owner.Input.TheVariants.{First, Second}
use Rattle.snap_chains.specs.declared.owner.Owner.{Owner}
use Rattle.snap_chains.specs.Rounded.{Owned, is_owner_listed}
use Rattle.face_sweep.specs.declared.boxes.Boxes.{Boxes}
use Rattle.face_sweep.specs.declared.reach.Reach.{Reach}
use Rattle.face_sweep.specs.declared.turns.Turn.{Turn}
use Rattle.face_sweep.specs.declared.turns.Turn.TheVariants.{Sought, Told, Traced}
use Rattle.face_sweep.specs.Counts.{nth_shape}
use Rattle.face_rows.specs.Lines.{edge_at, owners_at}

abbrev pub box_list : Boxes → Input → List Rect
box_list boxes First = boxes.first.items
box_list boxes Second = boxes.second.items

-- the box round the edges of a shape, where it has one
abbrev pub extent_of : Boxes → Owner → Option Rect
extent_of boxes o = slice_get (box_list boxes o.input) o.shape

-- both ends of the edge are in the box
abbrev pub IsEdgeIn : Rect → Point × Point → Type 0
IsEdgeIn extent e = IsIn extent e.0 × IsIn extent e.1

-- what is in the first box is in the second
abbrev pub IsEnclosed : Rect → Rect → Type 0
IsEnclosed inner outer = (p : Point) → IsIn inner p → IsIn outer p

-- each box is part of the new one, and none has come or gone
abbrev pub HaveGrown : List Rect → List Rect → Type 0
HaveGrown old new = (shape : ℕ) (extent : Rect) → slice_get new shape ≡ Some extent → (before : Rect)
    × (slice_get old shape ≡ Some before) × IsEnclosed before extent

-- the edge of this number is in the boxes of its shapes
abbrev pub IsInBoxes : Owned → Boxes → ℕ → Type 0
IsInBoxes r boxes n = (o : Owner) (extent : Rect) → is_owner_listed o (owners_at r n) ≡ true → extent_of boxes o ≡ Some extent
    → IsEdgeIn extent (edge_at r n)

abbrev pub AreBoxes : Owned → Boxes → Type 0
AreBoxes r boxes = (n : ℕ) → n < length r.0 → IsInBoxes r boxes n

-- both ends of the edge are in the column, or at the height
abbrev pub is_upright_at : ℤ → Point × Point → Bool
is_upright_at x e = int_eq e.0.x x && int_eq e.1.x x

abbrev pub is_level_at : ℤ → Point × Point → Bool
is_level_at y e = int_eq e.0.y y && int_eq e.1.y y

-- the edge is on the left side of the box or on its bottom, or on the right side or the top
abbrev pub is_first : Rect → Point × Point → Bool
is_first extent e = is_upright_at extent.low.x e || is_level_at extent.low.y e

abbrev pub is_last : Rect → Point × Point → Bool
is_last extent e = is_upright_at extent.high.x e || is_level_at extent.high.y e

-- what the box of a shape, if there is one, tells of an edge of the shape: that it holds right of the edge, or above it, or that it
-- doesn't
abbrev pub told_by : Option Rect → Point × Point → Option Bool
told_by None e = None
told_by (Some extent) e = if is_first extent e then Some true else (if is_last extent e then Some false else None)

-- ---- shapes that are traced
-- one number for each shape: the shapes of the two inputs take turns
abbrev pub input_number : Input → ℕ
input_number First = 0
input_number Second = 1

abbrev pub key_of : Owner → ℕ
key_of o = 2 * o.shape + input_number o.input

-- the keys of the shapes whose boxes don't tell of an edge of theirs are there
abbrev pub ArePut : Owned → Boxes → List ℕ → Type 0
ArePut r boxes keys = (n : ℕ) (o : Owner) → n < length r.0 → is_owner_listed o (owners_at r n) ≡ true
    → told_by (extent_of boxes o) (edge_at r n) ≡ None → Contains keys (key_of o)

-- of each edge of another shape its box tells
pub record AreTraced (r : Owned) (boxes : Boxes) (keys : List ℕ) : Type 0 where
  pub rising : IsStrictlyIncreasing keys
  pub all : ArePut r boxes keys

-- the keys of the shapes that are traced
abbrev pub keys_of : Reach → List ℕ
keys_of reach = reach.traced.items

-- ---- what the sweep knows of each edge
-- a shape of the input is the only owner: it isn't traced, and its box tells this of the edge
pub record IsToldAlone (owners : List Owner) (edge : Point × Point) (boxes : Boxes) (keys : List ℕ) (input : Input) (holds : Bool)
    : Type 0 where
  pub shape : ℕ
  pub small : shape < 2 ^ 32
  pub alone : owners ≡ nth_shape input shape ∷ []
  pub told : told_by (extent_of boxes (nth_shape input shape)) edge ≡ Some holds
  pub untraced : (i : ℕ) → i < length keys → slice_index keys i ≢ key_of (nth_shape input shape)

-- a shape of the input is the only owner, and its key has this index
pub record IsTracedAlone (owners : List Owner) (keys : List ℕ) (input : Input) (index : ℕ) : Type 0 where
  pub shape : ℕ
  pub small : shape < 2 ^ 32
  pub alone : owners ≡ nth_shape input shape ∷ []
  pub inside : index < length keys
  pub key : slice_index keys index ≡ key_of (nth_shape input shape)

abbrev pub IsTurnOf : List Owner → Point × Point → Boxes → List ℕ → Turn → Type 0
IsTurnOf owners edge boxes keys Sought = ⊤
IsTurnOf owners edge boxes keys (Told input holds) = IsToldAlone owners edge boxes keys input holds
IsTurnOf owners edge boxes keys (Traced input index) = IsTracedAlone owners keys input index

-- what is known where the box of the only owner tells this
abbrev pub turn_told : Input → Option Bool → Turn
turn_told input None = Sought
turn_told input (Some holds) = Told input holds

-- what is known where the only owner has the list of this index
abbrev pub traced_if : Bool → Input → ℕ → Turn
traced_if true input index = Traced input index
traced_if false input index = Sought

abbrev pub turn_traced : Input → ℕ → Turn
turn_traced input index = traced_if (nat_lt index 65536) input index

-- one for each edge
pub record AreTurns (r : Owned) (boxes : Boxes) (keys : List ℕ) (turns : List Turn) : Type 0 where
  pub count : length turns ≡ length r.0
  pub each : (n : ℕ) → n < length r.0 → IsTurnOf (owners_at r n) (edge_at r n) boxes keys (slice_index_or turns n Sought)

pub record IsReach (r : Owned) (reach : Reach) : Type 0 where
  pub boxes : AreBoxes r reach.boxes
  pub traced : AreTraced r reach.boxes (keys_of reach)
  pub turns : AreTurns r reach.boxes (keys_of reach) reach.turns.items
