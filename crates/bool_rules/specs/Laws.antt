-- What is so of the shapes of operations on layers of a layout.
use Rattle.std.specs.Prelude.{◌≡◌, ℕ, ℤ, pos, ◌≤ℤ◌, All, List, Ok}
use Rattle.std.specs.List.{AllByRecursion, list_any}
use Rattle.lay_point.specs.Parity.{odd}
use Rattle.lay_point.specs.RingEdges.{edges_of}
use Rattle.lay_cells.specs.declared.cell_id.CellId.{CellId}
use Rattle.lay_layouts.specs.Layout.{Layout}
use Rattle.lay_layouts.specs.Sound.{IsDrawn, IsSound}
use Rattle.lay_flat.specs.Flat.{FlatRing, IsFlat}
use Rattle.lay_flat.specs.Flattening.{flat_of}
use Rattle.lay_flat.specs.Laws.{HaveSameBelow}
use Rattle.face_rows.specs.declared.op.Op.{Op}
use Rattle.face_rows.specs.Operations.{op_at}
use Rattle.bool_rules.specs.Shapes.{Rings, rounded_inputs}
use Rattle.bool_rules.specs.Booleans.{bool_shapes}

-- a flattening of a sound layout has rings whose turned points are in range
abbrev pub FlatteningsAreFlat : Type 0
FlatteningsAreFlat = (layout : Layout) → IsSound layout → (cell : CellId) (layer : List ℕ) (rings : List FlatRing)
    → flat_of layout cell layer ≡ Ok rings → All IsFlat rings

-- an operation reads the calls, and the shapes on its two layers, of the cells that walks from its cell lead to
abbrev pub BooleansReadWhatIsBelow : Type 0
BooleansReadWhatIsBelow = (l m : Layout) → IsSound l → IsSound m → (op : Op) (cell : CellId) (a b : List ℕ)
    → HaveSameBelow l m cell a → HaveSameBelow l m cell b → bool_shapes l op cell a b ≡ bool_shapes m op cell a b

-- the two layers flattened; some shape has a place inside exactly where the operation holds of them, rounded
pub record TellsPlaces (layout : Layout) (op : Op) (cell : CellId) (a b : List ℕ) (shapes : List Rings) : Type 0 where
  pub first : List FlatRing
  pub second : List FlatRing
  pub first_flat : flat_of layout cell a ≡ Ok first
  pub second_flat : flat_of layout cell b ≡ Ok second
  pub places : (k x y : ℤ) → pos 1 ≤ℤ k →
      list_any (λ shape. odd (edges_of shape) k x y) shapes ≡ op_at op (rounded_inputs first second) k x y

abbrev pub BooleansTellPlaces : Type 0
BooleansTellPlaces = (layout : Layout) → IsSound layout → (op : Op) (cell : CellId) (a b : List ℕ) (shapes : List Rings)
    → bool_shapes layout op cell a b ≡ Ok shapes → TellsPlaces layout op cell a b shapes

-- each shape is drawn as a layout's shapes are
abbrev pub BooleansAreDrawn : Type 0
BooleansAreDrawn = (layout : Layout) → IsSound layout → (op : Op) (cell : CellId) (a b : List ℕ) (shapes : List Rings)
    → bool_shapes layout op cell a b ≡ Ok shapes → AllByRecursion IsDrawn shapes
