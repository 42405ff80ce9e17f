-- What commands that compute operations on layers leave in a layout, and where that is.
-- Source: this project's own rule. A place (x, y) at scale k, with 1 ≤ k, stands for (x / k, y / k).
-- Checked on: tests/jobs/an-and-of-two-boxes.job, tests/jobs/a-not-leaves-holes.job,
-- tests/jobs/an-empty-xor-clears-its-layer.job, tests/jobs/parts-are-shapes.job and
-- tests/jobs/a-boolean-is-undone.job.
use Rattle.std.specs.Prelude.{◌≡◌, ◌≢◌, ◌⊎◌, ℕ, ◌<◌, ℤ, pos, ◌≤ℤ◌, Bool, List, [], ◌∷◌, None, Some, Ok}
use Rattle.std.specs.List.{list_any}
use Rattle.lay_point.specs.Bridges.{bridged}
use Rattle.lay_point.specs.Parity.{odd}
use Rattle.lay_point.specs.RingEdges.{edges_of}
use Rattle.lay_cells.specs.declared.cell_id.CellId.{CellId}
use Rattle.lay_layouts.specs.declared.id.ItemId.{ItemId}
use Rattle.lay_layouts.specs.Layout.{Layout, item_at}
use Rattle.lay_layouts.specs.Lent.{LentShape, calls_in, shapes_in}
use Rattle.lay_layouts.specs.Sound.{IsSound}
use Rattle.lay_flat.specs.Flat.{FlatRing}
use Rattle.lay_flat.specs.Flattening.{flat_of}
use Rattle.face_rows.specs.declared.op.Op.{Op}
use Rattle.face_rows.specs.Operations.{op_at}
use Rattle.bool_rules.specs.Shapes.{Rings, rounded_inputs}
use Rattle.bool_rules.specs.Booleans.{bool_shapes}
use Rattle.txn_commands.specs.declared.command.Command.{Command}
use Rattle.txn_commands.specs.declared.command.Command.TheVariants.{Bool as Combine}
use Rattle.txn_commands.specs.declared.command.Done.{Done}
use Rattle.txn_commands.specs.declared.command.TxnId.{TxnId}
use Rattle.txn_commands.specs.Acts.{id_after}
use Rattle.txn_commands.specs.Effects.{Run, after_each, begun, effect, next_id}

-- shapes under the ids from this one on
abbrev pub numbered : ItemId → List Rings → List LentShape
numbered new [] = []
numbered new (rings ∷ shapes) = (new, rings) ∷ numbered (id_after new) shapes

-- behind an accepted operation the shapes of its cell on its layer are those of the operation on the layout before it, under the
-- next ids of the transaction, and no others
abbrev pub BooleansReplaceShapes : Type 0
BooleansReplaceShapes = (txn : TxnId) (run : Run) (op : Op) (cell : CellId) (a b out : List ℕ) (next : Done × Run)
    → effect txn (Combine op cell a b out) run ≡ Ok next
    → (shapes : List Rings) × (bool_shapes run.layout op cell a b ≡ Ok shapes)
    × (shapes_in next.1.layout cell out ≡ numbered (next_id txn run) shapes)

-- the place is inside some shape
abbrev pub is_inside_some : List LentShape → ℤ → ℤ → ℤ → Bool
is_inside_some shapes k x y = list_any (λ shape. odd (edges_of shape.1) k x y) shapes

-- the place is inside the one path that is written for some shape
abbrev pub is_inside_path : List LentShape → ℤ → ℤ → ℤ → Bool
is_inside_path shapes k x y = list_any (λ shape. odd (edges_of (bridged shape.1 ∷ [])) k x y) shapes

-- the two layers below the cell, flattened; a place is inside some of these shapes exactly where the operation holds of both,
-- rounded together, and so it is of the paths that are written for the shapes
pub record HoldWhereAsked (layout : Layout) (op : Op) (cell : CellId) (a b : List ℕ) (shapes : List LentShape) : Type 0 where
  pub first : List FlatRing
  pub second : List FlatRing
  pub first_flat : flat_of layout cell a ≡ Ok first
  pub second_flat : flat_of layout cell b ≡ Ok second
  pub places : (k x y : ℤ) → pos 1 ≤ℤ k → is_inside_some shapes k x y ≡ op_at op (rounded_inputs first second) k x y
  pub paths : (k x y : ℤ) → pos 1 ≤ℤ k → is_inside_path shapes k x y ≡ op_at op (rounded_inputs first second) k x y

-- behind an operation that is accepted on a sound layout, the shapes of its cell on its layer hold where the operation does of the
-- layers before it
abbrev pub BooleansHoldWhereAsked : Type 0
BooleansHoldWhereAsked = (txn : TxnId) (run : Run) (op : Op) (cell : CellId) (a b out : List ℕ) (next : Done × Run)
    → IsSound run.layout → effect txn (Combine op cell a b out) run ≡ Ok next
    → HoldWhereAsked run.layout op cell a b (shapes_in next.1.layout cell out)

-- no item has an id of the transaction behind those that it made
abbrev pub AreNextFree : TxnId → Run → Type 0
AreNextFree txn run = (id : ItemId) → id.session ≡ txn.session → id.txn ≡ txn.txn → run.made < id.seq → item_at run.layout id ≡ None

-- shapes of another cell or on another layer stay, and so do all calls and symbols
pub record LeavesOthers (cell : CellId) (out : List ℕ) (old new : Layout) : Type 0 where
  pub shapes : (c : CellId) (layer : List ℕ) → (c ≢ cell) ⊎ (layer ≢ out) → shapes_in new c layer ≡ shapes_in old c layer
  pub calls : (c : CellId) → calls_in new c ≡ calls_in old c
  pub symbols : new.symbols ≡ old.symbols

-- an accepted operation leaves them, where the ids of its shapes are free
abbrev pub BooleansLeaveOthers : Type 0
BooleansLeaveOthers = (txn : TxnId) (run : Run) (op : Op) (cell : CellId) (a b out : List ℕ) (next : Done × Run)
    → AreNextFree txn run → effect txn (Combine op cell a b out) run ≡ Ok next → LeavesOthers cell out run.layout next.1.layout

-- they are free whatever commands were accepted, where the layout before them has no item with an id of the transaction
abbrev pub RunsKeepIdsFree : Type 0
RunsKeepIdsFree = (txn : TxnId) (commands : List Command) (l : Layout) (run : Run)
    → ((id : ItemId) → id.session ≡ txn.session → id.txn ≡ txn.txn → item_at l id ≡ None)
    → after_each txn commands (begun l) ≡ Some run → AreNextFree txn run
