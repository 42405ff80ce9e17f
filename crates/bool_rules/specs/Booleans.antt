-- The shapes of an operation on two layers below a cell of a layout.
-- Source: this project's own rule. First the one layer is flattened wholly, then the other; then the sides are counted, and the
-- rings that the operation's edges make.
use Rattle.std.specs.Prelude.{ℕ, List, Result, Ok, Err, if◌then◌else◌}
use Rattle.lay_cells.specs.declared.cell_id.CellId.{CellId}
use Rattle.lay_layouts.specs.Layout.{Layout}
use Rattle.lay_flat.specs.declared.fault.FlatFault.{FlatFault}
use Rattle.lay_flat.specs.declared.fault.FlatFault.TheVariants.{TooMany}
use Rattle.lay_flat.specs.Flat.{FlatRing}
use Rattle.lay_flat.specs.Flattening.{flat_of, on_success}
use Rattle.face_rows.specs.declared.op.Op.{Op}
use Rattle.bool_rules.specs.Shapes.{Rings, fits, shapes_of}

-- the shapes of an operation on two flattenings, where they keep the limits
abbrev pub shapes_within : Op → List FlatRing → List FlatRing → Result (List Rings) FlatFault
shapes_within op first second = if fits op first second then Ok (shapes_of op first second) else Err TooMany

-- the shapes, or the first refusal
unfoldable pub bool_shapes : Layout → Op → CellId → List ℕ → List ℕ → Result (List Rings) FlatFault
bool_shapes layout op cell a b =
    on_success (flat_of layout cell a) (λ first. on_success (flat_of layout cell b) (λ second. shapes_within op first second))
