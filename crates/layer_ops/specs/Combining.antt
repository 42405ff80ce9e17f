-- What an operation on two flattenings answers.
use Rattle.std.specs.Prelude.{◌&&◌, List, Result, Ok, Err, map, if◌then◌else◌}
use Rattle.std.specs.Global.{Vec}
use Rattle.std.specs.List.{list_all}
use Rattle.lay_point.specs.declared.ring.Ring.{Ring}
use Rattle.lay_flat.specs.Flat.{FlatRing}
use Rattle.face_ring_laws.specs.Linking.{Ends, linked_rings}
use Rattle.face_rows.specs.declared.op.Op.{Op}
use Rattle.bool_rules.specs.Dividing.{parts_of}
use Rattle.bool_rules.specs.Shapes.{Rings, are_short, fits, is_short, shapes_of}
use Rattle.layer_ops.specs.declared.fault.OpFault.{OpFault}
use Rattle.layer_ops.specs.declared.fault.OpFault.TheVariants.{TooMany}

-- what is answered, as lists
abbrev pub shape_lists : Result (Vec (Vec Ring)) OpFault → Result (List Rings) OpFault
shape_lists (Ok shapes) = Ok (map (λ shape. shape.items) shapes.items)
shape_lists (Err fault) = Err fault

-- the shapes of the operation, where it fits
abbrev pub combined : Op → List FlatRing → List FlatRing → Result (List Rings) OpFault
combined op a b = if fits op a b then Ok (shapes_of op a b) else Err TooMany

-- the test of shapes
abbrev pub tested_shapes : List Rings → Result (Unit {0}) OpFault
tested_shapes shapes = if are_short shapes then Ok tt else Err TooMany

-- the shapes that edges make, where each ring and the path round each shape is short
unfoldable pub shaped : List Ends → Result (List Rings) OpFault
shaped edges =
    if list_all is_short (linked_rings edges) && are_short (parts_of (linked_rings edges)) then Ok (parts_of (linked_rings edges))
    else Err TooMany
