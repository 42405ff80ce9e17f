-- The shapes of an operation as a command has them.
use Rattle.std.specs.Prelude.{List, map, Result, Ok, Err}
use Rattle.std.specs.Global.{Vec}
use Rattle.lay_point.specs.declared.ring.Ring.{Ring}
use Rattle.lay_flat.specs.declared.fault.FlatFault.{FlatFault}
use Rattle.lay_flat.specs.declared.fault.FlatFault.TheVariants as flat
use Rattle.bool_rules.specs.Shapes.{Rings}
use Rattle.layer_ops.specs.declared.fault.OpFault.{OpFault}
use Rattle.layer_ops.specs.declared.fault.OpFault.TheVariants as op
use Rattle.txn_commands.specs.declared.fault.CmdFault.{CmdFault}
use Rattle.txn_commands.specs.Plans.{fault_of_flat}

-- the rings of each
abbrev pub points_of : List (Vec Ring) → List Rings
points_of shapes = map (λ shape. shape.items) shapes

-- what is answered, as lists
abbrev pub lists_in : {E : Type 0} → Result (Vec (Vec Ring)) E → Result (List Rings) E
lists_in (Ok shapes) = Ok (points_of shapes.items)
lists_in (Err fault) = Err fault

-- what a command answers where the operation answers so
abbrev pub command_result : Result (List Rings) FlatFault → Result (List Rings) CmdFault
command_result (Ok shapes) = Ok shapes
command_result (Err fault) = Err (fault_of_flat fault)

-- why flattenings have no shapes of an operation
abbrev pub fault_of_op : OpFault → FlatFault
fault_of_op op.TooMany = flat.TooMany
fault_of_op op.NoMemory = flat.NoMemory
