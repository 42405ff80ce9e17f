-- What a fault of linking is for an operation.
use Rattle.face_rings.specs.declared.fault.LinkFault.{LinkFault}
use Rattle.face_rings.specs.declared.fault.LinkFault.TheVariants as link
use Rattle.layer_ops.specs.declared.fault.OpFault.{OpFault}
use Rattle.layer_ops.specs.declared.fault.OpFault.TheVariants as op

abbrev pub fault_of : LinkFault → OpFault
fault_of link.TooMany = op.TooMany
fault_of link.NoMemory = op.NoMemory
