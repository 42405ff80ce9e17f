-- Steps that may be refused, one after the other.
use Rattle.std.specs.Prelude.{ℕ, Result, Ok, Err}
use Rattle.cif_read.specs.declared.fault.CifFault.{CifFault}
use Rattle.cif_read.specs.declared.fault.FaultKind.{FaultKind}

-- the next step where the one before has no fault
abbrev pub and_then : {A B E : Type 0} → Result A E → (A → Result B E) → Result B E
and_then (Ok x) next = next x
and_then (Err e) next = Err e

-- a fault of the command at this offset
abbrev pub at_offset : {A : Type 0} → ℕ → Result A FaultKind → Result A CifFault
at_offset offset (Ok x) = Ok x
at_offset offset (Err kind) = Err (record { kind = kind; offset = offset })

-- what a change that may be refused leaves, or its fault
abbrev pub leaves : {U A E : Type 0} → Result U E → A → Result A E
leaves (Ok _) x = Ok x
leaves (Err e) x = Err e
