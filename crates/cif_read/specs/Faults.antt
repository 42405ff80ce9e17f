-- The numbers and names of faults, as the product prints them.
-- Source: this project's own.
-- Checked on: the rows of tests/jobs/cif-faults.table, each kind, each pair of neighbouring checks
-- and each offset.
use Rattle.std.specs.Prelude.{ℕ, List, codes}
use Rattle.cif_read.specs.declared.fault.FaultKind.{FaultKind}
use Rattle.cif_read.specs.declared.fault.FaultKind.TheVariants.{AfterEnd, Cycle, DeleteDef, Flash}
use Rattle.cif_read.specs.declared.fault.FaultKind.TheVariants.{LongName, NoEnd, NoLayer, NoMemory, NoSymbol}
use Rattle.cif_read.specs.declared.fault.FaultKind.TheVariants.{OffAxis, OffGrid, Syntax, TooBig, TooMany, TwoSymbols, Wire, ZeroScale}

-- the number, and the bytes of the name
abbrev pub fault_label : FaultKind → ℕ × List ℕ
fault_label NoEnd = (1, codes "NoEnd")
fault_label Syntax = (2, codes "Syntax")
fault_label Wire = (3, codes "Wire")
fault_label Flash = (4, codes "Flash")
fault_label DeleteDef = (5, codes "DeleteDef")
fault_label OffAxis = (6, codes "OffAxis")
fault_label NoLayer = (7, codes "NoLayer")
fault_label OffGrid = (8, codes "OffGrid")
fault_label TooBig = (9, codes "TooBig")
fault_label TwoSymbols = (10, codes "TwoSymbols")
fault_label NoSymbol = (11, codes "NoSymbol")
fault_label Cycle = (12, codes "Cycle")
fault_label AfterEnd = (13, codes "AfterEnd")
fault_label LongName = (14, codes "LongName")
fault_label ZeroScale = (15, codes "ZeroScale")
fault_label TooMany = (16, codes "TooMany")
fault_label NoMemory = (17, codes "NoMemory")

abbrev pub fault_number : FaultKind → ℕ
fault_number kind = (fault_label kind).0

abbrev pub fault_name : FaultKind → List ℕ
fault_name kind = (fault_label kind).1
