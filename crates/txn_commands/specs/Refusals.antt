-- How refusals and transactions are written: a refusal by its number and its name.
use Rattle.std.specs.Prelude.{ℕ, List, ◌++◌, codes, decimal}
use Rattle.txn_commands.specs.declared.fault.CmdFault.{CmdFault}
use Rattle.txn_commands.specs.declared.fault.CmdFault.TheVariants.{
  CellThere,
  CellUsed,
  Cycle,
  FewPoints,
  NoCell,
  NoItem,
  NoMemory,
  NotShape,
}
use Rattle.txn_commands.specs.declared.fault.CmdFault.TheVariants.{OutOfRange, TooDeep, TooMany, TxnFull}
use Rattle.txn_commands.specs.declared.command.TxnId.{TxnId}

-- the number and the name of a refusal
abbrev pub Code : Type 0
Code = ℕ × List ℕ

-- of a command
abbrev pub command_code : CmdFault → Code
command_code NoCell = (1, codes "NoCell")
command_code NoItem = (2, codes "NoItem")
command_code NotShape = (3, codes "NotShape")
command_code FewPoints = (4, codes "FewPoints")
command_code OutOfRange = (5, codes "OutOfRange")
command_code Cycle = (6, codes "Cycle")
command_code TooDeep = (7, codes "TooDeep")
command_code TooMany = (8, codes "TooMany")
command_code TxnFull = (10, codes "TxnFull")
command_code NoMemory = (11, codes "NoMemory")
command_code CellThere = (12, codes "CellThere")
command_code CellUsed = (13, codes "CellUsed")

-- the name of a transaction
abbrev pub txn_text : TxnId → List ℕ
txn_text txn = decimal txn.session ++ codes "." ++ decimal txn.txn
