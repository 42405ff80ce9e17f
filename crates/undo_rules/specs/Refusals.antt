-- How refusals of a book are written: by their numbers and names.
use Rattle.std.specs.Prelude.{codes}
use Rattle.txn_commands.specs.Refusals.{Code}
use Rattle.undo_rules.specs.declared.log.BookFault.{BookFault}
use Rattle.undo_rules.specs.declared.log.BookFault.TheVariants.{Depends, Foreign, LogFull, Moved, NoMemory, NoTxn, NotLive, SessionFull}
use Rattle.undo_rules.specs.declared.log.BookFault.TheVariants.{Stale, StillLive}

abbrev pub book_code : BookFault → Code
book_code NoTxn = (20, codes "NoTxn")
book_code NotLive = (21, codes "NotLive")
book_code StillLive = (22, codes "StillLive")
book_code (Depends txn) = (23, codes "Depends")
book_code (Moved txn) = (24, codes "Moved")
book_code (Stale txn) = (25, codes "Stale")
book_code LogFull = (26, codes "LogFull")
book_code NoMemory = (27, codes "NoMemory")
book_code Foreign = (28, codes "Foreign")
book_code SessionFull = (33, codes "SessionFull")
