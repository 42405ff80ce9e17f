-- Transactions at work: what their commands, run on a snapshot, wrote and touched.
-- Source: this project's own.
-- Checked on: after `open` there is no command, no record and an empty footprint; after one box
-- there is one of each.
use Rattle.std.specs.Prelude.{◌≡◌, ℕ, List, Some}
use Rattle.lay_layouts.specs.Layout.{Layout}
use Rattle.txn_commands.specs.declared.command.Command.{Command}
use Rattle.txn_commands.specs.declared.command.TxnId.{TxnId}
use Rattle.txn_commands.specs.Effects.{Run, after_each, begun}
use Rattle.txn_commands.specs.Elements.{Touched}
use Rattle.txn_commands.specs.Records.{Records, records_between}

-- a transaction: its name, the place of its open in the log, the layout on which it runs, its accepted commands in order,
-- what it wrote and what it touched
pub record Transaction : Type 0 where
  pub id : TxnId
  pub opened : ℕ
  pub snapshot : Layout
  pub commands : List Command
  pub writes : Records
  pub footprint : Touched

-- what it wrote and touched is what its commands, run on its snapshot, write and touch
pub record IsTransaction (txn : Transaction) : Type 0 where
  pub run : Run
  pub runs : after_each txn.id txn.commands (begun txn.snapshot) ≡ Some run
  pub writes : records_between txn.snapshot run.layout ≡ txn.writes
  pub footprint : run.footprint ≡ txn.footprint
