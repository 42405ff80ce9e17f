-- What contracts see of a work, and what it keeps.
use Rattle.std.specs.Prelude.{◌≡◌, ◌≤◌, ℕ, length, Err, IfSome, Some}
use Rattle.lay_layouts.specs.Sound.{IsSound}
use Rattle.txn_commands.specs.declared.command.TheConstants.{MAX_COMMANDS}
use Rattle.txn_commands.specs.Effects.{Run, after_each, begun}
use Rattle.txn_commands.specs.Records.{records_between}
use Rattle.txn_commands.specs.Transactions.{Transaction}
use Rattle.txn_marks.specs.Marks.{AreMarksOf}
use Rattle.txn_work.specs.declared.work.Work.TheInside.{Inside}
use Rattle.txn_work.specs.Answers.{answer_to, run_so_far}

-- a work as its transaction
abbrev pub transaction_of : Inside → Transaction
transaction_of w = record {
  id = w.id;
  opened = w.opened;
  snapshot = w.snapshot;
  commands = w.commands.items;
  writes = w.writes;
  footprint = w.footprint;
}

-- its commands, run on its sound snapshot, write and touch what it says, make so many items, and are answered each
pub record MatchesItsRun (txn : Transaction) (made : ℕ) : Type 0 where
  pub sound : IsSound txn.snapshot
  pub run : Run
  pub runs : after_each txn.id txn.commands (begun txn.snapshot) ≡ Some run
  pub writes : records_between txn.snapshot run.layout ≡ txn.writes
  pub footprint : run.footprint ≡ txn.footprint
  pub count : run.made ≡ made
  pub few : made ≤ MAX_COMMANDS
  pub answered : length run.dones ≡ length txn.commands

-- and the layout that it keeps, if it does, is what they make of its snapshot; the command that was refused is so still; and
-- what a history keeps of it, if that is made, is of what it wrote and touched
pub record IsWork (w : Inside) : Type 0 where
  pub kept : MatchesItsRun (transaction_of w) w.made
  pub whole : IfSome w.whole (λ l. l ≡ (run_so_far (transaction_of w)).layout)
  pub refused : IfSome w.refused (λ r. answer_to (transaction_of w) r.0 ≡ Err r.1)
  pub marks : IfSome w.marks (AreMarksOf w.writes w.footprint)
