-- What calls promise of the layout: it is that of running the commands of the live transactions.
use Rattle.std.specs.Prelude.{◌≡◌, ℕ, Option, None, Some}
use Rattle.lay_layouts.specs.Layout.{Layout}
use Rattle.txn_commands.specs.declared.command.TxnId.{TxnId}
use Rattle.txn_commands.specs.Effects.{Run, after_each, begun}
use Rattle.txn_commands.specs.Records.{records_between}
use Rattle.txn_commands.specs.Transactions.{Transaction}
use Rattle.undo_rules.specs.Books.{History}
use Rattle.undo_rules.specs.Histories.{replay_from}
use Rattle.undo_rules.specs.Steps.{after_redo, redo_refusal}

-- the layout after the live transactions of a history, run in the order of their commits from the base
abbrev pub replay : History → Option Layout
replay h = replay_from h.log h.base h.entries

-- the transaction's commands, run on the first layout, are all accepted, give the answers that they gave in the work, write and touch
-- the same, and lead to the second layout
pub record RunsAgain (txn : Transaction) (first next : Layout) : Type 0 where
  pub work : Run
  pub worked : after_each txn.id txn.commands (begun txn.snapshot) ≡ Some work
  pub run : Run
  pub runs : after_each txn.id txn.commands (begun first) ≡ Some run
  pub dones : run.dones ≡ work.dones
  pub writes : records_between first run.layout ≡ txn.writes
  pub footprint : run.footprint ≡ txn.footprint
  pub to : run.layout ≡ next

-- nothing is against redoing the transaction, and a redo leads to this layout
pub record CanBeRedone (h : History) (session : ℕ) (txn : TxnId) (layout : Layout) : Type 0 where
  pub free : redo_refusal h txn ≡ None
  pub to : (after_redo h session txn).layout ≡ layout
