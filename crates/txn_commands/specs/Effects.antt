-- The effect of commands on a transaction, as it sees its layout.
-- Source: this project's own.
-- Checked on: the first box of session 1's first transaction makes 1.1.1, and the layout of the
-- text keeps its 0.0.1.
use Rattle.std.specs.Prelude.{ℕ, ◌+◌, List, [], ◌∷◌, ◌++◌, length, Bool, ◌||◌, nat_lt, Option, None, Some, Result, Ok, Err}
use Rattle.lay_layouts.specs.declared.id.ItemId.{ItemId}
use Rattle.lay_layouts.specs.Layout.{Layout}
use Rattle.txn_commands.specs.declared.command.Command.{Command}
use Rattle.txn_commands.specs.declared.command.Done.{Done}
use Rattle.txn_commands.specs.declared.command.TheConstants.{MAX_COMMANDS}
use Rattle.txn_commands.specs.declared.command.TxnId.{TxnId}
use Rattle.txn_commands.specs.declared.fault.CmdFault.{CmdFault}
use Rattle.txn_commands.specs.declared.fault.CmdFault.TheVariants.{TxnFull}
use Rattle.txn_commands.specs.Acts.{Act}
use Rattle.txn_commands.specs.Elements.{Touched, untouched, with_elements}
use Rattle.txn_commands.specs.Plans.{plan, refused_if}
use Rattle.txn_commands.specs.Writing.{rewritten}

-- how far a transaction has come: the layout as it sees it, how many items it made, what it touched, and the answers
-- of its accepted commands in order
pub record Run : Type 0 where
  pub layout : Layout
  pub made : ℕ
  pub footprint : Touched
  pub dones : List Done

-- a transaction before its first command
abbrev pub begun : Layout → Run
begun layout = record { layout = layout; made = 0; footprint = untouched; dones = [] }

-- the id of its next new item
abbrev pub next_id : TxnId → Run → ItemId
next_id txn run = record { session = txn.session; txn = txn.txn; seq = run.made + 1 }

-- the transaction after an act
abbrev pub perform : Run → Act → Run
perform run act = record {
  layout = rewritten run.layout act.items act.symbols;
  made = run.made + act.made;
  footprint = with_elements run.footprint act.elements;
  dones = run.dones ++ act.done ∷ [];
}

-- it would have more accepted commands, or new items, than it may have
abbrev pub is_too_much : Run → Act → Bool
is_too_much run act = nat_lt MAX_COMMANDS (length run.dones + 1) || nat_lt MAX_COMMANDS (run.made + act.made)

-- the act's answer, and the transaction after it
abbrev pub acted : Run → Result Act CmdFault → Result (Done × Run) CmdFault
acted run (Err fault) = Err fault
acted run (Ok act) = refused_if (is_too_much run act) TxnFull (Ok (act.done, perform run act))

-- what a command answers and makes of a transaction, or its refusal
unfoldable pub effect : TxnId → Command → Run → Result (Done × Run) CmdFault
effect txn command run = acted run (plan (next_id txn run) command run.layout)

-- goes on from an accepted command
abbrev pub if_accepted : Result (Done × Run) CmdFault → (Run → Option Run) → Option Run
if_accepted (Ok next) more = more next.1
if_accepted (Err fault) more = None

-- what commands that are all accepted make of a transaction
abbrev pub after_each : TxnId → List Command → Run → Option Run
after_each txn [] run = Some run
after_each txn (command ∷ commands) run = if_accepted (effect txn command run) (λ next. after_each txn commands next)
