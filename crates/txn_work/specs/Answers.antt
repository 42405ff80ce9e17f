-- What a command in a transaction answers, and the transaction after it.
use Rattle.std.specs.Prelude.{[], ◌∷◌, ◌++◌, Result, Ok, Err, unwrap_or, refl, List, ℕ}
use Rattle.std.specs.Coded.{Coded, code_by, coded×, coded_list, coded_ℕ}
use Rattle.lay_layouts.specs.Layout.{Layout, coded_layout}
use Rattle.txn_marks.specs.Coded.{coded_records}
use Rattle.txn_commands.specs.contracts.command.Command as command
use Rattle.txn_commands.specs.contracts.command.TxnId as txn_id
use Rattle.txn_commands.specs.declared.command.Command.{Command}
use Rattle.txn_commands.specs.declared.command.Done.{Done}
use Rattle.txn_commands.specs.declared.command.TxnId.{TxnId}
use Rattle.txn_commands.specs.declared.fault.CmdFault.{CmdFault}
use Rattle.txn_commands.specs.Effects.{Run, after_each, begun, effect}
use Rattle.txn_commands.specs.Elements.{Touched, coded_touched}
use Rattle.txn_commands.specs.Records.{Records, records_between}
use Rattle.txn_commands.specs.Transactions.{Transaction}

-- how far its commands have brought a transaction
abbrev pub run_so_far : Transaction → Run
run_so_far txn = unwrap_or (after_each txn.id txn.commands (begun txn.snapshot)) (begun txn.snapshot)

-- the answer alone
abbrev pub done_of_effect : Result (Done × Run) CmdFault → Result Done CmdFault
done_of_effect (Ok next) = Ok next.0
done_of_effect (Err fault) = Err fault

-- what the next command is answered
abbrev pub answer_to : Transaction → Command → Result Done CmdFault
answer_to txn command = done_of_effect (effect txn.id command (run_so_far txn))

-- the transaction with one more command, which leads it there
abbrev pub with_command : Transaction → Command → Run → Transaction
with_command txn command next = record txn {
  commands = txn.commands ++ command ∷ [];
  writes = records_between txn.snapshot next.layout;
  footprint = next.footprint;
}

-- the transaction after the command: a refused one changes nothing
abbrev pub after_effect : Transaction → Command → Result (Done × Run) CmdFault → Transaction
after_effect txn command (Ok next) = with_command txn command next.1
after_effect txn command (Err fault) = txn

abbrev pub after_command : Transaction → Command → Transaction
after_command txn command = after_effect txn command (effect txn.id command (run_so_far txn))

-- a transaction is stored as its parts
abbrev pub coded_transaction : Coded Transaction
coded_transaction =
    code_by (TxnId × (ℕ × (Layout × (List Command × (Records × Touched)))))
    (coded× txn_id.the_row.coded (coded× coded_ℕ (coded× coded_layout
    (coded× (coded_list command.the_row.coded) (coded× coded_records coded_touched)))))
    (λ t. (t.id, (t.opened, (t.snapshot, (t.commands, (t.writes, t.footprint))))))
    (λ p. record { id = p.0; opened = p.1.0; snapshot = p.1.1.0; commands = p.1.1.1.0; writes = p.1.1.1.1.0; footprint = p.1.1.1.1.1 })
    (λ _. refl)
