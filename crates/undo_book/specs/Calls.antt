-- Calls that can be out of memory, and commits that hand their works back.
use Rattle.std.specs.Prelude.{◌≡◌, ◌⊎◌, Option, None, Some, Result, Ok, Err}
use Rattle.txn_commands.specs.declared.command.TxnId.{TxnId}
use Rattle.txn_commands.specs.Transactions.{Transaction}
use Rattle.undo_rules.specs.declared.log.BookFault.{BookFault}
use Rattle.undo_rules.specs.declared.log.BookFault.TheVariants.{NoMemory, Stale}
use Rattle.undo_rules.specs.Books.{History}
use Rattle.undo_rules.specs.Steps.{after_stale}
use Rattle.undo_book.specs.declared.commit.CommitRefusal.{CommitRefusal}

-- the call is answered as it is to be and leaves what it is to leave, or it is out of memory and nothing changes
abbrev pub Takes : {T : Type 0} → History → Result T BookFault × History → Result T BookFault → History → Type 0
Takes old wanted result new = ((result ≡ wanted.0) × (new ≡ wanted.1)) ⊎ ((result ≡ Err NoMemory) × (new ≡ old))

-- the work is handed back, unless it was stale and has ended
abbrev pub handed_back : BookFault → Transaction → Option Transaction
handed_back (Stale other) work = None
handed_back fault work = Some work

abbrev pub refused : BookFault → Transaction → CommitRefusal
refused fault work = record { fault = fault; work = handed_back fault work }

-- the answer of a commit, with the work where it is handed back
abbrev pub with_refused_work : Result TxnId BookFault → Transaction → Result TxnId CommitRefusal
with_refused_work (Ok txn) work = Ok txn
with_refused_work (Err fault) work = Err (refused fault work)

-- `Takes`, for a call that is handed a work
abbrev pub TakesWork : History → Transaction → Result TxnId BookFault × History → Result TxnId CommitRefusal → History → Type 0
TakesWork old work wanted result new =
    ((result ≡ with_refused_work wanted.0 work) × (new ≡ wanted.1)) ⊎ ((result ≡ Err (refused NoMemory work)) × (new ≡ old))

-- the same of a work that is stale because of the other transaction
abbrev pub EndsStale : History → Transaction → TxnId → Result TxnId CommitRefusal → History → Type 0
EndsStale old work other result new = TakesWork old work (Err (Stale other), after_stale old work other) result new
