-- What a session has open: a transaction on a sound snapshot, or none.
use Rattle.std.proofs.Common.{◌≡◌, ℕ, zero, suc, List, [], ◌∷◌, Option, None, Some, Result, Ok, Err, refl}
use Rattle.std.proofs.Common.{ap, sym, ◌∙◌, replicate, slice_index_or, slice_set}
use Rattle.std.specs.Prelude.{unwrap_or}
use Rattle.std.specs.List.{AllByRecursion}
use Rattle.lay_layouts.specs.Sound.{IsSound}
use Rattle.txn_commands.specs.declared.command.Command.{Command}
use Rattle.txn_commands.specs.declared.command.Done.{Done}
use Rattle.txn_commands.specs.declared.fault.CmdFault.{CmdFault}
use Rattle.txn_commands.specs.Effects.{Run, after_each, begun, effect}
use Rattle.txn_commands.specs.Transactions.{IsTransaction, Transaction}
use Rattle.txn_rules.proofs.Runs.{after_each-push}
use Rattle.txn_work.specs.Answers.{after_command, after_effect, run_so_far}
use Rattle.txn_work.proofs.Kept.{no_records}
use Rattle.undo_rules.specs.Books.{History}
use Rattle.undo_rules.specs.Steps.{opening}

-- the transaction is what its commands make of its snapshot, which is sound
pub record IsWork (txn : Transaction) : Type 0 where
  pub transaction : IsTransaction txn
  pub sound : IsSound txn.snapshot

abbrev pub IsOpenWork : Option Transaction → Type 0
IsOpenWork None = Unit {0}
IsOpenWork (Some txn) = IsWork txn

-- one that a book opens
pub opens_work : (h : History) (session : ℕ) → IsSound h.layout → IsWork (opening h session)
opens_work h session sound = record {
  transaction = record { run = begun h.layout; runs = refl; writes = no_records h.layout; footprint = refl };
  sound = sound;
}

-- one more command
pub commands_work : (txn : Transaction) (command : Command) → IsWork txn → IsWork (after_command txn command)
commands_work txn command is = by (effect txn.id command (run_so_far txn)) refl where
  so_far : after_each txn.id txn.commands (begun txn.snapshot) ≡ Some (run_so_far txn)
  so_far = is.transaction.runs ∙ ap Some (sym (ap (λ run. unwrap_or run (begun txn.snapshot)) is.transaction.runs))

  by : (r : Result (Done × Run) CmdFault) → effect txn.id command (run_so_far txn) ≡ r → IsWork (after_effect txn command r)
  by (Ok next) accepted = record {
    transaction = record {
      run = next.1;
      runs = after_each-push txn.id txn.commands command (begun txn.snapshot) (run_so_far txn) next so_far accepted;
      writes = refl;
      footprint = refl;
    };
    sound = is.sound;
  }
  by (Err fault) refused = is

-- ---- those of all sessions

abbrev pub AreWorks : List (Option Transaction) → Type 0
AreWorks works = AllByRecursion IsOpenWork works

pub no_works : (n : ℕ) → AreWorks (replicate n None)
no_works zero = tt
no_works (suc n) = (tt, no_works n)

pub work_at : (works : List (Option Transaction)) (place : ℕ) → AreWorks works → IsOpenWork (slice_index_or works place None)
work_at [] place all = tt
work_at (work ∷ works) zero all = all.0
work_at (work ∷ works) (suc place) all = work_at works place all.1

pub works_with : (works : List (Option Transaction)) (place : ℕ) (work : Option Transaction) → AreWorks works → IsOpenWork work →
    AreWorks (slice_set works place work)
works_with [] place work all is = tt
works_with (other ∷ works) zero work all is = (is, all.1)
works_with (other ∷ works) (suc place) work all is = (all.0, works_with works place work all.1 is)
