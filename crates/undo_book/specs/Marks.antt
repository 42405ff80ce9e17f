-- A call that gives a transaction a mark: a redo marks it as live, an undo as undone.
use Rattle.std.specs.Prelude.{ℕ, Bool, true, false, Option}
use Rattle.lay_layouts.specs.Layout.{Layout}
use Rattle.txn_commands.specs.declared.command.TxnId.{TxnId}
use Rattle.txn_commands.specs.Elements.{Touched}
use Rattle.txn_commands.specs.Records.{Records, applied, reverted}
use Rattle.undo_rules.specs.declared.log.Answer.{Answer}
use Rattle.undo_rules.specs.declared.log.Answer.TheVariants.{Redone, Undone}
use Rattle.undo_rules.specs.declared.log.BookFault.{BookFault}
use Rattle.undo_rules.specs.declared.log.Call.{Call}
use Rattle.undo_rules.specs.declared.log.Call.TheVariants.{Redo, Undo}
use Rattle.undo_rules.specs.Books.{History}
use Rattle.undo_rules.specs.Steps.{logged, redo_refusal, settled, undo_refusal, with_mark}
use Rattle.undo_index.specs.Listed.{AreAdded, AreRemoved, Listed}

-- what is against it
abbrev pub mark_refusal : Bool → History → TxnId → Option BookFault
mark_refusal false h txn = undo_refusal h txn
mark_refusal true h txn = redo_refusal h txn

-- the call, and its answer where nothing is
abbrev pub mark_call : Bool → TxnId → Call
mark_call false txn = Undo txn
mark_call true txn = Redo txn

abbrev pub mark_answer : Bool → Answer
mark_answer false = Undone
mark_answer true = Redone

-- what is left then: `after_undo` or `after_redo`
abbrev pub after_mark : Bool → History → ℕ → TxnId → History
after_mark live h session txn = settled (logged (with_mark h live txn) session (mark_call live txn) (mark_answer live))

-- the layout with the values after, or with those before
abbrev pub layout_by : Bool → Layout → Records → Layout
layout_by false layout writes = reverted layout writes
layout_by true layout writes = applied layout writes

-- the place is listed under those of these elements too that the transaction didn't make, or under none of these
abbrev pub AreUpdated : Bool → Listed → TxnId → Touched → ℕ → Listed → Type 0
AreUpdated false old txn elements place new = AreRemoved old txn elements place new
AreUpdated true old txn elements place new = AreAdded old txn elements place new
