-- What a line can tell of a reply.
use Rattle.std.specs.Prelude.{◌≤◌, List, length}
use Rattle.std.specs.List.{AllByRecursion}
use Rattle.lay_cells.specs.declared.cells.TheConstants.{MAX_SYMBOL}
use Rattle.lay_layouts.specs.declared.item.Item.{Item}
use Rattle.lay_layouts.specs.declared.item.Item.TheVariants.{Placed, Shape}
use Rattle.lay_point.specs.declared.point.Point.{Point}
use Rattle.txn_commands.specs.declared.command.Done.{Done}
use Rattle.txn_commands.specs.declared.command.Done.TheVariants.{Made, Several, Empty, Plain, Found}
use Rattle.undo_rules.specs.declared.log.BookFault.TheVariants.{Depends, Moved, Stale}
use Rattle.session_steps.specs.declared.Reply.{Reply}
use Rattle.session_steps.specs.declared.Reply.TheVariants.{Opened, Done as CommandDone, Committed, Cancelled, Undone, Redone, Fault}
use Rattle.session_steps.specs.declared.StepFault.{StepFault}
use Rattle.session_steps.specs.declared.StepFault.TheVariants.{Book}
use Rattle.job_laws.specs.Written.{IsCell, IsItem, IsLayerName, IsPoint, IsTxn}

-- a ring has a point or more
pub record HasPoints (ring : List Point) : Type 0 where
  pub some : 1 ≤ length ring
  pub points : AllByRecursion IsPoint ring

-- an item that was looked at
abbrev pub CanShow : Item → Type 0
CanShow (Shape cell layer rings) = IsCell cell × IsLayerName layer × AllByRecursion HasPoints rings
CanShow (Placed cell target turn) = IsCell cell × (target ≤ MAX_SYMBOL) × IsPoint turn.shift

-- the answer of a command; where items are new, there is one or more
abbrev pub CanAnswer : Done → Type 0
CanAnswer (Made id) = IsItem id
CanAnswer (Several first count) = IsItem first × (1 ≤ count) × (count ≤ 4294967295)
CanAnswer Empty = Unit {0}
CanAnswer Plain = Unit {0}
CanAnswer (Found item) = CanShow item

-- a refusal, and the transaction that it names
abbrev pub CanRefuse : StepFault → Type 0
CanRefuse (Book (Depends txn)) = IsTxn txn
CanRefuse (Book (Moved txn)) = IsTxn txn
CanRefuse (Book (Stale txn)) = IsTxn txn
CanRefuse fault = Unit {0}

-- the reply's numbers are such as a line can have
abbrev pub CanTell : Reply → Type 0
CanTell (Opened txn) = txn ≤ 65535
CanTell (CommandDone done) = CanAnswer done
CanTell (Committed txn) = Unit {0}
CanTell Cancelled = Unit {0}
CanTell Undone = Unit {0}
CanTell Redone = Unit {0}
CanTell (Fault fault) = CanRefuse fault

-- an accepted commit
abbrev pub IsCommitted : Reply → Type 0
IsCommitted (Opened txn) = ⊥
IsCommitted (CommandDone done) = ⊥
IsCommitted (Committed txn) = Unit {0}
IsCommitted Cancelled = ⊥
IsCommitted Undone = ⊥
IsCommitted Redone = ⊥
IsCommitted (Fault fault) = ⊥
