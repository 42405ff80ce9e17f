-- What stays of an operation in a history: its shapes are as the operation drew them, until another transaction draws there.
use Rattle.std.specs.Prelude.{◌≡◌, ℕ, true, false, List, ◌∷◌, ◌++◌, None, Some, Ok}
use Rattle.std.specs.List.{AllByRecursion}
use Rattle.lay_cells.specs.declared.cell_id.CellId.{CellId}
use Rattle.lay_layouts.specs.declared.id.ItemId.{ItemId}
use Rattle.lay_layouts.specs.Layout.{Layout, item_at}
use Rattle.lay_layouts.specs.Lent.{shapes_in}
use Rattle.lay_layouts.specs.Sound.{IsSound}
use Rattle.face_rows.specs.declared.op.Op.{Op}
use Rattle.txn_commands.specs.declared.command.Command.{Command}
use Rattle.txn_commands.specs.declared.command.Command.TheVariants.{Bool as Combine}
use Rattle.txn_commands.specs.declared.command.Done.{Done}
use Rattle.txn_commands.specs.declared.command.TxnId.{TxnId}
use Rattle.txn_commands.specs.declared.element.Element.{Element}
use Rattle.txn_commands.specs.declared.element.Element.TheVariants.{Layer}
use Rattle.txn_commands.specs.Effects.{Run, after_each, begun, effect}
use Rattle.txn_commands.specs.Meets.{some_meets}
use Rattle.undo_rules.specs.declared.log.Logged.{Logged}
use Rattle.undo_rules.specs.Histories.{AreKept, commands_at, replay_from}
use Rattle.undo_rules.specs.Links.{Entry}
use Rattle.undo_laws.specs.Laws.{HoldWhereAsked, LeavesOthers}

-- no live one of these transactions wrote what lies in the element
abbrev pub NoLiveWriter : Element → List Entry → Type 0
NoLiveWriter e entries = AllByRecursion (λ entry. entry.live ≡ true → some_meets entry.writes e ≡ false) entries

-- the layout has no item with an id of the transaction
abbrev pub HasNoItemOf : TxnId → Layout → Type 0
HasNoItemOf txn layout = (id : ItemId) → id.session ≡ txn.session → id.txn ≡ txn.txn → item_at layout id ≡ None

-- an operation on two layers of a cell, and the layer on which its result is drawn
pub record Drawing : Type 0 where
  pub op : Op
  pub cell : CellId
  pub a : List ℕ
  pub b : List ℕ
  pub out : List ℕ

-- the command that asks for it
abbrev pub drawing_command : Drawing → Command
drawing_command d = Combine d.op d.cell d.a d.b d.out

-- A command of a transaction in a history: the history's log, and its layouts at the beginning and at the end; the transactions
-- before this one and after it; and its commands before this one and after it.
pub record Setting : Type 0 where
  pub log : List Logged
  pub base : Layout
  pub layout : Layout
  pub before : List Entry
  pub entry : Entry
  pub later : List Entry
  pub earlier : List Command
  pub rest : List Command

abbrev pub entries_of : Setting → List Entry
entries_of s = s.before ++ s.entry ∷ s.later

-- the transaction committed this command there
abbrev pub HasCommand : Setting → Command → Type 0
HasCommand s command = commands_at s.log s.entry.place ≡ Some (s.earlier ++ command ∷ s.rest)

-- the layout of the live transactions before it, and the transaction's own work up to the command, after it, and at its end
pub record Passage (s : Setting) (command : Command) : Type 0 where
  pub start : Layout
  pub reached : Run
  pub next : Done × Run
  pub last : Run
  pub start_is : replay_from s.log s.base s.before ≡ Some start
  pub reaches : after_each s.entry.txn s.earlier (begun start) ≡ Some reached
  pub does : effect s.entry.txn command reached ≡ Ok next
  pub ends : after_each s.entry.txn s.rest next.1 ≡ Some last

-- the layout that the command leaves
abbrev pub left_by : {s : Setting} {command : Command} → Passage s command → Layout
left_by way = way.next.1.layout

-- At the history's end the shapes of the cell on its layer hold where the operation did, unless its transaction changed them after
-- it or a later live one wrote there. Other shapes, calls and symbols are after it as before it, where the history began without
-- ids of the transaction.
pub record Stays (s : Setting) (d : Drawing) : Type 0 where
  pub way : Passage s (drawing_command d)
  pub holds : shapes_in way.last.layout d.cell d.out ≡ shapes_in (left_by way) d.cell d.out → NoLiveWriter (Layer d.cell d.out) s.later
      → HoldWhereAsked way.reached.layout d.op d.cell d.a d.b (shapes_in s.layout d.cell d.out)
  pub others : HasNoItemOf s.entry.txn s.base → LeavesOthers d.cell d.out way.reached.layout (left_by way)

-- so it is of each operation of a live transaction, in a history that began on a sound layout
abbrev pub OperationsStay : Type 0
OperationsStay = (s : Setting) (d : Drawing) → IsSound s.base → AreKept s.log s.base s.layout (entries_of s) → s.entry.live ≡ true
    → HasCommand s (drawing_command d) → Stays s d
