-- Replies as CIF comments, one a line: the session, the number of the step, and the answer in words.
-- Source: this project's own.
-- Checked on: `(1 1 opened 1);`, `(1 2 made 1.1.1);`, `(1 3 committed);`, `(1 4 undone);`, and
-- `(1 7 fault 23 Depends 2.1);` of tests/jobs/a-scan.job.
use Rattle.std.specs.Prelude.{ℕ, ◌+◌, ◌-◌, List, [], ◌∷◌, ◌++◌, codes, decimal, if◌then◌else◌}
use Rattle.byte_io.specs.Decimal.{spaced_pair}
use Rattle.lay_cells.specs.declared.cell_id.CellId.{CellId}
use Rattle.lay_cells.specs.declared.cell_id.CellId.TheVariants.{Top, Symbol}
use Rattle.lay_layouts.specs.declared.id.ItemId.{ItemId}
use Rattle.lay_layouts.specs.declared.item.Item.{Item}
use Rattle.lay_layouts.specs.declared.item.Item.TheVariants.{Placed, Shape}
use Rattle.lay_layouts.specs.IdText.{item_text}
use Rattle.lay_point.specs.declared.point.Point.{Point}
use Rattle.lay_point.specs.declared.turn.Quarter.{Quarter}
use Rattle.lay_point.specs.declared.turn.Quarter.TheVariants.{R0, R90, R180, R270}
use Rattle.lay_point.specs.declared.turn.Turn.{Turn}
use Rattle.txn_commands.specs.declared.command.Done.{Done}
use Rattle.txn_commands.specs.declared.command.Done.TheVariants.{Made, Several, Empty, Plain, Found}
use Rattle.txn_commands.specs.Own.{id_from}
use Rattle.txn_commands.specs.Refusals.{txn_text}
use Rattle.undo_rules.specs.declared.log.BookFault.TheVariants.{Depends, Moved, Stale}
use Rattle.session_steps.specs.declared.Reply.{Reply}
use Rattle.session_steps.specs.declared.Reply.TheVariants.{Opened, Done as CommandDone, Committed, Cancelled, Undone, Redone, Fault}
use Rattle.session_steps.specs.declared.StepFault.{StepFault}
use Rattle.session_steps.specs.declared.StepFault.TheVariants.{Book}
use Rattle.session_steps.specs.Refusals.{step_code}

-- a cell
abbrev pub cell_text : CellId → List ℕ
cell_text Top = codes "top"
cell_text (Symbol number) = decimal number

-- a point: a space before each coordinate
unfoldable pub spaced_point : Point → List ℕ
spaced_point p = spaced_pair p.x p.y

abbrev pub points_text : List Point → List ℕ
points_text [] = []
points_text (p ∷ points) = spaced_point p ++ points_text points

-- what stands between two rings
abbrev pub bar_text : List (List Point) → List ℕ
bar_text [] = []
bar_text (ring ∷ rings) = codes " /"

-- rings, with ` / ` between
abbrev pub rings_text : List (List Point) → List ℕ
rings_text [] = []
rings_text (ring ∷ rings) = points_text ring ++ bar_text rings ++ rings_text rings

-- the degrees of quarter turns
abbrev pub degrees_text : Quarter → List ℕ
degrees_text R0 = codes "0"
degrees_text R90 = codes "90"
degrees_text R180 = codes "180"
degrees_text R270 = codes "270"

-- a turn without its shift: whether it mirrors, and its degrees
unfoldable pub turning_text : Turn → List ℕ
turning_text turn = (if turn.mirror then codes "m" else codes "r") ++ degrees_text turn.quarter

-- an item that was looked at
unfoldable pub found_text : Item → List ℕ
found_text (Shape cell layer rings) = codes "shape " ++ cell_text cell ++ codes " " ++ layer ++ rings_text rings
found_text (Placed cell target turn) =
    codes "placed " ++ cell_text cell ++ codes " " ++ decimal target ++ codes " " ++ turning_text turn ++ spaced_point turn.shift

-- new items, so many from this id on: the first and the last
unfoldable pub several_text : ItemId → ℕ → List ℕ
several_text first count = codes "made " ++ item_text first ++ codes " to " ++ item_text (id_from first (count - 1))

-- the answer of a command
abbrev pub done_text : Done → List ℕ
done_text (Made id) = codes "made " ++ item_text id
done_text (Several first count) = several_text first count
done_text Empty = codes "empty"
done_text Plain = codes "done"
done_text (Found item) = found_text item

-- the transaction that a refusal names, behind a space
abbrev pub named_text : StepFault → List ℕ
named_text (Book (Depends txn)) = codes " " ++ txn_text txn
named_text (Book (Moved txn)) = codes " " ++ txn_text txn
named_text (Book (Stale txn)) = codes " " ++ txn_text txn
named_text fault = []

-- a refusal
unfoldable pub fault_text : StepFault → List ℕ
fault_text fault = codes "fault " ++ decimal (step_code fault).0 ++ codes " " ++ (step_code fault).1 ++ named_text fault

-- the words of an answer
unfoldable pub answer_text : Reply → List ℕ
answer_text (Opened txn) = codes "opened " ++ decimal txn
answer_text (CommandDone done) = done_text done
answer_text (Committed txn) = codes "committed"
answer_text Cancelled = codes "cancelled"
answer_text Undone = codes "undone"
answer_text Redone = codes "redone"
answer_text (Fault fault) = fault_text fault

-- the line of a reply to this step of this session
unfoldable pub reply_text : ℕ → ℕ → Reply → List ℕ
reply_text session step reply =
    codes "(" ++ decimal session ++ codes " " ++ decimal step ++ codes " " ++ answer_text reply ++ codes ");\n"

-- the replies to steps of a session, of which the first has this number
abbrev pub session_text : ℕ → ℕ → List Reply → List ℕ
session_text session step [] = []
session_text session step (reply ∷ replies) = reply_text session step reply ++ session_text session (step + 1) replies

-- the replies of sessions, of which the first has this number
abbrev pub sessions_text : ℕ → List (List Reply) → List ℕ
sessions_text session [] = []
sessions_text session (replies ∷ sessions) = session_text session 1 replies ++ sessions_text (session + 1) sessions

-- the replies of all sessions, each to its steps in order
abbrev pub replies_text : List (List Reply) → List ℕ
replies_text sessions = sessions_text 1 sessions
