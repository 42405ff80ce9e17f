-- Histories: the live transactions, run in the order of their commits, lead from the base to the layout.
-- Source: this project's own.
-- Checked on: two boxes in 1.1 and 1.2: from the base by 1.1 to the first box, by 1.2 to both; with
-- 1.2 undone the first box is left.
use Rattle.std.specs.Prelude.{◌≡◌, ℕ, List, [], ◌∷◌, ◌++◌, length, map, Bool, true}
use Rattle.std.specs.Prelude.{false, Option, None, Some, if◌then◌else◌, slice_get, MatchBool}
use Rattle.std.specs.List.{AllByRecursion}
use Rattle.lay_layouts.specs.Layout.{Layout}
use Rattle.lay_layouts.specs.Sound.{IsSound}
use Rattle.txn_commands.specs.declared.command.Command.{Command}
use Rattle.txn_commands.specs.declared.element.Element.{Element}
use Rattle.txn_commands.specs.Agreement.{Agree}
use Rattle.txn_commands.specs.Effects.{Run, after_each, begun}
use Rattle.txn_commands.specs.Meets.{some_meets}
use Rattle.txn_commands.specs.Records.{Lead, Records, records_between}
use Rattle.undo_rules.specs.declared.log.Call.{Call}
use Rattle.undo_rules.specs.declared.log.Call.TheVariants.{Commit, Open, Redo, Undo}
use Rattle.undo_rules.specs.declared.log.Logged.{Logged}
use Rattle.undo_rules.specs.Links.{AreNamed, Entry, Trace, linked, trace_of}

-- the commands of a commit
abbrev pub committed_by : Call → Option (List Command)
committed_by Open = None
committed_by (Commit txn commands) = Some commands
committed_by (Undo txn) = None
committed_by (Redo txn) = None

-- the commands of a logged commit
abbrev pub commands_in : Option Logged → Option (List Command)
commands_in None = None
commands_in (Some logged) = committed_by logged.call

-- the commands of the commit at this place of the log
abbrev pub commands_at : List Logged → ℕ → Option (List Command)
commands_at log place = commands_in (slice_get log place)

-- goes on from a run
abbrev pub if_run : Option Run → (Layout → Option Layout) → Option Layout
if_run None more = None
if_run (Some run) more = more run.layout

-- the layout after a transaction of these commands
abbrev pub run_on : Entry → Option (List Command) → Layout → (Layout → Option Layout) → Option Layout
run_on entry None layout more = None
run_on entry (Some commands) layout more = if_run (after_each entry.txn commands (begun layout)) more

-- the layout after the live ones of these transactions, each of whose commands is accepted
abbrev pub replay_from : List Logged → Layout → List Entry → Option Layout
replay_from log layout [] = Some layout
replay_from log layout (entry ∷ entries) =
    if entry.live then run_on entry (commands_at log entry.place) layout (λ next. replay_from log next entries)
    else replay_from log layout entries

-- run on the layout before it, the transaction gives the layout after it, with its records and its footprint
pub record RunsBetween (log : List Logged) (entry : Entry) (before after : Layout) : Type 0 where
  pub commands : List Command
  pub run : Run
  pub told : commands_at log entry.place ≡ Some commands
  pub runs : after_each entry.txn commands (begun before) ≡ Some run
  pub after_is : run.layout ≡ after
  pub writes : records_between before after ≡ entry.writes
  pub footprint : run.footprint ≡ entry.footprint

-- the live ones of these transactions lead from the first layout to the last, each with its records
abbrev pub Chain : List Logged → Layout → List Entry → Layout → Type 0
Chain log first [] last = first ≡ last
Chain log first (entry ∷ entries) last =
    MatchBool entry.live ((next : Layout) × RunsBetween log entry first next × Chain log next entries last) (Chain log first entries last)

-- records of the marked transactions lead from the first layout to the last
abbrev pub Laid : List Trace → List Bool → Layout → Layout → Type 0
Laid [] marks first last = first ≡ last
Laid (t ∷ ts) [] first last = first ≡ last
Laid (t ∷ ts) (mark ∷ marks) first last =
    MatchBool mark ((next : Layout) × Lead t.writes first next × Laid ts marks next last) (Laid ts marks first last)

-- as the transaction was committed, these of the earlier ones were live; it ran on the sound layout to which they led, and
-- was linked to what it has seen
pub record IsRooted (log : List Logged) (base : Layout) (earlier : List Trace) (entry : Entry) : Type 0 where
  pub marks : List Bool
  pub count : length marks ≡ length earlier
  pub before : Layout
  pub after : Layout
  pub sound : IsSound before
  pub laid : Laid earlier marks base before
  pub ran : RunsBetween log entry before after
  pub seen : linked entry.footprint earlier marks ≡ entry.seen

-- each of these transactions is so rooted, and a live one is linked to what it has seen; before them these were committed
abbrev pub AreRooted : List Logged → Layout → List Trace → List Bool → List Entry → Type 0
AreRooted log base earlier marks [] = Unit {0}
AreRooted log base earlier marks (entry ∷ entries) =
    IsRooted log base earlier entry
    × (entry.live ≡ true → linked entry.footprint earlier marks ≡ entry.seen)
    × AreRooted log base (earlier ++ trace_of entry ∷ []) (marks ++ entry.live ∷ []) entries

-- what is kept of the transactions: the live ones lead from the base to the layout, each is rooted, and no two have one name
pub record AreKept (log : List Logged) (base layout : Layout) (entries : List Entry) : Type 0 where
  pub chain : Chain log base entries layout
  pub rooted : AreRooted log base [] [] entries
  pub named : AreNamed (map trace_of entries)

-- since a layout was so, records of these transactions were applied or reverted: the layout now agrees with it on each
-- element that none of them meets
abbrev pub IsSince : Layout → List Records → Layout → Type 0
IsSince old changes now = (e : Element) → AllByRecursion (λ ws. some_meets ws e ≡ false) changes → Agree old now e
