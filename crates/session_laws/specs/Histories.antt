-- Where the steps of sessions lead.
use Rattle.std.specs.Prelude.{◌≡◌, ℕ, ◌≤◌, true, List, ◌∷◌, ◌++◌, Ok}
use Rattle.cif_read.specs.Contents.{Contents}
use Rattle.cif_read.specs.Meaning.{IsMeaning}
use Rattle.cif_layout.specs.FromCif.{layout_of}
use Rattle.lay_layouts.specs.Layout.{Layout}
use Rattle.lay_layouts.specs.Sound.{IsSound}
use Rattle.txn_commands.specs.declared.command.Command.{Command}
use Rattle.txn_commands.specs.declared.command.TxnId.{TxnId}
use Rattle.undo_rules.specs.Books.{History, IsHistory}
use Rattle.undo_rules.specs.Links.{Entry}
use Rattle.undo_laws.specs.Staying.{Drawing, HasCommand, HasNoItemOf, Setting, Stays, drawing_command}
use Rattle.session_steps.specs.declared.Reply.{Reply}
use Rattle.session_steps.specs.declared.Step.{Step}
use Rattle.session_core.specs.Machine.{Ran, State, after_steps, start}

-- the state has a history from this base
abbrev pub HasHistory : Layout → State → Type 0
HasHistory base s = IsHistory s.history × (s.history.base ≡ base)

-- steps of at most 64 sessions on a sound base lead to a history from it
abbrev pub StepsLeadToHistories : Type 0
StepsLeadToHistories = (base : Layout) (sessions limit : ℕ) (steps : List (ℕ × Step)) (replies : List Reply) (final : State)
    → IsSound base → sessions ≤ 64 → Ran (start base sessions limit) steps replies final → HasHistory base final

-- a command of a transaction of this history, which began on this base
abbrev pub setting_in : Layout → History → List Entry → Entry → List Entry → List Command → List Command → Setting
setting_in base h before entry later earlier rest = record {
  log = h.log;
  base = base;
  layout = h.layout;
  before = before;
  entry = entry;
  later = later;
  earlier = earlier;
  rest = rest;
}

-- what each operation of a live transaction drew stays to the end of the history
abbrev pub KeepsOperations : Layout → History → Type 0
KeepsOperations base h =
    (before : List Entry) (entry : Entry) (later : List Entry) (earlier : List Command) (d : Drawing) (rest : List Command)
    → h.entries ≡ before ++ entry ∷ later → entry.live ≡ true
    → HasCommand (setting_in base h before entry later earlier rest) (drawing_command d)
    → Stays (setting_in base h before entry later earlier rest) d

-- so it is of a machine's steps
abbrev pub MachinesKeepOperations : Type 0
MachinesKeepOperations = (base : Layout) (sessions limit : ℕ) (steps : List (ℕ × Step)) (replies : List Reply) (final : State)
    → IsSound base → sessions ≤ 64 → Ran (start base sessions limit) steps replies final → KeepsOperations base final.history

-- and of the program's, to none of which memory is refused
abbrev pub ProgramsKeepOperations : Type 0
ProgramsKeepOperations = (base : Layout) (sessions limit : ℕ) (steps : List (ℕ × Step)) → IsSound base → sessions ≤ 64
    → KeepsOperations base (after_steps (start base sessions limit) steps).1.history

-- The layout that a text means is such a base, and none of its items has an id of a transaction: sessions are numbered from 1.
abbrev pub TextsMeanBases : Type 0
TextsMeanBases = (text : List ℕ) (file : Contents) → IsMeaning text (Ok file)
    → IsSound (layout_of file) × ((txn : TxnId) → 1 ≤ txn.session → HasNoItemOf txn (layout_of file))
