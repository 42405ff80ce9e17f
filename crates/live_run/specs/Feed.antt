-- Where a live run stands between two bytes, by all the bytes that were given so far.
use Rattle.std.specs.Prelude.{
  ◌≡◌,
  ◌≢◌,
  ℕ,
  ◌+◌,
  ◌⊎◌,
  ⊤,
  List,
  [],
  ◌++◌,
  length,
  filter,
  Bool,
  true,
  false,
  not,
  ◌==◌,
  Option,
  None,
  Some,
  Result,
  Ok,
  Err,
}
use Rattle.std.specs.List.{concat, list_all}
use Rattle.std.specs.Io.KnownBytes.{Consumes}
use Rattle.byte_io.specs.Lines.{lines}
use Rattle.live_run.specs.Live.{LiveRun, after_lines}
use Rattle.live_run.specs.declared.showing.Showing.{Showing}
use Rattle.live_run.specs.declared.course.Course.{Course}
use Rattle.live_run.specs.declared.line_feed.LineFeed.{LineFeed}
use Rattle.live_run.specs.declared.ending.LiveEnd.{LiveEnd}
use Rattle.live_run.specs.Cif.{behind, is_ended, whole}
use Rattle.live_run.specs.Course.{Phase, InHead, InSteps, RefusesHead, phase_of}
use Rattle.live_run.specs.Devices.{Devices, Observed}
use Rattle.live_run.specs.Ending.{Does, IsEnd, IsEnded, IsStop, Past, Unbegun, all_lines, no_past}
use Rattle.live_run.specs.Journal.{KeptText, kept_in}
use Rattle.live_run.specs.Said.{AreAnswered, IsFirstRun}

-- whether the byte ends no line
abbrev pub is_not_newline : ℕ → Bool
is_not_newline b = not (b == 10)

-- the bytes are these lines, each with its newline, and so much of the next
pub record IsCut (bytes : List ℕ) (seen : List (List ℕ)) (line : List ℕ) : Type 0 where
  pub cut : (more : List ℕ) → lines (bytes ++ more) ≡ seen ++ lines (line ++ more)
  pub ended : filter is_ended seen ≡ seen
  pub inside : list_all is_not_newline line ≡ true

module _ {O J : Type 0} (showing : Showing) (written : O → Option (List ℕ)) (failures : O → ℕ) (kept : J → Option (List KeptText))
    (losses : J → ℕ) (past : Past) (base out : O × J) where
  -- from the devices before the first line to these, these lines were kept and answered, and the run stands here
  abbrev pub IsAt : List (List ℕ) → Phase → Type 0
  IsAt seen (InHead head count) =
      (behind seen ≡ None) × (head ≡ concat seen) × (count ≡ length seen) × (past ≡ no_past) × (out ≡ base)
  IsAt seen (InSteps run) =
      (fed : List (List ℕ)) × (first : LiveRun) × (behind seen ≡ Some fed) × IsFirstRun showing seen first
      × (run ≡ after_lines first fed) × (said : List ℕ) × AreAnswered first fed said
      × Does written failures kept losses past base out said (kept_in seen)

  -- the same, by the bytes that were given
  abbrev pub Feeds : List ℕ → Phase → List ℕ → Type 0
  Feeds given phase line = (seen : List (List ℕ)) × IsCut given seen line × IsAt (past.lines ++ seen) phase

  -- so a run stands once these bytes were given; or it stopped in them, whatever stands behind them
  abbrev pub FeedsOn : List ℕ → Result LineFeed LiveEnd → Type 0
  FeedsOn given (Ok line_feed) = Feeds given (phase_of line_feed.course) line_feed.line.items
  FeedsOn given (Err end) = (more : List ℕ) → IsStop showing written failures kept losses past base out (given ++ more) ⊥ end

  -- so a run stands once all lines were fed, the last too; or it has ended
  abbrev pub FeedsLast : List ℕ → Result Course LiveEnd → Type 0
  FeedsLast given (Ok course) = IsAt (all_lines past given) (phase_of course)
  FeedsLast given (Err end) = IsStop showing written failures kept losses past base out given ⊤ end

module _ {O J : Type 0} (showing : Showing) (written : O → Option (List ℕ)) (failures : O → ℕ) (kept : J → Option (List KeptText))
    (losses : J → ℕ) (out out' : O × J) where
  -- a run that stands here is led there by this piece of the input
  abbrev pub PieceTo : LineFeed → List ℕ → Result LineFeed LiveEnd → Type 0
  PieceTo line_feed piece result =
      (past : Past) (base : O × J) (given : List ℕ)
      → Feeds showing written failures kept losses past base out given (phase_of line_feed.course) line_feed.line.items
      → FeedsOn showing written failures kept losses past base out' (given ++ piece) result

  -- the last line, which has no newline, is fed too
  abbrev pub LastTo : LineFeed → Result Course LiveEnd → Type 0
  LastTo line_feed result =
      (past : Past) (base : O × J) (given : List ℕ)
      → Feeds showing written failures kept losses past base out given (phase_of line_feed.course) line_feed.line.items
      → FeedsLast showing written failures kept losses past base out' given result

  -- a run that stands here when the input has ended, ends so
  abbrev pub EndTo : LineFeed → LiveEnd → Type 0
  EndTo line_feed end =
      (past : Past) (base : O × J) (given : List ℕ)
      → Feeds showing written failures kept losses past base out given (phase_of line_feed.course) line_feed.line.items
      → IsStop showing written failures kept losses past base out' given ⊤ end

-- a run stands before its first line, or behind these lines of its journal
abbrev pub StandsBehind : Showing → List (List ℕ) → Phase → Type 0
StandsBehind showing lines phase = ((lines ≡ []) × (phase ≡ InHead [] 0))
    ⊎ ((fed : List (List ℕ)) × (first : LiveRun) × (behind lines ≡ Some fed) × IsFirstRun showing lines first
    × (phase ≡ InSteps (after_lines first fed)) × (said : List ℕ) × AreAnswered first fed said)

-- a run that stands here begins so: in front of its first line it was fed nothing
abbrev pub BegunAt : Phase → Phase → Type 0
BegunAt (InHead head count) phase = (count ≡ 0) × (phase ≡ InHead [] 0)
BegunAt (InSteps run) phase = phase ≡ InSteps run

-- of a run that was fed a journal: where no live line came, none begins; else it stands where it stood, between lines
abbrev pub BegunTo : LineFeed → Result LineFeed LiveEnd → Type 0
BegunTo line_feed (Ok begun) = BegunAt (phase_of line_feed.course) (phase_of begun.course) × (begun.line.items ≡ [])
BegunTo line_feed (Err end) =
    (head : List ℕ) × (count : ℕ) × (phase_of line_feed.course ≡ InHead head count) × (count ≢ 0) × RefusesHead false head (count + 1) end

-- a run begins behind the lines that this journal has whole, and nothing has come of the next; or none begins
abbrev pub BeginsBehind : Showing → List ℕ → Result LineFeed LiveEnd → Type 0
BeginsBehind showing journal (Ok line_feed) = StandsBehind showing (whole journal) (phase_of line_feed.course) × (line_feed.line.items ≡ [])
BeginsBehind showing journal (Err end) = Unbegun (whole journal) end

module _ {I O J : Type 0} (showing : Showing) (observed : Observed I O J) (first : LineFeed) (before after : Devices I O J) where
  -- with this behind it, a run that feeds these devices stands where it stood first
  abbrev pub StandsFirst : Past → Type 0
  StandsFirst past =
      Feeds showing observed.written observed.failures observed.kept observed.losses past (before.out, before.journal)
      (before.out, before.journal) [] (phase_of first.course) first.line.items

  -- the input was read to its end, and its bytes led the run here
  abbrev pub FedOut : LineFeed → Type 0
  FedOut line_feed =
      (given : List ℕ) × Consumes (observed.remaining before.input) (observed.remaining after.input) given
      × IsEnded (observed.counts before.input) (observed.counts after.input)
      × PieceTo showing observed.written observed.failures observed.kept observed.losses (before.out, before.journal)
      (after.out, after.journal) first given (Ok line_feed)

  -- the input was read so far, and the run ended so
  abbrev pub FedPart : LiveEnd → Type 0
  FedPart end =
      (past : Past) → StandsFirst past
      → (given : List ℕ) × Consumes (observed.remaining before.input) (observed.remaining after.input) given
      × IsEnd showing observed.written observed.failures observed.kept observed.losses past (before.out, before.journal)
      (after.out, after.journal) given (observed.counts before.input) (observed.counts after.input) end

  -- all of the input was fed, or the run has ended before
  abbrev pub FedAll : Result LineFeed LiveEnd → Type 0
  FedAll (Ok line_feed) = FedOut line_feed
  FedAll (Err end) = FedPart end
