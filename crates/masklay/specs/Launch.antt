-- What the words of a command line ask for, and how the program ends early. The first word names the program.
-- Source: this project's own; the crate `clap` for the words.
-- Checked on, by tests/program: `--help`, `-h` and `-hx` are help; `--help=h`, `--h`, `-xh`,
-- `help`, `--workers` with 0, 65, a word or nothing, and the word of no bytes are mistakes, and so
-- is help after another argument; every file of tests/jobs has its output with 2, 3 and 64 workers.
use Rattle.std.specs.Prelude.{◌≡◌, ℕ, ◌⊎◌, ◌&&◌, ◌||◌, Bool, true, false, List, [], ◌∷◌, Option, String, codes, string_bytes}
use Rattle.std.specs.Global.{Global}
use Rattle.std.specs.List.{list_any}
use Rattle.std.specs.Str.{bytes_eq}
use Rattle.masklay.specs.declared.command_line.OptionsFault.{OptionsFault}
use Rattle.masklay.specs.declared.command_line.OptionsFault.TheVariants.{Clap, JournalAlone, LiveAlone, LiveOutput, Workers}
use Rattle.masklay.specs.declared.command_line.Mode.{Mode}
use Rattle.masklay.specs.declared.command_line.Mode.TheVariants.{Job, Live}
use Rattle.masklay.specs.declared.program.status.Status.{Status}
use Rattle.masklay.specs.declared.program.status.Status.TheVariants.{CommandLine, Done}
use Rattle.masklay.specs.Asked.{Asked, asked_of}
use Rattle.live_run.specs.Devices.{Devices, Observed}
use Rattle.live_run.specs.declared.showing.Showing.{Showing}
use Rattle.masklay.specs.Live.{IsLive}
use Rattle.masklay.specs.Output.{Output, WritesOutput, memory_output}
use Rattle.masklay.specs.Run.{IsRun}

-- whether the word is this option
abbrev pub is_option : List ℕ → String Global → Bool
is_option option word = bytes_eq (string_bytes word) option

-- whether one of the arguments is, which are the words behind the first
abbrev pub asks : List ℕ → List (String Global) → Bool
asks option [] = false
asks option (name ∷ arguments) = list_any (is_option option) arguments

-- whether a live run is asked for
abbrev pub asks_to_live : List (String Global) → Bool
asks_to_live words = asks (codes "--live") words

-- what a run is asked for
abbrev pub asked_in : List (String Global) → Asked
asked_in words = record {
  threaded = asks (codes "--threaded") words;
  oriented = asks (codes "--oriented") words;
  named = asks (codes "--names") words;
  strict = asks (codes "--strict") words;
  bare = asks (codes "--cif") words;
  boxed = asks (codes "--boxes") words;
}

-- what a live run that is asked so shows of its layout
abbrev pub showing_of : Asked → Showing
showing_of asked = record { named = asked.named; oriented = asked.oriented }

-- whether an option of a job's run alone stands beside that of a live run
abbrev pub asks_beside_live : List (String Global) → Bool
asks_beside_live words =
    asks_to_live words && (asks (codes "--threaded") words || (asks (codes "--cif") words || asks (codes "--boxes") words))

-- whether that is what is wrong
abbrev pub is_live_alone : OptionsFault → Bool
is_live_alone (Clap error) = false
is_live_alone Workers = false
is_live_alone LiveAlone = true
is_live_alone LiveOutput = false
is_live_alone JournalAlone = false

-- nothing beside the run of a job
abbrev pub nothing_asked : Asked
nothing_asked = record { threaded = false; oriented = false; named = false; strict = false; bare = false; boxed = false }

-- what is to be run for these words
abbrev pub IsModeOf : Mode → List (String Global) → Type 0
IsModeOf (Job options) words = (asks_to_live words ≡ false) × (asked_of options ≡ asked_in words)
IsModeOf (Live options) words =
    (asks_to_live words ≡ true) × (asks_beside_live words ≡ false) × (options.strict ≡ asks (codes "--strict") words)
    × (options.showing ≡ showing_of (asked_in words))

-- from the devices before to those after: the run of a job that was asked so, of which a journal knows nothing, or a live run
-- behind these bytes of its journal
abbrev pub Runs : {I O J : Type 0} → Observed I O J → Bool → Asked → List ℕ → Devices I O J → Devices I O J → Status → Type 0
Runs observed false asked journal before after status =
    IsRun asked observed.remaining observed.counts observed.written observed.failures before.input after.input before.out after.out status
    × (after.journal ≡ before.journal)
Runs observed true asked journal before after status = IsLive asked.strict (showing_of asked) observed journal before after status

-- a device that is written to, before and after, and what contracts see of it
pub record Writing (S : Type 0) : Type 0 where
  pub written : S → Option (List ℕ)
  pub failures : S → ℕ
  pub before : S
  pub after : S

abbrev pub writing : {S : Type 0} → (S → Option (List ℕ)) → (S → ℕ) → S → S → Writing S
writing written failures before after = record { written = written; failures = failures; before = before; after = after }

-- this is written to the one device, and the other is as it was
abbrev pub WritesOne : {S T : Type 0} → Writing S → Writing T → Output → Status → Type 0
WritesOne one other output status =
    WritesOutput one.written one.failures one.before one.after output status × (other.after ≡ other.before)

-- a text of help was written to the output, or one of what is wrong to the errors, or memory was refused and the output has the
-- line that says so
abbrev pub EndsEarly : {O E : Type 0} → Writing O → Writing E → Status → Type 0
EndsEarly out errors status =
    ((text : List ℕ) × WritesOne out errors (record { text = text; status = Done }) status)
    ⊎ (((text : List ℕ) × WritesOne errors out (record { text = text; status = CommandLine }) status)
    ⊎ WritesOne out errors memory_output status)
