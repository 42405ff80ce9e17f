-- A live run of the program: what is written behind its last answer, and how it ends.
use Rattle.std.specs.Prelude.{◌≡◌, ℕ, ◌+◌, ◌≤◌, ◌&&◌, Bool, if◌then◌else◌, List, Option}
use Rattle.live_run.specs.Devices.{Devices, Observed, devices}
use Rattle.live_run.specs.Ending.{IsJournaled}
use Rattle.live_run.specs.declared.run.TheConstants.{MAX_READS}
use Rattle.live_run.specs.declared.showing.Showing.{Showing}
use Rattle.live_run.specs.declared.ending.LiveEnd.{LiveEnd}
use Rattle.live_run.specs.declared.ending.LiveEnd.TheVariants.{Done as AllSaid, Job as JobEnd, Cif as CifEnd}
use Rattle.live_run.specs.declared.ending.LiveEnd.TheVariants.{Device as DeviceEnd, Journal as JournalEnd, Memory as MemoryEnd}
use Rattle.masklay.specs.declared.program.outcome.JobError.TheVariants.{JobFault, CifFault}
use Rattle.masklay.specs.declared.program.status.Status.{Status}
use Rattle.masklay.specs.declared.program.status.Status.TheVariants.{Device, Done, Refused}
use Rattle.masklay.specs.Output.{WritesOrMemory, WritesOutput, memory_output, stop_output}

-- how a run ends whose lines are all answered: where it is strict, a refused step tells
abbrev pub live_ending : Bool → Bool → Status
live_ending strict refused = if strict && refused then Refused else Done

-- From the old device to the new: what is written where a live run ended so, and the status. The line of a fault is written
-- alone, and the one for a refused growth of memory behind the answers so far.
abbrev pub WritesLiveEnd : {S : Type 0} → Bool → (S → Option (List ℕ)) → (S → ℕ) → S → S → LiveEnd → Status → Type 0
WritesLiveEnd strict written failures old new (AllSaid refused notes) status = (status ≡ live_ending strict refused) × (new ≡ old)
WritesLiveEnd strict written failures old new (JobEnd line text) status =
    WritesOrMemory written failures old new (stop_output (JobFault line)) status
WritesLiveEnd strict written failures old new (CifEnd fault text) status =
    WritesOrMemory written failures old new (stop_output (CifFault fault)) status
WritesLiveEnd strict written failures old new DeviceEnd status = (status ≡ Device) × (new ≡ old)
WritesLiveEnd strict written failures old new JournalEnd status = (status ≡ Device) × (new ≡ old)
WritesLiveEnd strict written failures old new MemoryEnd status = WritesOutput written failures old new memory_output status

-- from the devices before to those after: a live run behind these bytes of its journal, which shows its layout so, and what closes it
pub record IsLive {I O J : Type 0} (strict : Bool) (showing : Showing) (observed : Observed I O J) (journal : List ℕ)
    (before after : Devices I O J) (status : Status) : Type 0 where
  pub answered : O
  pub end : LiveEnd
  pub ran : IsJournaled showing observed journal before (devices after.input answered after.journal) end
  pub closed : WritesLiveEnd strict observed.written observed.failures answered after.out end status
  -- the input is read so often at most
  pub reads : (observed.counts after.input).reads ≤ (observed.counts before.input).reads + MAX_READS
