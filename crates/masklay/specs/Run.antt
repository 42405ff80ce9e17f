-- How a run of the program ended.
use Rattle.std.specs.Prelude.{◌≡◌, ◌≢◌, ℕ, ◌+◌, ◌<◌, ◌≤◌, ◌⊎◌, List, Option, Some}
use Rattle.byte_io.specs.Input.{Counts}
use Rattle.live_run.specs.declared.run.TheConstants.{MAX_READS}
use Rattle.masklay.specs.declared.program.status.Status.{Status}
use Rattle.masklay.specs.declared.program.reading.ReadFault.{ReadFault}
use Rattle.masklay.specs.declared.program.reading.ReadFault.TheVariants.{Device, NoMemory}
use Rattle.masklay.specs.declared.program.status.Status.TheVariants.{Device as DeviceStatus}
use Rattle.masklay.specs.Asked.{Asked}
use Rattle.masklay.specs.Output.{EndsAsAsked, WritesOutput, memory_output}
use Rattle.masklay.specs.Reading.{IsEndless}

-- from the old output device to the new, where the input wasn't read: nothing was written, or that memory was refused
abbrev pub WritesUnread : {O : Type 0} → (O → Option (List ℕ)) → (O → ℕ) → O → O → ReadFault → Status → Type 0
WritesUnread written failures out out' Device status = (status ≡ DeviceStatus) × (out' ≡ out)
WritesUnread written failures out out' NoMemory status = WritesOutput written failures out out' memory_output status

-- from the old input and output device to the new, where the program was asked so and ended with this status
pub record IsRun {I O : Type 0} (asked : Asked) (remaining : I → Option (List ℕ)) (counts : I → Counts)
    (written : O → Option (List ℕ)) (failures : O → ℕ)
    (input input' : I) (out out' : O) (status : Status) : Type 0 where
  -- where the input's bytes were read to their end, their output is written
  pub answered : (bytes : List ℕ) → remaining input ≡ Some bytes → (counts input).ends < (counts input').ends →
      EndsAsAsked written failures out out' asked bytes status
  -- they are read to their end, but where the device fails or is endless, and where memory is refused
  pub unended : (counts input').ends ≡ (counts input).ends → (counts input').failures ≡ (counts input).failures →
      (IsEndless (counts input) (counts input') × (status ≡ DeviceStatus) × (out' ≡ out))
      ⊎ WritesOutput written failures out out' memory_output status
  -- where the input's device fails nothing is written
  pub failed : (counts input').failures ≢ (counts input).failures → (status ≡ DeviceStatus) × (out' ≡ out)
  -- the input is read so often at most
  pub reads : (counts input').reads ≤ (counts input).reads + MAX_READS
