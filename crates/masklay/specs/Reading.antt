-- The input of the program, read to its end.
use Rattle.std.specs.Prelude.{◌≡◌, ℕ, ◌+◌, ◌⊎◌, List, take, Result, Ok, Err}
use Rattle.byte_io.specs.Input.{Counts}
use Rattle.masklay.specs.declared.program.reading.ReadFault.{ReadFault}
use Rattle.masklay.specs.declared.program.reading.ReadFault.TheVariants.{Device, NoMemory}

-- what is kept of the input: one byte more than a job may have
unfoldable pub input_kept : List ℕ → List ℕ
input_kept bytes = take 16777217 bytes

-- the device gave bytes as often as it may be read, and didn't end the input
abbrev pub IsEndless : Counts → Counts → Type 0
IsEndless old new = (new.nonempty_reads ≡ old.nonempty_reads + 33554432) × (new.ends ≡ old.ends) × (new.failures ≡ old.failures)

-- From the old counts to the new: how reading ended where it was answered so. The input was read to its end; or the
-- device failed, once, or was endless; or memory was refused before the end.
abbrev pub HowRead : {A : Type 0} → Counts → Counts → Result A ReadFault → Type 0
HowRead old new (Ok kept) = (new.ends ≡ old.ends + 1) × (new.failures ≡ old.failures)
HowRead old new (Err Device) = ((new.ends ≡ old.ends) × (new.failures ≡ old.failures + 1)) ⊎ IsEndless old new
HowRead old new (Err NoMemory) = (new.ends ≡ old.ends) × (new.failures ≡ old.failures)
