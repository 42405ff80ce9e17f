-- What is reported to a person, beside the output.
use Rattle.std.specs.Prelude.{◌≡◌, ℕ, ◌⊎◌, Bool, true, false, List, Option}
use Rattle.byte_io.specs.Device.{WroteAll, WrotePrefix}
use Rattle.masklay.specs.declared.program.status.Status.{Status}
use Rattle.masklay.specs.declared.program.status.Status.TheVariants.{Done, CommandLine, Job, Cif, Device, Memory, Desk, Refused}

-- a run that ends so may have something to tell: of a fault, of a device that failed, or of a layout that was written
abbrev pub may_tell : Status → Bool
may_tell Done = true
may_tell CommandLine = false
may_tell Job = true
may_tell Cif = true
may_tell Device = true
may_tell Memory = false
may_tell Desk = false
may_tell Refused = true

-- From the old device to the new: the text was written, or the device failed, and a prefix was.
abbrev pub IsReported : {E : Type 0} → (E → Option (List ℕ)) → (E → ℕ) → E → E → List ℕ → Type 0
IsReported told failed errors errors' text = WroteAll told failed errors errors' text ⊎ WrotePrefix told failed errors errors' text

-- From the old device to the new: nothing was told; or a text was, and the run ended so that there may be something to tell.
abbrev pub MayReport : {E : Type 0} → (E → Option (List ℕ)) → (E → ℕ) → E → E → Status → Type 0
MayReport told failed errors errors' status =
    (errors' ≡ errors) ⊎ ((may_tell status ≡ true) × ((text : List ℕ) × IsReported told failed errors errors' text))
