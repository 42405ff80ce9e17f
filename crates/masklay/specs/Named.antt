-- The names and labels of a job's text, which its layout is written with.
use Rattle.std.specs.Prelude.{ℕ, List, [], Bool, Option, Result, Ok, Err}
use Rattle.cif_names.specs.declared.names.Names.{Names}
use Rattle.job_text.specs.Jobs.{Job}
use Rattle.job_text.specs.declared.job.JobFault.{JobFault}
use Rattle.live_run.specs.Shown.{names_when}

-- the CIF text of a job; one with a fault has none
abbrev pub cif_in : Result Job JobFault → List ℕ
cif_in (Ok job) = job.cif
cif_in (Err fault) = []

-- the names and labels of the job, where symbols keep them
abbrev pub names_in : Bool → Result Job JobFault → Option Names
names_in named job = names_when named (cif_in job)
