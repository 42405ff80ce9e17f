-- What becomes of a job whose sessions run in threads.
use Rattle.std.specs.Prelude.{◌≡◌, ◌⊎◌, Bool, true, false, List, Result, Ok, Err}
use Rattle.std.specs.List.{list_any}
use Rattle.cif_read.specs.declared.fault.CifFault.{CifFault}
use Rattle.cif_read.specs.Contents.{Contents}
use Rattle.cif_read.specs.Meaning.{IsMeaning}
use Rattle.cif_layout.specs.FromCif.{layout_of}
use Rattle.lay_layouts.specs.Layout.{Layout}
use Rattle.job_text.specs.Jobs.{Job}
use Rattle.job_text.specs.Order.{order_of}
use Rattle.job_text.specs.declared.job.JobFault.{JobFault}
use Rattle.undo_rules.specs.Books.{History}
use Rattle.session_core.specs.Machine.{is_memory}
use Rattle.session_steps.specs.declared.Step.{Step}
use Rattle.locked_desk.specs.declared.fault.RunFault.{RunFault}
use Rattle.locked_desk.specs.declared.fault.RunFault.TheVariants.{Differs, MissingSeat, NoMemory as RunMemory}
use Rattle.locked_desk.specs.Scripts.{RunsScripts}
use Rattle.masklay.specs.declared.program.outcome.Finished.{Finished}
use Rattle.masklay.specs.declared.program.outcome.JobError.{JobError}
use Rattle.masklay.specs.declared.program.outcome.JobError.TheVariants.{DeskFault, NoMemory}
use Rattle.masklay.specs.Outcome.{IsOutcomeOf, stop_of_cif, stop_of_job}

-- the stop at a fault of the run
abbrev pub stop_of_run : RunFault → JobError
stop_of_run (Differs session place) = DeskFault
stop_of_run (MissingSeat session) = DeskFault
stop_of_run RunMemory = NoMemory

-- what a run of these scripts on this layout, in threads, led to: its replies, none of which is out of memory, the order of their
-- steps by the closed book's log, and that book's layout
pub record IsThreaded (base : Layout) (scripts : List (List Step)) (finished : Finished) : Type 0 where
  pub book : History
  pub ran : RunsScripts base scripts finished.replies book
  pub served : list_any (list_any is_memory) finished.replies ≡ false
  pub order : finished.order ≡ order_of book.log finished.replies
  pub layout : finished.layout ≡ book.layout

-- such a run ended, or the desk was at fault
abbrev pub EndsThreads : Layout → List (List Step) → Result Finished JobError → Type 0
EndsThreads base scripts (Ok finished) = IsThreaded base scripts finished
EndsThreads base scripts (Err stop) = stop ≡ DeskFault

-- the same, or out of memory in its place
abbrev pub AnswersThreads : Layout → List (List Step) → Result Finished JobError → Type 0
AnswersThreads base scripts outcome = (outcome ≡ Err NoMemory) ⊎ EndsThreads base scripts outcome

-- what becomes of these scripts where the CIF text means this
abbrev pub EndsThreadsWith : List (List Step) → Result Contents CifFault → Result Finished JobError → Type 0
EndsThreadsWith scripts (Ok file) outcome = EndsThreads (layout_of file) scripts outcome
EndsThreadsWith scripts (Err fault) outcome = outcome ≡ Err (stop_of_cif fault)

-- what becomes of a job, or of its fault; the job's own order plays no part
abbrev pub IsThreadedOutcomeOf : Result Job JobFault → Result Finished JobError → Type 0
IsThreadedOutcomeOf (Err fault) outcome = outcome ≡ Err (stop_of_job fault)
IsThreadedOutcomeOf (Ok job) outcome =
    (meaning : Result Contents CifFault) × IsMeaning job.cif meaning × EndsThreadsWith job.scripts meaning outcome

-- by whether sessions run in threads
abbrev pub HasOutcome : Bool → Result Job JobFault → Result Finished JobError → Type 0
HasOutcome false job outcome = IsOutcomeOf job outcome
HasOutcome true job outcome = IsThreadedOutcomeOf job outcome

-- the same, or out of memory in its place
abbrev pub AnswersOutcome : Bool → Result Job JobFault → Result Finished JobError → Type 0
AnswersOutcome threaded job outcome = (outcome ≡ Err NoMemory) ⊎ HasOutcome threaded job outcome
