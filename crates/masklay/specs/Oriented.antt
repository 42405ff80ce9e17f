-- What is given out where shapes are to be directed, so that readers by winding number and readers by parity see them alike.
use Rattle.std.specs.Prelude.{◌≡◌, ◌⊎◌, ℕ, Bool, true, false, Result, Ok, Err}
use Rattle.job_text.specs.Jobs.{Job}
use Rattle.job_text.specs.declared.job.JobFault.{JobFault}
use Rattle.lay_layouts.specs.Layout.{Layout}
use Rattle.lay_oriented.specs.Directed.{IsDirected}
use Rattle.masklay.specs.declared.program.outcome.Finished.{Finished}
use Rattle.masklay.specs.declared.program.outcome.JobError.{JobError}
use Rattle.masklay.specs.declared.program.oriented.JobOutput.{JobOutput}
use Rattle.masklay.specs.declared.program.outcome.JobError.TheVariants.{NoMemory}
use Rattle.masklay.specs.Threads.{HasOutcome}

-- the same replies and order, and the layout with its shapes directed, but for some that stay; or the same stop
abbrev pub IsDirectedOutcome : Result Finished JobError → Result Finished JobError → Type 0
IsDirectedOutcome (Ok finished) given =
    (layout : Layout) × (staying : ℕ) × IsDirected finished.layout layout staying × (given ≡ Ok (record finished { layout = layout }))
IsDirectedOutcome (Err stop) given = given ≡ Err stop

-- what is given out of the job, by whether sessions run in threads and whether shapes are directed
abbrev pub IsGiven : Bool → Bool → Result Job JobFault → Result Finished JobError → Type 0
IsGiven threaded false job given = HasOutcome threaded job given
IsGiven threaded true job given = (outcome : Result Finished JobError) × HasOutcome threaded job outcome × IsDirectedOutcome outcome given

-- what is given out of what a job became, by whether shapes are directed
abbrev pub IsGivenOf : Bool → Finished → Result Finished JobError → Type 0
IsGivenOf false finished given = given ≡ Ok finished
IsGivenOf true finished given = IsDirectedOutcome (Ok finished) given

-- the same, or out of memory in its place
abbrev pub AnswersGivenOf : Bool → Finished → Result Finished JobError → Type 0
AnswersGivenOf oriented finished given = (given ≡ Err NoMemory) ⊎ IsGivenOf oriented finished given

-- the replies, the order and the layout of what is given out
abbrev pub finished_part : Result JobOutput JobError → Result Finished JobError
finished_part (Ok given) = Ok given.finished
finished_part (Err stop) = Err stop

-- the same of a layout that is directed, with how many shapes stay
abbrev pub directed_part : Result (Finished × ℕ) JobError → Result Finished JobError
directed_part (Ok directed) = Ok directed.0
directed_part (Err stop) = Err stop

-- the same, or out of memory in its place
abbrev pub AnswersGiven : Bool → Bool → Result Job JobFault → Result Finished JobError → Type 0
AnswersGiven threaded oriented job given = (given ≡ Err NoMemory) ⊎ IsGiven threaded oriented job given
