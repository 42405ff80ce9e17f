-- What becomes of a job: the replies, the order and the layout, or why there are none.
-- Source: this project's own.
-- Checked on: examples/first-run.job; jobs of tests/jobs with one session, which have their output
-- with `--threaded` too; `B 2 2 0 0; E` as CIF is status 4 and `cif fault 7 NoLayer at 0`.
use Rattle.std.specs.Prelude.{◌≡◌, ◌⊎◌, ℕ, Bool, true, false, List, [], length, max, min, replicate, Result, Ok, Err}
use Rattle.cif_read.specs.declared.fault.CifFault.{CifFault}
use Rattle.cif_read.specs.declared.fault.FaultKind.TheVariants.{NoMemory as CifMemory}
use Rattle.cif_read.specs.declared.fault.FaultKind.{FaultKind}
use Rattle.cif_read.specs.Contents.{Contents}
use Rattle.cif_read.specs.Meaning.{IsMeaning}
use Rattle.cif_layout.specs.FromCif.{layout_of}
use Rattle.lay_layouts.specs.Layout.{Layout}
use Rattle.job_text.specs.Jobs.{Job}
use Rattle.job_text.specs.declared.job.JobFault.{JobFault}
use Rattle.job_text.specs.declared.job.JobFault.TheVariants.{Line, NoMemory as JobMemory}
use Rattle.masklay.specs.declared.program.outcome.Begun.{Begun}
use Rattle.masklay.specs.declared.program.outcome.Finished.{Finished}
use Rattle.masklay.specs.declared.program.outcome.JobError.{JobError}
use Rattle.masklay.specs.declared.program.outcome.JobError.TheVariants.{JobFault as JobStop, CifFault as CifStop, NoMemory}
use Rattle.session_steps.specs.declared.Reply.{Reply}
use Rattle.session_steps.specs.declared.Step.{Step}
use Rattle.session_steps.specs.Turns.{dealt, in_turn}
use Rattle.undo_book.specs.declared.book.TheConstants.{MAX_CALLS}
use Rattle.job_text.specs.Job.{job_of}
use Rattle.session_core.specs.Machine.{State, after_steps, start}
use Rattle.job_text.specs.Order.{order_of}
use Rattle.masklay.specs.Reading.{input_kept}

-- the stop at a fault of the job
abbrev pub stop_of_job : JobFault → JobError
stop_of_job (Line line) = JobStop line
stop_of_job JobMemory = NoMemory

-- the stop at a fault of this kind
abbrev stop_of_kind : CifFault → FaultKind → JobError
stop_of_kind fault CifMemory = NoMemory
stop_of_kind fault kind = CifStop fault

-- the stop at a fault of the CIF text
abbrev pub stop_of_cif : CifFault → JobError
stop_of_cif fault = stop_of_kind fault fault.kind

-- the step that follows takes what this one gives, and nothing follows a fault
abbrev pub then_or_stop : {A B E : Type 0} → (E → JobError) → Result A E → (A → Result B JobError) → Result B JobError
then_or_stop stop (Ok x) follow = follow x
then_or_stop stop (Err fault) follow = Err (stop fault)

-- sessions for so many scripts: a job without steps has one that takes none, and no job has more than 64
abbrev pub sessions_for : ℕ → ℕ
sessions_for scripts = max 1 (min scripts 64)

-- what is written of the replies and the state to which steps led, which so many sessions took in this order
abbrev pub finished_by : ℕ → List ℕ → List Reply × State → Finished
finished_by sessions order ran =
    let replies = dealt order ran.0 (replicate sessions []) in
    record { replies = replies; order = order_of ran.1.history.log replies; layout = ran.1.history.layout }

-- what becomes of these scripts on this layout, whose steps run in this order
abbrev pub finished_from : Layout → List (List Step) → List ℕ → Finished
finished_from base scripts order =
    finished_by (sessions_for (length scripts)) order (after_steps (start base (sessions_for (length scripts)) MAX_CALLS)
    (in_turn order scripts))

-- what becomes of a job whose CIF text means this
abbrev pub finished_with : List (List Step) → List ℕ → Result Contents CifFault → Result Finished JobError
finished_with scripts order meaning = then_or_stop stop_of_cif meaning (λ file. Ok (finished_from (layout_of file) scripts order))

-- what becomes of a job, or of its fault
abbrev pub IsOutcomeOf : Result Job JobFault → Result Finished JobError → Type 0
IsOutcomeOf (Err fault) outcome = outcome ≡ Err (stop_of_job fault)
IsOutcomeOf (Ok job) outcome =
    (meaning : Result Contents CifFault) × IsMeaning job.cif meaning × (outcome ≡ finished_with job.scripts job.order meaning)

-- what a job without fault begins with: the layout of its CIF text, its steps and their order
abbrev pub IsBegunOf : Result Job JobFault → Begun → Type 0
IsBegunOf (Err fault) begun = ⊥
IsBegunOf (Ok job) begun =
    (file : Contents) × IsMeaning job.cif (Ok file) × (begun.base ≡ layout_of file) × (begun.scripts ≡ job.scripts)
    × (begun.order ≡ job.order)

-- why none begins: the job's fault, or that of its CIF text
abbrev pub IsStopOf : Result Job JobFault → JobError → Type 0
IsStopOf (Err fault) stop = stop ≡ stop_of_job fault
IsStopOf (Ok job) stop = (fault : CifFault) × IsMeaning job.cif (Err fault) × (stop ≡ stop_of_cif fault)

-- a job begins so, or with its stop or out of memory it doesn't
abbrev pub Begins : Result Job JobFault → Result Begun JobError → Type 0
Begins job (Ok begun) = IsBegunOf job begun
Begins job (Err stop) = (stop ≡ NoMemory) ⊎ IsStopOf job stop

-- the job of these bytes; where they are a CIF text, that text without steps, of which no more is kept than tells that it is
-- too long
abbrev pub job_in : Bool → List ℕ → Result Job JobFault
job_in false bytes = job_of bytes
job_in true bytes = Ok (record { cif = input_kept bytes; scripts = []; order = [] })
