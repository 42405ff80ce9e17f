-- The output of the program: a text and a status.
use Rattle.std.specs.Prelude.{◌≡◌, ℕ, Bool, false, ◌&&◌, if◌then◌else◌, List, ◌++◌, codes, decimal, Option, Result, Ok, Err, ◌⊎◌}
use Rattle.cif_read.specs.declared.fault.CifFault.{CifFault}
use Rattle.cif_read.specs.Faults.{fault_name, fault_number}
use Rattle.byte_io.specs.Device.{WroteAll, WrotePrefix}
use Rattle.masklay.specs.declared.program.outcome.Finished.{Finished}
use Rattle.masklay.specs.declared.program.oriented.JobOutput.{JobOutput}
use Rattle.masklay.specs.declared.program.outcome.JobError.{JobError}
use Rattle.masklay.specs.declared.program.outcome.JobError.TheVariants.{JobFault, CifFault as CifStop, DeskFault, NoMemory}
use Rattle.masklay.specs.declared.program.status.Status.{Status}
use Rattle.masklay.specs.declared.program.status.Status.TheVariants.{Done, CommandLine, Job, Cif, Device, Memory, Desk, Refused}
use Rattle.job_text.specs.Order.{order_text}
use Rattle.live_run.specs.Live.{is_refusal}
use Rattle.cif_names.specs.declared.names.Names.{Names}
use Rattle.masklay.specs.Asked.{Asked}
use Rattle.live_run.specs.Shown.{layout_text, names_for, text_with}
use Rattle.masklay.specs.Named.{names_in}
use Rattle.masklay.specs.Oriented.{IsGiven}
use Rattle.masklay.specs.Outcome.{job_in}
use Rattle.session_steps.specs.declared.Reply.{Reply}
use Rattle.std.specs.List.{list_any}
use Rattle.job_text.specs.Replies.{replies_text}

-- the number with which the process ends
abbrev pub code_of : Status → ℕ
code_of Done = 0
code_of CommandLine = 2
code_of Job = 3
code_of Cif = 4
code_of Device = 5
code_of Memory = 6
code_of Desk = 7
code_of Refused = 8

-- what is written, and the status with which the program ends
pub record Output : Type 0 where
  pub text : List ℕ
  pub status : Status

-- the line of a job's fault
unfoldable pub job_fault_text : ℕ → List ℕ
job_fault_text line = codes "job fault at line " ++ decimal line ++ codes "\n"

-- the line of a CIF text's fault
unfoldable pub cif_fault_text : CifFault → List ℕ
cif_fault_text fault =
    codes "cif fault " ++ decimal (fault_number fault.kind) ++ codes " " ++ fault_name fault.kind ++ codes " at " ++ decimal fault.offset ++
    codes "\n"

-- the line of a desk's fault
abbrev pub desk_fault_text : List ℕ
desk_fault_text = codes "desk fault\n"

-- what is written where a growth of memory was refused
abbrev pub memory_output : Output
memory_output = record { text = codes "out of memory\n"; status = Memory }

-- what is written where no layout is
abbrev pub stop_output : JobError → Output
stop_output (JobFault line) = record { text = job_fault_text line; status = Job }
stop_output (CifStop fault) = record { text = cif_fault_text fault; status = Cif }
stop_output DeskFault = record { text = desk_fault_text; status = Desk }
stop_output NoMemory = memory_output

-- how a run ends whose sessions were answered so: where it is strict, a refused step tells
abbrev pub ending_of : Bool → List (List Reply) → Status
ending_of strict replies = if strict && list_any (list_any is_refusal) replies then Refused else Done

-- the comments of the replies and of the order, and the text of the layout, with boxes where that is asked for, and with these
-- names and labels in it, if there are any
abbrev pub written_output : Bool → Bool → Option Names → Finished → Output
written_output strict boxed names finished = record {
  text = (replies_text finished.replies ++ order_text finished.order) ++ text_with names (layout_text boxed finished.layout);
  status = ending_of strict finished.replies;
}

-- the same, of names and labels those of the layout's symbols and of no symbol
abbrev pub finished_output : Bool → Bool → Option Names → Finished → Output
finished_output strict boxed names finished = written_output strict boxed (names_for names finished.layout) finished

-- what is written of what is given out, or of a stop
abbrev pub given_output : Bool → Bool → Result JobOutput JobError → Output
given_output strict boxed (Ok given) = written_output strict boxed given.names given.finished
given_output strict boxed (Err stop) = stop_output stop

-- what is written where this became of the job
abbrev pub output_from : Bool → Bool → Option Names → Result Finished JobError → Output
output_from strict boxed names (Ok finished) = finished_output strict boxed names finished
output_from strict boxed names (Err stop) = stop_output stop

-- what the program writes, and how it ends, where its input is these bytes and it is asked so
abbrev pub IsOutput : Asked → List ℕ → Output → Type 0
IsOutput asked bytes output =
    (outcome : Result Finished JobError) × IsGiven asked.threaded asked.oriented (job_in asked.bare bytes) outcome
    × (output ≡ output_from asked.strict asked.boxed (names_in asked.named (job_in asked.bare bytes)) outcome)

-- asked so that sessions take turns and shapes stay as they are, an input has no two outputs
abbrev pub HasOneOutput : Type 0
HasOneOutput =
    (asked : Asked) (bytes : List ℕ) (a b : Output) → asked.threaded ≡ false → asked.oriented ≡ false
    → IsOutput asked bytes a → IsOutput asked bytes b → a ≡ b

-- From the old device to the new: all of the output was written and nothing else, and the program ended with its status;
-- or the device failed, and a prefix was written.
abbrev pub WritesOutput : {S : Type 0} → (S → Option (List ℕ)) → (S → ℕ) → S → S → Output → Status → Type 0
WritesOutput written failures old new output status =
    ((status ≡ output.status) × WroteAll written failures old new output.text)
    ⊎ ((status ≡ Device) × WrotePrefix written failures old new output.text)

-- the same; or a growth of memory was refused, and the line that says so was written
abbrev pub WritesOrMemory : {S : Type 0} → (S → Option (List ℕ)) → (S → ℕ) → S → S → Output → Status → Type 0
WritesOrMemory written failures old new output status =
    WritesOutput written failures old new output status ⊎ WritesOutput written failures old new memory_output status

-- From the old device to the new: the output of these bytes was written so; or a growth of memory was refused, and the line
-- that says so was.
abbrev pub EndsAsAsked : {S : Type 0} → (S → Option (List ℕ)) → (S → ℕ) → S → S → Asked → List ℕ → Status → Type 0
EndsAsAsked written failures old new asked bytes status =
    ((output : Output) × IsOutput asked bytes output × WritesOutput written failures old new output status)
    ⊎ WritesOutput written failures old new memory_output status
