-- What is kept of the input decides the output.
use Rattle.std.proofs.Common.{◌≡◌, ℕ, ◌+◌, ◌<◌, ◌≤◌, Bool, List, IfOk, OnErr, OnOk, Option, Result, false, length}
use Rattle.std.proofs.Common.{[], true, take, Ok, Err, inl, inr, refl, sym, ap, subst, ◌∙◌, arith}
use Rattle.std.proofs.lemmas.Bool.{cases_lt}
use Rattle.std.specs.Result.{is_err}
use Rattle.std.proofs.lemmas.Bool.Decides.{nat_tests}
use Rattle.std.proofs.lemmas.List.{length-take, take_all}
use Rattle.job_text.specs.declared.job.JobFault.TheVariants.{Line}
use Rattle.job_text.specs.Job.{job_of}
use Rattle.job_text.specs.Jobs.{Job}
use Rattle.job_text.specs.declared.job.JobFault.{JobFault}
use Rattle.masklay.specs.declared.program.status.Status.{Status}
use Rattle.masklay.specs.declared.program.outcome.Finished.{Finished}
use Rattle.masklay.specs.declared.program.outcome.JobError.{JobError}
use Rattle.cif_read.proofs.OneMeaning.{one_meaning}
use Rattle.masklay.specs.Outcome.{IsOutcomeOf, finished_with, job_in}
use Rattle.masklay.specs.Asked.{Asked}
use Rattle.live_run.specs.Shown.{names_for}
use Rattle.masklay.specs.Named.{names_in}
use Rattle.masklay.specs.Oriented.{AnswersGiven, IsGiven, finished_part}
use Rattle.masklay.specs.Output.{
  EndsAsAsked,
  IsOutput,
  Output,
  WritesOrMemory,
  WritesOutput,
  given_output,
  output_from,
  stop_output,
  written_output,
}
use Rattle.masklay.specs.declared.program.oriented.JobOutput.{JobOutput}
use Rattle.masklay.specs.declared.program.outcome.JobError.TheVariants.{NoMemory}
use Rattle.masklay.specs.Reading.{HowRead, input_kept}
use Rattle.masklay.specs.Run.{IsRun, WritesUnread}
use Rattle.masklay.specs.declared.program.reading.ReadFault.{ReadFault}
use Rattle.masklay.specs.declared.program.reading.ReadFault.TheVariants.{Device, NoMemory as ReadMemory}
use Rattle.byte_io.specs.Input.{Counts}
use Rattle.live_run.specs.declared.run.TheConstants.{MAX_READS}

too_long_job : (bytes : List ℕ) → 16777216 < length bytes → job_of bytes ≡ Err (Line 0)
unfolding job_of
too_long_job bytes long = grind (arith, nat_tests)

kept_job : (bytes : List ℕ) → job_of (input_kept bytes) ≡ job_of bytes
unfolding input_kept
kept_job bytes =
    elim (cases_lt 16777217 (length bytes)) [
      | inr short ↦ ap job_of (take_all 16777217 bytes short)
      | inl long ↦
          too_long_job (take 16777217 bytes) (omega (arith, length-take 16777217 bytes))
          ∙ sym (too_long_job bytes (omega arith))
    ]

kept_twice : (bytes : List ℕ) → input_kept (input_kept bytes) ≡ input_kept bytes
unfolding input_kept
kept_twice bytes = take_all 16777217 (take 16777217 bytes) (omega (arith, length-take 16777217 bytes))

-- one byte more than a job or a text may have is enough to tell which job it is
kept_job_in : (bare : Bool) (bytes : List ℕ) → job_in bare (input_kept bytes) ≡ job_in bare bytes
kept_job_in false bytes = kept_job bytes
kept_job_in true bytes = ap (λ (text : List ℕ). Ok (record { cif = text; scripts = []; order = [] })) (kept_twice bytes)

-- and what its output is
pub kept_output : (asked : Asked) (bytes : List ℕ) (output : Output) → IsOutput asked (input_kept bytes) output
    → IsOutput asked bytes output
kept_output asked bytes output is = subst
    (λ (job : Result Job JobFault). (outcome : Result Finished JobError) × IsGiven asked.threaded asked.oriented job outcome
    × (output ≡ output_from asked.strict asked.boxed (names_in asked.named job) outcome))
    (kept_job_in asked.bare bytes) is

-- what was kept of the input has the input's output
pub kept_ends : {S : Type 0} (written : S → Option (List ℕ)) (failures : S → ℕ) (old new : S) (asked : Asked)
    (bytes : List ℕ) (status : Status) → EndsAsAsked written failures old new asked (input_kept bytes) status
    → EndsAsAsked written failures old new asked bytes status
kept_ends written failures old new asked bytes status (inl (output, is, wrote)) =
    inl (output, kept_output asked bytes output is, wrote)
kept_ends written failures old new asked bytes status (inr refused) = inr refused

-- what is given out of the bytes' job, and written, is their output
pub given_ends : {S : Type 0} (written : S → Option (List ℕ)) (failures : S → ℕ) (old new : S) (asked : Asked)
    (bytes : List ℕ) (given : Result JobOutput JobError) (status : Status)
    → AnswersGiven asked.threaded asked.oriented (job_in asked.bare bytes) (finished_part given)
    → IfOk given (λ g. g.names ≡ names_for (names_in asked.named (job_in asked.bare bytes)) g.finished.layout)
    → WritesOrMemory written failures old new (given_output asked.strict asked.boxed given) status
    → EndsAsAsked written failures old new asked bytes status
given_ends written failures old new asked bytes given status is names (inr refused) = inr refused
given_ends written failures old new asked bytes (Ok given) status (inl none) names (inl wrote) = absurd cc
given_ends written failures old new asked bytes (Ok given) status (inr is) names (inl wrote) =
    inl (
      output_from asked.strict asked.boxed (names_in asked.named (job_in asked.bare bytes)) (Ok given.finished),
      (Ok given.finished, is, refl),
      subst (λ n. WritesOutput written failures old new (written_output asked.strict asked.boxed n given.finished) status) names wrote,
    )
given_ends written failures old new asked bytes (Err stop) status (inl refused) names (inl wrote) =
    let both : ◌≡◌ {A = Result Finished JobError} (Err stop) (Err NoMemory) = refused in
    let same : stop ≡ NoMemory = cc in
    inr (subst (λ s. WritesOutput written failures old new (stop_output s) status) same wrote)
given_ends written failures old new asked bytes (Err stop) status (inr is) names (inl wrote) =
    inl (stop_output stop, (Err stop, is, refl), wrote)

-- an input that isn't read is a run
pub unread_run : {I O : Type 0} (asked : Asked) (remaining : I → Option (List ℕ)) (counts : I → Counts) (written : O → Option (List ℕ))
    (failures : O → ℕ) (input input' : I) (out out' : O) (status : Status) (fault : ReadFault)
    → HowRead {A = Unit {0}} (counts input) (counts input') (Err fault) → (counts input').reads ≤ (counts input).reads + MAX_READS
    → WritesUnread written failures out out' fault status
    → IsRun asked remaining counts written failures input input' out out' status
unread_run asked remaining counts written failures input input' out out' status Device (inl (ends, failed)) reads (is, same) = record {
  answered = λ bytes told ended. absurd (omega (arith, ends));
  unended = λ on unfailing. absurd (omega (arith, failed, unfailing));
  failed = λ _. (is, same);
  reads = reads;
}
unread_run asked remaining counts written failures input input' out out' status Device (inr endless) reads (is, same) = record {
  answered = λ bytes told ended. let ends = endless.1 in absurd (omega (arith, ends));
  unended = λ on unfailing. inl (endless, is, same);
  failed = λ failed. absurd (failed endless.2);
  reads = reads;
}
unread_run asked remaining counts written failures input input' out out' status ReadMemory (ends, unfailing) reads wrote = record {
  answered = λ bytes told ended. absurd (omega (arith, ends));
  unended = λ _ _. inr wrote;
  failed = λ failed. absurd (failed unfailing);
  reads = reads;
}

-- ---- bytes have one output, where sessions take turns and shapes stay

one_outcome_of : (job : Result Job JobFault) (a b : Result Finished JobError) → IsOutcomeOf job a → IsOutcomeOf job b → a ≡ b
one_outcome_of (Err fault) a b is same = is ∙ sym same
one_outcome_of (Ok job) a b (meaning, means, is) (other, says, same) =
    is ∙ ap (finished_with job.scripts job.order) (one_meaning job.cif meaning other means says) ∙ sym same

pub one_output : (asked : Asked) (bytes : List ℕ) (a b : Output) → asked.threaded ≡ false → asked.oriented ≡ false
    → IsOutput asked bytes a → IsOutput asked bytes b → a ≡ b
one_output asked bytes a b turns plain (outcome, is, given) (other, same, put) =
    given
    ∙ ap (output_from asked.strict asked.boxed (names_in asked.named job))
    (one_outcome_of job outcome other (in_turn outcome is) (in_turn other same))
    ∙ sym put
  where
    job : Result Job JobFault
    job = job_in asked.bare bytes

    in_turn : (o : Result Finished JobError) → IsGiven asked.threaded asked.oriented job o → IsOutcomeOf job o
    in_turn o h = subst (λ t. IsGiven t false job o) turns (subst (λ p. IsGiven asked.threaded p job o) plain h)

-- ---- what a call's clauses say where its answer was tested

pub at_err : {A E P : Type 0} (answer : Result A E) → is_err answer ≡ true → OnErr answer P → P
at_err (Ok x) failed so = absurd (let it = failed in cc)
at_err (Err e) failed so = so

pub at_ok : {A E P : Type 0} (answer : Result A E) → is_err answer ≡ false → OnOk answer P → P
at_ok (Ok x) fine so = so
at_ok (Err e) fine so = absurd (let it = fine in cc)
