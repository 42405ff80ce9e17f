-- The sessions of a run, all together.
use Rattle.std.proofs.Common.{◌≡◌, ℕ, ◌+◌, ◌<◌, List, [], ◌∷◌, ◌++◌, length, map, Result, Ok, Err, suc}
use Rattle.std.proofs.Common.{refl, ap, sym, ◌∙◌, subst, arith, slice_index_or, IfOk}
use Rattle.std.specs.List.{AllByRecursion, Contains}
use Rattle.session_steps.specs.declared.Reply.{Reply}
use Rattle.session_steps.specs.declared.Step.{Step}
use Rattle.undo_rules.specs.Books.{History}
use Rattle.desk_rules.specs.Close.{IsClosed}
use Rattle.desk_rules.specs.Legal.{Desk}
use Rattle.desk_rules.specs.Seats.{Seat}
use Rattle.locked_desk.specs.declared.fault.RunFault.{RunFault}
use Rattle.locked_desk.specs.declared.steps.Job.{Job}
use Rattle.locked_desk.specs.declared.steps.Outcome.{Outcome}
use Rattle.locked_desk.specs.Jobs.{AllSucceeded, AreJobs}
use Rattle.locked_desk.specs.Runs.{AllRan, IsDeskRun, RunsSo}

-- one session more has its job
pub jobs_push : {L : Type 0} (given : List Seat) (n : ℕ) (scripts : List (List Step)) (jobs : List (Job L)) (steps : List Step)
    (job : Job L)
    → AreJobs given n scripts jobs → job.seat.session ≡ n + length jobs → job.steps ≡ steps → Contains given job.seat
    → AreJobs given n (scripts ++ steps ∷ []) (jobs ++ job ∷ [])
jobs_push given n [] [] steps job are session same there = (session ∙ omega arith, same, there, tt)
jobs_push given n [] (j ∷ js) steps job are session same there = absurd are
jobs_push given n (s ∷ ss) [] steps job are session same there = absurd are
jobs_push given n (s ∷ ss) (j ∷ js) steps job are session same there =
    (are.0, are.1, are.2, jobs_push given (n + 1) ss js steps job are.3 (session ∙ omega arith) same there)

pub jobs_length : {L : Type 0} (given : List Seat) (n : ℕ) (scripts : List (List Step)) (jobs : List (Job L))
    → AreJobs given n scripts jobs
    → length scripts ≡ length jobs
jobs_length given n [] [] are = refl
jobs_length given n [] (j ∷ js) are = absurd are
jobs_length given n (s ∷ ss) [] are = absurd are
jobs_length given n (s ∷ ss) (j ∷ js) are = ap suc (jobs_length given (n + 1) ss js are.3)

-- one session more has ended
pub ends_push : {L : Type 0} (outcomes : List (Result (Outcome L) RunFault)) (seats : List Seat) (replies : List (List Reply))
    (outcome : Outcome L)
    → AllSucceeded outcomes seats replies
    → AllSucceeded (outcomes ++ Ok outcome ∷ []) (seats ++ outcome.seat ∷ []) (replies ++ outcome.replies ∷ [])
ends_push [] [] [] outcome are = (refl, refl, tt)
ends_push (Ok o ∷ os) (s ∷ ss) (r ∷ rs) outcome are = (are.0, are.1, ends_push os ss rs outcome are.2)
ends_push os ss rs outcome are = absurd are

-- each job led to its outcome
abbrev pub Led : {L : Type 0} → Desk → Job L → Result (Outcome L) RunFault → Type 0
Led desk job result = IfOk result (λ outcome. RunsSo desk job.seat job.steps outcome.replies outcome.seat)

abbrev pub AllLed : {L : Type 0} → Desk → List (Job L) → List (Result (Outcome L) RunFault) → Type 0
AllLed desk [] [] = Unit {0}
AllLed desk (job ∷ jobs) (result ∷ results) = Led desk job result × AllLed desk jobs results
AllLed desk jobs results = ⊥

pub all_led : {L : Type 0} (desk : Desk) (jobs : List (Job L)) (results : List (Result (Outcome L) RunFault))
    → length results ≡ length jobs
    → ((i : ℕ) (d : Result (Outcome L) RunFault) (e : Job L) → i < length jobs
    → Led desk (slice_index_or jobs i e) (slice_index_or results i d))
    → AllLed desk jobs results
all_led desk [] [] same each = tt
all_led desk [] (r ∷ rs) same each = absurd (omega (arith, same))
all_led desk (j ∷ js) [] same each = absurd (omega (arith, same))
all_led desk (j ∷ js) (r ∷ rs) same each =
    (each 0 r j (omega arith), all_led desk js rs (omega (arith, same)) (λ i d e below. each (suc i) d e (omega (arith, below))))

-- so all sessions ran
pub all_ran : {L : Type 0} (desk : Desk) (given : List Seat) (n : ℕ) (scripts : List (List Step)) (jobs : List (Job L))
    (results : List (Result (Outcome L) RunFault))
    (seats : List Seat) (replies : List (List Reply)) → AreJobs given n scripts jobs → AllLed desk jobs results
    → AllSucceeded results seats replies
    → AllRan desk n (map (λ (j : Job L). j.seat) jobs) scripts replies seats
all_ran desk given n [] [] [] [] [] are led ends = tt
all_ran desk given n (s ∷ ss) (j ∷ js) (Ok o ∷ os) (e ∷ es) (r ∷ rs) are led ends = (
  are.0,
  subst (λ (steps : List Step). RunsSo desk j.seat steps r e) are.1
      (subst (λ (rs : List Reply). RunsSo desk j.seat j.steps rs e) (sym ends.1)
      (subst (λ (end : Seat). RunsSo desk j.seat j.steps o.replies end) (sym ends.0) led.0)),
  all_ran desk given (n + 1) ss js os es rs are.3 led.1 ends.2,
)
all_ran desk given n [] (j ∷ js) results seats replies are led ends = absurd are
all_ran desk given n (s ∷ ss) [] results seats replies are led ends = absurd are
all_ran desk given n [] [] (r ∷ rs) seats replies are led ends = absurd led
all_ran desk given n (s ∷ ss) (j ∷ js) [] seats replies are led ends = absurd led
all_ran desk given n [] [] [] (e ∷ es) replies are led ends = absurd ends
all_ran desk given n [] [] [] [] (r ∷ rs) are led ends = absurd ends
all_ran desk given n (s ∷ ss) (j ∷ js) (Err fault ∷ os) seats replies are led ends = absurd ends
all_ran desk given n (s ∷ ss) (j ∷ js) (Ok o ∷ os) [] replies are led ends = absurd ends
all_ran desk given n (s ∷ ss) (j ∷ js) (Ok o ∷ os) (e ∷ es) [] are led ends = absurd ends

pub all_among : {L : Type 0} (given : List Seat) (n : ℕ) (scripts : List (List Step)) (jobs : List (Job L)) → AreJobs given n scripts jobs
    → AllByRecursion (Contains given) (map (λ (j : Job L). j.seat) jobs)
all_among given n [] [] are = tt
all_among given n [] (j ∷ js) are = absurd are
all_among given n (s ∷ ss) [] are = absurd are
all_among given n (s ∷ ss) (j ∷ js) are = (are.2, all_among given (n + 1) ss js are.3)

-- the same, as loops have it
pub job_after : {L : Type 0} (given : List Seat) (scripts : List (List Step)) (jobs new : List (Job L)) (steps : List Step) (job : Job L)
    → AreJobs given 1 scripts jobs → (job.seat.session ≡ length jobs + 1) × Contains given job.seat → job.steps ≡ steps
    → new ≡ jobs ++ job ∷ []
    → AreJobs given 1 (scripts ++ steps ∷ []) new
job_after {L} given scripts jobs new steps job are its same new-is =
    let number : job.seat.session ≡ 1 + length jobs = its.0 ∙ omega arith in
    subst (λ (js : List (Job L)). AreJobs given 1 (scripts ++ steps ∷ []) js) (sym new-is)
    (jobs_push given 1 scripts jobs steps job are number same its.1)

pub ends_after : {L : Type 0} (results : List (Result (Outcome L) RunFault)) (seats more : List Seat) (replies further : List
    (List Reply))
    (result : Result (Outcome L) RunFault) (outcome : Outcome L) → AllSucceeded results seats replies → result ≡ Ok outcome
    → more ≡ seats ++ outcome.seat ∷ [] → further ≡ replies ++ outcome.replies ∷ [] → AllSucceeded (results ++ result ∷ []) more further
ends_after {L} results seats more replies further result outcome are ok more-is further-is =
    subst (λ (r : Result (Outcome L) RunFault). AllSucceeded (results ++ r ∷ []) more further) (sym ok)
    (subst (λ (ss : List Seat). AllSucceeded (results ++ Ok outcome ∷ []) ss further) (sym more-is)
    (subst (λ (rs : List (List Reply)). AllSucceeded (results ++ Ok outcome ∷ []) (seats ++ outcome.seat ∷ []) rs) (sym further-is)
    (ends_push results seats replies outcome are)))

-- the run of a desk that is closed
pub is_run : {L : Type 0} (desk : Desk) (given : List Seat) (scripts : List (List Step)) (jobs : List (Job L)) (results : List (Result
    (Outcome L) RunFault))
    (ends : List Seat) (replies : List (List Reply)) (book : History) → AreJobs given 1 scripts jobs → length results ≡ length jobs
    → ((i : ℕ) (d : Result (Outcome L) RunFault) (e : Job L) → i < length jobs
    → Led desk (slice_index_or jobs i e) (slice_index_or results i d))
    → AllSucceeded results ends replies → IsClosed desk ends book → IsDeskRun desk given scripts replies book
is_run {L} desk given scripts jobs results ends replies book are same each end closed = record {
  seats = map (λ (j : Job L). j.seat) jobs;
  ends = ends;
  among = all_among given 1 scripts jobs are;
  ran = all_ran desk given 1 scripts jobs results ends replies are (all_led desk jobs results same each) end;
  closed = closed;
}
