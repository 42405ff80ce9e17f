-- The jobs of sessions, and what they end with.
use Rattle.std.specs.Prelude.{◌≡◌, ℕ, ◌+◌, List, [], ◌∷◌, Result, Ok}
use Rattle.std.specs.List.{Contains}
use Rattle.session_steps.specs.declared.Reply.{Reply}
use Rattle.session_steps.specs.declared.Step.{Step}
use Rattle.desk_rules.specs.Seats.{Seat}
use Rattle.locked_desk.specs.declared.fault.RunFault.{RunFault}
use Rattle.locked_desk.specs.declared.steps.Job.{Job}
use Rattle.locked_desk.specs.declared.steps.Outcome.{Outcome}

-- each of these seats is among those
abbrev pub AreAmong : List Seat → List Seat → Type 0
AreAmong given seats = (seat : Seat) → Contains seats seat → Contains given seat

-- each session's job, from this session on, has its script and a seat of it that was given
abbrev pub AreJobs : {L : Type 0} → List Seat → ℕ → List (List Step) → List (Job L) → Type 0
AreJobs given session [] [] = Unit {0}
AreJobs given session (steps ∷ scripts) (job ∷ jobs) =
    (job.seat.session ≡ session) × (job.steps ≡ steps) × Contains given job.seat × AreJobs given (session + 1) scripts jobs
AreJobs given session scripts jobs = ⊥

-- no session failed, and these are the seats at the end and the replies
abbrev pub AllSucceeded : {L : Type 0} → List (Result (Outcome L) RunFault) → List Seat → List (List Reply) → Type 0
AllSucceeded [] [] [] = Unit {0}
AllSucceeded (Ok outcome ∷ outcomes) (seat ∷ seats) (replies ∷ more) =
    (seat ≡ outcome.seat) × (replies ≡ outcome.replies) × AllSucceeded outcomes seats more
AllSucceeded outcomes seats replies = ⊥
