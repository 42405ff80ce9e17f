-- Steps that sessions took, taken in the order that is printed behind them.
use Rattle.std.specs.Prelude.{◌≡◌, ◌≢◌, ℕ, ◌-◌, ◌≤◌, List, [], ◌∷◌, ◌++◌, All, IsPermutation, false, length, map, replicate, true}
use Rattle.std.specs.Prelude.{slice_index_or, slice_set}
use Rattle.lay_layouts.specs.Layout.{Layout}
use Rattle.session_steps.specs.declared.Reply.{Reply}
use Rattle.session_steps.specs.declared.Reply.TheVariants.{Fault}
use Rattle.session_steps.specs.declared.Step.{Step}
use Rattle.session_steps.specs.declared.StepFault.TheVariants.{NoSession}
use Rattle.session_steps.specs.Turns.{dealt, in_turn}
use Rattle.session_core.specs.Machine.{Ran, State, after_steps, is_memory, start}
use Rattle.job_text.specs.Job.{order_fits}
use Rattle.job_text.specs.Order.{order_of}

-- what each session has, and behind it what it is dealt in these turns
abbrev pub dealt_out : {X : Type 0} → List (ℕ × X) → List (List X) → List (List X)
dealt_out [] hands = hands
dealt_out (turn ∷ turns) hands =
    dealt_out turns (slice_set hands (turn.0 - 1) (slice_index_or hands (turn.0 - 1) [] ++ turn.1 ∷ []))

-- the sessions, in the order in which they took these steps
abbrev pub names : List (ℕ × Step) → List ℕ
names steps = map (λ step. step.0) steps

-- the steps of each of so many sessions
abbrev pub dealt_scripts : ℕ → List (ℕ × Step) → List (List Step)
dealt_scripts sessions steps = dealt_out steps (replicate sessions [])

-- taken as they were dealt out, steps come in their own order again
abbrev pub StepsComeInTurn : Type 0
StepsComeInTurn = (sessions : ℕ) (steps : List (ℕ × Step)) → All (λ step. (1 ≤ step.0) × (step.0 ≤ sessions)) steps
    → in_turn (names steps) (dealt_scripts sessions steps) ≡ steps

-- the replies to each, where the sessions took their steps in this order
abbrev pub replies_by_session : ℕ → List ℕ → List Reply → List (List Reply)
replies_by_session sessions order replies = dealt order replies (replicate sessions [])

-- from the old state to the new: the steps of these scripts in this order lead there, and each session has these replies
pub record LeadsTo (sessions : ℕ) (scripts : List (List Step)) (order : List ℕ) (old new : State) (hands : List (List Reply)) : Type 0 where
  pub state : (after_steps old (in_turn order scripts)).1 ≡ new
  pub replies : replies_by_session sessions order (after_steps old (in_turn order scripts)).0 ≡ hands

-- the answer isn't out of memory
abbrev pub HasMemory : Reply → Type 0
HasMemory reply = is_memory reply ≡ false

-- the answer isn't that there is no such session
abbrev pub HasSession : Reply → Type 0
HasSession reply = reply ≢ Fault NoSession

-- Whatever steps sessions took: in the printed order, which names each session as often, they lead to the same.
abbrev pub StepsAnswerAlike : Type 0
StepsAnswerAlike = (base : Layout) (sessions limit : ℕ) (steps : List (ℕ × Step)) (replies : List Reply) (final : State)
    → sessions ≤ 64 → Ran (start base sessions limit) steps replies final → All HasMemory replies → All HasSession replies
    → let hands = replies_by_session sessions (names steps) replies in
    let printed = order_of final.history.log hands in
    IsPermutation (names steps) printed
    × LeadsTo sessions (dealt_scripts sessions steps) printed (start base sessions limit) final hands

-- A job's scripts, whatever order fits them: the printed order fits them too, and they lead to the same.
abbrev pub JobsAnswerAlike : Type 0
JobsAnswerAlike = (base : Layout) (sessions limit : ℕ) (scripts : List (List Step)) (order : List ℕ)
    → length scripts ≤ sessions → sessions ≤ 64 → order_fits scripts order ≡ true
    → let ran = after_steps (start base sessions limit) (in_turn order scripts) in
    let hands = replies_by_session sessions order ran.0 in
    let printed = order_of ran.1.history.log hands in
    (order_fits scripts printed ≡ true) × LeadsTo sessions scripts printed (start base sessions limit) ran.1 hands
