-- Steps of a run that are left complete it.
use Rattle.std.proofs.Common.{◌++◌, ◌∷◌, ℕ, List, [], refl, subst, sym}
use Rattle.std.proofs.lemmas.List.{append_assoc, append-nil}
use Rattle.session_steps.specs.declared.Reply.{Reply}
use Rattle.session_steps.specs.declared.Step.{Step}
use Rattle.session_core.specs.Machine.{Ran, State, TakesStep}

-- whatever the steps that are left lead to, and are answered, all of them do, with these replies first
abbrev pub Completes : State → List (ℕ × Step) → List Reply → State → List (ℕ × Step) → Type 0
Completes old all replies now left =
    (more : List Reply) (last : State) → Ran now left more last → Ran old all (replies ++ more) last

pub complete_step : (old : State) (all left : List (ℕ × Step)) (replies : List Reply) (now new : State) (session : ℕ) (step : Step)
    (reply : Reply) → Completes old all replies now ((session, step) ∷ left) → TakesStep now session step reply new →
    Completes old all (replies ++ reply ∷ []) new left
complete_step old all left replies now new session step reply done takes more last ran =
    subst (λ rs. Ran old all rs last) (sym (append_assoc replies (reply ∷ []) more)) (done (reply ∷ more) last (new, takes, ran))

pub complete_end : (old : State) (all : List (ℕ × Step)) (replies : List Reply) (now : State) → Completes old all replies now [] →
    Ran old all replies now
complete_end old all replies now done = subst (λ rs. Ran old all rs now) (append-nil replies) (done [] now refl)
