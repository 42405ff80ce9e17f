-- Sessions that take their steps in turns, and replies that are dealt to them.
use Rattle.std.specs.Prelude.{ℕ, ◌-◌, ◌==◌, Bool, List, [], ◌∷◌, ◌++◌, Option, None, Some, slice_index_or, slice_set}
use Rattle.std.specs.List.{list_all}
use Rattle.session_steps.specs.declared.Reply.{Reply}
use Rattle.session_steps.specs.declared.Step.{Step}

-- the session takes its first step, where it has one left, and the others go on
abbrev pub taken : ℕ → List Step → List (List Step) → (List (List Step) → List (ℕ × Step)) → List (ℕ × Step)
taken session [] scripts more = more scripts
taken session (step ∷ left) scripts more = (session, step) ∷ more (slice_set scripts (session - 1) left)

-- the steps of these scripts, each with its session, as the sessions come in this order
abbrev pub in_turn : List ℕ → List (List Step) → List (ℕ × Step)
in_turn [] scripts = []
in_turn (session ∷ order) scripts =
    taken session (slice_index_or scripts (session - 1) []) scripts (λ left. in_turn order left)

-- the replies so far of each session, and behind them these, as the sessions come in this order
abbrev pub dealt : List ℕ → List Reply → List (List Reply) → List (List Reply)
dealt [] replies hands = hands
dealt (session ∷ order) [] hands = hands
dealt (session ∷ order) (reply ∷ replies) hands =
    dealt order replies (slice_set hands (session - 1) (slice_index_or hands (session - 1) [] ++ reply ∷ []))

-- what is taken comes first
abbrev pub with_step : ℕ → Option Step → List (ℕ × Step) → List (ℕ × Step)
with_step session None steps = steps
with_step session (Some step) steps = (session, step) ∷ steps

-- no session but the first comes
abbrev pub is_first_alone : List ℕ → Bool
is_first_alone order = list_all (λ session. session == 1) order
