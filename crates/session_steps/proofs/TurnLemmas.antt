-- A step that is taken, by place.
use Rattle.std.proofs.Common.{◌≡◌, ℕ, ◌-◌, List, [], ◌∷◌, Option, None, Some, slice_index_or, slice_set, refl, ap, sym, ◌∙◌}
use Rattle.std.specs.Prelude.{MatchOption}
use Rattle.std.proofs.lemmas.List.{set-get_or}
use Rattle.session_steps.specs.declared.Reply.{Reply}
use Rattle.session_steps.specs.declared.Step.{Step}
use Rattle.session_steps.specs.Turns.{dealt, taken, with_step}

-- what is left of the script at the place, and the step before it
pub took : (session place : ℕ) (scripts : List (List Step)) (script new : List Step) (result : Option Step)
    (more : List (List Step) → List (ℕ × Step)) → place ≡ session - 1 → script ≡ slice_index_or scripts place [] →
    MatchOption result ((script ≡ []) × (new ≡ [])) (λ step. script ≡ step ∷ new) →
    taken session (slice_index_or scripts (session - 1) []) scripts more ≡ with_step session result (more (slice_set scripts place new))
took session place scripts script new None more at is cases =
    ap (λ s. taken session s scripts more) (ap (λ n. slice_index_or scripts n []) (sym at) ∙ sym is ∙ cases.0)
    ∙ ap more (sym (ap (slice_set scripts place) (cases.1 ∙ sym cases.0 ∙ is) ∙ set-get_or scripts place []))
took session place scripts script new (Some step) more at is cases =
    ap (λ s. taken session s scripts more) (ap (λ n. slice_index_or scripts n []) (sym at) ∙ sym is ∙ cases)
    ∙ ap (λ n. (session, step) ∷ more (slice_set scripts n new)) (sym at)

-- without replies nothing is dealt
pub dealt_none : (order : List ℕ) (hands : List (List Reply)) → dealt order [] hands ≡ hands
dealt_none [] hands = refl
dealt_none (session ∷ order) hands = refl
