-- Events are dealt to their sessions, and taken in turn again.
use Rattle.std.proofs.Common.{◌≡◌, ◌≢◌, ℕ, suc, ◌-◌, ◌<◌, ◌≤◌, List, [], ◌∷◌, ◌++◌, get_or, set, length, map, slice_index_or, slice_set}
use Rattle.std.proofs.Common.{refl, ap, subst, sym, ◌∙◌, arith, append_assoc, append-nil, inl, inr}
use Rattle.std.specs.List.{AllByRecursion}
use Rattle.std.proofs.lemmas.Bool.{cases_eq, eq-eqb, ne_eqb}
use Rattle.std.proofs.lemmas.List.{get_or-set_other, get_or-set_same, length-set}
use Rattle.session_steps.specs.declared.Reply.{Reply}
use Rattle.session_steps.specs.declared.Step.{Step}
use Rattle.session_steps.specs.Turns.{dealt, in_turn, taken}
use Rattle.session_laws.specs.Rearranged.{dealt_out}
use Rattle.session_laws.proofs.Events.{Event}
use Rattle.session_laws.proofs.Pulling.{names}
use Rattle.session_laws.proofs.Swaps.{own, own_before}
use Rattle.session_laws.proofs.Hands.{script}

-- the events' sessions are these, from 1
abbrev pub AreOf : {S R : Type 0} → ℕ → List (Event S R) → Type 0
AreOf sessions events = AllByRecursion (λ e. (1 ≤ e.session) × (e.session ≤ sessions)) events

-- a session's first event is its own, and no other's
pub own_first : {S R : Type 0} (event : Event S R) (events : List (Event S R)) (session : ℕ) → event.session ≡ session →
    own session (event ∷ events) ≡ event ∷ own session events
own_first event events session same = ap (λ b. own_before b event (own session events)) (eq-eqb event.session session same)

pub own_behind : {S R : Type 0} (event : Event S R) (events : List (Event S R)) (session : ℕ) → event.session ≢ session →
    own session (event ∷ events) ≡ own session events
own_behind event events session differ = ap (λ b. own_before b event (own session events)) (ne_eqb event.session session differ)

-- ---- dealt

-- the turns in which events hand something to their sessions
abbrev pub turns_with : {S R X : Type 0} → (Event S R → X) → List (Event S R) → List (ℕ × X)
turns_with f [] = []
turns_with f (event ∷ events) = (event.session, f event) ∷ turns_with f events

-- so many sessions stay
pub length_dealt : {X : Type 0} (turns : List (ℕ × X)) (hands : List (List X)) → length (dealt_out turns hands) ≡ length hands
length_dealt [] hands = refl
length_dealt (turn ∷ turns) hands =
    length_dealt turns (slice_set hands (turn.0 - 1) (slice_index_or hands (turn.0 - 1) [] ++ turn.1 ∷ []))
    ∙ length-set hands (turn.0 - 1) (slice_index_or hands (turn.0 - 1) [] ++ turn.1 ∷ [])

-- each has what it had, and behind it what its own events hand to it
pub dealt_at : {S R X : Type 0} (f : Event S R → X) (events : List (Event S R)) (hands : List (List X)) → AreOf (length hands) events →
    (index : ℕ) → get_or (dealt_out (turns_with f events) hands) index [] ≡ get_or hands index [] ++ map f (own (suc index) events)
dealt_at f [] hands are index = sym (append-nil (get_or hands index []))
dealt_at {S} {R} {X} f (event ∷ events) hands are index =
    dealt_at f events new (subst (λ n. AreOf n events) (sym (length-set hands place more)) are.1) index
    ∙ elim (cases_eq event.session (suc index)) [
      | inl same ↦
          let at : index ≡ place = omega arith in
          let own_is = own_first event events (suc index) same in
          ap (λ h. h ++ map f (own (suc index) events)) (
          ap (λ i. get_or new i []) at ∙ get_or-set_same hands place more [] (omega arith)
          )
          ∙ append_assoc (get_or hands place []) (f event ∷ []) (map f (own (suc index) events))
          ∙ ap (λ i. get_or hands i [] ++ f event ∷ map f (own (suc index) events)) (sym at)
          ∙ ap (λ es. get_or hands index [] ++ map f es) (sym own_is)
      | inr differ ↦
          let apart : index ≢ place = λ e. differ (omega arith) in
          ap (λ h. h ++ map f (own (suc index) events)) (get_or-set_other hands place index more [] apart)
          ∙ ap (λ es. get_or hands index [] ++ map f es) (sym (own_behind event events (suc index) differ))
    ] where
      place : ℕ
      place = event.session - 1

      more : List X
      more = get_or hands (event.session - 1) [] ++ f event ∷ []

      new : List (List X)
      new = set hands (event.session - 1) (get_or hands (event.session - 1) [] ++ f event ∷ [])

-- ---- in turn

-- scripts that begin with the sessions' own steps give these in turn
pub in_turn_is : (events : List (Event Step Reply)) (scripts : List (List Step)) → AreOf (length scripts) events →
    ((index : ℕ) → index < length scripts → get_or scripts index [] ≡ script (suc index) events) →
    in_turn (names events) scripts ≡ turns_with (λ e. e.step) events
in_turn_is [] scripts are same = refl
in_turn_is (event ∷ events) scripts are same =
    let first : event.session ≡ suc place = omega arith in
    let at : get_or scripts place [] ≡ event.step ∷ behind =
    same place (omega arith) ∙ ap (λ es. map (λ (e : Event Step Reply). e.step) es) (own_first event events (suc place) first) in
    ap (λ steps. taken event.session steps scripts (λ left. in_turn (names events) left)) at
    ∙ ap (λ turns. (event.session, event.step) ∷ turns) (in_turn_is events (set scripts place behind)
    (subst (λ n. AreOf n events) (sym (length-set scripts place behind)) are.1)
    (λ index inside. elim (cases_eq event.session (suc index)) [
      | inl here ↦
          let is : index ≡ place = omega arith in
          ap (λ i. get_or (set scripts place behind) i []) is ∙ get_or-set_same scripts place behind [] (omega arith)
          ∙ ap (λ i. script (suc i) events) (sym is)
      | inr differ ↦
          let apart : index ≢ place = λ e. differ (omega arith) in
          get_or-set_other scripts place index behind [] apart
          ∙ same index (subst (λ n. index < n) (length-set scripts place behind) inside)
          ∙ ap (λ es. map (λ (e : Event Step Reply). e.step) es) (own_behind event events (suc index) differ)
    ])) where
      place : ℕ
      place = event.session - 1

      behind : List Step
      behind = script (suc (event.session - 1)) events

-- replies dealt to the sessions are those of their events
pub dealt_is : (events : List (Event Step Reply)) (hands : List (List Reply)) →
    dealt (names events) (map (λ e. e.reply) events) hands ≡ dealt_out (turns_with (λ e. e.reply) events) hands
dealt_is [] hands = refl
dealt_is (event ∷ events) hands =
    dealt_is events (set hands (event.session - 1) (get_or hands (event.session - 1) [] ++ event.reply ∷ []))
