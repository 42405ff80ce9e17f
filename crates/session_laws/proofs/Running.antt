-- What holds of a run, of its steps and of what they are answered.
use Rattle.std.proofs.Common.{◌≡◌, ℕ, ◌-◌, ◌≤◌, Bool, true, false, List, [], ◌∷◌, ◌++◌, length, refl, ap, sym, subst, ◌∙◌, append-nil}
use Rattle.std.proofs.Common.{append_assoc, arith, map, nat_le}
use Rattle.std.specs.List.{AllByRecursion}
use Rattle.std.proofs.lemmas.Bool.{and_from}
use Rattle.std.proofs.lemmas.Bool.Decides.{nat_tests}
use Rattle.std.proofs.lemmas.List.{length-set}
use Rattle.session_steps.specs.declared.Reply.{Reply}
use Rattle.session_steps.specs.declared.Step.{Step}
use Rattle.session_core.specs.Machine.{State, after_steps, is_session, open_of, step_outcome}
use Rattle.session_core.specs.Machines.{IsState}
use Rattle.job_text.specs.Order.{is_logged}
use Rattle.session_laws.specs.Rearranged.{HasSession}
use Rattle.session_laws.proofs.Events.{Event}
use Rattle.session_laws.proofs.Swaps.{Goes}
use Rattle.session_laws.proofs.Dealing.{AreOf, turns_with}
use Rattle.session_laws.proofs.Commuting.{session_bounds, system_of}
use Rattle.session_laws.proofs.Cores.{is_there, core, step_is}
use Rattle.session_laws.proofs.StepKinds.{callers_of}
use Rattle.session_laws.proofs.Pulling.{caller_before, callers}
use Rattle.session_laws.proofs.Keeping.{after_one}

-- the steps, each with what it is answered
abbrev pub events_of : State → List (ℕ × Step) → List (Event Step Reply)
events_of s [] = []
events_of s (step ∷ steps) =
    record { session = step.0; step = step.1; reply = (step_outcome s step.0 step.1).0 } ∷ events_of (step_outcome s step.0 step.1).1 steps

-- what holds of a run, of its events
pub record Run (old new : State) (steps : List (ℕ × Step)) (replies : List Reply) (events : List (Event Step Reply)) : Type 0 where
  pub goes : Goes (system_of step_outcome) old events new
  pub callers_are : callers_of new.history ≡ callers_of old.history ++ callers is_logged events
  pub are : AreOf (length old.works) events
  pub steps_are : turns_with (λ e. e.step) events ≡ steps
  pub replies_are : map (λ e. e.reply) events ≡ replies

caller_append : (b : Bool) (session : ℕ) (more : List ℕ) → caller_before b session [] ++ more ≡ caller_before b session more
caller_append true session more = refl
caller_append false session more = refl

-- the step is of one of so many sessions
abbrev pub IsOfOne : ℕ → ℕ × Step → Type 0
IsOfOne sessions step = (1 ≤ step.0) × (step.0 ≤ sessions)

there_is : (s : State) (session : ℕ) → 1 ≤ session → session ≤ length s.works → is_session s session ≡ true
there_is s session low high =
    let above : nat_le 1 session ≡ true = grind (arith, nat_tests) in
    let below : nat_le session (length s.works) ≡ true = grind (arith, nat_tests) in
    and_from (nat_le 1 session) (nat_le session (length s.works)) above below

pub run_is : (steps : List (ℕ × Step)) (old : State) → IsState old → AllByRecursion (IsOfOne (length old.works)) steps →
    Run old (after_steps old steps).1 steps (after_steps old steps).0 (events_of old steps)
run_is [] old kept known = record {
  goes = refl;
  callers_are = sym (append-nil (callers_of old.history));
  are = tt;
  steps_are = refl;
  replies_are = refl;
}
run_is (step ∷ steps) old kept known =
    let end = step_outcome old step.0 step.1 in
    let now = after_one old step.0 step.1 kept (there_is old step.0 known.0.0 known.0.1) in
    let more = run_is steps end.1 now.kept (subst (λ n. AllByRecursion (IsOfOne n) steps) (sym now.sessions) known.1) in
    let events = events_of end.1 steps in
    record {
      goes = (refl, now.plain, more.goes);
      callers_are = more.callers_are ∙ ap (λ cs. cs ++ callers is_logged events) now.callers_are
          ∙ append_assoc (callers_of old.history) (caller_before (is_logged end.0) step.0 []) (callers is_logged events)
          ∙ ap (λ cs. callers_of old.history ++ cs) (caller_append (is_logged end.0) step.0 (callers is_logged events));
      are = (known.0, subst (λ n. AreOf n events) now.sessions more.are);
      steps_are = ap (λ ss. step ∷ ss) more.steps_are;
      replies_are = ap (λ rs. end.0 ∷ rs) more.replies_are;
    }

-- steps whose sessions are all there
pub all_known : (steps : List (ℕ × Step)) (old : State) → AllByRecursion HasSession (after_steps old steps).0 →
    AllByRecursion (IsOfOne (length old.works)) steps
all_known [] old known = tt
all_known (step ∷ steps) old known =
    let there = is_there old step.0 step.1 known.0 in
    let left = (core old.history step.0 step.1 (open_of old step.0)).2 in
    let same : length (step_outcome old step.0 step.1).1.works ≡ length old.works =
    ap (λ (p : Reply × State). length p.1.works) (step_is old step.0 step.1 there) ∙ length-set old.works (step.0 - 1) left in (
      session_bounds old step.0 there,
      subst (λ n. AllByRecursion (IsOfOne n) steps) same (all_known steps (step_outcome old step.0 step.1).1 known.1),
    )

-- the steps of events, taken in their order, are answered so
pub goes_so : (events : List (Event Step Reply)) (old new : State) → Goes (system_of step_outcome) old events new →
    after_steps old (turns_with (λ e. e.step) events) ≡ (map (λ e. e.reply) events, new)
goes_so [] old new goes = ap (λ s. ([], s)) (sym goes)
goes_so (event ∷ events) old new goes =
    let one = step_outcome old event.session event.step in
    ap (λ (m : List Reply × State). (one.0 ∷ m.0, m.1)) (goes_so events one.1 new goes.2)
    ∙ ap (λ r. (r ∷ map (λ (e : Event Step Reply). e.reply) events, new)) (sym goes.0)
