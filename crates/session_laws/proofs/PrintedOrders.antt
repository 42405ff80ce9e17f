-- The printed order leads to the same, of steps and of jobs.
use Rattle.std.proofs.Common.{◌≡◌, ℕ, ◌≤◌, suc, Bool, true, false, List, [], ◌∷◌, ◌++◌, length, get_or, map, refl, ap, sym, subst}
use Rattle.std.proofs.Common.{◌∙◌, arith, replicate, None, nat_eq}
use Rattle.std.proofs.lemmas.Bool.{or_from}
use Rattle.std.specs.Prelude.{IsPermutation}
use Rattle.std.specs.List.{AllByRecursion, list_any, range_with_len}
use Rattle.std.proofs.lemmas.List.{length-replicate}
use Rattle.std.proofs.lemmas.List.Elements.{recursion_from_All}
use Rattle.lay_layouts.specs.Layout.{Layout}
use Rattle.session_steps.specs.declared.Reply.{Reply}
use Rattle.session_steps.specs.declared.Reply.TheVariants.{Cancelled}
use Rattle.session_steps.specs.declared.Step.{Step}
use Rattle.session_steps.specs.Turns.{in_turn}
use Rattle.session_core.specs.Machine.{State, after_steps, is_memory, start}
use Rattle.session_core.proofs.MachineLemmas.{ran_all, started}
use Rattle.job_text.specs.Job.{order_fits}
use Rattle.job_text.specs.Order.{is_logged, order_of}
use Rattle.session_laws.specs.Rearranged as rearranged
use Rattle.session_laws.specs.Rearranged.{HasMemory, HasSession, JobsAnswerAlike, LeadsTo}
use Rattle.session_laws.specs.Rearranged.{StepsAnswerAlike, StepsComeInTurn, dealt_scripts, replies_by_session}
use Rattle.session_laws.proofs.Events.{Event, Events}
use Rattle.session_laws.proofs.Swaps.{Swapped, own, own_before}
use Rattle.session_laws.proofs.Pulling.{names, turned, turns, log_leads}
use Rattle.session_laws.proofs.Hands.{script}
use Rattle.session_laws.proofs.Dealing.{AreOf, in_turn_is, length_dealt, turns_with}
use Rattle.session_laws.proofs.StepKinds.{callers_of}
use Rattle.session_laws.proofs.Running.{IsOfOne, Run, all_known, events_of, run_is}
use Rattle.session_laws.proofs.JobTurns.{AreTurns, own_step, own_steps}
use Rattle.session_laws.proofs.FittingOrders.{fits_again, fitting_turns}
use Rattle.session_laws.proofs.Answering.{AreScripts, hands_so, leads_to, names_so, own_dealt, printed_is, same_names}

-- the events of a run, in their order and in the printed one
record Printed (sessions : ℕ) (steps : List (ℕ × Step)) (old : State) (events : Events) : Type 0 where
  run : Run old (after_steps old steps).1 steps (after_steps old steps).0 events
  new : Events
  swapped : Swapped is_logged events new
  printed : order_of (after_steps old steps).1.history.log (replies_by_session sessions (rearranged.names steps) (after_steps old steps).0)
      ≡ names new

printed_events : (base : Layout) (sessions limit : ℕ) (steps : List (ℕ × Step)) → sessions ≤ 64 → AllByRecursion (IsOfOne sessions) steps →
    Printed sessions steps (start base sessions limit) (events_of (start base sessions limit) steps)
printed_events base sessions limit steps few known =
    let old = start base sessions limit in
    let end = after_steps old steps in
    let events = events_of old steps in
    let run = run_is steps old (started base sessions limit few)
    (subst (λ n. AllByRecursion (IsOfOne n) steps) (sym (length-replicate sessions None)) known) in
    let are = subst (λ n. AreOf n (events_of (start base sessions limit) steps)) (length-replicate sessions None) run.are in
    let turn_order = callers_of end.1.history ++ range_with_len 1 sessions in
    record {
      run = run;
      new = turned is_logged turn_order events;
      swapped = turns is_logged turn_order events
          (log_leads is_logged (callers_of end.1.history) (range_with_len 1 sessions) events (sym run.callers_are));
      printed = ap (order_of end.1.history.log) (hands_so sessions steps end.0 events run.steps_are run.replies_are)
          ∙ printed_is sessions 256 events end.1.history.log (sym run.callers_are) are (omega arith);
    }

-- ---- steps

-- the printed order names each session as often, and in it the steps lead to the same
abbrev Alike : ℕ → List (ℕ × Step) → State → List Reply × State → Type 0
Alike sessions steps old end =
    IsPermutation (rearranged.names steps) (order_of end.1.history.log (replies_by_session sessions (rearranged.names steps) end.0))
    × LeadsTo sessions (dealt_scripts sessions steps)
    (order_of end.1.history.log (replies_by_session sessions (rearranged.names steps) end.0))
    old end.1
    (replies_by_session sessions (rearranged.names steps) end.0)

alike : (base : Layout) (sessions limit : ℕ) (steps : List (ℕ × Step)) → sessions ≤ 64 →
    AllByRecursion HasSession (after_steps (start base sessions limit) steps).0 →
    Alike sessions steps (start base sessions limit) (after_steps (start base sessions limit) steps)
alike base sessions limit steps few known = (
  subst (IsPermutation (rearranged.names steps)) (sym p.printed)
      (subst (λ ns. IsPermutation ns (names p.new)) (sym (names_so events) ∙ ap rearranged.names p.run.steps_are)
      (same_names events p.new p.swapped)),
  leads_to sessions (dealt_scripts sessions steps) steps end.0 old end.1 events p.new p.run (omega (arith, len))
      (subst (λ n. AreOf n events) (sym len) are) scripts_are p.swapped
      (order_of end.1.history.log (replies_by_session sessions (rearranged.names steps) end.0)) p.printed,
) where
  old : State
  old = start base sessions limit

  end : List Reply × State
  end = after_steps (start base sessions limit) steps

  events : Events
  events = events_of (start base sessions limit) steps

  p : Printed sessions steps (start base sessions limit) (events_of (start base sessions limit) steps)
  p = printed_events base sessions limit steps few (subst (λ n. AllByRecursion (IsOfOne n) steps) (length-replicate sessions None)
      (all_known steps (start base sessions limit) known))

  are : AreOf sessions (events_of (start base sessions limit) steps)
  are = subst (λ n. AreOf n (events_of (start base sessions limit) steps)) (length-replicate sessions None) p.run.are

  len : length (dealt_scripts sessions steps) ≡ sessions
  len = length_dealt steps (replicate sessions []) ∙ length-replicate sessions []

  scripts_are : AreScripts (dealt_scripts sessions steps) (events_of (start base sessions limit) steps)
  scripts_are index inside = ap (λ ss. get_or (dealt_scripts sessions ss) index []) (sym p.run.steps_are)
      ∙ own_dealt (λ e. e.step) sessions events are index

no_memory : (replies : List Reply) → AllByRecursion HasMemory replies → list_any is_memory replies ≡ false
no_memory [] all = refl
no_memory (reply ∷ replies) all = or_from (is_memory reply) (list_any is_memory replies) all.0 (no_memory replies all.1)

pub steps_alike : StepsAnswerAlike
steps_alike base sessions limit steps replies final few ran memory known =
    let old = start base sessions limit in
    let both = ran_all steps replies old final ran (no_memory replies (recursion_from_All HasMemory replies memory)) in
    let end : after_steps old steps ≡ (replies, final) = λ i. (sym both.0 i, sym both.1 i) in
    subst (Alike sessions steps old) end (alike base sessions limit steps few
    (subst (AllByRecursion HasSession) both.0 (recursion_from_All HasSession replies known)))

are_so : (sessions : ℕ) (events : Events) → AllByRecursion (IsOfOne sessions) (turns_with (λ e. e.step) events) → AreOf sessions events
are_so sessions [] all = tt
are_so sessions (event ∷ events) all = (all.0, are_so sessions events all.1)

-- steps with some reply, which nothing asks for
abbrev unanswered : List (ℕ × Step) → Events
unanswered [] = []
unanswered (step ∷ steps) = record { session = step.0; step = step.1; reply = Cancelled } ∷ unanswered steps

pub steps_come_in_turn : StepsComeInTurn
steps_come_in_turn sessions steps known =
    ap (λ ns. in_turn ns scripts) (ap rearranged.names (sym (same steps)) ∙ names_so events)
    ∙ in_turn_is events scripts (subst (λ n. AreOf n events) (sym len) are)
    (λ index inside. ap (λ ss. get_or (dealt_scripts sessions ss) index []) (sym (same steps))
    ∙ own_dealt (λ e. e.step) sessions events are index)
    ∙ same steps where
      events : Events
      events = unanswered steps

      scripts : List (List Step)
      scripts = dealt_scripts sessions steps

      same : (steps : List (ℕ × Step)) → turns_with (λ e. e.step) (unanswered steps) ≡ steps
      same [] = refl
      same (step ∷ steps) = ap (λ ss. step ∷ ss) (same steps)

      are : AreOf sessions (unanswered steps)
      are = are_so sessions events (subst (AllByRecursion (IsOfOne sessions)) (sym (same steps))
          (recursion_from_All (IsOfOne sessions) steps known))

      len : length (dealt_scripts sessions steps) ≡ sessions
      len = length_dealt steps (replicate sessions []) ∙ length-replicate sessions []

-- ---- jobs

-- a script is what its session takes
scripts_so : (session : ℕ) (events : Events) → own_steps session (turns_with (λ e. e.step) events) ≡ script session events
scripts_so session [] = refl
scripts_so session (event ∷ events) = by (nat_eq event.session session) (scripts_so session events) where
  by : (b : Bool) → own_steps session (turns_with (λ e. e.step) events) ≡ script session events →
      own_step b event.step (own_steps session (turns_with (λ e. e.step) events))
      ≡ map (λ (e : Event Step Reply). e.step) (own_before b event (own session events))
  by true same = ap (λ ss. event.step ∷ ss) same
  by false same = same

more_known : (few sessions : ℕ) → few ≤ sessions → (steps : List (ℕ × Step)) →
    AllByRecursion (IsOfOne few) steps → AllByRecursion (IsOfOne sessions) steps
more_known few sessions more [] all = tt
more_known few sessions more (step ∷ steps) all =
    let high : step.0 ≤ few = all.0.1 in
    ((all.0.0, omega arith), more_known few sessions more steps all.1)

pub jobs_alike : JobsAnswerAlike
jobs_alike base sessions limit scripts order fewer few fitting = (
  subst (λ ns. order_fits scripts ns ≡ true) (sym printed_now)
      (fits_again scripts order (names p.new) fitting (subst (λ ns. IsPermutation ns (names p.new)) names_now
      (same_names events p.new p.swapped))),
  subst (λ ns. LeadsTo sessions scripts (order_of end.1.history.log (replies_by_session sessions order end.0)) old end.1
      (replies_by_session sessions ns end.0)) job.names_are
      (leads_to sessions scripts steps end.0 old end.1 events p.new p.run fewer
      (are_so (length scripts) events (subst (AllByRecursion (IsOfOne (length scripts))) (sym p.run.steps_are) job.known))
      (λ index inside. job.scripts_are index inside ∙ ap (own_steps (suc index)) (sym p.run.steps_are) ∙ scripts_so (suc index) events)
      p.swapped (order_of end.1.history.log (replies_by_session sessions order end.0)) printed_now),
) where
  old : State
  old = start base sessions limit

  steps : List (ℕ × Step)
  steps = in_turn order scripts

  end : List Reply × State
  end = after_steps (start base sessions limit) (in_turn order scripts)

  events : Events
  events = events_of (start base sessions limit) (in_turn order scripts)

  job : AreTurns scripts order (in_turn order scripts)
  job = fitting_turns scripts order fitting

  p : Printed sessions (in_turn order scripts) (start base sessions limit) (events_of (start base sessions limit) (in_turn order scripts))
  p = printed_events base sessions limit (in_turn order scripts) few
      (more_known (length scripts) sessions fewer (in_turn order scripts) job.known)

  names_now : names (events_of (start base sessions limit) (in_turn order scripts)) ≡ order
  names_now = sym (names_so events) ∙ ap rearranged.names p.run.steps_are ∙ job.names_are

  printed_now : order_of (after_steps (start base sessions limit) (in_turn order scripts)).1.history.log
      (replies_by_session sessions order (after_steps (start base sessions limit) (in_turn order scripts)).0) ≡ names p.new
  printed_now = ap (λ ns. order_of end.1.history.log (replies_by_session sessions ns end.0)) (sym job.names_are) ∙ p.printed
