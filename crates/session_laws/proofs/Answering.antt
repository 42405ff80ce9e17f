-- Steps in the printed order answer alike.
use Rattle.std.proofs.Common.{◌≡◌, ℕ, zero, suc, ◌<◌, ◌≤◌, List, [], ◌∷◌, ◌++◌, get_or, length, map, refl, ap, sym, replicate, subst, ◌∙◌}
use Rattle.std.proofs.Common.{arith, drop}
use Rattle.std.specs.Prelude.{IsPermutation}
use Rattle.std.specs.List.{range_with_len}
use Rattle.std.proofs.lemmas.List.{get_or_default, length-replicate, same_lists}
use Rattle.std.proofs.lemmas.List.Sorted.{IsPermutation-cons, IsPermutation-refl, IsPermutation-swap, IsPermutation-trans}
use Rattle.undo_rules.specs.declared.log.Logged.{Logged}
use Rattle.session_steps.specs.declared.Reply.{Reply}
use Rattle.session_steps.specs.declared.Step.{Step}
use Rattle.session_steps.specs.Turns.{in_turn}
use Rattle.session_core.specs.Machine.{State, after_steps, step_outcome}
use Rattle.job_text.specs.Order.{is_logged, order_behind}
use Rattle.session_laws.specs.Rearranged as rearranged
use Rattle.session_laws.specs.Rearranged.{LeadsTo, dealt_out, replies_by_session}
use Rattle.session_laws.proofs.Events.{Event, Events}
use Rattle.session_laws.proofs.Swaps.{Swapped, all_same, behind, both, goes_on, none, own, own_same, swap}
use Rattle.session_laws.proofs.Pulling.{callers, names, turned}
use Rattle.session_laws.proofs.Hands.{hand, script}
use Rattle.session_laws.proofs.Dealing.{AreOf, dealt_at, dealt_is, in_turn_is, length_dealt, turns_with}
use Rattle.session_laws.proofs.Printing.{order_is}
use Rattle.session_laws.proofs.Commuting.{steps_swap, system_of}
use Rattle.session_laws.proofs.Running.{Run, goes_so}

-- ---- what is dealt of events

empty_at : {X : Type 0} (sessions index : ℕ) → get_or (replicate {A = List X} sessions []) index [] ≡ []
empty_at zero index = refl
empty_at (suc sessions) zero = refl
empty_at (suc sessions) (suc index) = empty_at sessions index

zero_at : (count index : ℕ) → get_or (replicate {A = ℕ} count 0) index 0 ≡ 0
zero_at zero index = refl
zero_at (suc count) zero = refl
zero_at (suc count) (suc index) = zero_at count index

-- each session is dealt what its own events hand to it
pub own_dealt : {X : Type 0} (f : Event Step Reply → X) (sessions : ℕ) (events : Events) → AreOf sessions events → (index : ℕ) →
    get_or (dealt_out (turns_with f events) (replicate sessions [])) index [] ≡ map f (own (suc index) events)
own_dealt f sessions events are index =
    dealt_at f events (replicate sessions []) (subst (λ n. AreOf n events) (sym (length-replicate sessions [])) are) index
    ∙ ap (λ xs. xs ++ map f (own (suc index) events)) (empty_at sessions index)

pub so_many : {X : Type 0} (f : Event Step Reply → X) (sessions : ℕ) (events : Events) →
    length (dealt_out (turns_with f events) (replicate sessions [])) ≡ sessions
so_many f sessions events = length_dealt (turns_with f events) (replicate sessions []) ∙ length-replicate sessions []

more_sessions : (few sessions : ℕ) → few ≤ sessions → (events : Events) → AreOf few events → AreOf sessions events
more_sessions few sessions more [] are = tt
more_sessions few sessions more (event ∷ events) are =
    let high : event.session ≤ few = are.0.1 in
    ((are.0.0, omega arith), more_sessions few sessions more events are.1)

-- swaps change nothing of it
same_dealt : {X : Type 0} (f : Event Step Reply → X) (sessions : ℕ) (old new : Events) → AreOf sessions old → Swapped is_logged old new →
    dealt_out (turns_with f new) (replicate sessions []) ≡ dealt_out (turns_with f old) (replicate sessions [])
same_dealt {X} f sessions old new are swapped =
    same_lists _ _ (so_many f sessions new ∙ sym (so_many f sessions old)) (λ index d inside.
    get_or_default (dealt_out (turns_with f new) (replicate sessions [])) index d [] inside
    ∙ own_dealt f sessions new (all_same (λ e. (1 ≤ e.session) × (e.session ≤ sessions)) swapped are) index
    ∙ ap (map f) (sym (own_same swapped (suc index)))
    ∙ sym (own_dealt f sessions old are index)
    ∙ get_or_default (dealt_out (turns_with f old) (replicate sessions [])) index [] d
    (subst (λ n. index < n) (so_many f sessions new ∙ sym (so_many f sessions old)) inside))

-- nor of the sessions that are named
pub same_names : (old new : Events) → Swapped is_logged old new → IsPermutation (names old) (names new)
same_names old new none = IsPermutation-refl (names old)
same_names old new (behind event swapped) = IsPermutation-cons event.session _ _ (same_names _ _ swapped)
same_names old new (swap one other events differ unlogged) =
    IsPermutation-swap (one.session ∷ other.session ∷ names events) (other.session ∷ one.session ∷ names events) 0 1
    (omega arith) (omega arith) refl
same_names old new (both first next) = IsPermutation-trans _ _ _ (same_names _ _ first) (same_names _ _ next)

-- ---- the printed order

-- it names the sessions of the events as they are pulled to the front
pub printed_is : (sessions places : ℕ) (events : Events) (log : List Logged) → callers is_logged events ≡ map (λ call. call.session) log →
    AreOf sessions events → sessions < places →
    order_behind (dealt_out (turns_with (λ e. e.reply) events) (replicate sessions [])) (replicate places 0) log
    ≡ names (turned is_logged (map (λ call. call.session) log ++ range_with_len 1 sessions) events)
printed_is sessions places events log callers_are are few =
    order_is log dealt_hands (replicate places 0) events callers_are (subst (λ n. AreOf n events) (sym many) are)
    (let long : length (replicate {A = ℕ} places 0) ≡ places = length-replicate places 0 in omega (arith, long, many))
    (λ number index is inside. ap (λ n. drop n (get_or dealt_hands index [])) (zero_at places number)
    ∙ own_dealt (λ e. e.reply) sessions events are index ∙ ap (λ n. hand n events) (sym is))
    ∙ ap (λ n. names (turned is_logged (map (λ (c : Logged). c.session) log ++ range_with_len 1 n) events)) many where
      dealt_hands : List (List Reply)
      dealt_hands = dealt_out (turns_with (λ e. e.reply) events) (replicate sessions [])

      many : length (dealt_out (turns_with (λ (e : Event Step Reply). e.reply) events) (replicate sessions [])) ≡ sessions
      many = so_many (λ e. e.reply) sessions events

-- the sessions that took steps are those of the events
pub names_so : (events : Events) → rearranged.names (turns_with (λ e. e.step) events) ≡ names events
names_so [] = refl
names_so (event ∷ events) = ap (λ ns. event.session ∷ ns) (names_so events)

-- the replies of a run are dealt so
pub hands_so : (sessions : ℕ) (steps : List (ℕ × Step)) (replies : List Reply) (events : Events) →
    turns_with (λ e. e.step) events ≡ steps → map (λ e. e.reply) events ≡ replies →
    replies_by_session sessions (rearranged.names steps) replies ≡ dealt_out (turns_with (λ e. e.reply) events) (replicate sessions [])
hands_so sessions steps replies events steps_are replies_are =
    ap (λ ss. replies_by_session sessions (rearranged.names ss) replies) (sym steps_are)
    ∙ ap (λ rs. replies_by_session sessions (rearranged.names (turns_with (λ (e : Event Step Reply). e.step) events)) rs) (sym replies_are)
    ∙ ap (λ ns. replies_by_session sessions ns (map (λ (e : Event Step Reply). e.reply) events)) (names_so events)
    ∙ dealt_is events (replicate sessions [])

-- each of these scripts is what its session takes of these events
abbrev pub AreScripts : List (List Step) → Events → Type 0
AreScripts scripts events = (index : ℕ) → index < length scripts → get_or scripts index [] ≡ script (suc index) events

-- events that are swapped from those of a run lead to the same in their order
module _ (sessions : ℕ) (scripts : List (List Step)) (steps : List (ℕ × Step)) (replies : List Reply) (old final : State)
    (events new : Events) (run : Run old final steps replies events) (few : length scripts ≤ sessions) (are : AreOf (length scripts) events)
    (scripts_are : AreScripts scripts events) (swapped : Swapped is_logged events new) where
  new_are : AreOf (length scripts) new
  new_are = all_same (λ e. (1 ≤ e.session) × (e.session ≤ length scripts)) swapped are

  outcome : after_steps old (in_turn (names new) scripts) ≡ (map (λ e. e.reply) new, final)
  outcome =
      ap (after_steps old) (in_turn_is new scripts new_are
      (λ index inside. scripts_are index inside ∙ ap (map (λ (e : Event Step Reply). e.step)) (own_same swapped (suc index))))
      ∙ goes_so new old final (goes_on (system_of step_outcome) steps_swap swapped old final run.goes)

  pub leads_to : (order : List ℕ) → order ≡ names new →
      LeadsTo sessions scripts order old final (replies_by_session sessions (rearranged.names steps) replies)
  leads_to order is =
      subst (λ ns. LeadsTo sessions scripts ns old final (replies_by_session sessions (rearranged.names steps) replies)) (sym is) (record {
        state = ap (λ (r : List Reply × State). r.1) outcome;
        replies = ap (λ (r : List Reply × State). replies_by_session sessions (names new) r.0) outcome
            ∙ dealt_is new (replicate sessions [])
            ∙ same_dealt (λ e. e.reply) sessions events new (more_sessions (length scripts) sessions few events are) swapped
            ∙ sym (hands_so sessions steps replies events run.steps_are run.replies_are);
      })
