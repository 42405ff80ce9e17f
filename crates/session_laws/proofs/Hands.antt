-- What each session is left with, when a session's events were pulled to the front.
use Rattle.std.proofs.Common.{◌≡◌, ◌≢◌, ℕ, suc, ◌+◌, ◌≤◌, Bool, true, false, List, [], ◌∷◌, drop, length, map, replicate, refl, ap, sym}
use Rattle.std.proofs.Common.{◌∙◌, nat_eq, arith}
use Rattle.std.specs.List.{AllByRecursion}
use Rattle.std.proofs.lemmas.Bool.{eqb-false, eqb-true, ne_eqb}
use Rattle.session_laws.proofs.Events.{Event}
use Rattle.session_laws.proofs.Pulling.{Leads, caller_before, callers, left, left_before, leads_behind, leads_first, names, pulled}
use Rattle.session_laws.proofs.Pulling.{pulled_before}
use Rattle.session_laws.proofs.Swaps.{own, own_before}

-- a session's steps, and its replies
abbrev pub script : {S R : Type 0} → ℕ → List (Event S R) → List S
script session events = map (λ e. e.step) (own session events)

abbrev pub hand : {S R : Type 0} → ℕ → List (Event S R) → List R
hand session events = map (λ e. e.reply) (own session events)

-- how many replies there are up to and with the first logged one, or all
abbrev pub count_before : Bool → ℕ → ℕ
count_before true count = 1
count_before false count = suc count

abbrev pub count_to : {R : Type 0} → (R → Bool) → List R → ℕ
count_to is_logged [] = 0
count_to is_logged (reply ∷ replies) = count_before (is_logged reply) (count_to is_logged replies)

module _ {S R : Type 0} (is_logged : R → Bool) where
  -- as many of the session's events are pulled
  pub names_pulled : (session : ℕ) (events : List (Event S R)) → Leads is_logged session events →
      names (pulled is_logged session events) ≡ replicate (count_to is_logged (hand session events)) session
  names_pulled session [] leads = refl
  names_pulled session (event ∷ events) leads = by (is_logged event.reply) (nat_eq event.session session) refl refl
      (λ unlogged. names_pulled session events (leads_behind is_logged event events session unlogged leads)) where
        by : (b c : Bool) → is_logged event.reply ≡ b → nat_eq event.session session ≡ c →
            (is_logged event.reply ≡ false →
            names (pulled is_logged session events) ≡ replicate (count_to is_logged (hand session events)) session) →
            names (pulled_before b c event (pulled is_logged session events))
            ≡ replicate (count_to is_logged (map (λ (e : Event S R). e.reply) (own_before c event (own session events)))) session
        by true true logged mine more = ap (λ n. n ∷ []) (eqb-true event.session session mine)
            ∙ ap (λ b. replicate (count_before b (count_to is_logged (hand session events))) session) (sym logged)
        by true false logged mine more =
            absurd (eqb-false event.session session mine (leads_first is_logged event events session logged leads))
        by false true unlogged mine more = ap (λ n. n ∷ names (pulled is_logged session events)) (eqb-true event.session session mine)
            ∙ ap (λ ns. session ∷ ns) (more unlogged)
            ∙ ap (λ b. replicate (count_before b (count_to is_logged (hand session events))) session) (sym unlogged)
        by false false unlogged mine more = more unlogged

  -- the session is left with the replies behind
  pub hand_left : (session : ℕ) (events : List (Event S R)) → Leads is_logged session events →
      hand session (left is_logged session events) ≡ drop (count_to is_logged (hand session events)) (hand session events)
  hand_left session [] leads = refl
  hand_left session (event ∷ events) leads = by (is_logged event.reply) (nat_eq event.session session) refl refl
      (λ unlogged. hand_left session events (leads_behind is_logged event events session unlogged leads)) where
        by : (b c : Bool) → is_logged event.reply ≡ b → nat_eq event.session session ≡ c →
            (is_logged event.reply ≡ false → hand session (left is_logged session events)
            ≡ drop (count_to is_logged (hand session events)) (hand session events)) →
            hand session (left_before b c event events (left is_logged session events))
            ≡ drop (count_to is_logged (map (λ (e : Event S R). e.reply) (own_before c event (own session events))))
            (map (λ (e : Event S R). e.reply) (own_before c event (own session events)))
        by true true logged mine more =
            ap (λ b. drop (count_before b (count_to is_logged (hand session events))) (event.reply ∷ hand session events)) (sym logged)
        by true false logged mine more =
            absurd (eqb-false event.session session mine (leads_first is_logged event events session logged leads))
        by false true unlogged mine more = more unlogged
            ∙ ap (λ b. drop (count_before b (count_to is_logged (hand session events))) (event.reply ∷ hand session events)) (sym unlogged)
        by false false unlogged mine more =
            ap (λ b. map (λ (e : Event S R). e.reply) (own_before b event (own session (left is_logged session events)))) mine
            ∙ more unlogged

  -- and each other one with all
  pub own_left : (session other : ℕ) (events : List (Event S R)) → Leads is_logged session events → other ≢ session →
      own other (left is_logged session events) ≡ own other events
  own_left session other [] leads differ = refl
  own_left session other (event ∷ events) leads differ = by (is_logged event.reply) (nat_eq event.session session) refl refl
      (λ unlogged. own_left session other events (leads_behind is_logged event events session unlogged leads) differ) where
        not_his : event.session ≡ session → own other (event ∷ events) ≡ own other events
        not_his same = ap (λ b. own_before b event (own other events)) (ne_eqb event.session other (λ h. differ (sym h ∙ same)))

        by : (b c : Bool) → is_logged event.reply ≡ b → nat_eq event.session session ≡ c →
            (is_logged event.reply ≡ false → own other (left is_logged session events) ≡ own other events) →
            own other (left_before b c event events (left is_logged session events)) ≡ own other (event ∷ events)
        by true c logged mine more = sym (not_his (leads_first is_logged event events session logged leads))
        by false true unlogged mine more = more unlogged ∙ sym (not_his (eqb-true event.session session mine))
        by false false unlogged mine more = ap (own_before (nat_eq event.session other) event) (more unlogged)

  -- what holds of each event does so of those that are left
  pub all_left : (P : Event S R → Type 0) (session : ℕ) (events : List (Event S R)) → AllByRecursion P events →
      AllByRecursion P (left is_logged session events)
  all_left P session [] all = tt
  all_left P session (event ∷ events) all =
      by (is_logged event.reply) (nat_eq event.session session) (all_left P session events all.1) where
        by : (b c : Bool) → AllByRecursion P (left is_logged session events) →
            AllByRecursion P (left_before b c event events (left is_logged session events))
        by true c more = all.1
        by false true more = more
        by false false more = (all.0, more)

  -- without a logged event none of the session's is left
  pub none_left : (session : ℕ) (events : List (Event S R)) → callers is_logged events ≡ [] →
      AllByRecursion (λ e. session ≤ e.session) events → AllByRecursion (λ e. session + 1 ≤ e.session) (left is_logged session events)
  none_left session [] none all = tt
  none_left session (event ∷ events) none all = by (is_logged event.reply) (nat_eq event.session session) refl none
      (λ same. none_left session events same all.1) where
        by : (b : Bool) (c : Bool) → nat_eq event.session session ≡ c → caller_before b event.session (callers is_logged events) ≡ [] →
            (callers is_logged events ≡ [] → AllByRecursion (λ e. session + 1 ≤ e.session) (left is_logged session events)) →
            AllByRecursion (λ e. session + 1 ≤ e.session) (left_before b c event events (left is_logged session events))
        by true c mine same more = absurd cc
        by false true mine same more = more same
        by false false mine same more =
            let differ = eqb-false event.session session mine in
            let low : session ≤ event.session = all.0 in
            (omega arith, more same)

  -- without a logged event all count
  pub count_all : (session : ℕ) (events : List (Event S R)) → callers is_logged events ≡ [] →
      count_to is_logged (hand session events) ≡ length (hand session events)
  count_all session [] none = refl
  count_all session (event ∷ events) none =
      by (is_logged event.reply) (nat_eq event.session session) refl none (count_all session events) where
        by : (b c : Bool) → is_logged event.reply ≡ b → caller_before b event.session (callers is_logged events) ≡ [] →
            (callers is_logged events ≡ [] → count_to is_logged (hand session events) ≡ length (hand session events)) →
            count_to is_logged (map (λ (e : Event S R). e.reply) (own_before c event (own session events)))
            ≡ length (map (λ (e : Event S R). e.reply) (own_before c event (own session events)))
        by true c logged same more = absurd cc
        by false true unlogged same more =
            ap (λ b. count_before b (count_to is_logged (hand session events))) unlogged ∙ ap suc (more same)
        by false false unlogged same more = more same
