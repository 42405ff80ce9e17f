-- One session's events are pulled to the front, up to the first logged one; then the next session's, and so on.
use Rattle.std.proofs.Common.{◌≡◌, ◌≢◌, ℕ, Bool, true, false, List, [], ◌∷◌, ◌++◌, drop, get_or, refl, ap, sym, ◌∙◌, nat_eq}
use Rattle.std.specs.List.{AllByRecursion}
use Rattle.std.proofs.lemmas.Bool.{eqb-false, eqb-true}
use Rattle.session_laws.proofs.Events.{Event}
use Rattle.session_laws.proofs.Swaps.{Swapped, behind, both, none, swap}

-- the sessions of events
abbrev pub names : {S R : Type 0} → List (Event S R) → List ℕ
names [] = []
names (event ∷ events) = event.session ∷ names events

-- and of those that are logged
abbrev pub caller_before : Bool → ℕ → List ℕ → List ℕ
caller_before true session callers = session ∷ callers
caller_before false session callers = callers

abbrev pub callers : {S R : Type 0} → (R → Bool) → List (Event S R) → List ℕ
callers is_logged [] = []
callers is_logged (event ∷ events) = caller_before (is_logged event.reply) event.session (callers is_logged events)

-- the session's events up to and with the first logged one of all: whether this event is logged, whether it is the
-- session's, and the same of those behind it
abbrev pub pulled_before : {S R : Type 0} → Bool → Bool → Event S R → List (Event S R) → List (Event S R)
pulled_before true mine event pulled = event ∷ []
pulled_before false true event pulled = event ∷ pulled
pulled_before false false event pulled = pulled

abbrev pub pulled : {S R : Type 0} → (R → Bool) → ℕ → List (Event S R) → List (Event S R)
pulled is_logged session [] = []
pulled is_logged session (event ∷ events) =
    pulled_before (is_logged event.reply) (nat_eq event.session session) event (pulled is_logged session events)

-- the events that are left
abbrev pub left_before : {S R : Type 0} → Bool → Bool → Event S R → List (Event S R) → List (Event S R) → List (Event S R)
left_before true mine event events left = events
left_before false true event events left = left
left_before false false event events left = event ∷ left

abbrev pub left : {S R : Type 0} → (R → Bool) → ℕ → List (Event S R) → List (Event S R)
left is_logged session [] = []
left is_logged session (event ∷ events) =
    left_before (is_logged event.reply) (nat_eq event.session session) event events (left is_logged session events)

-- the first logged event, if there is one, is the session's
abbrev pub Leads : {S R : Type 0} → (R → Bool) → ℕ → List (Event S R) → Type 0
Leads is_logged session events = get_or (callers is_logged events) 0 session ≡ session

module _ {S R : Type 0} (is_logged : R → Bool) where
  -- where an event isn't logged, the same is the first one behind it
  pub leads_behind : (event : Event S R) (events : List (Event S R)) (session : ℕ) → is_logged event.reply ≡ false →
      Leads is_logged session (event ∷ events) → Leads is_logged session events
  leads_behind event events session unlogged leads =
      sym (ap (λ b. get_or (caller_before b event.session (callers is_logged events)) 0 session) unlogged) ∙ leads

  pub leads_first : (event : Event S R) (events : List (Event S R)) (session : ℕ) → is_logged event.reply ≡ true →
      Leads is_logged session (event ∷ events) → event.session ≡ session
  leads_first event events session logged leads =
      sym (ap (λ b. get_or (caller_before b event.session (callers is_logged events)) 0 session) logged) ∙ leads

  -- an event that isn't logged moves behind events of another session
  passed : (event : Event S R) (session : ℕ) (events more : List (Event S R)) → event.session ≢ session → is_logged event.reply ≡ false →
      AllByRecursion (λ e. e.session ≡ session) events → Swapped is_logged (event ∷ (events ++ more)) (events ++ event ∷ more)
  passed event session [] more differ unlogged all = none
  passed event session (e ∷ events) more differ unlogged all =
      both (swap event e (events ++ more) (λ same. differ (same ∙ all.0)) unlogged)
      (behind e (passed event session events more differ unlogged all.1))

  -- what is pulled is the session's
  pulled_own : (session : ℕ) (events : List (Event S R)) → Leads is_logged session events →
      AllByRecursion (λ e. e.session ≡ session) (pulled is_logged session events)
  pulled_own session [] leads = tt
  pulled_own session (event ∷ events) leads = by (is_logged event.reply) (nat_eq event.session session) refl refl
      (λ unlogged. pulled_own session events (leads_behind event events session unlogged leads)) where
        by : (b c : Bool) → is_logged event.reply ≡ b → nat_eq event.session session ≡ c →
            (is_logged event.reply ≡ false → AllByRecursion (λ e. e.session ≡ session) (pulled is_logged session events)) →
            AllByRecursion (λ e. e.session ≡ session) (pulled_before b c event (pulled is_logged session events))
        by true c logged mine more = (leads_first event events session logged leads, tt)
        by false true unlogged mine more = (eqb-true event.session session mine, more unlogged)
        by false false unlogged mine more = more unlogged

  -- it is pulled by swaps
  pub pulls : (session : ℕ) (events : List (Event S R)) → Leads is_logged session events →
      Swapped is_logged events (pulled is_logged session events ++ left is_logged session events)
  pulls session [] leads = none
  pulls session (event ∷ events) leads = by (is_logged event.reply) (nat_eq event.session session) refl refl
      (λ unlogged. pulls session events (leads_behind event events session unlogged leads)) where
        by : (b c : Bool) → is_logged event.reply ≡ b → nat_eq event.session session ≡ c →
            (is_logged event.reply ≡ false → Swapped is_logged events (pulled is_logged session events ++ left is_logged session events)) →
            Swapped is_logged (event ∷ events) (pulled_before b c event (pulled is_logged session events)
            ++ left_before b c event events (left is_logged session events))
        by true c logged mine more = none
        by false true unlogged mine more = behind event (more unlogged)
        by false false unlogged mine more = both (behind event (more unlogged))
            (passed event session (pulled is_logged session events) (left is_logged session events)
            (eqb-false event.session session mine) unlogged (pulled_own session events (leads_behind event events session unlogged leads)))

  -- then the rest of the log is left
  pub callers_left : (session : ℕ) (events : List (Event S R)) →
      callers is_logged (left is_logged session events) ≡ drop 1 (callers is_logged events)
  callers_left session [] = refl
  callers_left session (event ∷ events) = by (is_logged event.reply) (nat_eq event.session session) refl (callers_left session events) where
    by : (b c : Bool) → is_logged event.reply ≡ b → callers is_logged (left is_logged session events) ≡ drop 1 (callers is_logged events) →
        callers is_logged (left_before b c event events (left is_logged session events))
        ≡ drop 1 (caller_before b event.session (callers is_logged events))
    by true c logged same = refl
    by false true logged same = same
    by false false logged same =
        ap (λ b. caller_before b event.session (callers is_logged (left is_logged session events))) logged ∙ same

-- ---- session by session

-- the events, pulled to the front for one session after the other
abbrev pub turned : {S R : Type 0} → (R → Bool) → List ℕ → List (Event S R) → List (Event S R)
turned is_logged [] events = events
turned is_logged (session ∷ sessions) events =
    pulled is_logged session events ++ turned is_logged sessions (left is_logged session events)

-- each of the sessions leads at its turn
abbrev pub Lead : {S R : Type 0} → (R → Bool) → List ℕ → List (Event S R) → Type 0
Lead is_logged [] events = Unit {0}
Lead is_logged (session ∷ sessions) events = Leads is_logged session events × Lead is_logged sessions (left is_logged session events)

module _ {S R : Type 0} (is_logged : R → Bool) where
  behind_all : (events : List (Event S R)) {old new : List (Event S R)} → Swapped is_logged old new →
      Swapped is_logged (events ++ old) (events ++ new)
  behind_all [] swapped = swapped
  behind_all (event ∷ events) swapped = behind event (behind_all events swapped)

  pub turns : (sessions : List ℕ) (events : List (Event S R)) → Lead is_logged sessions events →
      Swapped is_logged events (turned is_logged sessions events)
  turns [] events lead = none
  turns (session ∷ sessions) events lead = both (pulls is_logged session events lead.0)
      (behind_all (pulled is_logged session events) (turns sessions (left is_logged session events) lead.1))

  -- the sessions of the log lead, and behind them any do
  pub log_leads : (log more : List ℕ) (events : List (Event S R)) → callers is_logged events ≡ log → Lead is_logged (log ++ more) events
  log_leads [] [] events same = tt
  log_leads [] (session ∷ more) events same = (
    ap (λ cs. get_or cs 0 session) same,
    log_leads [] more (left is_logged session events) (callers_left is_logged session events ∙ ap (drop 1) same),
  )
  log_leads (session ∷ log) more events same = (
    ap (λ cs. get_or cs 0 session) same,
    log_leads log more (left is_logged session events) (callers_left is_logged session events ∙ ap (drop 1) same),
  )
