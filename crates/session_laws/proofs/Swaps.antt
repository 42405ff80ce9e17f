-- Events that are swapped, and what then stays.
use Rattle.std.proofs.Common.{◌≡◌, ◌≢◌, ℕ, Bool, true, false, List, [], ◌∷◌, refl, ap, sym, subst, ◌∙◌, nat_eq}
use Rattle.std.specs.List.{AllByRecursion}
use Rattle.std.proofs.lemmas.Bool.{eqb-true}
use Rattle.session_laws.proofs.Events.{Event}

-- From the one list to the other neighbours were swapped, some times. They are of two sessions, and what comes
-- to stand behind isn't logged.
pub data Swapped {S R : Type 0} (is_logged : R → Bool) : List (Event S R) → List (Event S R) → Type 0 where
  none : {events : List (Event S R)} → Swapped is_logged events events
  behind : {old new : List (Event S R)} (event : Event S R) → Swapped is_logged old new → Swapped is_logged (event ∷ old) (event ∷ new)
  swap : (one other : Event S R) (events : List (Event S R)) → one.session ≢ other.session → is_logged one.reply ≡ false
      → Swapped is_logged (one ∷ other ∷ events) (other ∷ one ∷ events)
  both : {old mid new : List (Event S R)} → Swapped is_logged old mid → Swapped is_logged mid new → Swapped is_logged old new

-- ---- what is answered

-- steps that each session takes on one state, and the replies that are no refusals of what stands outside
pub record System : Type 1 where
  pub State : Type 0
  pub Step : Type 0
  pub Reply : Type 0
  pub after : State → ℕ → Step → Reply × State
  pub is_logged : Reply → Bool
  pub IsPlain : Reply → Type 0

-- from the old state to the new the events' steps are answered so
abbrev pub Goes : (m : System) → m.State → List (Event m.Step m.Reply) → m.State → Type 0
Goes m old [] new = new ≡ old
Goes m old (event ∷ events) new =
    (event.reply ≡ (m.after old event.session event.step).0) × m.IsPlain event.reply
    × Goes m (m.after old event.session event.step).1 events new

-- of two steps of two sessions the second may be taken first: it is answered the same, and so is the first behind it
pub record CanSwap (m : System) (state : m.State) (session other : ℕ) (step next : m.Step) : Type 0 where
  pub now_first : (m.after state other next).0 ≡ (m.after (m.after state session step).1 other next).0
  pub now_second : (m.after (m.after state other next).1 session step).0 ≡ (m.after state session step).0
  pub last : (m.after (m.after state other next).1 session step).1 ≡ (m.after (m.after state session step).1 other next).1

-- so it is with each step that isn't logged
abbrev pub Swaps : System → Type 0
Swaps m = (state : m.State) (session other : ℕ) (step next : m.Step) → session ≢ other → m.is_logged (m.after state session step).0 ≡ false
    → m.IsPlain (m.after state session step).0 → m.IsPlain (m.after (m.after state session step).1 other next).0
    → CanSwap m state session other step next

-- then the state behind all steps stays, and with it each event
pub goes_on : (m : System) → Swaps m → {old new : List (Event m.Step m.Reply)} → Swapped m.is_logged old new →
    (start end : m.State) → Goes m start old end → Goes m start new end
goes_on m swaps none start end goes = goes
goes_on m swaps (behind event swapped) start end goes =
    (goes.0, goes.1, goes_on m swaps swapped (m.after start event.session event.step).1 end goes.2)
goes_on m swaps (swap one other events differ unlogged) start end goes =
    let second = goes.2 in
    let can = swaps start one.session other.session one.step other.step differ (subst (λ r. m.is_logged r ≡ false) goes.0 unlogged)
    (subst m.IsPlain goes.0 goes.1) (subst m.IsPlain second.0 second.1) in (
      second.0 ∙ sym can.now_first,
      second.1,
      (goes.0 ∙ sym can.now_second, goes.1, subst (λ s. Goes m s events end) (sym can.last) second.2),
    )
goes_on m swaps (both first next) start end goes = goes_on m swaps next start end (goes_on m swaps first start end goes)

-- ---- each session's own events

-- the events of one session
abbrev pub own_before : {S R : Type 0} → Bool → Event S R → List (Event S R) → List (Event S R)
own_before true event events = event ∷ events
own_before false event events = events

abbrev pub own : {S R : Type 0} → ℕ → List (Event S R) → List (Event S R)
own session [] = []
own session (event ∷ events) = own_before (nat_eq event.session session) event (own session events)

own_more : {S R : Type 0} (mine : Bool) (event : Event S R) (old new : List (Event S R)) → old ≡ new →
    own_before mine event old ≡ own_before mine event new
own_more mine event old new same = ap (own_before mine event) same

-- two events of which not both are the session's own
own_two : {S R : Type 0} (mine his : Bool) (one other : Event S R) (events : List (Event S R)) → (mine ≡ true → his ≡ true → ⊥) →
    own_before mine one (own_before his other events) ≡ own_before his other (own_before mine one events)
own_two true true one other events apart = absurd (apart refl refl)
own_two true false one other events apart = refl
own_two false his one other events apart = refl

-- these stay, in their order
pub own_same : {S R : Type 0} {is_logged : R → Bool} {old new : List (Event S R)} → Swapped is_logged old new → (session : ℕ) →
    own session old ≡ own session new
own_same none session = refl
own_same (behind event swapped) session = own_more (nat_eq event.session session) event _ _ (own_same swapped session)
own_same (swap one other events differ unlogged) session =
    own_two (nat_eq one.session session) (nat_eq other.session session) one other (own session events)
    (λ e f. differ (eqb-true one.session session e ∙ sym (eqb-true other.session session f)))
own_same (both first next) session = own_same first session ∙ own_same next session

-- what holds of each event does so behind swaps
pub all_same : {S R : Type 0} {is_logged : R → Bool} (P : Event S R → Type 0) {old new : List (Event S R)} → Swapped is_logged old new →
    AllByRecursion P old → AllByRecursion P new
all_same P none all = all
all_same P (behind event swapped) all = (all.0, all_same P swapped all.1)
all_same P (swap one other events differ unlogged) all = (all.1.0, (all.0, all.1.1))
all_same P (both first next) all = all_same P next (all_same P first all)
