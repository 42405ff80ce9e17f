-- The printed order names the sessions of the events as they are pulled to the front.
use Rattle.std.proofs.Common.{◌≡◌, ℕ, suc, ◌+◌, ◌-◌, ◌<◌, ◌≤◌, Bool, true, false, cond, List, [], ◌∷◌, ◌++◌, drop, get_or, set, length}
use Rattle.std.proofs.Common.{map, not, replicate, refl, ap, subst, sym, ◌∙◌, arith, inl, inr, option_map, length-drop, Some, None}
use Rattle.std.specs.Prelude.{unwrap_or, nat_lt, slice_index}
use Rattle.std.specs.List.{AllByRecursion, position_or_len, range_with_len}
use Rattle.std.proofs.lemmas.Bool.{cases_eq}
use Rattle.std.proofs.lemmas.Bool.Decides.{nat_tests}
use Rattle.std.proofs.lemmas.List.{drop-drop, get_or-set_other, get_or-set_same, length-set}
use Rattle.std.proofs.lemmas.Option.{unwrap_or-slice_get}
use Rattle.undo_rules.specs.declared.log.Logged.{Logged}
use Rattle.session_steps.specs.declared.Reply.{Reply}
use Rattle.session_steps.specs.declared.Step.{Step}
use Rattle.job_text.specs.Order.{is_logged, order_behind, replies_left, replies_of, rest_from, steps_to_logged}
use Rattle.session_laws.proofs.Events.{Event, Events}
use Rattle.session_laws.proofs.Pulling.{Leads, caller_before, callers, callers_left, left, names, pulled, turned}
use Rattle.session_laws.proofs.Hands.{all_left, count_all, count_before, count_to, hand, hand_left, names_pulled, none_left, own_left}
use Rattle.session_laws.proofs.Dealing.{AreOf}

-- ---- how many steps

abbrev counted : Bool → ℕ → ℕ → ℕ
counted inside before len = unwrap_or (option_map (λ n. n + 1) (cond inside (Some before) None)) len

counted_none : (len : ℕ) → counted (nat_lt 0 (suc len)) 0 (suc len) ≡ 1
counted_none len =
    let inside : nat_lt 0 (suc len) ≡ true = grind (arith, nat_tests) in
    ap (λ b. counted b 0 (suc len)) inside

counted_more : (before len : ℕ) →
    counted (nat_lt (1 + before) (suc len)) (1 + before) (suc len) ≡ suc (counted (nat_lt before len) before len)
counted_more before len = by (nat_lt before len) refl where
  by : (b : Bool) → nat_lt before len ≡ b → counted (nat_lt (1 + before) (suc len)) (1 + before) (suc len) ≡ suc (counted b before len)
  by true h =
      let inside : nat_lt (1 + before) (suc len) ≡ true = grind (arith, nat_tests) in
      ap (λ b. counted b (1 + before) (suc len)) inside ∙ omega arith
  by false h =
      let outside : nat_lt (1 + before) (suc len) ≡ false = grind (arith, nat_tests) in
      ap (λ b. counted b (1 + before) (suc len)) outside

-- the steps up to the first logged one are counted so
pub steps_counted : (replies : List Reply) → steps_to_logged replies ≡ count_to is_logged replies
steps_counted [] = refl
steps_counted (reply ∷ replies) = by (is_logged reply) (steps_counted replies) where
  before : ℕ
  before = position_or_len is_logged replies

  by : (b : Bool) → counted (nat_lt before (length replies)) before (length replies) ≡ count_to is_logged replies →
      counted (nat_lt (cond (not b) (1 + before) 0) (suc (length replies))) (cond (not b) (1 + before) 0) (suc (length replies))
      ≡ count_before b (count_to is_logged replies)
  by true same = counted_none (length replies)
  by false same = counted_more before (length replies) ∙ ap suc same

-- ---- behind the log

names_append : (one other : Events) → names (one ++ other) ≡ names one ++ names other
names_append [] other = refl
names_append (event ∷ one) other = ap (λ ns. event.session ∷ ns) (names_append one other)

-- of no session is there an event
none_of : (session end : ℕ) (events : Events) → end ≤ session → AllByRecursion (λ e. session ≤ e.session) events →
    AllByRecursion (λ e. e.session < end) events → events ≡ []
none_of session end [] empty low high = refl
none_of session end (event ∷ events) empty low high =
    let at_least : session ≤ event.session = low.0 in
    let below : event.session < end = high.0 in
    absurd (omega arith)

-- without a logged event the rest is named session by session
rest_is : (session end : ℕ) (hands : List (List Reply)) (taken : List ℕ) (events : Events) → end ≡ session + length hands →
    callers is_logged events ≡ [] → AllByRecursion (λ e. session ≤ e.session) events → AllByRecursion (λ e. e.session < end) events →
    ((number index : ℕ) → number ≡ session + index → index < length hands →
    drop (slice_index taken number) (get_or hands index []) ≡ hand number events) →
    rest_from session hands taken ≡ names (turned is_logged (range_with_len session (length hands)) events)
rest_is session end [] taken events all none low high same = sym (ap names (none_of session end events (omega arith) low high))
rest_is session end (replies ∷ hands) taken events all none low high same =
    ap (λ n. replicate n session ++ rest_from (session + 1) hands taken) times
    ∙ ap (λ ns. ns ++ rest_from (session + 1) hands taken) (sym (names_pulled is_logged session events leads))
    ∙ ap (λ ns. names (pulled is_logged session events) ++ ns) (rest_is (session + 1) end hands taken behind (omega arith)
    (callers_left is_logged session events ∙ ap (drop 1) none) (none_left is_logged session events none low)
    (all_left is_logged (λ e. e.session < end) session events high)
    (λ number index is inside.
    let own_is = own_left is_logged session number events leads (λ e. omega arith) in
    same number (suc index) (omega arith) (omega arith) ∙ ap (map (λ (e : Event Step Reply). e.reply)) (sym own_is)))
    ∙ sym (names_append (pulled is_logged session events) (turned is_logged (range_with_len (session + 1) (length hands)) behind)) where
      behind : Events
      behind = left is_logged session events

      leads : Leads is_logged session events
      leads = ap (λ cs. get_or cs 0 session) none

      times : length replies - slice_index taken session ≡ count_to is_logged (hand session events)
      times = sym (length-drop (slice_index taken session) replies) ∙ ap length (same session 0 (omega arith) (omega arith))
          ∙ sym (count_all is_logged session events none)

-- ---- the whole order

-- the caller of the first logged event is one of the sessions
first_caller : (sessions caller : ℕ) (more : List ℕ) (events : Events) → AreOf sessions events → callers is_logged events ≡ caller ∷ more →
    (1 ≤ caller) × (caller ≤ sessions)
first_caller sessions caller more [] are same = absurd cc
first_caller sessions caller more (event ∷ events) are same =
    by (is_logged event.reply) same (first_caller sessions caller more events are.1) where
      by : (b : Bool) → caller_before b event.session (callers is_logged events) ≡ caller ∷ more →
          (callers is_logged events ≡ caller ∷ more → (1 ≤ caller) × (caller ≤ sessions)) → (1 ≤ caller) × (caller ≤ sessions)
      by true first behind =
          let is : event.session ≡ caller = cc in
          subst (λ s. (1 ≤ s) × (s ≤ sessions)) is are.0
      by false first behind = behind first

-- what a session is left with, by its place
left_at : (hands : List (List Reply)) (taken : List ℕ) (session index : ℕ) → session ≡ suc index →
    replies_left hands taken session ≡ drop (slice_index taken session) (get_or hands index [])
left_at hands taken session index is =
    ap (λ s. drop (slice_index taken session) (replies_of hands s)) is
    ∙ ap (drop (slice_index taken session)) (unwrap_or-slice_get hands index [])

-- the order behind what is taken names the sessions of the events that are left
pub order_is : (log : List Logged) (hands : List (List Reply)) (taken : List ℕ) (events : Events) →
    callers is_logged events ≡ map (λ call. call.session) log → AreOf (length hands) events → length hands < length taken →
    ((number index : ℕ) → number ≡ suc index → index < length hands →
    drop (slice_index taken number) (get_or hands index []) ≡ hand number events) →
    order_behind hands taken log
    ≡ names (turned is_logged (map (λ call. call.session) log ++ range_with_len 1 (length hands)) events)
order_is [] hands taken events none are few same =
    rest_is 1 (1 + length hands) hands taken events refl none (all_low events are) (all_high events are)
    (λ number index is inside. same number index (omega arith) inside) where
      all_low : (events : Events) → AreOf (length hands) events → AllByRecursion (λ e. 1 ≤ e.session) events
      all_low [] are = tt
      all_low (event ∷ events) are = (are.0.0, all_low events are.1)

      all_high : (events : Events) → AreOf (length hands) events → AllByRecursion (λ e. e.session < 1 + length hands) events
      all_high [] are = tt
      all_high (event ∷ events) are =
          let high : event.session ≤ length hands = are.0.1 in
          (omega arith, all_high events are.1)
order_is (call ∷ log) hands taken events callers_are are few same =
    ap (λ n. replicate n session ++ order_behind hands (set taken session (slice_index taken session + n)) log) times
    ∙ ap (λ ns. ns ++ order_behind hands now log) (sym (names_pulled is_logged session events leads))
    ∙ ap (λ ns. names (pulled is_logged session events) ++ ns) (order_is log hands now behind
    (callers_left is_logged session events ∙ ap (drop 1) callers_are)
    (all_left is_logged (λ e. (1 ≤ e.session) × (e.session ≤ length hands)) session events are)
    (subst (λ n. length hands < n) (sym (length-set taken session (slice_index taken session + count))) few)
    (λ number index is inside. elim (cases_eq number session) [
      | inl here ↦
          let replies = get_or hands index [] in
          let had : drop (slice_index taken session) replies ≡ hand session events = same session index (sym here ∙ is) inside in
          ap (λ n. drop (slice_index now n) replies) here
          ∙ ap (λ n. drop n replies) (get_or-set_same taken session (slice_index taken session + count) 0 (omega arith))
          ∙ sym (drop-drop count (slice_index taken session) replies)
          ∙ ap (drop count) had
          ∙ sym (hand_left is_logged session events leads)
          ∙ ap (λ n. hand n behind) (sym here)
      | inr differ ↦
          ap (λ n. drop n (get_or hands index [])) (get_or-set_other taken session number (slice_index taken session + count) 0 differ)
          ∙ same number index is inside
          ∙ ap (map (λ (e : Event Step Reply). e.reply)) (sym (own_left is_logged session number events leads differ))
    ]))
    ∙ sym (names_append (pulled is_logged session events) (turned is_logged (sessions ++ range_with_len 1 (length hands)) behind)) where
      session : ℕ
      session = call.session

      sessions : List ℕ
      sessions = map (λ call. call.session) log

      behind : Events
      behind = left is_logged session events

      count : ℕ
      count = count_to is_logged (hand session events)

      now : List ℕ
      now = set taken session (slice_index taken session + count)

      leads : Leads is_logged session events
      leads = ap (λ cs. get_or cs 0 session) callers_are

      known : (1 ≤ session) × (session ≤ length hands)
      known = first_caller (length hands) session sessions events are callers_are

      times : steps_to_logged (replies_left hands taken session) ≡ count
      times =
          let low = known.0 in
          let high = known.1 in
          let at : session ≡ suc (session - 1) = omega arith in
          steps_counted (replies_left hands taken session)
          ∙ ap (count_to is_logged) (left_at hands taken session (session - 1) at ∙ same session (session - 1) at (omega arith))
