-- A step that isn't logged may as well be taken behind the next one, of another session.
use Rattle.std.proofs.Common.{◌≡◌, ◌≢◌, ℕ, ◌-◌, ◌≤◌, Bool, true, false, ◌&&◌, List, Option, None, length, nat_le, refl, ap, sym, subst}
use Rattle.std.proofs.Common.{◌∙◌, arith}
use Rattle.std.proofs.lemmas.Bool.{and_parts}
use Rattle.std.proofs.lemmas.Bool.Decides.{nat_tests}
use Rattle.std.proofs.lemmas.List.{get_or-set_other, length-set, set_comm}
use Rattle.txn_commands.specs.Transactions.{Transaction}
use Rattle.undo_rules.specs.Books.{History}
use Rattle.undo_rules.specs.Steps.{is_log_full}
use Rattle.session_steps.specs.declared.Reply.{Reply}
use Rattle.session_steps.specs.declared.Step.{Step}
use Rattle.session_core.specs.Machine.{IsNotForeign, State, is_session, open_of, step_outcome, with_work}
use Rattle.job_text.specs.Order.{is_logged}
use Rattle.session_laws.proofs.Cores.{Core, core, is_there, put, step_is}
use Rattle.session_laws.proofs.StepKinds.{IsPlain, Kind, foreign, free, full, kind_of, noted}
use Rattle.session_laws.proofs.Swaps.{CanSwap, Swaps, System}

-- ---- sessions that are there

pub session_bounds : (s : State) (session : ℕ) → is_session s session ≡ true → (1 ≤ session) × (session ≤ length s.works)
session_bounds s session there =
    let parts = and_parts (nat_le 1 session) (nat_le session (length s.works)) there in
    let low = parts.0 in
    let high = parts.1 in
    (grind (arith, nat_tests), grind (arith, nat_tests))

same_sessions : (s : State) (h : History) (session other : ℕ) (work : Option Transaction) →
    is_session (with_work s h session work) other ≡ is_session s other
same_sessions s h session other work = ap (λ n. nat_le 1 other && nat_le other n) (length-set s.works (session - 1) work)

open_other : (s : State) (h : History) (session other : ℕ) (work : Option Transaction) → (session - 1) ≢ (other - 1) →
    open_of (with_work s h session work) other ≡ open_of s other
open_other s h session other work differ =
    get_or-set_other s.works (session - 1) (other - 1) work None (λ e. differ (sym e))

-- ---- steps by their cores

-- what holds of a step's core
pub record Told (after : State → ℕ → Step → Reply × State) (core : History → ℕ → Step → Option Transaction → Core) : Type 0 where
  pub is : (s : State) (session : ℕ) (step : Step) → is_session s session ≡ true →
      after s session step ≡ put s session (core s.history session step (open_of s session))
  pub keeps : (h : History) (session : ℕ) (step : Step) (work : Option Transaction) → is_logged (core h session step work).0 ≡ false →
      (core h session step work).1 ≡ h
  -- behind a step that is logged it is answered so too
  pub moves : (h : History) (session : ℕ) (step : Step) (work : Option Transaction) (other : ℕ) (next : Step) (his : Option Transaction) →
      is_logged (core h session step work).0 ≡ false → IsNotForeign (core h session step work).0 →
      is_logged (core h other next his).0 ≡ true →
      core (core h other next his).1 session step work
      ≡ ((core h session step work).0, (core h other next his).1, (core h session step work).2)

-- sessions that take such steps
abbrev pub system_of : (State → ℕ → Step → Reply × State) → System
system_of after = record { State = State; Step = Step; Reply = Reply; after = after; is_logged = is_logged; IsPlain = IsPlain }

module _ (after : State → ℕ → Step → Reply × State) (core : History → ℕ → Step → Option Transaction → Core) (told : Told after core) where
  -- behind another step it is answered so
  behind_any : (h : History) (session : ℕ) (step : Step) (work : Option Transaction) (other : ℕ) (next : Step) (his : Option Transaction) →
      is_logged (core h session step work).0 ≡ false → IsNotForeign (core h session step work).0 →
      core (core h other next his).1 session step work
      ≡ ((core h session step work).0, (core h other next his).1, (core h session step work).2)
  behind_any h session step work other next his unlogged own = by (is_logged (core h other next his).0) refl where
    by : (b : Bool) → is_logged (core h other next his).0 ≡ b → core (core h other next his).1 session step work
        ≡ ((core h session step work).0, (core h other next his).1, (core h session step work).2)
    by true logged = told.moves h session step work other next his unlogged own logged
    by false plain =
        let his_kept = told.keeps h other next his plain in
        let mine_kept = told.keeps h session step work unlogged in
        subst (λ k. core k session step work ≡ ((core h session step work).0, k, (core h session step work).2)) (sym his_kept)
        (ap (λ k. ((core h session step work).0, k, (core h session step work).2)) mine_kept)

  commutes : (s : State) (session other : ℕ) (step next : Step) → is_session s session ≡ true → is_session s other ≡ true →
      session ≢ other → is_logged (core s.history session step (open_of s session)).0 ≡ false →
      IsNotForeign (core s.history session step (open_of s session)).0 → CanSwap (system_of after) s session other step next
  commutes s session other step next here there differ unlogged own = record {
    now_first = ap (λ p. p.0) his ∙ sym (ap (λ p. p.0) his_later);
    now_second = ap (λ p. p.0) mine_later ∙ sym (ap (λ p. p.0) mine);
    last = ap (λ p. p.1) mine_later ∙ swapped ∙ sym (ap (λ p. p.1) his_later);
  } where
    h : History
    h = s.history

    c : Core
    c = core h session step (open_of s session)

    d : Core
    d = core h other next (open_of s other)

    apart : (session - 1) ≢ (other - 1)
    apart =
        let mine = session_bounds s session here in
        let his = session_bounds s other there in
        λ e. differ (omega arith)

    mine : after s session step ≡ put s session c
    mine = told.is s session step here

    his : after s other next ≡ put s other d
    his = told.is s other next there

    one : State
    one = with_work s c.1 session c.2

    two : State
    two = with_work s d.1 other d.2

    his_later : after (after s session step).1 other next ≡ put one other d
    his_later = ap (λ (p : Reply × State). after p.1 other next) mine
        ∙ told.is one other next (same_sessions s c.1 session other c.2 ∙ there)
        ∙ ap (λ w. put one other (core c.1 other next w)) (open_other s c.1 session other c.2 apart)
        ∙ ap (λ k. put one other (core k other next (open_of s other))) (told.keeps h session step (open_of s session) unlogged)

    mine_later : after (after s other next).1 session step ≡ put two session (c.0, d.1, c.2)
    mine_later = ap (λ (p : Reply × State). after p.1 session step) his
        ∙ told.is two session step (same_sessions s d.1 other session d.2 ∙ here)
        ∙ ap (λ w. put two session (core d.1 session step w)) (open_other s d.1 other session d.2 (λ e. apart (sym e)))
        ∙ ap (put two session) (behind_any h session step (open_of s session) other next (open_of s other) unlogged own)

    swapped : with_work two d.1 session c.2 ≡ with_work one d.1 other d.2
    swapped = ap (λ (ws : List (Option Transaction)). record { history = d.1; works = ws })
        (set_comm s.works (other - 1) (session - 1) d.2 c.2 (λ e. apart (sym e)))

-- ---- the steps of sessions on a book

kept_by : (h : History) (session : ℕ) (step : Step) (work : Option Transaction) (c : Core) → Kind h session step work c →
    is_logged c.0 ≡ false → c.1 ≡ h
kept_by h session step work c (free plain own moves same) unlogged = same
kept_by h session step work c (full room is) unlogged = ap (λ (d : Core). d.1) is
kept_by h session step work c (foreign txn open_is not_own is) unlogged = ap (λ (d : Core). d.1) is
kept_by h session step work c (noted room told more) unlogged = absurd cc

-- a logged call had room in the log
room_of : (h : History) (session : ℕ) (step : Step) (work : Option Transaction) (c : Core) → Kind h session step work c →
    is_logged c.0 ≡ true → is_log_full h ≡ false
room_of h session step work c (free plain own moves same) logged = absurd cc
room_of h session step work c (full room is) logged =
    let told = sym logged ∙ ap (λ (d : Core). is_logged d.0) is in
    absurd cc
room_of h session step work c (foreign txn open_is not_own is) logged =
    let told = sym logged ∙ ap (λ (d : Core). is_logged d.0) is in
    absurd cc
room_of h session step work c (noted room told more) logged = room

-- with room in the log the session's own transaction decides what isn't logged
moves_by : (h : History) (session : ℕ) (step : Step) (work : Option Transaction) (c : Core) → Kind h session step work c →
    is_logged c.0 ≡ false → IsNotForeign c.0 → is_log_full h ≡ false → (k : History) → core k session step work ≡ (c.0, k, c.2)
moves_by h session step work c (free plain own moves same) unlogged not_foreign room k = moves k
moves_by h session step work c (full none is) unlogged not_foreign room k = absurd (let e = sym none ∙ room in cc)
moves_by h session step work c (foreign txn open_is not_own is) unlogged not_foreign room k =
    absurd (not_foreign (ap (λ (d : Core). d.0) is))
moves_by h session step work c (noted room told more) unlogged not_foreign now k = absurd cc

facts : Told step_outcome core
facts = record {
  is = step_is;
  keeps = λ h session step work unlogged. kept_by h session step work (core h session step work) (kind_of h session step work) unlogged;
  moves = λ h session step work other next his unlogged own logged.
      moves_by h session step work (core h session step work) (kind_of h session step work) unlogged own
      (room_of h other next his (core h other next his) (kind_of h other next his) logged) (core h other next his).1;
}

pub steps_swap : Swaps (system_of step_outcome)
steps_swap s session other step next differ unlogged plain next_plain =
    let here = is_there s session step plain.1 in
    let mine = step_is s session step here in
    let c = core s.history session step (open_of s session) in
    let later : is_session (with_work s c.1 session c.2) other ≡ true =
    ap (λ (p : Reply × State). is_session p.1 other) (sym mine) ∙ is_there (step_outcome s session step).1 other next next_plain.1 in
    commutes step_outcome core facts s session other step next here (sym (same_sessions s c.1 session other c.2) ∙ later) differ
    (ap (λ (p : Reply × State). is_logged p.0) (sym mine) ∙ unlogged)
    (subst IsNotForeign (ap (λ (p : Reply × State). p.0) mine) plain.0)
