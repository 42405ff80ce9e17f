-- A step leaves a history, and works, where it finds such.
use Rattle.std.proofs.Common.{◌≡◌, ℕ, ◌+◌, ◌-◌, ◌≤◌, Bool, true, false, cond, not, Option, None, Some, Err, Ok, length, refl, sym}
use Rattle.std.proofs.Common.{◌∙◌, arith, drop, nat_le, subst}
use Rattle.std.proofs.lemmas.Bool.{and_parts}
use Rattle.std.proofs.lemmas.Bool.Decides.{nat_tests}
use Rattle.std.proofs.lemmas.List.{length-set}
use Rattle.lay_layouts.specs.Layout.{Layout}
use Rattle.txn_commands.specs.declared.command.TxnId.{TxnId}
use Rattle.txn_commands.specs.Transactions.{Transaction}
use Rattle.txn_work.specs.Answers.{after_command}
use Rattle.undo_rules.specs.declared.log.Answer.TheVariants.{Refused}
use Rattle.undo_rules.specs.declared.log.BookFault.{BookFault}
use Rattle.undo_rules.specs.declared.log.BookFault.TheVariants.{Foreign, LogFull, SessionFull}
use Rattle.undo_rules.specs.declared.log.Call.TheVariants as call
use Rattle.undo_rules.specs.Books.{History, IsHistory}
use Rattle.undo_rules.specs.Steps as book
use Rattle.undo_rules.specs.Steps.{after_redo, after_undo, commit_unless, is_log_full, is_own, logged}
use Rattle.undo_rules.specs.Steps.{opening}
use Rattle.undo_rules.specs.Steps.{redo_refusal, redo_step, stale_by, state_of, undo_refusal, undo_step, unless}
use Rattle.undo_rules.proofs.CommitLaws.{commit_keeps}
use Rattle.undo_rules.proofs.OpenLaws.{open_keeps, refused_keeps, stale_keeps}
use Rattle.undo_rules.proofs.StepLaws.{redo_keeps, undo_keeps}
use Rattle.undo_book.proofs.CommitLemmas.{own_work}
use Rattle.undo_book.proofs.SoundLemmas.{kept_sound}
use Rattle.session_steps.specs.declared.Step.{Step}
use Rattle.session_steps.specs.declared.Step.TheVariants.{Cancel, Commit, Do, Open, Redo, Undo}
use Rattle.session_core.specs.Machine.{State, commit_in, commit_outcome, is_session, open_in, open_of, open_outcome, redo_in}
use Rattle.session_core.specs.Machine.{step_in, step_outcome, undo_in, with_history, with_work}
use Rattle.session_laws.proofs.Works.{AreWorks, IsOpenWork, commands_work, opens_work, work_at, works_with}

-- a history from this base, and in each of at most 64 sessions a work or none
pub record IsGood (base : Layout) (s : State) : Type 0 where
  pub few : length s.works ≤ 64
  pub history : IsHistory s.history
  pub base_is : s.history.base ≡ base
  pub works : AreWorks s.works

-- behind a step that leaves this history
kept : (base : Layout) (s : State) → IsGood base s → (next : History) → IsHistory next → next.base ≡ s.history.base →
    IsGood base (with_history s next)
kept base s good next history same = record { few = good.few; history = history; base_is = same ∙ good.base_is; works = good.works }

-- and this open in the session
left : (base : Layout) (s : State) → IsGood base s → (session : ℕ) (next : History) → IsHistory next → next.base ≡ s.history.base →
    (work : Option Transaction) → IsOpenWork work → IsGood base (with_work s next session work)
left base s good session next history same work held = record {
  few = subst (λ n. n ≤ 64) (sym (length-set s.works (session - 1) work)) good.few;
  history = history;
  base_is = same ∙ good.base_is;
  works = works_with s.works (session - 1) work good.works held;
}

module _ (base : Layout) (s : State) (good : IsGood base s) (session : ℕ) (low : 1 ≤ session) (high : session ≤ 64) where
  abbrev h : History
  h = s.history

  abbrev is : IsHistory s.history
  is = good.history

  opens : (work : Option Transaction) → IsGood base (open_in s session work).1
  opens (Some txn) = good
  opens None = by (is_log_full h) (nat_le 65535 (state_of h session).opens) where
    by : (b c : Bool) → IsGood base (open_outcome s session (cond b (Err LogFull, h)
        (cond c (Err SessionFull, logged h session call.Open (Refused SessionFull)) (Ok (opening h session), book.after_open h session)))).1
    by true c = kept base s good h is refl
    by false true = kept base s good (logged h session call.Open (Refused SessionFull))
        (refused_keeps h is session call.Open SessionFull) refl
    by false false = left base s good session (book.after_open h session) (open_keeps h is session low high) refl (Some (opening h session))
        (opens_work h session (kept_sound h.log h.base h.layout h.entries is.kept is.sound))

  commits : (work : Option Transaction) → IsOpenWork work → IsGood base (commit_in s session work).1
  commits None held = good
  commits (Some txn) held =
      by (is_log_full h) (is_own h txn) (stale_by h.entries txn.footprint (drop (txn.opened + 1) h.log)) refl refl where
        by : (b c : Bool) (stale : Option TxnId) → is_own h txn ≡ c →
            stale_by h.entries txn.footprint (drop (txn.opened + 1) h.log) ≡ stale →
            IsGood base (commit_outcome s session txn
            (cond b (Err LogFull, h) (cond (not c) (Err Foreign, h) (commit_unless stale h txn)))).1
        by true c stale own fresh = left base s good session h is refl (Some txn) held
        by false false stale own fresh = left base s good session h is refl (Some txn) held
        by false true None own fresh = left base s good session (book.after_commit h txn)
            (commit_keeps h is txn held.transaction held.sound (own_work h txn own) fresh) refl None tt
        by false true (Some other) own fresh =
            left base s good session (book.after_stale h txn other) (stale_keeps h is txn (own_work h txn own) other) refl None tt

  undoes : (txn : TxnId) → IsGood base (undo_in s (undo_step h session txn)).1
  undoes txn = by (is_log_full h) (undo_refusal h txn) refl where
    by : (b : Bool) (fault : Option BookFault) → undo_refusal h txn ≡ fault →
        IsGood base (undo_in s (cond b (Err LogFull, h) (unless fault h session (call.Undo txn) (after_undo h session txn)))).1
    by true fault told = kept base s good h is refl
    by false None told = kept base s good (after_undo h session txn) (undo_keeps h is session txn told) refl
    by false (Some fault) told = kept base s good (logged h session (call.Undo txn) (Refused fault))
        (refused_keeps h is session (call.Undo txn) fault) refl

  redoes : (txn : TxnId) → IsGood base (redo_in s (redo_step h session txn)).1
  redoes txn = by (is_log_full h) (redo_refusal h txn) refl where
    by : (b : Bool) (fault : Option BookFault) → redo_refusal h txn ≡ fault →
        IsGood base (redo_in s (cond b (Err LogFull, h) (unless fault h session (call.Redo txn) (after_redo h session txn)))).1
    by true fault told = kept base s good h is refl
    by false None told = kept base s good (after_redo h session txn) (redo_keeps h is session txn told) refl
    by false (Some fault) told = kept base s good (logged h session (call.Redo txn) (Refused fault))
        (refused_keeps h is session (call.Redo txn) fault) refl

  runs : (step : Step) (work : Option Transaction) → IsOpenWork work → open_of s session ≡ work → IsGood base (step_in s session step).1
  runs Open work held found = opens (open_of s session)
  runs (Do command) None held found = rw found good
  runs (Do command) (Some txn) held found =
      rw found (left base s good session h is refl (Some (after_command txn command)) (commands_work txn command held))
  runs Commit work held found = rw found (commits work held)
  runs Cancel None held found = rw found good
  runs Cancel (Some txn) held found = rw found (left base s good session h is refl None tt)
  runs (Undo txn) work held found = undoes txn
  runs (Redo txn) work held found = redoes txn

-- a step of any session keeps that
pub stepped : (base : Layout) (s : State) (session : ℕ) (step : Step) → IsGood base s → IsGood base (step_outcome s session step).1
stepped base s session step good = by (is_session s session) refl where
  by : (b : Bool) → is_session s session ≡ b → IsGood base (step_outcome s session step).1
  by false unknown = rw unknown good
  by true known =
      let parts = and_parts (nat_le 1 session) (nat_le session (length s.works)) known in
      let low : 1 ≤ session = grind (arith, nat_tests, parts) in
      let most : session ≤ length s.works = grind (arith, nat_tests, parts) in
      let few : length s.works ≤ 64 = good.few in
      rw known (runs base s good session low (omega (arith, most, few)) step (open_of s session)
      (work_at s.works (session - 1) good.works) refl)
