-- What a session's step keeps, and what it logs.
use Rattle.std.proofs.Common.{◌≡◌, ℕ, ◌+◌, ◌-◌, ◌<◌, ◌≤◌, true, cond, [], ◌++◌, Option, None, Some, Result, Ok, Err, length, refl, ap}
use Rattle.std.proofs.Common.{sym, subst, ◌∙◌, append-nil, arith, inl, not}
use Rattle.std.proofs.lemmas.List.{length-set}
use Rattle.txn_commands.specs.declared.command.Command.{Command}
use Rattle.txn_commands.specs.declared.command.Done.{Done}
use Rattle.txn_commands.specs.declared.command.TxnId.{TxnId}
use Rattle.txn_commands.specs.declared.fault.CmdFault.{CmdFault}
use Rattle.txn_commands.specs.Effects as effects
use Rattle.txn_commands.specs.Effects.{effect}
use Rattle.txn_commands.specs.Transactions.{Transaction}
use Rattle.txn_work.specs.Answers.{after_command, after_effect, run_so_far}
use Rattle.undo_rules.specs.declared.log.BookFault.{BookFault}
use Rattle.undo_rules.specs.declared.log.BookFault.TheVariants.{Foreign, LogFull}
use Rattle.undo_rules.specs.Books.{History}
use Rattle.undo_rules.specs.Steps.{commit_own, commit_step, is_log_full, is_own, open_step, redo_step, undo_step}
use Rattle.undo_book.specs.Calls as held
use Rattle.session_steps.specs.declared.Reply.{Reply}
use Rattle.session_steps.specs.declared.Reply.TheVariants.{Redone, Undone}
use Rattle.session_steps.specs.declared.Step.{Step}
use Rattle.session_steps.specs.declared.Step.TheVariants.{Cancel, Commit, Do, Open, Redo, Undo}
use Rattle.session_core.specs.Machine.{State, is_session, open_of, step_outcome, with_work}
use Rattle.session_core.specs.Machines.{IsOpen, IsState}
use Rattle.session_core.proofs.MachineLemmas as machines
use Rattle.job_text.specs.Order.{is_logged}
use Rattle.session_laws.proofs.Commuting.{session_bounds}
use Rattle.session_laws.proofs.Cores.{Core, changed, committed, core, open_core, opened, stays, step_is}
use Rattle.session_laws.proofs.StepKinds.{IsHeldBy, IsPlain, Kind, callers_of, foreign, free, full, kind_of, noted}
use Rattle.session_laws.proofs.Pulling.{caller_before}

module _ (s : State) (session : ℕ) (kept : IsState s) (low : 1 ≤ session) (high : session ≤ length s.works) where
  unchanged : (work : Option Transaction) → open_of s session ≡ work → IsState (with_work s s.history session work)
  unchanged work found = subst IsState (sym (stays s s.history session work found)) kept

  opens : (work : Option Transaction) → open_of s session ≡ work →
      IsState (with_work s (open_core s.history session work).1 session (open_core s.history session work).2)
  opens (Some txn) found = unchanged (Some txn) found
  opens None found = by (open_step s.history session).0 (open_step s.history session).1 (inl (refl, refl)) where
    by : (r : Result Transaction BookFault) (new : History) → held.Takes s.history (open_step s.history session) r new →
        IsState (with_work s (opened (r, new)).1 session (opened (r, new)).2)
    by (Ok txn) new takes = machines.opened s.history new s.works session txn kept low high takes
    by (Err fault) new takes = subst IsState (sym (stays s new session None found))
        (machines.state_as s.history new s.works kept (machines.open_err s.history new session fault takes))

  runs : (command : Command) (txn : Transaction) → open_of s session ≡ Some txn →
      IsState (with_work s s.history session (Some (after_command txn command)))
  runs command txn found = machines.commanded s.history s.works (session - 1) txn (after_command txn command) kept (omega arith) found
      (by (effect txn.id command (run_so_far txn))) where
        by : (r : Result (Done × effects.Run) CmdFault) → ((after_effect txn command r).id ≡ txn.id)
            × ((after_effect txn command r).opened ≡ txn.opened) × ((after_effect txn command r).snapshot ≡ txn.snapshot)
        by (Ok next) = (refl, refl, refl)
        by (Err fault) = (refl, refl, refl)

  commits : (txn : Transaction) → open_of s session ≡ Some txn →
      IsState (with_work s (committed txn (commit_step s.history txn)).1 session (committed txn (commit_step s.history txn)).2)
  commits txn found = by (commit_step s.history txn).0 (commit_step s.history txn).1 (inl (refl, refl)) full where
    few : session - 1 < 64
    few = let most : length s.works ≤ 64 = kept.few in omega arith

    is_open : IsOpen s.history (session - 1) txn
    is_open = kept.works (session - 1) txn found

    full : is_log_full s.history ≡ true → held.with_refused_work (commit_step s.history txn).0 txn ≡ Err (held.refused LogFull txn)
    full is = ap (λ b. held.with_refused_work (cond {A = Result TxnId BookFault × History} b (Err LogFull, s.history)
        (cond (not (is_own s.history txn)) (Err Foreign, s.history) (commit_own s.history txn))).0 txn) is

    by : (r : Result TxnId BookFault) (new : History) →
        held.TakesWork s.history txn (commit_step s.history txn) (held.with_refused_work r txn) new →
        (is_log_full s.history ≡ true → held.with_refused_work r txn ≡ Err (held.refused LogFull txn)) →
        IsState (with_work s (committed txn (r, new)).1 session (committed txn (r, new)).2)
    by (Ok id) new takes full = machines.left_state s.history new s.works (session - 1) txn None kept (omega arith)
        (machines.commits_so s new session (session - 1) txn (Ok id) found few is_open takes full).left
    by (Err fault) new takes full =
        machines.left_state s.history new s.works (session - 1) txn (held.handed_back fault txn) kept (omega arith)
        (machines.commits_so s new session (session - 1) txn (Err (held.refused fault txn)) found few is_open takes full).left

  changes : (reply : Reply) (r : Result (Unit {0}) BookFault) (new : History) → new.sessions ≡ s.history.sessions →
      IsState (with_work s (changed reply (open_of s session) (r, new)).1 session (changed reply (open_of s session) (r, new)).2)
  changes reply (Ok done) new same = subst IsState (sym (stays s new session (open_of s session) refl))
      (machines.state_as s.history new s.works kept same)
  changes reply (Err fault) new same = subst IsState (sym (stays s new session (open_of s session) refl))
      (machines.state_as s.history new s.works kept same)

  -- a step leaves a state of a machine
  leaves : (step : Step) (work : Option Transaction) → open_of s session ≡ work →
      IsState (with_work s (core s.history session step work).1 session (core s.history session step work).2)
  leaves Open work found = opens work found
  leaves (Do command) None found = unchanged None found
  leaves (Do command) (Some txn) found = runs command txn found
  leaves Commit None found = unchanged None found
  leaves Commit (Some txn) found = commits txn found
  leaves Cancel None found = unchanged None found
  leaves Cancel (Some txn) found = machines.cancelled s.history s.works (session - 1) kept (omega arith)
  leaves (Undo txn) work found =
      let r = undo_step s.history session txn in
      subst (λ w. IsState (with_work s (changed Undone w r).1 session (changed Undone w r).2)) found
      (changes Undone r.0 r.1 (machines.undo_keeps s.history r.1 session txn r.0 (inl (refl, refl))))
  leaves (Redo txn) work found =
      let r = redo_step s.history session txn in
      subst (λ w. IsState (with_work s (changed Redone w r).1 session (changed Redone w r).2)) found
      (changes Redone r.0 r.1 (machines.redo_keeps s.history r.1 session txn r.0 (inl (refl, refl))))

  -- the open transaction is the session's
  holds : IsHeldBy session (open_of s session)
  holds txn found =
      let is_open = kept.works (session - 1) txn found in
      let name : txn.id.session ≡ (session - 1) + 1 = is_open.session in
      omega arith

  -- and it is the book's own
  is_plain : (step : Step) (c : Core) → Kind s.history session step (open_of s session) c → IsPlain c.0
  is_plain step c (free unlogged plain moves same) = plain
  is_plain step c (full none is) =
      let reply = ap (λ (d : Core). d.0) is in
      (λ e. cc, λ e. cc)
  is_plain step c (foreign txn found not_own is) =
      let most : length s.works ≤ 64 = kept.few in
      let own = machines.own_of s.history (session - 1) txn (omega arith) (kept.works (session - 1) txn found) in
      absurd cc
  is_plain step c (noted room told more) = (
    λ e. let told_so = sym told ∙ ap is_logged e in cc,
    λ e. let told_so = sym told ∙ ap is_logged e in cc,
  )

-- one more logged call has the session as its caller
callers_so : (h : History) (session : ℕ) (step : Step) (work : Option Transaction) (c : Core) → Kind h session step work c →
    IsHeldBy session work → callers_of c.1 ≡ callers_of h ++ caller_before (is_logged c.0) session []
callers_so h session step work c (free plain own moves same) held_by =
    ap callers_of same ∙ sym (append-nil (callers_of h)) ∙ ap (λ b. callers_of h ++ caller_before b session []) (sym plain)
callers_so h session step work c (full none is) held_by =
    ap (λ (d : Core). callers_of d.1) is ∙ sym (append-nil (callers_of h))
    ∙ ap (λ (d : Core). callers_of h ++ caller_before (is_logged d.0) session []) (sym is)
callers_so h session step work c (foreign txn found not_own is) held_by =
    ap (λ (d : Core). callers_of d.1) is ∙ sym (append-nil (callers_of h))
    ∙ ap (λ (d : Core). callers_of h ++ caller_before (is_logged d.0) session []) (sym is)
callers_so h session step work c (noted room told more) held_by =
    more held_by ∙ ap (λ b. callers_of h ++ caller_before b session []) (sym told)

-- what holds behind a step of a session that is there
pub record After (s : State) (session : ℕ) (end : Reply × State) : Type 0 where
  pub kept : IsState end.1
  pub plain : IsPlain end.0
  pub sessions : length end.1.works ≡ length s.works
  pub callers_are : callers_of end.1.history ≡ callers_of s.history ++ caller_before (is_logged end.0) session []

pub after_one : (s : State) (session : ℕ) (step : Step) → IsState s → is_session s session ≡ true →
    After s session (step_outcome s session step)
after_one s session step kept there =
    let bounds = session_bounds s session there in
    let c = core s.history session step (open_of s session) in
    let kind = kind_of s.history session step (open_of s session) in
    subst (After s session) (sym (step_is s session step there)) (record {
      kept = leaves s session kept bounds.0 bounds.1 step (open_of s session) refl;
      plain = is_plain s session kept bounds.0 bounds.1 step c kind;
      sessions = length-set s.works (session - 1) c.2;
      callers_are = callers_so s.history session step (open_of s session) c kind (holds s session kept bounds.0 bounds.1);
    })
