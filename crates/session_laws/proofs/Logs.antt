-- Legal logs lead from a sound base to histories, in which an undo takes out and a redo at once puts back.
use Rattle.std.proofs.Common.{◌≡◌, ℕ, ◌+◌, ◌-◌, ◌≤◌, ◌==◌, Bool, true, false, cond, not, List, [], ◌∷◌, drop, Option, None, Some}
use Rattle.std.proofs.Common.{Err, Ok, refl, sym, ap, subst, ◌∙◌, arith, nat_le}
use Rattle.std.proofs.lemmas.Bool.Decides.{Decides-eqb}
use Rattle.lay_layouts.specs.Layout.{Layout}
use Rattle.lay_layouts.specs.Sound.{IsSound}
use Rattle.txn_commands.specs.declared.command.Command.{Command}
use Rattle.txn_commands.specs.declared.command.TxnId.{TxnId}
use Rattle.txn_commands.specs.Effects.{Run, after_each, begun}
use Rattle.txn_commands.specs.Transactions.{IsTransaction, Transaction}
use Rattle.undo_rules.specs.declared.log.Answer.{Answer}
use Rattle.undo_rules.specs.declared.log.Answer.TheVariants.{Committed, Redone, Refused, Undone}
use Rattle.undo_rules.specs.declared.log.BookFault.{BookFault}
use Rattle.undo_rules.specs.declared.log.BookFault.TheVariants.{Depends, Foreign, LogFull, Moved, NoMemory, NoTxn}
use Rattle.undo_rules.specs.declared.log.BookFault.TheVariants.{NotLive, SessionFull, Stale, StillLive}
use Rattle.undo_rules.specs.declared.log.Call.{Call}
use Rattle.undo_rules.specs.declared.log.Call.TheVariants.{Commit, Open, Redo, Undo}
use Rattle.undo_rules.specs.declared.log.Logged.{Logged}
use Rattle.undo_rules.specs.Books.{History, IsHistory, Pending}
use Rattle.undo_rules.specs.Steps.{after_open, after_redo, after_undo, commit_step, commit_unless, fresh, is_log_full, is_own, logged}
use Rattle.undo_rules.specs.Steps.{opening, redo_refusal, stale_by, state_of, undo_refusal, unless, with_mark}
use Rattle.undo_rules.proofs.CommitLaws.{commit_keeps}
use Rattle.undo_rules.proofs.OpenLaws.{its_state, open_keeps, refused_keeps, stale_keeps}
use Rattle.undo_rules.proofs.StepLaws.{redo_keeps, undo_keeps}
use Rattle.undo_book.specs.declared.book.TheConstants.{MAX_CALLS}
use Rattle.undo_book.specs.Replays.{replay}
use Rattle.undo_book.proofs.CommitLemmas.{own_work}
use Rattle.undo_book.proofs.SoundLemmas.{begins_history, kept_sound}
use Rattle.undo_book.proofs.UndoLemmas.{undoes}
use Rattle.desk_rules.specs.Legal.{ArePendingSound, Grew, Grown, IsLegal, Leads, commit_meant, meant, meant_by, meant_of}
use Rattle.desk_rules.specs.Legal.{outcome, refusal, told, told_open, work_on}
use Rattle.desk_rules.proofs.LegalLemmas.{grown_call, none_pending}
use Rattle.locked_desk.proofs.ScriptLemmas.{few_scripts}
use Rattle.session_laws.specs.Logs.{AreIdleCalls, IsBookFrom, LogsKeepOperations, LogsLeadToHistories, LogsTakeOut}
use Rattle.session_laws.specs.Logs.{RedosInLogsPutBack, ThreadsLeadToBooks, is_changing}
use Rattle.session_laws.proofs.Runs.{stays}
use Rattle.session_laws.proofs.Undoing.{IsFree, IsSame, and_so, free_of, put_back, same}

-- ---- a call leaves a history where it finds one

module _ (h : History) (is : IsHistory h) (session : ℕ) (low : 1 ≤ session) (high : session ≤ 64) where
  opened : IsHistory (outcome h session Open).1
  opened = by (is_log_full h) (nat_le 65535 (state_of h session).opens) where
    by : (full many : Bool) → IsHistory (told_open (cond full (Err LogFull, h)
        (cond many (Err SessionFull, logged h session Open (Refused SessionFull)) (Ok (opening h session), after_open h session)))).1
    by true many = is
    by false true = refused_keeps h is session Open SessionFull
    by false false = open_keeps h is session low high

  -- an undo or a redo, which leads to this history where nothing is in its way
  turned : (call : Call) (done : Answer) (after : History) (full : Bool) (fault : Option BookFault) → (fault ≡ None → IsHistory after)
      → IsHistory (told done (cond full (Err LogFull, h) (unless fault h session call after))).1
  turned call done after true fault free = is
  turned call done after false None free = free refl
  turned call done after false (Some fault) free = refused_keeps h is session call fault

  committed_as : (txn : Transaction) → IsTransaction txn → IsSound txn.snapshot → IsHistory (told Committed (commit_step h txn)).1
  committed_as txn its sound =
      by (is_log_full h) (is_own h txn) (stale_by h.entries txn.footprint (drop (txn.opened + 1) h.log)) refl refl where
        by : (full own : Bool) (stale : Option TxnId) → is_own h txn ≡ own
            → stale_by h.entries txn.footprint (drop (txn.opened + 1) h.log) ≡ stale
            → IsHistory (told Committed (cond full (Err LogFull, h) (cond (not own) (Err Foreign, h) (commit_unless stale h txn)))).1
        by true own stale owned none = is
        by false false stale owned none = is
        by false true None owned none = commit_keeps h is txn its sound (own_work h txn owned) none
        by false true (Some other) owned none = stale_keeps h is txn (own_work h txn owned) other

  committed_meant : (txn : TxnId) (commands : List Command) (pending : Option Pending)
      → ((waiting : Pending) → pending ≡ Some waiting → IsSound waiting.snapshot)
      → IsHistory (commit_meant h (meant_of txn commands pending)).1
  committed_meant txn commands None sound = is
  committed_meant txn commands (Some pending) sound = by (after_each txn commands (begun pending.snapshot)) refl where
    by : (run : Option Run) → after_each txn commands (begun pending.snapshot) ≡ run
        → IsHistory (commit_meant h (meant_by txn commands pending run)).1
    by None ran = is
    by (Some run) ran = committed_as (work_on txn commands pending run) (record {
      run = run;
      runs = ran;
      writes = refl;
      footprint = refl;
    }) (sound pending refl)

  committed : ArePendingSound h.sessions → (txn : TxnId) (commands : List Command) → IsHistory (outcome h session (Commit txn commands)).1
  committed all txn commands = by (txn.session == session) refl where
    by : (own : Bool) → (txn.session == session) ≡ own → IsHistory (cond own (commit_meant h (meant h txn commands)) (None, h)).1
    by false own = is
    by true own =
        let here : txn.session ≡ session = (Decides-eqb txn.session session).0 own in
        let from : 1 ≤ txn.session = omega (arith, here, low) in
        let to : txn.session ≤ 64 = omega (arith, here, high) in
        committed_meant txn commands (state_of h txn.session).pending
        (λ waiting waits. all (txn.session - 1) (state_of h txn.session) waiting (its_state h is txn.session from to) waits)

  called : ArePendingSound h.sessions → (call : Call) → IsHistory (outcome h session call).1
  called all Open = opened
  called all (Commit txn commands) = committed all txn commands
  called all (Undo txn) =
      turned (Undo txn) Undone (after_undo h session txn) (is_log_full h) (undo_refusal h txn) (undo_keeps h is session txn)
  called all (Redo txn) =
      turned (Redo txn) Redone (after_redo h session txn) (is_log_full h) (redo_refusal h txn) (redo_keeps h is session txn)

-- ---- so logs lead to histories

-- a history from this base, with a sound layout at each pending open
record IsGood (base : Layout) (h : History) : Type 0 where
  history : IsHistory h
  base_is : h.base ≡ base
  pending : ArePendingSound h.sessions

led : (base : Layout) (n : ℕ) (h next : History) (c : Logged) → n ≤ 64 → IsGood base h → Leads n h c next → IsGood base next
led base n h next c few good leads = record {
  history = subst IsHistory (ap (λ (p : Option Answer × History). p.1) leads.outcome)
      (called h good.history c.session leads.low (omega (arith, most, few)) good.pending c.call);
  base_is = grew.base ∙ good.base_is;
  pending = grew.pending (kept_sound h.log h.base h.layout h.entries good.history.kept good.history.sound) good.pending;
} where
  most : c.session ≤ n
  most = leads.high

  grew : Grew h c.session c.call c.answer next
  grew = subst (Grown h c.session c.call) leads.outcome (grown_call h c.session c.call)

led_all : (base : Layout) (n : ℕ) (log : List Logged) (h book : History) → n ≤ 64 → IsGood base h → IsLegal n h log book → IsGood base book
led_all base n [] h book few good legal = subst (IsGood base) (sym legal) good
led_all base n (c ∷ cs) h book few good (next, leads, rest) = led_all base n cs next book few (led base n h next c few good leads) rest

good_from : (base : Layout) (sessions : ℕ) (log : List Logged) (book : History) → IsBookFrom base sessions log book → IsGood base book
good_from base sessions log book is =
    led_all base sessions log (fresh base is.limit) book is.few (record {
      history = begins_history (fresh base is.limit) is.sound refl refl refl refl;
      base_is = refl;
      pending = none_pending 64;
    }) is.legal

pub threads_lead : ThreadsLeadToBooks
threads_lead base scripts replies book sound ran = record {
  sound = sound;
  few = few_scripts scripts;
  limit = MAX_CALLS;
  legal = ran.closed.legal;
}

pub logs_lead : LogsLeadToHistories
logs_lead base sessions log book is = let good = good_from base sessions log book is in (good.history, good.base_is)

pub logs_keep : LogsKeepOperations
logs_keep base sessions log book is = let good = good_from base sessions log book is in stays base book good.history good.base_is

-- ---- an undo

pub logs_take_out : LogsTakeOut
logs_take_out base sessions log book is session txn answer next unread leads =
    by (is_log_full book) (undo_refusal book txn) free leads.outcome where
      history : IsHistory book
      history = (good_from base sessions log book is).history

      free : undo_refusal book txn ≡ None
      free = free_of book txn unread

      without : replay (with_mark book false txn) ≡ Some (after_undo book session txn).layout
      without =
          let does = undoes book history session txn unread.at unread.there free in
          does.without ∙ ap Some (sym (ap (λ (x : History). x.layout) does.after))

      by : (full : Bool) (fault : Option BookFault) → fault ≡ None
          → told Undone (cond full (Err LogFull, book) (unless fault book session (Undo txn) (after_undo book session txn)))
          ≡ (Some answer, next)
          → (answer ≡ Undone) × (replay (with_mark book false txn) ≡ Some next.layout)
      by true fault none is = let e : None ≡ Some answer = ap (λ (p : Option Answer × History). p.0) is in absurd cc
      by false (Some fault) none is = absurd cc
      by false None none is =
          let e : Some Undone ≡ Some answer = ap (λ (p : Option Answer × History). p.0) is in
          let to : after_undo book session txn ≡ next = ap (λ (p : Option Answer × History). p.1) is in
          (cc, without ∙ ap (λ (x : History). Some x.layout) to)

-- ---- a redo at once

-- a refusal isn't logged as done
not_undone : (fault : BookFault) → refusal fault ≡ Some Undone → {A : Type 0} → A
not_undone LogFull e = absurd cc
not_undone NoMemory e = absurd cc
not_undone Foreign e = absurd cc
not_undone (Depends txn) e = absurd cc
not_undone (Moved txn) e = absurd cc
not_undone NoTxn e = absurd cc
not_undone NotLive e = absurd cc
not_undone SessionFull e = absurd cc
not_undone (Stale txn) e = absurd cc
not_undone StillLive e = absurd cc

record IsUndone (h : History) (session : ℕ) (txn : TxnId) (next : History) : Type 0 where
  free : undo_refusal h txn ≡ None
  after : next ≡ after_undo h session txn

accepted : (h : History) (session : ℕ) (txn : TxnId) (next : History) → outcome h session (Undo txn) ≡ (Some Undone, next)
    → IsUndone h session txn next
accepted h session txn next = by (is_log_full h) (undo_refusal h txn) refl where
  by : (full : Bool) (fault : Option BookFault) → undo_refusal h txn ≡ fault
      → told Undone (cond full (Err LogFull, h) (unless fault h session (Undo txn) (after_undo h session txn))) ≡ (Some Undone, next)
      → IsUndone h session txn next
  by true fault free is = let e : None ≡ Some Undone = ap (λ (p : Option Answer × History). p.0) is in absurd cc
  by false (Some fault) free is = not_undone fault (ap (λ (p : Option Answer × History). p.0) is)
  by false None free is = record { free = free; after = sym (ap (λ (p : Option Answer × History). p.1) is) }

-- a call that changed no transaction leaves the layout and the transactions
module _ (h : History) (session : ℕ) where
  idle_open : IsSame h (outcome h session Open).1
  idle_open = by (is_log_full h) (nat_le 65535 (state_of h session).opens) where
    by : (full many : Bool) → IsSame h (told_open (cond full (Err LogFull, h)
        (cond many (Err SessionFull, logged h session Open (Refused SessionFull)) (Ok (opening h session), after_open h session)))).1
    by true many = same h
    by false true = record { layout = refl; entries = refl }
    by false false = record { layout = refl; entries = refl }

  -- an undo or a redo that isn't answered as done
  idle_turn : (call : Call) (done : Answer) (after : History) → is_changing done ≡ true → (full : Bool) (fault : Option BookFault)
      → (answer : Answer) → is_changing answer ≡ false →
      let to = told done (cond full (Err LogFull, h) (unless fault h session call after)) in to.0 ≡ Some answer → IsSame h to.1
  idle_turn call done after changes true fault answer idle is = same h
  idle_turn call done after changes false None answer idle is =
      let e : done ≡ answer = cc in let changed : true ≡ false = sym changes ∙ ap is_changing e ∙ idle in absurd cc
  idle_turn call done after changes false (Some fault) answer idle is = record { layout = refl; entries = refl }

  idle_work : (txn : Transaction) (answer : Answer) → is_changing answer ≡ false → (told Committed (commit_step h txn)).0 ≡ Some answer
      → IsSame h (told Committed (commit_step h txn)).1
  idle_work txn answer idle =
      by (is_log_full h) (is_own h txn) (stale_by h.entries txn.footprint (drop (txn.opened + 1) h.log)) where
        by : (full own : Bool) (stale : Option TxnId) →
            let to = told Committed (cond full (Err LogFull, h) (cond (not own) (Err Foreign, h) (commit_unless stale h txn))) in
            to.0 ≡ Some answer → IsSame h to.1
        by true own stale is = same h
        by false false stale is = same h
        by false true None is = let e : Committed ≡ answer = cc in let changed : true ≡ false = ap is_changing e ∙ idle in absurd cc
        by false true (Some other) is = record { layout = refl; entries = refl }

  idle_meant : (txn : Option Transaction) (answer : Answer) → is_changing answer ≡ false → (commit_meant h txn).0 ≡ Some answer
      → IsSame h (commit_meant h txn).1
  idle_meant None answer idle is = same h
  idle_meant (Some txn) answer idle is = idle_work txn answer idle is

  idle_commit : (txn : TxnId) (commands : List Command) (answer : Answer) → is_changing answer ≡ false
      → (outcome h session (Commit txn commands)).0 ≡ Some answer → IsSame h (outcome h session (Commit txn commands)).1
  idle_commit txn commands answer idle = by (txn.session == session) where
    by : (own : Bool) → let to = cond own (commit_meant h (meant h txn commands)) (None, h) in to.0 ≡ Some answer → IsSame h to.1
    by false is = same h
    by true is = idle_meant (meant h txn commands) answer idle is

  idle_call : (call : Call) (answer : Answer) → is_changing answer ≡ false → (outcome h session call).0 ≡ Some answer
      → IsSame h (outcome h session call).1
  idle_call Open answer idle is = idle_open
  idle_call (Commit txn commands) answer idle is = idle_commit txn commands answer idle is
  idle_call (Undo txn) answer idle is =
      idle_turn (Undo txn) Undone (after_undo h session txn) refl (is_log_full h) (undo_refusal h txn) answer idle is
  idle_call (Redo txn) answer idle is =
      idle_turn (Redo txn) Redone (after_redo h session txn) refl (is_log_full h) (redo_refusal h txn) answer idle is

goes_idle : (n : ℕ) (log : List Logged) (h book : History) → IsLegal n h log book → AreIdleCalls log → IsSame h book
goes_idle n [] h book legal idle = subst (IsSame h) (sym legal) (same h)
goes_idle n (c ∷ cs) h book (next, leads, rest) (one, more) = and_so h next book first (goes_idle n cs next book rest more) where
  first : IsSame h next
  first = subst (IsSame h) (ap (λ (p : Option Answer × History). p.1) leads.outcome)
      (idle_call h c.session c.call c.answer one (ap (λ (p : Option Answer × History). p.0) leads.outcome))

redone_to : (h : History) (other : ℕ) (txn : TxnId) (layout : Layout) → IsFree h other txn layout → (answer : Answer) (last : History)
    → outcome h other (Redo txn) ≡ (Some answer, last) → (answer ≡ Redone) × (last.layout ≡ layout)
redone_to h other txn layout is answer last = by (is_log_full h) (redo_refusal h txn) is.free where
  by : (full : Bool) (fault : Option BookFault) → fault ≡ None
      → told Redone (cond full (Err LogFull, h) (unless fault h other (Redo txn) (after_redo h other txn))) ≡ (Some answer, last)
      → (answer ≡ Redone) × (last.layout ≡ layout)
  by true fault none led = let e : None ≡ Some answer = ap (λ (p : Option Answer × History). p.0) led in absurd cc
  by false (Some fault) none led = absurd cc
  by false None none led =
      let e : Some Redone ≡ Some answer = ap (λ (p : Option Answer × History). p.0) led in
      let to : after_redo h other txn ≡ last = ap (λ (p : Option Answer × History). p.1) led in
      (cc, sym (ap (λ (x : History). x.layout) to) ∙ is.to)

pub logs_put_back : RedosInLogsPutBack
logs_put_back base sessions log book is session txn undone leads between then during idle other answer last redoing =
    let good = good_from base sessions log book is in
    let does = accepted book session txn undone leads.outcome in
    let undone_good = led base sessions book undone (record { session = session; call = Undo txn; answer = Undone }) is.few good leads in
    let then_good = led_all base sessions between undone then is.few undone_good during in
    let still : IsSame (after_undo book session txn) then =
    subst (λ (x : History). IsSame x then) does.after (goes_idle sessions between undone then during idle) in
    let free = put_back book good.history session other txn does.free then then_good.history still in
    redone_to then other txn book.layout free answer last redoing.outcome
