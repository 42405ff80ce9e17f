-- A machine keeps what it keeps, step after step.
use Rattle.std.proofs.Common.{◌≡◌, ◌≢◌, ℕ, ◌+◌, ◌-◌, ◌<◌, ◌≤◌, Bool, true, false, ◌&&◌, cond, List, [], ◌∷◌, length, nat_eq}
use Rattle.std.proofs.Common.{nat_le, Option, None, Some, Result, Ok, Err, OnErr, OnOk}
use Rattle.std.proofs.Common.{drop, slice_index_or, slice_set, inl, inr, refl, ap}
use Rattle.std.proofs.Common.{sym, ◌∙◌, subst, arith, zero, suc, replicate}
use Rattle.std.proofs.lemmas.Bool.{and_parts, cases_eq, or_parts}
use Rattle.std.proofs.lemmas.Bool.Decides.{nat_tests}
use Rattle.std.proofs.lemmas.Grind.{get_or-set_at}
use Rattle.std.proofs.lemmas.List.{get_or-set_other, length-replicate, length-set, set-get_or, set-set}
use Rattle.std.proofs.lemmas.Option.{slice_get-get_or}
use Rattle.std.specs.List.{list_any}
use Rattle.lay_point.specs.Memory.{IsAnswer}
use Rattle.lay_layouts.specs.Layout.{Layout}
use Rattle.undo_book.specs.declared.commit.CommitRefusal.{CommitRefusal}
use Rattle.undo_rules.specs.declared.log.BookFault.{BookFault}
use Rattle.undo_rules.specs.declared.log.BookFault.TheVariants.{Foreign, LogFull, NoMemory, SessionFull, Stale}
use Rattle.undo_rules.specs.declared.log.Answer.TheVariants.{Refused}
use Rattle.undo_rules.specs.declared.log.Call.TheVariants as calls
use Rattle.txn_commands.specs.declared.fault.CmdFault.{CmdFault}
use Rattle.txn_commands.specs.declared.fault.CmdFault.TheVariants.{NoMemory as CommandMemory}
use Rattle.txn_commands.specs.declared.command.Command.{Command}
use Rattle.txn_commands.specs.declared.command.Done.{Done}
use Rattle.txn_commands.specs.declared.command.TxnId.{TxnId}
use Rattle.txn_commands.specs.Effects.{Run, effect}
use Rattle.txn_commands.specs.Transactions.{Transaction}
use Rattle.txn_commands.proofs.Compared.{agrees-itself}
use Rattle.txn_work.specs.Answers.{after_command, after_effect, answer_to, done_of_effect, run_so_far}
use Rattle.undo_rules.specs.Books.{History, SessionState}
use Rattle.undo_rules.specs.Steps as book
use Rattle.undo_rules.specs.declared.log.Call.{Call}
use Rattle.session_core.specs.Commits.{reply_of, work_of}
use Rattle.undo_rules.specs.Steps.{after_redo, after_undo, redo_refusal, undo_refusal, unless}
use Rattle.undo_rules.specs.Steps.{after_open, after_stale, commit_own, commit_step}
use Rattle.undo_rules.specs.Steps.{commit_unless, ended_state, is_log_full, is_own, is_pending}
use Rattle.undo_rules.specs.Steps.{logged, open_step, opening, redo_step, stale_by, state_of, undo_step, unused}
use Rattle.undo_book.specs.Calls as held
use Rattle.undo_book.specs.Calls.{TakesWork, handed_back, refused, with_refused_work as with_answer}
use Rattle.session_steps.specs.declared.Reply.{Reply}
use Rattle.session_steps.specs.declared.Reply.TheVariants.{Fault}
use Rattle.session_steps.specs.declared.Step.{Step}
use Rattle.session_steps.specs.declared.Step.TheVariants.{Cancel, Commit, Do, Open, Redo, Undo}
use Rattle.session_steps.specs.declared.StepFault.TheVariants.{Book}
use Rattle.session_core.specs.Machine as machine
use Rattle.session_core.specs.Machine.{Ran, State, TakesOr, TakesStep, after_steps, command_reply, is_certain, is_memory, is_session}
use Rattle.session_core.specs.Machine.{memory_reply, open_of, step_outcome, with_work}
use Rattle.session_core.specs.declared.machine.Machine.TheInside.{Inside}
use Rattle.session_core.specs.Machines.{IsMachine, IsOpen, IsState, kept_session, machine_state}

abbrev Works : Type 0
Works = List (Option Transaction)

-- a machine's state
abbrev with_works : History → Works → State
with_works h works = record { history = h; works = works }

-- a transaction is open as far as the book keeps the same of its session
open_as : (h new : History) (place : ℕ) (txn : Transaction) → kept_session new place ≡ kept_session h place → IsOpen h place txn →
    IsOpen new place txn
open_as h new place txn same is_open = record {
  session = is_open.session;
  opens = ap (λ (s : SessionState). s.opens) same ∙ is_open.opens;
  pending = ap (λ (s : SessionState). s.pending) same ∙ is_open.pending;
}

-- nothing changes for the sessions
pub state_as : (h new : History) (works : Works) → IsState (with_works h works) → new.sessions ≡ h.sessions → IsState (with_works new works)
state_as h new works kept same = record {
  few = kept.few;
  sessions = ap length same ∙ kept.sessions;
  works = λ place txn found. open_as h new place txn (ap (λ s. slice_index_or s place unused) same) (kept.works place txn found);
}

-- something changes for one session
pub state_with : (h new : History) (works : Works) (place : ℕ) (work : Option Transaction) → IsState (with_works h works) →
    place < length works → length new.sessions ≡ 64 →
    ((k : ℕ) → k ≢ place → kept_session new k ≡ kept_session h k) → ((txn : Transaction) → work ≡ Some txn → IsOpen new place txn) →
    IsState (with_works new (slice_set works place work))
state_with h new works place work kept inside sessions others own = record {
  few = subst (λ n. n ≤ 64) (sym (length-set works place work)) kept.few;
  sessions = sessions;
  works = λ k txn found. elim (cases_eq k place) [
    | inl same ↦ subst (λ q. IsOpen new q txn) (sym same) (own txn (sym (get_or-set_at works place k work None same inside) ∙ found))
    | inr other ↦
        open_as _ new k txn (others k other) (kept.works k txn (sym (get_or-set_other works place k work None other) ∙ found))
  ];
}

-- ---- the start

abbrev no_works : ℕ → Works
no_works n = replicate n None

none_open : (n k : ℕ) → slice_index_or (no_works n) k None ≡ None
none_open zero k = refl
none_open (suc n) zero = refl
none_open (suc n) (suc k) = none_open n k

pub started : (base : Layout) (n limit : ℕ) → n ≤ 64 → IsState (machine.start base n limit)
started base n limit few = record {
  few = let len : length (no_works n) ≡ n = length-replicate n None in omega (arith, len, few);
  sessions = refl;
  works = λ place txn found. absurd (let none = none_open n place in cc);
}

-- ---- open

-- a call of two tests: the first one refuses and leaves h, the second one leaves i, and an accepted call leaves j
abbrev tested : {T : Type 0} → Bool → Bool → BookFault → BookFault → T → History → History → History → Result T BookFault × History
tested first second e f x h i j = cond first (Err e, h) (cond second (Err f, i) (Ok x, j))

accepted : {T : Type 0} (first second : Bool) (e f : BookFault) (x y : T) (h i j : History) →
    Ok y ≡ (tested first second e f x h i j).0 → (y ≡ x) × ((tested first second e f x h i j).1 ≡ j)
accepted true second e f x y h i j is = absurd cc
accepted false true e f x y h i j is = absurd cc
accepted false false e f x y h i j is = (cc, refl)

refused_sessions : {T : Type 0} (first second : Bool) (e f fault : BookFault) (x : T) (h i j : History) → i.sessions ≡ h.sessions →
    Err fault ≡ (tested first second e f x h i j).0 → (tested first second e f x h i j).1.sessions ≡ h.sessions
refused_sessions true second e f fault x h i j same is = refl
refused_sessions false true e f fault x h i j same is = same
refused_sessions false false e f fault x h i j same is = absurd cc

pub open_ok : (h new : History) (session : ℕ) (txn : Transaction) → held.Takes h (open_step h session) (Ok txn) new →
    (txn ≡ opening h session) × (new ≡ after_open h session)
open_ok h new session txn takes = elim takes [
  | inl exact ↦
      let both = accepted (is_log_full h) (nat_le 65535 (state_of h session).opens) LogFull SessionFull (opening h session) txn h
      (logged h session calls.Open (Refused SessionFull)) (after_open h session) exact.0 in
      (both.0, exact.1 ∙ both.1)
  | inr memory ↦ absurd cc
]

-- a refused open changes nothing for the sessions
pub open_err : (h new : History) (session : ℕ) (fault : BookFault) → held.Takes h (open_step h session) (Err fault) new →
    new.sessions ≡ h.sessions
open_err h new session fault takes = elim takes [
  | inl exact ↦ ap (λ (k : History). k.sessions) exact.1 ∙ refused_sessions (is_log_full h) (nat_le 65535 (state_of h session).opens)
      LogFull SessionFull fault (opening h session) h (logged h session calls.Open (Refused SessionFull)) (after_open h session) refl
      exact.0
  | inr memory ↦ ap (λ (k : History). k.sessions) memory.1
]

-- an accepted open leaves a state of a machine
pub opened : (h new : History) (works : Works) (session : ℕ) (txn : Transaction) → IsState (with_works h works) → 1 ≤ session →
    session ≤ length works → held.Takes h (open_step h session) (Ok txn) new →
    IsState (with_works new (slice_set works (session - 1) (Some txn)))
opened h new works session txn kept low high takes =
    let both = open_ok h new session txn takes in
    let few : length works ≤ 64 = kept.few in
    let sessions : length h.sessions ≡ 64 = kept.sessions in
    let number = (state_of h session).opens + 1 in
    let state : SessionState = record { opens = number; pending = Some (record { place = length h.log; snapshot = h.layout }) } in
    let there : kept_session new (session - 1) ≡ state = ap (λ (k : History). kept_session k (session - 1)) both.1
    ∙ get_or-set_at h.sessions (session - 1) (session - 1) state unused refl (omega arith) in
    state_with h new works (session - 1) (Some txn) kept (omega arith)
    (ap (λ (k : History). length k.sessions) both.1 ∙ length-set h.sessions (session - 1) state ∙ kept.sessions)
    (λ k other. ap (λ (x : History). kept_session x k) both.1 ∙ get_or-set_other h.sessions (session - 1) k state unused other)
    (λ t same.
    let is : t ≡ opening h session = cc in
    subst (λ (t : Transaction). IsOpen new (session - 1) t) (sym is) (record {
      session = omega arith;
      opens = ap (λ (s : SessionState). s.opens) there;
      pending = ap (λ (s : SessionState). s.pending) there;
    }))

-- ---- what a command keeps

-- a transaction of the same name, opened at the same place on the same snapshot
abbrev SameParts : Transaction → Transaction → Type 0
SameParts txn new = (new.id ≡ txn.id) × (new.opened ≡ txn.opened) × (new.snapshot ≡ txn.snapshot)

command_keeps : (txn : Transaction) (command : Command) (r : Result (Done × Run) CmdFault) → SameParts txn (after_effect txn command r)
command_keeps txn command (Ok next) = (refl, refl, refl)
command_keeps txn command (Err fault) = (refl, refl, refl)

-- a command keeps these parts, however it is answered
pub same_parts : (txn new : Transaction) (command : Command) (answer : Result Done CmdFault) →
    OnOk answer (new ≡ after_command txn command) → OnErr answer (new ≡ txn) → SameParts txn new
same_parts txn new command (Ok done) ok err =
    subst (SameParts txn) (sym ok) (command_keeps txn command (effect txn.id command (run_so_far txn)))
same_parts txn new command (Err fault) ok err = subst (SameParts txn) (sym err) (refl, refl, refl)

-- such a transaction is open too
open_like : (h : History) (place : ℕ) (txn new : Transaction) → SameParts txn new → IsOpen h place txn → IsOpen h place new
open_like h place txn new same is_open = record {
  session = ap (λ (t : TxnId). t.session) same.0 ∙ is_open.session;
  opens = is_open.opens ∙ ap (λ (t : TxnId). t.txn) (sym same.0);
  pending = is_open.pending ∙ ap Some (λ i. record { place = sym same.1 i; snapshot = sym same.2 i });
}

-- a command leaves a state of a machine
pub commanded : (h : History) (works : Works) (place : ℕ) (txn new : Transaction) → IsState (with_works h works) → place < length works →
    slice_index_or works place None ≡ Some txn →
    SameParts txn new → IsState (with_works h (slice_set works place (Some new)))
commanded h works place txn new kept inside found same =
    state_with h h works place (Some new) kept inside kept.sessions (λ k other. refl)
    (λ t e. let is : new ≡ t = cc in subst (IsOpen h place) is (open_like h place txn new same (kept.works place txn found)))

-- ---- the transaction that a session has open

pending_own : (state : SessionState) (txn : Transaction) → state.opens ≡ txn.id.txn →
    state.pending ≡ Some (record { place = txn.opened; snapshot = txn.snapshot }) →
    (nat_eq state.opens txn.id.txn && is_pending state.pending txn) ≡ true
pending_own state txn opens pending =
    let number : nat_eq txn.id.txn txn.id.txn ≡ true = grind (arith, nat_tests) in
    let place : nat_eq txn.opened txn.opened ≡ true = grind (arith, nat_tests) in
    rw (opens, pending, number, place) (agrees-itself txn.snapshot txn.footprint)

-- an open transaction is the book's own
pub own_of : (h : History) (place : ℕ) (txn : Transaction) → place < 64 → IsOpen h place txn → is_own h txn ≡ true
own_of h place txn few is_open =
    let session : txn.id.session ≡ place + 1 = is_open.session in
    let low : nat_le 1 txn.id.session ≡ true = grind (arith, nat_tests) in
    let high : nat_le txn.id.session 64 ≡ true = grind (arith, nat_tests) in
    let back : txn.id.session - 1 ≡ place = omega arith in
    let at : state_of h txn.id.session ≡ kept_session h place = ap (kept_session h) back in
    rw (low, high) (pending_own (state_of h txn.id.session) txn (ap (λ (s : SessionState). s.opens) at ∙ is_open.opens)
    (ap (λ (s : SessionState). s.pending) at ∙ is_open.pending))

-- the session is there, and this was taken out of its place
pub record Taken (w : Inside) (place session : ℕ) (txn : Transaction) : Type 0 where
  pub inside : place < length w.works.items
  pub few : place < 64
  pub found : slice_index_or w.works.items place None ≡ Some txn
  pub there : is_session (machine_state w) session ≡ true
  pub is_open : open_of (machine_state w) session ≡ Some txn

pub taken_out : (w : Inside) (now : State) → machine_state w ≡ now → IsMachine w → (session place : ℕ) → place ≡ session - 1 →
    is_session now session ≡ true → (x taken : Option Transaction) (txn : Transaction) → x ≡ slice_index_or w.works.items place x →
    taken ≡ x → taken ≡ Some txn → Taken w place session txn
taken_out w now view kept session place is_place there x taken txn at is_x is =
    let s = machine_state w in
    let few = kept.few in
    let here : is_session s session ≡ true = ap (λ t. is_session t session) view ∙ there in
    let parts = and_parts (nat_le 1 session) (nat_le session (length w.works.items)) here in
    let low = parts.0 in
    let high = parts.1 in
    let inside : place < length w.works.items = grind (arith, nat_tests) in
    let a = slice_get-get_or w.works.items place None inside in
    let b = slice_get-get_or w.works.items place x inside in
    let found : slice_index_or w.works.items place None ≡ Some txn = cc in
    record {
      inside = inside;
      few = omega arith;
      found = found;
      there = here;
      is_open = ap (λ k. slice_index_or w.works.items k None) (sym is_place) ∙ found;
    }

-- what was taken out of its place and is put back
pub put_back : (works : Works) (place : ℕ) (work : Option Transaction) → slice_index_or works place None ≡ work →
    slice_set (slice_set works place None) place work ≡ works
put_back works place work found = set-set works place None work ∙ ap (slice_set works place) (sym found) ∙ set-get_or works place None

-- ---- commands

answered_plainly : (r : Result Done CmdFault) → is_certain (command_reply r) ≡ false
answered_plainly (Ok done) = refl
answered_plainly (Err fault) = refl

refused_same : (txn : Transaction) (command : Command) (r : Result (Done × Run) CmdFault) (fault : CmdFault) →
    Err fault ≡ done_of_effect r → after_effect txn command r ≡ txn
refused_same txn command (Ok next) fault h = absurd cc
refused_same txn command (Err other) fault h = refl

-- a command in a session's transaction is a step
pub ran_command : (s end : State) (session : ℕ) (command : Command) (txn new : Transaction) (answer : Result Done CmdFault) →
    is_session s session ≡ true → open_of s session ≡ Some txn →
    IsAnswer CommandMemory answer (answer_to txn command) → OnOk answer (new ≡ after_command txn command) → OnErr answer (new ≡ txn) →
    end ≡ with_work s s.history session (Some new) →
    TakesStep s session (Do command) (command_reply answer) end
ran_command s end session command txn new answer there found answered ok err is_end =
    rw (there, found) (by_answer answer answered ok err) where
      wanted : Reply × State
      wanted = (command_reply (answer_to txn command), with_work s s.history session (Some (after_command txn command)))

      same : new ≡ txn → end ≡ s
      same h = is_end ∙ ap (λ t. with_work s s.history session (Some t)) h
          ∙ ap (λ w. record { history = s.history; works = w }) (ap (slice_set s.works (session - 1)) (sym found)
          ∙ set-get_or s.works (session - 1) None)

      by_answer : (answer : Result Done CmdFault) → IsAnswer CommandMemory answer (answer_to txn command) →
          OnOk answer (new ≡ after_command txn command) → OnErr answer (new ≡ txn) →
          TakesOr (memory_reply (Do command)) s wanted (command_reply answer) end
      by_answer (Ok done) answered ok err = elim answered [
        | inl memory ↦ absurd cc
        | inr exact ↦ inl (ap command_reply exact, is_end ∙ ap (λ t. with_work s s.history session (Some t)) ok)
      ]
      by_answer (Err fault) answered ok err = elim answered [
        | inl memory ↦ inr (answered_plainly (answer_to txn command), ap command_reply memory, same err)
        | inr exact ↦ inl (
          ap command_reply exact,
          is_end ∙ ap (λ t. with_work s s.history session (Some t))
              (err ∙ sym (refused_same txn command (effect txn.id command (run_so_far txn)) fault exact)),
        )
      ]

-- ---- cancel

-- a session that has given up leaves a state of a machine
pub cancelled : (h : History) (works : Works) (place : ℕ) → IsState (with_works h works) → place < length works →
    IsState (with_works h (slice_set works place None))
cancelled h works place kept inside =
    state_with h h works place None kept inside kept.sessions (λ k other. refl) (λ t e. absurd cc)

-- ---- commit

-- what the commit of a session's own transaction leaves: of the other sessions the book keeps the same, and what is handed
-- back is open as before
pub record Left (h new : History) (place : ℕ) (txn : Transaction) (work : Option Transaction) : Type 0 where
  pub sessions : length new.sessions ≡ length h.sessions
  pub others : (k : ℕ) → k ≢ place → kept_session new k ≡ kept_session h k
  pub own : (t : Transaction) → work ≡ Some t → IsOpen new place t

unchanged : (h new : History) (place : ℕ) (txn : Transaction) → IsOpen h place txn → new ≡ h → Left h new place txn (Some txn)
unchanged h new place txn is_open same = record {
  sessions = ap (λ (k : History). length k.sessions) same;
  others = λ k other. ap (λ (x : History). kept_session x k) same;
  own = λ t e. let is : txn ≡ t = cc in subst (λ (x : History). IsOpen x place t) (sym same) (subst (IsOpen h place) is is_open);
}

ended_so : (h new : History) (place : ℕ) (txn : Transaction) → IsOpen h place txn →
    new.sessions ≡ slice_set h.sessions (txn.id.session - 1) (ended_state (state_of h txn.id.session)) → Left h new place txn None
ended_so h new place txn is_open same =
    let session : txn.id.session ≡ place + 1 = is_open.session in
    let back : txn.id.session - 1 ≡ place = omega arith in
    let state = ended_state (state_of h txn.id.session) in
    record {
      sessions = ap length same ∙ length-set h.sessions (txn.id.session - 1) state;
      others = λ k other. ap (λ (xs : List SessionState). slice_index_or xs k unused) same
          ∙ get_or-set_other h.sessions (txn.id.session - 1) k state unused (λ e. other (e ∙ back));
      own = λ t e. absurd cc;
    }

-- a commit by the session, with what is then open in it
pub record Commits (s : State) (new : History) (session place : ℕ) (txn : Transaction) (result : Result TxnId CommitRefusal) : Type 0 where
  pub left : Left s.history new place txn (work_of result)
  pub own : reply_of result ≢ Fault (Book Foreign)
  pub step : TakesOr (Fault (Book NoMemory)) s (machine.commit_outcome s session txn (commit_step s.history txn)) (reply_of result)
      (with_work s new session (work_of result))

-- with its transaction in its place the session is as it was
stays : (s : State) (new : History) (session : ℕ) (txn : Transaction) → open_of s session ≡ Some txn → new ≡ s.history →
    with_work s new session (Some txn) ≡ s
stays s new session txn found same =
    ap (λ h. with_work s h session (Some txn)) same
    ∙ ap (λ w. record { history = s.history; works = w }) (ap (slice_set s.works (session - 1)) (sym found)
    ∙ set-get_or s.works (session - 1) None)

pub commits_so : (s : State) (new : History) (session place : ℕ) (txn : Transaction) (result : Result TxnId CommitRefusal) →
    open_of s session ≡ Some txn → place < 64 → IsOpen s.history place txn →
    TakesWork s.history txn (commit_step s.history txn) result new →
    (is_log_full s.history ≡ true → result ≡ Err (refused LogFull txn)) → Commits s new session place txn result
commits_so s new session place txn result found few is_open takes full = by_log (is_log_full s.history) refl where
  h : History
  h = s.history

  out : commit_step h txn ≡ commit_step h txn → new ≡ h → result ≡ Err (refused NoMemory txn) →
      is_certain (machine.commit_outcome s session txn (commit_step h txn)).0 ≡ false → Commits s new session place txn result
  out same kept is plain = subst (Commits s new session place txn) (sym is) (record {
    left = unchanged h new place txn is_open kept;
    own = λ e. cc;
    step = inr (plain, refl, stays s new session txn found kept);
  })

  by_stale : is_log_full h ≡ false → (stale : Option TxnId) → stale_by h.entries txn.footprint (drop (txn.opened + 1) h.log) ≡ stale →
      Commits s new session place txn result
  by_stale room None fresh =
      let step : commit_step h txn ≡ (Ok txn.id, book.after_commit h txn) = rw (room, own_of h place txn few is_open, fresh) refl in
      elim takes [
        | inl exact ↦
            let is : result ≡ Ok txn.id = exact.0 ∙ ap (λ (w : Result TxnId BookFault × History). with_answer w.0 txn) step in
            let after : new ≡ book.after_commit h txn = exact.1 ∙ ap (λ (w : Result TxnId BookFault × History). w.1) step in
            subst (Commits s new session place txn) (sym is) (record {
              left = ended_so h new place txn is_open (ap (λ (k : History). k.sessions) after);
              own = λ e. cc;
              step = rw step (inl (refl, ap (λ k. with_work s k session None) after));
            })
        | inr memory ↦ out refl memory.1 memory.0 (rw step refl)
      ]
  by_stale room (Some other) stale =
      let step : commit_step h txn ≡ (Err (Stale other), after_stale h txn other) = rw (room, own_of h place txn few is_open, stale) refl in
      elim takes [
        | inl exact ↦
            let is : result ≡ Err (refused (Stale other) txn) =
            exact.0 ∙ ap (λ (w : Result TxnId BookFault × History). with_answer w.0 txn) step in
            let after : new ≡ after_stale h txn other = exact.1 ∙ ap (λ (w : Result TxnId BookFault × History). w.1) step in
            subst (Commits s new session place txn) (sym is) (record {
              left = ended_so h new place txn is_open (ap (λ (k : History). k.sessions) after);
              own = λ e. cc;
              step = rw step (inl (refl, ap (λ k. with_work s k session None) after));
            })
        | inr memory ↦ out refl memory.1 memory.0 (rw step refl)
      ]

  by_log : (b : Bool) → is_log_full h ≡ b → Commits s new session place txn result
  by_log true e =
      let step : commit_step h txn ≡ (Err LogFull, h) = rw e refl in
      let kept : new ≡ h = elim takes [
        | inl exact ↦ exact.1 ∙ ap (λ (w : Result TxnId BookFault × History). w.1) step
        | inr memory ↦ memory.1
      ] in
      subst (Commits s new session place txn) (sym (full e)) (record {
        left = unchanged h new place txn is_open kept;
        own = λ e. cc;
        step = rw step (inl (refl, ap (λ k. with_work s k session (Some txn)) kept));
      })
  by_log false e = by_stale e (stale_by h.entries txn.footprint (drop (txn.opened + 1) h.log)) refl

-- what is left is a state of a machine
pub left_state : (h new : History) (works : Works) (place : ℕ) (txn : Transaction) (work : Option Transaction)
    → IsState (with_works h works) →
    place < length works → Left h new place txn work → IsState (with_works new (slice_set works place work))
left_state h new works place txn work kept inside left =
    state_with h new works place work kept inside (left.sessions ∙ kept.sessions) left.others left.own

-- ---- undo and redo

unless_keeps : (h new : History) (session : ℕ) (call : Call) (after : History) (full : Bool) (fault : Option BookFault)
    (result : Result (Unit {0}) BookFault) → after.sessions ≡ h.sessions →
    held.Takes h (cond {A = Result (Unit {0}) BookFault × History} full (Err LogFull, h) (unless fault h session call after)) result new →
    new.sessions ≡ h.sessions
unless_keeps h new session call after full fault result same takes = elim takes [
  | inl exact ↦ ap (λ (k : History). k.sessions) exact.1 ∙ kept full fault
  | inr memory ↦ ap (λ (k : History). k.sessions) memory.1
] where
  kept : (full : Bool) (fault : Option BookFault) →
      (cond {A = Result (Unit {0}) BookFault × History} full (Err LogFull, h) (unless fault h session call after)).1.sessions ≡ h.sessions
  kept true fault = refl
  kept false (Some fault) = refl
  kept false None = same

-- neither changes anything for the sessions
pub undo_keeps : (h new : History) (session : ℕ) (txn : TxnId) (result : Result (Unit {0}) BookFault) →
    held.Takes h (undo_step h session txn) result new → new.sessions ≡ h.sessions
undo_keeps h new session txn result takes =
    unless_keeps h new session (calls.Undo txn) (after_undo h session txn) (is_log_full h) (undo_refusal h txn) result refl takes

pub redo_keeps : (h new : History) (session : ℕ) (txn : TxnId) (result : Result (Unit {0}) BookFault) →
    held.Takes h (redo_step h session txn) result new → new.sessions ≡ h.sessions
redo_keeps h new session txn result takes =
    unless_keeps h new session (calls.Redo txn) (after_redo h session txn) (is_log_full h) (redo_refusal h txn) result refl takes

-- ---- many steps

memory_told : (step : Step) → is_memory (memory_reply step) ≡ true
memory_told Open = refl
memory_told (Do command) = refl
memory_told Commit = refl
memory_told Cancel = refl
memory_told (Undo txn) = refl
memory_told (Redo txn) = refl

-- a step that isn't out of memory is answered as it is to be
took : (s new : State) (session : ℕ) (step : Step) (reply : Reply) → TakesStep s session step reply new → is_memory reply ≡ false →
    (reply ≡ (step_outcome s session step).0) × (new ≡ (step_outcome s session step).1)
took s new session step reply takes plain = elim takes [
  | inl exact ↦ exact
  | inr memory ↦
      let told = sym plain ∙ ap is_memory memory.1 ∙ memory_told step in
      absurd cc
]

-- where no step is out of memory, the replies and the state are those of the definition
pub ran_all : (steps : List (ℕ × Step)) (replies : List Reply) (old new : State) → Ran old steps replies new →
    list_any is_memory replies ≡ false →
    (replies ≡ (after_steps old steps).0) × (new ≡ (after_steps old steps).1)
ran_all [] [] old new ran plain = (refl, ran)
ran_all [] (reply ∷ replies) old new ran plain = absurd ran
ran_all (step ∷ steps) [] old new ran plain = absurd ran
ran_all (step ∷ steps) (reply ∷ replies) old new ran plain =
    let parts = or_parts (is_memory reply) (list_any is_memory replies) plain in
    let first = took old ran.0 step.0 step.1 reply ran.1 parts.0 in
    let more = ran_all steps replies (step_outcome old step.0 step.1).1 new (subst (λ s. Ran s steps replies new) first.1 ran.2) parts.1 in
    (ap (λ r. r ∷ replies) first.0 ∙ ap (λ rs. (step_outcome old step.0 step.1).0 ∷ rs) more.0, more.1)
