-- Wherever steps have come, an undo takes a transaction out, and a redo at once puts it back.
use Rattle.std.proofs.Common.{◌≡◌, ℕ, Bool, true, false, cond, List, [], ◌∷◌, Option, None, Some, Err, refl, inl, inr}
use Rattle.std.proofs.Common.{sym, ap, subst, ◌∙◌, ◌&&◌, ◌+◌, nat_le}
use Rattle.std.specs.List.{AllByRecursion}
use Rattle.std.specs.Prelude.{Ok, drop, not}
use Rattle.lay_layouts.specs.Layout.{Layout}
use Rattle.txn_commands.specs.declared.command.Command.{Command}
use Rattle.txn_commands.specs.declared.command.TxnId.{TxnId}
use Rattle.txn_commands.specs.Records.{Records, applied}
use Rattle.txn_commands.specs.Transactions.{Transaction}
use Rattle.undo_rules.specs.declared.log.Answer.TheVariants.{Refused}
use Rattle.undo_rules.specs.declared.log.BookFault.{BookFault}
use Rattle.undo_rules.specs.declared.log.BookFault.TheVariants.{Foreign, LogFull, NoMemory as BookMemory, NoTxn, NotLive, SessionFull}
use Rattle.undo_rules.specs.declared.log.Call.TheVariants as call
use Rattle.undo_rules.specs.Books.{History, IsHistory}
use Rattle.undo_rules.specs.Links.{Entry, first_reader}
use Rattle.txn_commands.specs.Meets.{meets_touched}
use Rattle.undo_rules.specs.Steps as book
use Rattle.undo_rules.specs.Steps.{Found, after_redo, after_undo, commit_unless, depends, found, found_behind, is_log_full, is_own}
use Rattle.undo_rules.specs.Steps.{logged, opening, redo_refusal, redo_refusal_at, stale_by, state_of, undo_refusal, undo_refusal_at}
use Rattle.undo_rules.specs.Steps.{unless, with_mark}
use Rattle.undo_book.specs.Replays.{replay}
use Rattle.undo_book.proofs.UndoLemmas.{Undoes, redoes, undoes}
use Rattle.session_steps.specs.declared.Reply.{Reply}
use Rattle.session_steps.specs.declared.Reply.TheVariants.{Fault, Undone}
use Rattle.session_steps.specs.declared.Step.{Step}
use Rattle.session_steps.specs.declared.Step.TheVariants.{Cancel, Commit, Do, Open, Redo, Undo}
use Rattle.session_steps.specs.declared.StepFault.TheVariants.{Book, NoSession}
use Rattle.session_core.specs.Machine.{Ran, State, TakesStep, after_steps, cancel_in, commit_in, commit_outcome, is_session, open_outcome}
use Rattle.session_core.specs.Machine.{open_in, open_of, redo_in, run_in, start, step_in, step_outcome, undo_in}
use Rattle.session_laws.specs.Undoing.{AreIdle, IsPutBack, IsTakenOut, IsUnread, MachinesTakeOut, ProgramsTakeOut}
use Rattle.session_laws.specs.Undoing.{RedosAtOncePutBack, is_change}
use Rattle.session_laws.proofs.Runs.{all_steps, begins, goes_on}

-- ---- what an idle step leaves

-- the layout and the transactions are the same
pub record IsSame (old new : History) : Type 0 where
  pub layout : new.layout ≡ old.layout
  pub entries : new.entries ≡ old.entries

pub same : (h : History) → IsSame h h
same h = record { layout = refl; entries = refl }

pub and_so : (a b c : History) → IsSame a b → IsSame b c → IsSame a c
and_so a b c first next = record { layout = next.layout ∙ first.layout; entries = next.entries ∙ first.entries }

module _ (s : State) (session : ℕ) where
  abbrev h : History
  h = s.history

  opens : (work : Option Transaction) → IsSame h (open_in s session work).1.history
  opens (Some txn) = same h
  opens None = by (is_log_full h) (nat_le 65535 (state_of h session).opens) where
    by : (b c : Bool) → IsSame h (open_outcome s session (cond b (Err LogFull, h)
        (cond c (Err SessionFull, logged h session call.Open (Refused SessionFull))
        (Ok (opening h session), book.after_open h session)))).1.history
    by true c = record { layout = refl; entries = refl }
    by false true = record { layout = refl; entries = refl }
    by false false = record { layout = refl; entries = refl }

  runs : (command : Command) (work : Option Transaction) → IsSame h (run_in s session command work).1.history
  runs command None = same h
  runs command (Some txn) = same h

  cancels : (work : Option Transaction) → IsSame h (cancel_in s session work).1.history
  cancels None = same h
  cancels (Some txn) = same h

  commits : (work : Option Transaction) → is_change (commit_in s session work).0 ≡ false → IsSame h (commit_in s session work).1.history
  commits None idle = same h
  commits (Some txn) idle = by (is_log_full h) (is_own h txn) (stale_by h.entries txn.footprint (drop (txn.opened + 1) h.log)) idle where
    by : (b c : Bool) (stale : Option TxnId) →
        let to = commit_outcome s session txn (cond b (Err LogFull, h) (cond (not c) (Err Foreign, h) (commit_unless stale h txn))) in
        is_change to.0 ≡ false → IsSame h to.1.history
    by true c stale idle = record { layout = refl; entries = refl }
    by false false stale idle = record { layout = refl; entries = refl }
    by false true None idle = absurd cc
    by false true (Some other) idle = record { layout = refl; entries = refl }

  undone : (txn : TxnId) → is_change (step_in s session (Undo txn)).0 ≡ false → IsSame h (step_in s session (Undo txn)).1.history
  undone txn = by (is_log_full h) (undo_refusal h txn) where
    by : (b : Bool) (fault : Option BookFault) →
        let to = undo_in s (cond b (Err LogFull, h) (unless fault h session (call.Undo txn) (after_undo h session txn))) in
        is_change to.0 ≡ false → IsSame h to.1.history
    by true fault idle = record { layout = refl; entries = refl }
    by false None idle = absurd cc
    by false (Some fault) idle = record { layout = refl; entries = refl }

  redone : (txn : TxnId) → is_change (step_in s session (Redo txn)).0 ≡ false → IsSame h (step_in s session (Redo txn)).1.history
  redone txn = by (is_log_full h) (redo_refusal h txn) where
    by : (b : Bool) (fault : Option BookFault) →
        let to = redo_in s (cond b (Err LogFull, h) (unless fault h session (call.Redo txn) (after_redo h session txn))) in
        is_change to.0 ≡ false → IsSame h to.1.history
    by true fault idle = record { layout = refl; entries = refl }
    by false None idle = absurd cc
    by false (Some fault) idle = record { layout = refl; entries = refl }

  stepped : (step : Step) → is_change (step_in s session step).0 ≡ false → IsSame h (step_in s session step).1.history
  stepped Open idle = opens (open_of s session)
  stepped (Do command) idle = runs command (open_of s session)
  stepped Commit idle = commits (open_of s session) idle
  stepped Cancel idle = cancels (open_of s session)
  stepped (Undo txn) idle = undone txn idle
  stepped (Redo txn) idle = redone txn idle

idle_step : (s : State) (session : ℕ) (step : Step) → is_change (step_outcome s session step).0 ≡ false
    → IsSame s.history (step_outcome s session step).1.history
idle_step s session step = by (is_session s session) where
  by : (b : Bool) → let to = cond b (step_in s session step) (Fault NoSession, s) in is_change to.0 ≡ false → IsSame s.history to.1.history
  by true idle = stepped s session step idle
  by false idle = same s.history

goes_idle : (steps : List (ℕ × Step)) (replies : List Reply) (old new : State) → Ran old steps replies new → AreIdle replies
    → IsSame old.history new.history
goes_idle [] [] old new ran idle = subst (λ (x : State). IsSame old.history x.history) (sym ran) (same old.history)
goes_idle [] (reply ∷ replies) old new ran idle = absurd ran
goes_idle (step ∷ steps) [] old new ran idle = absurd ran
goes_idle (step ∷ steps) (reply ∷ replies) old new (mid, takes, rest) (one, more) =
    and_so old.history mid.history new.history first (goes_idle steps replies mid new rest more) where
      first : IsSame old.history mid.history
      first = elim takes [
        | inl exact ↦ subst (λ (x : State). IsSame old.history x.history) (sym exact.1)
            (idle_step old step.0 step.1 (subst (λ (r : Reply). is_change r ≡ false) exact.0 one))
        | inr memory ↦ subst (λ (x : State). IsSame old.history x.history) (sym memory.2) (same old.history)
      ]

-- ---- an undo

none_reads : (writes : Records) (later : List Entry)
    → AllByRecursion (λ (e : Entry). e.live ≡ true → meets_touched writes e.footprint ≡ false) later → first_reader writes later ≡ None
none_reads writes [] all = refl
none_reads writes (e ∷ es) (one, all) = by e.live (meets_touched writes e.footprint) one (none_reads writes es all) where
  by : (live met : Bool) → (live ≡ true → met ≡ false) → first_reader writes es ≡ None
      → cond (live && met) (Some e.txn) (first_reader writes es) ≡ None
  by true true one rest = let both : true ≡ false = one refl in absurd cc
  by true false one rest = rest
  by false met one rest = rest

pub free_of : (h : History) (txn : TxnId) → IsUnread h txn → undo_refusal h txn ≡ None
free_of h txn is =
    ap undo_refusal_at is.there
    ∙ ap (λ b. cond b (depends (first_reader is.at.entry.writes is.at.later)) (Some NotLive)) is.live
    ∙ ap depends (none_reads is.at.entry.writes is.at.later is.unread)

taken : (s : State) → IsHistory s.history → (session : ℕ) (txn : TxnId) → is_session s session ≡ true → IsUnread s.history txn
    → (reply : Reply) (new : State) → reply ≡ (step_outcome s session (Undo txn)).0 → new ≡ (step_outcome s session (Undo txn)).1
    → IsTakenOut s.history txn reply new
taken s is session txn known unread reply new said left =
    by (is_session s session) (is_log_full s.history) (undo_refusal s.history txn) known refl free said left where
      h : History
      h = s.history

      free : undo_refusal h txn ≡ None
      free = free_of h txn unread

      without : replay (with_mark h false txn) ≡ Some (after_undo h session txn).layout
      without =
          let does = undoes h is session txn unread.at unread.there free in
          does.without ∙ ap Some (sym (ap (λ (x : History). x.layout) does.after))

      by : (b c : Bool) (fault : Option BookFault) → b ≡ true → is_log_full h ≡ c → fault ≡ None →
          let to = cond b (undo_in s (cond c (Err LogFull, h) (unless fault h session (call.Undo txn) (after_undo h session txn))))
          (Fault NoSession, s) in
          reply ≡ to.0 → new ≡ to.1 → IsTakenOut h txn reply new
      by false c fault known full none said left = absurd cc
      by true true fault known full none said left = inr (inr (said, full))
      by true false (Some fault) known full none said left = absurd cc
      by true false None known full none said left =
          inl (said, without ∙ ap Some (sym (ap (λ (x : State). x.history.layout) left)))

pub machine_takes_out : MachinesTakeOut
machine_takes_out base sessions limit steps replies s sound few ran session txn reply new known unread takes =
    let good = goes_on base steps replies (start base sessions limit) s (begins base sessions limit sound few) ran in
    elim takes [
      | inl exact ↦ taken s good.history session txn known unread reply new exact.0 exact.1
      | inr memory ↦ inr (inl memory.1)
    ]

pub program_takes_out : ProgramsTakeOut
program_takes_out base sessions limit steps sound few session txn known unread =
    let s : State = (after_steps (start base sessions limit) steps).1 in
    let good = all_steps base steps (start base sessions limit) (begins base sessions limit sound few) in
    let next = step_outcome s session (Undo txn) in
    taken s good.history session txn known unread next.0 next.1 refl refl

-- ---- a redo at once

record IsUndone (s : State) (session : ℕ) (txn : TxnId) (new : State) : Type 0 where
  free : undo_refusal s.history txn ≡ None
  after : new.history ≡ after_undo s.history session txn

not_undone : {A : Type 0} → Undone ≡ Fault (Book BookMemory) → A
not_undone h = absurd cc

accepted : (s : State) (session : ℕ) (txn : TxnId) (new : State) → TakesStep s session (Undo txn) Undone new → IsUndone s session txn new
accepted s session txn new takes = elim takes [
  | inl exact ↦ by (is_session s session) (is_log_full s.history) (undo_refusal s.history txn) refl exact.0 exact.1
  | inr memory ↦ not_undone memory.1
] where
  h : History
  h = s.history

  by : (b c : Bool) (fault : Option BookFault) → undo_refusal h txn ≡ fault →
      let to = cond b (undo_in s (cond c (Err LogFull, h) (unless fault h session (call.Undo txn) (after_undo h session txn))))
      (Fault NoSession, s) in
      Undone ≡ to.0 → new ≡ to.1 → IsUndone s session txn new
  by false c fault told said left = absurd cc
  by true true fault told said left = absurd cc
  by true false (Some fault) told said left = absurd cc
  by true false None told said left = record { free = told; after = ap (λ (x : State). x.history) left }

-- the redo is free, and leads to this layout
pub record IsFree (h : History) (other : ℕ) (txn : TxnId) (layout : Layout) : Type 0 where
  pub free : redo_refusal h txn ≡ None
  pub to : (after_redo h other txn).layout ≡ layout

pub put_back : (h : History) → IsHistory h → (session other : ℕ) (txn : TxnId) → undo_refusal h txn ≡ None
    → (then : History) → IsHistory then
    → IsSame (after_undo h session txn) then → IsFree then other txn h.layout
put_back h is session other txn free then still idle = by (found h txn) refl where
  by : (at : Option Found) → found h txn ≡ at → IsFree then other txn h.layout
  by None there = let none : Some NoTxn ≡ None = sym (ap undo_refusal_at there) ∙ free in absurd cc
  by (Some at) there = again (undoes h is session txn at there free) (found (after_undo h session txn) txn) refl where
    next : History
    next = after_undo h session txn

    again : Undoes h session txn at → (back : Option Found) → found next txn ≡ back → IsFree then other txn h.layout
    again does None here = let none : Some NoTxn ≡ None = sym (ap redo_refusal_at here) ∙ does.again.free in absurd cc
    again does (Some back) here =
        let alike : found then txn ≡ found next txn = ap (λ es. found_behind [] es txn) idle.entries in
        let open_now : redo_refusal then txn ≡ None = ap redo_refusal_at alike ∙ does.again.free in
        let first = redoes next does.history session txn back here does.again.free in
        let now = redoes then still other txn back (alike ∙ here) open_now in
        record {
          free = open_now;
          to = ap (λ (x : History). x.layout) now.after ∙ ap (λ l. applied l back.entry.writes) idle.layout
              ∙ sym (ap (λ (x : History). x.layout) first.after) ∙ does.again.to;
        }

answered : (s : State) (other : ℕ) (txn : TxnId) (layout : Layout) → IsFree s.history other txn layout → is_session s other ≡ true
    → (reply : Reply) (last : State) → TakesStep s other (Redo txn) reply last → IsPutBack layout s.history reply last
answered s other txn layout is known reply last takes = elim takes [
  | inl exact ↦ by (is_session s other) (is_log_full s.history) (redo_refusal s.history txn) known refl is.free exact.0 exact.1
  | inr memory ↦ inr (inl memory.1)
] where
  h : History
  h = s.history

  by : (b c : Bool) (fault : Option BookFault) → b ≡ true → is_log_full h ≡ c → fault ≡ None →
      let to = cond b (redo_in s (cond c (Err LogFull, h) (unless fault h other (call.Redo txn) (after_redo h other txn))))
      (Fault NoSession, s) in
      reply ≡ to.0 → last ≡ to.1 → IsPutBack layout h reply last
  by false c fault known full none said left = absurd cc
  by true true fault known full none said left = inr (inr (said, full))
  by true false (Some fault) known full none said left = absurd cc
  by true false None known full none said left = inl (said, ap (λ (x : State). x.history.layout) left ∙ is.to)

pub at_once : RedosAtOncePutBack
at_once base sessions limit steps replies s sound few ran session txn undone takes between said then during idle other reply last known
    redoing =
    let good = goes_on base steps replies (start base sessions limit) s (begins base sessions limit sound few) ran in
    let does = accepted s session txn undone takes in
    let undone_good = goes_on base ((session, Undo txn) ∷ []) (Undone ∷ []) s undone good (undone, takes, refl) in
    let then_good = goes_on base between said undone then undone_good during in
    let still : IsSame (after_undo s.history session txn) then.history =
    subst (λ (x : History). IsSame x then.history) does.after (goes_idle between said undone then during idle) in
    let is = put_back s.history good.history session other txn does.free then.history then_good.history still in
    answered then other txn s.history.layout is known reply last redoing
