-- Commits are refused for the transactions that they name, or since the work isn't the history's own.
use Rattle.std.proofs.Common.{◌≡◌, ◌≤◌, ◌==◌, ◌+◌, ℕ, Bool, true, false, cond, ◌&&◌, List, [], ◌∷◌, Option, None, Some}
use Rattle.std.proofs.Common.{Result, Err, option_map, drop, refl, sym, ap, subst, ◌∙◌, arith}
use Rattle.std.specs.Prelude.{nat_le, not, unwrap_or}
use Rattle.std.proofs.lemmas.Bool.Decides.{Decides-eqb, nat_tests}
use Rattle.std.proofs.lemmas.Bool.{and_from, and_parts}
use Rattle.lay_point.proofs.Members.{contains, has}
use Rattle.txn_commands.specs.declared.command.TxnId.{TxnId}
use Rattle.txn_commands.specs.Compared.{agrees}
use Rattle.txn_commands.specs.Elements.{Touched}
use Rattle.txn_commands.specs.Transactions.{Transaction}
use Rattle.txn_marks.proofs.CompareLemmas.{agrees_on}
use Rattle.undo_rules.specs.declared.log.Answer.{Answer}
use Rattle.undo_rules.specs.declared.log.Answer.TheVariants.{Committed, Opened, Redone, Refused, Undone}
use Rattle.undo_rules.specs.declared.log.BookFault.{BookFault}
use Rattle.undo_rules.specs.declared.log.BookFault.TheVariants.{Depends, Foreign, LogFull, Moved, NoMemory, NoTxn, NotLive, SessionFull}
use Rattle.undo_rules.specs.declared.log.BookFault.TheVariants.{Stale, StillLive}
use Rattle.undo_rules.specs.declared.log.Call.{Call}
use Rattle.undo_rules.specs.declared.log.Call.TheVariants.{Commit, Open, Redo, Undo}
use Rattle.undo_rules.specs.declared.log.Logged.{Logged}
use Rattle.undo_rules.specs.Books.{History, Pending, changed_by, changed_in, entry_of, writes_of}
use Rattle.undo_rules.specs.Laws.{IsOwnWork}
use Rattle.undo_rules.specs.Links.{Entry}
use Rattle.undo_rules.specs.Steps.{commit_unless, is_log_full, is_own, is_pending, stale_by, stale_first, state_of, touching}
use Rattle.undo_laws.specs.Refusing.{CommitIsRefused, CommitsAreRefusedForCause, HasWritten, IsAccepted, IsCause}
use Rattle.undo_laws.specs.Refusing.{NamesTxn, IsStaleBy, NamesDiffer}
use Rattle.undo_laws.proofs.FirstLemmas.{first_by, first_found, first_is, told_false, told_not}
use Rattle.undo_laws.proofs.TouchLemmas.{touched_is, touched_so}
use Rattle.undo_laws.proofs.EntryLemmas.{entry_held, held_entry}
use Rattle.undo_laws.proofs.OwedLemmas.{agree_found}
use Rattle.undo_laws.proofs.UndoLemmas.{not_full, room}

-- ---- what a call changed

of_is : (c : Call) (a : Answer) (name : TxnId) → changed_by c a ≡ Some name → IsAccepted a × NamesTxn c name
of_is c (Opened number) name e = absurd cc
of_is c (Refused fault) name e = absurd cc
of_is Open Committed name e = absurd cc
of_is Open Undone name e = absurd cc
of_is Open Redone name e = absurd cc
of_is (Commit txn commands) Committed name e = let same : txn ≡ name = cc in (tt, same)
of_is (Commit txn commands) Undone name e = let same : txn ≡ name = cc in (tt, same)
of_is (Commit txn commands) Redone name e = let same : txn ≡ name = cc in (tt, same)
of_is (Undo txn) Committed name e = let same : txn ≡ name = cc in (tt, same)
of_is (Undo txn) Undone name e = let same : txn ≡ name = cc in (tt, same)
of_is (Undo txn) Redone name e = let same : txn ≡ name = cc in (tt, same)
of_is (Redo txn) Committed name e = let same : txn ≡ name = cc in (tt, same)
of_is (Redo txn) Undone name e = let same : txn ≡ name = cc in (tt, same)
of_is (Redo txn) Redone name e = let same : txn ≡ name = cc in (tt, same)

of_so : (c : Call) (a : Answer) (name : TxnId) → IsAccepted a × NamesTxn c name → changed_by c a ≡ Some name
of_so c (Opened number) name is = absurd is.0
of_so c (Refused fault) name is = absurd is.0
of_so Open Committed name is = absurd is.1
of_so Open Undone name is = absurd is.1
of_so Open Redone name is = absurd is.1
of_so (Commit txn commands) Committed name is = ap Some is.1
of_so (Commit txn commands) Undone name is = ap Some is.1
of_so (Commit txn commands) Redone name is = ap Some is.1
of_so (Undo txn) Committed name is = ap Some is.1
of_so (Undo txn) Undone name is = ap Some is.1
of_so (Undo txn) Redone name is = ap Some is.1
of_so (Redo txn) Committed name is = ap Some is.1
of_so (Redo txn) Undone name is = ap Some is.1
of_so (Redo txn) Redone name is = ap Some is.1

-- ---- what a transaction wrote

written_is : (h : History) (name : TxnId) (touched : Touched) (o : Option Entry) → entry_of name h.entries ≡ o
    → touching (option_map (λ (e : Entry). e.writes) o) touched ≡ true → HasWritten h name touched
written_is h name touched None is e = absurd cc
written_is h name touched (Some entry) is e =
    let held = entry_held h.entries name entry is in
    record {
      entry = entry;
      there = contains h.entries entry held.there;
      named = held.named;
      wrote = touched_is entry.writes touched e;
    }

written_so : (h : History) (name : TxnId) (touched : Touched) → NamesDiffer h → HasWritten h name touched
    → touching (writes_of h.entries name) touched ≡ true
written_so h name touched named is =
    let at : entry_of name h.entries ≡ Some is.entry =
    held_entry h.entries name is.entry named (has h.entries is.entry is.there) is.named in
    ap (λ o. touching (option_map (λ (e : Entry). e.writes) o) touched) at ∙ touched_so is.entry.writes touched is.wrote

-- ---- the first cause

abbrev test_of : List Entry → Touched → Option TxnId → Bool
test_of entries touched None = false
test_of entries touched (Some txn) = touching (writes_of entries txn) touched

abbrev stale_test : List Entry → Touched → Logged → Bool
stale_test entries touched logged = test_of entries touched (changed_in logged)

abbrev name_in : TxnId → Logged → TxnId
name_in other logged = unwrap_or (changed_in logged) other

stale_is_first : (entries : List Entry) (touched : Touched) (other : TxnId) (calls : List Logged)
    → stale_by entries touched calls ≡ first_by (stale_test entries touched) (name_in other) calls
stale_is_first entries touched other [] = refl
stale_is_first entries touched other (call ∷ calls) = by (changed_in call) (stale_is_first entries touched other calls) where
  by : (o : Option TxnId) → stale_by entries touched calls ≡ first_by (stale_test entries touched) (name_in other) calls
      → stale_first entries touched o (stale_by entries touched calls)
      ≡ cond (test_of entries touched o) (Some (unwrap_or o other)) (first_by (stale_test entries touched) (name_in other) calls)
  by None rest = rest
  by (Some txn) rest = ap (λ r. cond (touching (writes_of entries txn) touched) (Some txn) r) rest

cause_is : (h : History) (touched : Touched) (l : Logged) (other name : TxnId) → stale_test h.entries touched l ≡ true
    → name_in other l ≡ name → IsCause h touched l name
cause_is h touched l other name t n = by (changed_in l) refl t n where
  by : (o : Option TxnId) → changed_in l ≡ o → test_of h.entries touched o ≡ true → unwrap_or o other ≡ name → IsCause h touched l name
  by None is t n = absurd cc
  by (Some txn) is t n = (
    of_is l.call l.answer name (is ∙ ap Some n),
    subst (λ u. HasWritten h u touched) n (written_is h txn touched (entry_of txn h.entries) refl t),
  )

cause_test : (h : History) (touched : Touched) (l : Logged) (name : TxnId) → NamesDiffer h → IsCause h touched l name
    → stale_test h.entries touched l ≡ true
cause_test h touched l name named is =
    ap (test_of h.entries touched) (of_so l.call l.answer name is.0) ∙ written_so h name touched named is.1

cause_name : (h : History) (touched : Touched) (l : Logged) (other name : TxnId) → IsCause h touched l name → name_in other l ≡ name
cause_name h touched l other name is = ap (λ o. unwrap_or o other) (of_so l.call l.answer name is.0)

stale_is : (h : History) (txn : Transaction) (name : TxnId) → NamesDiffer h
    → stale_by h.entries txn.footprint (drop (txn.opened + 1) h.log) ≡ Some name → IsStaleBy h txn name
stale_is h txn name named e =
    let calls = drop (txn.opened + 1) h.log in
    let test = stale_test h.entries txn.footprint in
    let f = first_found test (name_in name) calls name (sym (stale_is_first h.entries txn.footprint name calls) ∙ e) in
    record {
      before = f.before;
      cause = f.it;
      rest = f.rest;
      place = f.place;
      is_cause = cause_is h txn.footprint f.it name name f.passed f.named;
      first = λ l other m.
          told_not (test l) (λ is. cause_test h txn.footprint l other named is) (f.first l (has f.before l m));
    }

stale_so : (h : History) (txn : Transaction) (name : TxnId) → NamesDiffer h → IsStaleBy h txn name
    → stale_by h.entries txn.footprint (drop (txn.opened + 1) h.log) ≡ Some name
stale_so h txn name named is =
    let calls = drop (txn.opened + 1) h.log in
    let test = stale_test h.entries txn.footprint in
    stale_is_first h.entries txn.footprint name calls ∙ first_is test (name_in name) calls name (record {
      before = is.before;
      it = is.cause;
      rest = is.rest;
      place = is.place;
      named = cause_name h txn.footprint is.cause name name is.is_cause;
      passed = cause_test h txn.footprint is.cause name named is.is_cause;
      first = λ l m.
          told_false (test l) (λ t. cause_is h txn.footprint l name (name_in name l) t refl)
          (λ c. is.first l (name_in name l) (contains is.before l m) c);
    })

-- ---- the history's own work

pending_is : (h : History) (txn : Transaction) (o : Option Pending) → (1 ≤ txn.id.session) → (txn.id.session ≤ 64)
    → (state_of h txn.id.session).opens ≡ txn.id.txn → (state_of h txn.id.session).pending ≡ o → is_pending o txn ≡ true → IsOwnWork h txn
pending_is h txn None low high last is e = absurd cc
pending_is h txn (Some waiting) low high last is e =
    let both = and_parts (waiting.place == txn.opened) (agrees waiting.snapshot txn.snapshot txn.footprint) e in
    record {
      low = low;
      high = high;
      last = last;
      waiting = waiting;
      waits = is;
      place = (Decides-eqb waiting.place txn.opened).0 both.0;
      agree = agrees_on waiting.snapshot txn.snapshot txn.footprint both.1;
    }

low_is : (n : ℕ) → nat_le 1 n ≡ true → 1 ≤ n
low_is n h = grind (arith, nat_tests)

high_is : (n : ℕ) → nat_le n 64 ≡ true → n ≤ 64
high_is n h = grind (arith, nat_tests)

low_so : (n : ℕ) → 1 ≤ n → nat_le 1 n ≡ true
low_so n h = grind (arith, nat_tests)

high_so : (n : ℕ) → n ≤ 64 → nat_le n 64 ≡ true
high_so n h = grind (arith, nat_tests)

own_is : (h : History) (txn : Transaction) → is_own h txn ≡ true → IsOwnWork h txn
own_is h txn e =
    let state = state_of h txn.id.session in
    let both = and_parts (nat_le 1 txn.id.session && nat_le txn.id.session 64)
    ((state.opens == txn.id.txn) && is_pending state.pending txn) e in
    let sessions = and_parts (nat_le 1 txn.id.session) (nat_le txn.id.session 64) both.0 in
    let work = and_parts (state.opens == txn.id.txn) (is_pending state.pending txn) both.1 in
    pending_is h txn state.pending (low_is txn.id.session sessions.0) (high_is txn.id.session sessions.1)
    ((Decides-eqb state.opens txn.id.txn).0 work.0) refl work.1

own_so : (h : History) (txn : Transaction) → IsOwnWork h txn → is_own h txn ≡ true
own_so h txn is =
    let state = state_of h txn.id.session in
    let session : (nat_le 1 txn.id.session && nat_le txn.id.session 64) ≡ true =
    and_from (nat_le 1 txn.id.session) (nat_le txn.id.session 64) (low_so txn.id.session is.low) (high_so txn.id.session is.high) in
    let place : (is.waiting.place == txn.opened) ≡ true = (Decides-eqb is.waiting.place txn.opened).1 is.place in
    let pending : is_pending state.pending txn ≡ true =
    ap (λ o. is_pending o txn) is.waits
    ∙ and_from (is.waiting.place == txn.opened) (agrees is.waiting.snapshot txn.snapshot txn.footprint) place
    (agree_found is.waiting.snapshot txn.snapshot txn.footprint is.agree) in
    let number : (state.opens == txn.id.txn) ≡ true = (Decides-eqb state.opens txn.id.txn).1 is.last in
    and_from (nat_le 1 txn.id.session && nat_le txn.id.session 64) ((state.opens == txn.id.txn) && is_pending state.pending txn) session
    (and_from (state.opens == txn.id.txn) (is_pending state.pending txn) number pending)

-- ---- commit

abbrev ended : History → Transaction → Bool → Bool → Option TxnId → Result TxnId BookFault
ended h txn full own stale = (cond full (Err LogFull, h) (cond (not own) (Err Foreign, h) (commit_unless stale h txn))).0

-- a refusal of a commit, by the test that it comes from
abbrev IsRefusal : Bool → Bool → Option TxnId → BookFault → Type 0
IsRefusal full own stale NoTxn = ⊥
IsRefusal full own stale NotLive = ⊥
IsRefusal full own stale StillLive = ⊥
IsRefusal full own stale (Depends txn) = ⊥
IsRefusal full own stale (Moved txn) = ⊥
IsRefusal full own stale (Stale txn) = (full ≡ false) × (own ≡ true) × (stale ≡ Some txn)
IsRefusal full own stale LogFull = full ≡ true
IsRefusal full own stale NoMemory = ⊥
IsRefusal full own stale Foreign = (full ≡ false) × (own ≡ false)
IsRefusal full own stale SessionFull = ⊥

refused_by : (h : History) (txn : Transaction) (full own : Bool) (stale : Option TxnId) (fault : BookFault)
    → ended h txn full own stale ≡ Err fault → IsRefusal full own stale fault
refused_by h txn true own stale fault e =
    let same : LogFull ≡ fault = cc in subst (IsRefusal true own stale) same refl
refused_by h txn false false stale fault e =
    let same : Foreign ≡ fault = cc in subst (IsRefusal false false stale) same (refl, refl)
refused_by h txn false true None fault e = absurd cc
refused_by h txn false true (Some other) fault e =
    let same : Stale other ≡ fault = cc in subst (IsRefusal false true (Some other)) same (refl, refl, refl)

module _ (h : History) (txn : Transaction) (other : TxnId) where
  abbrev stale_now : Option TxnId
  stale_now = stale_by h.entries txn.footprint (drop (txn.opened + 1) h.log)

  by_test : (fault : BookFault) → ended h txn (is_log_full h) (is_own h txn) stale_now ≡ Err fault
      → IsRefusal (is_log_full h) (is_own h txn) stale_now fault
  by_test fault e = refused_by h txn (is_log_full h) (is_own h txn) stale_now fault e

  commit_law : NamesDiffer h → CommitIsRefused h txn other
  commit_law named = record {
    stale = (
      (λ e.
          let r = by_test (Stale other) e in
          (room h r.0, own_is h txn r.1, stale_is h txn other named r.2)),
      (λ is.
          ap (λ b. ended h txn b (is_own h txn) stale_now) (not_full h is.0)
          ∙ ap (λ b. ended h txn false b stale_now) (own_so h txn is.1)
          ∙ ap (λ o. ended h txn false true o) (stale_so h txn other named is.2)),
    );
    foreign = (
      (λ e.
          let r = by_test Foreign e in
          (room h r.0, told_not (is_own h txn) (own_so h txn) r.1)),
      (λ is.
          ap (λ b. ended h txn b (is_own h txn) stale_now) (not_full h is.0)
          ∙ ap (λ b. ended h txn false b stale_now) (told_false (is_own h txn) (own_is h txn) is.1)),
    );
    not_depends = λ e. by_test (Depends other) e;
    not_moved = λ e. by_test (Moved other) e;
  }

pub commits_law : CommitsAreRefusedForCause
commits_law h txn other named = commit_law h txn other named
