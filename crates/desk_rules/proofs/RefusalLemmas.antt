-- Refusals by the book behind a lock, and a log that hasn't the seat's calls.
use Rattle.std.proofs.Common.{◌≡◌, ◌≢◌, ◌⊎◌, ℕ, ◌+◌, ◌-◌, ◌<◌, ◌≤◌, Bool, true, false, cond, not, ◌==◌, ◌&&◌, List, [], ◌∷◌, length}
use Rattle.std.proofs.Common.{Option, None, Some, Result, Ok, Err, IfErr, refl, ap, sym, ◌∙◌, subst, inl, inr, arith, drop, nat_le}
use Rattle.std.proofs.Common.{slice_index}
use Rattle.std.proofs.lemmas.Bool.{cases_Bool}
use Rattle.std.proofs.lemmas.Bool.Decides.{nat_tests}
use Rattle.txn_commands.specs.declared.command.TxnId.{TxnId}
use Rattle.txn_commands.specs.Transactions.{Transaction}
use Rattle.undo_rules.specs.declared.log.Answer.TheVariants.{Refused}
use Rattle.undo_rules.specs.declared.log.BookFault.{BookFault}
use Rattle.undo_rules.specs.declared.log.BookFault.TheVariants.{Foreign, LogFull, NoMemory, SessionFull, Stale}
use Rattle.undo_rules.specs.declared.log.Call.{Call}
use Rattle.undo_rules.specs.declared.log.Call.TheVariants.{Open, Redo, Undo}
use Rattle.undo_rules.specs.declared.log.Logged.{Logged}
use Rattle.undo_rules.specs.Books.{History}
use Rattle.undo_rules.specs.Steps.{after_open, after_redo, after_undo, commit_step, commit_unless, found, is_log_full, is_own}
use Rattle.undo_rules.specs.Steps.{logged, opening, redo_refusal, stale_by, state_of, undo_refusal, unless}
use Rattle.desk_rules.specs.declared.seat_call.SeatCall.{SeatCall}
use Rattle.desk_rules.specs.Close.{Misses, missing_place}
use Rattle.desk_rules.specs.Guards.{Fits, Guard, IsGuard, has_last}
use Rattle.desk_rules.specs.Legal.{Desk, IsFrom, on_base, refusal}
use Rattle.desk_rules.specs.Refusals.{IsRefused, Refuses, fault_in, open_fault, redo_fault, undo_fault}
use Rattle.desk_rules.specs.Seats.{is_in, is_last_in, last_of, own_calls, place_or_zero}
use Rattle.desk_rules.proofs.CloseLemmas.{from_desk}
use Rattle.desk_rules.proofs.GuardLemmas.{Looked, counted}
use Rattle.desk_rules.proofs.LegalLemmas.{IsPlain, plain_redo, plain_undo}

-- ---- a refusal that isn't logged

-- a refusal that is logged is another than one that isn't
not_both : {A : Type 0} (fault : BookFault) → refusal fault ≡ None → refusal fault ≡ Some (Refused fault) → A
not_both fault none some = let e : None ≡ Some (Refused fault) = sym none ∙ some in absurd cc

-- of an undo or a redo it is that of a full log
turn_full : (full : Bool) (h after : History) (session : ℕ) (call : Call) (refused : Option BookFault) → IsPlain refused
    → (fault : BookFault) → fault_in (cond full (Err LogFull, h) (unless refused h session call after)).0 ≡ Some fault
    → refusal fault ≡ None → full ≡ true
turn_full true h after session call refused plain fault is none = refl
turn_full false h after session call None plain fault is none = absurd cc
turn_full false h after session call (Some f) plain fault is none =
    let same : f ≡ fault = cc in not_both fault none (subst (λ g. refusal g ≡ Some (Refused g)) same (plain f refl))

pub undo_full : (h : History) (session : ℕ) (txn : TxnId) (fault : BookFault) → undo_fault session txn h ≡ Some fault
    → refusal fault ≡ None → is_log_full h ≡ true
undo_full h session txn =
    turn_full (is_log_full h) h (after_undo h session txn) session (Undo txn) (undo_refusal h txn) (plain_undo (found h txn))

pub redo_full : (h : History) (session : ℕ) (txn : TxnId) (fault : BookFault) → redo_fault session txn h ≡ Some fault
    → refusal fault ≡ None → is_log_full h ≡ true
redo_full h session txn =
    turn_full (is_log_full h) h (after_redo h session txn) session (Redo txn) (redo_refusal h txn) (plain_redo (found h txn))

pub open_full : (h : History) (session : ℕ) (fault : BookFault) → open_fault session h ≡ Some fault → refusal fault ≡ None
    → is_log_full h ≡ true
open_full h session fault = by (is_log_full h) (nat_le 65535 (state_of h session).opens) where
  by : (full many : Bool) → fault_in (cond {A = Result Transaction BookFault × History} full (Err LogFull, h)
      (cond many (Err SessionFull, logged h session Open (Refused SessionFull)) (Ok (opening h session), after_open h session))).0
      ≡ Some fault → refusal fault ≡ None → full ≡ true
  by true many is none = refl
  by false true is none =
      let same : SessionFull ≡ fault = cc in not_both fault none (subst (λ g. refusal g ≡ Some (Refused g)) same refl)
  by false false is none = absurd cc

-- of a commit it is that, or that the work isn't the book's own
pub commit_full : (h : History) (work : Transaction) (fault : BookFault) → fault_in (commit_step h work).0 ≡ Some fault
    → refusal fault ≡ None → (is_log_full h ≡ true) ⊎ (fault ≡ Foreign)
commit_full h work fault = by (is_log_full h) (is_own h work) (stale_by h.entries work.footprint (drop (work.opened + 1) h.log)) where
  by : (full own : Bool) (stale : Option TxnId)
      → fault_in (cond full (Err LogFull, h) (cond (not own) (Err Foreign, h) (commit_unless stale h work))).0 ≡ Some fault
      → refusal fault ≡ None → (full ≡ true) ⊎ (fault ≡ Foreign)
  by true own stale is none = inl refl
  by false false stale is none = inr cc
  by false true None is none = absurd cc
  by false true (Some other) is none =
      let same : Stale other ≡ fault = cc in not_both fault none (subst (λ g. refusal g ≡ Some (Refused g)) same refl)

-- no open, undo or redo is foreign
turn_own : (full : Bool) (h after : History) (session : ℕ) (call : Call) (refused : Option BookFault) → IsPlain refused
    → fault_in (cond full (Err LogFull, h) (unless refused h session call after)).0 ≡ Some Foreign → ⊥
turn_own true h after session call refused plain is = absurd cc
turn_own false h after session call refused plain is =
    let full = turn_full false h after session call refused plain Foreign is refl in absurd cc

pub undo_own : (h : History) (session : ℕ) (txn : TxnId) → undo_fault session txn h ≡ Some Foreign → ⊥
undo_own h session txn =
    turn_own (is_log_full h) h (after_undo h session txn) session (Undo txn) (undo_refusal h txn) (plain_undo (found h txn))

pub redo_own : (h : History) (session : ℕ) (txn : TxnId) → redo_fault session txn h ≡ Some Foreign → ⊥
redo_own h session txn =
    turn_own (is_log_full h) h (after_redo h session txn) session (Redo txn) (redo_refusal h txn) (plain_redo (found h txn))

pub open_own : (h : History) (session : ℕ) → open_fault session h ≡ Some Foreign → ⊥
open_own h session = by (is_log_full h) (nat_le 65535 (state_of h session).opens) where
  by : (full many : Bool) → fault_in (cond {A = Result Transaction BookFault × History} full (Err LogFull, h)
      (cond many (Err SessionFull, logged h session Open (Refused SessionFull)) (Ok (opening h session), after_open h session))).0
      ≡ Some Foreign → ⊥
  by true many is = absurd cc
  by false true is = absurd cc
  by false false is = absurd cc

-- ---- refused calls behind the lock

pub refuses : (desk : Desk) (g : Guard) (session : ℕ) (own : List SeatCall) (step : History → Option BookFault) (fault : BookFault)
    → IsGuard g → Fits desk g → Looked g session own → step g.book ≡ Some fault → (refusal fault ≡ None → g.book.base ≡ desk.base)
    → Refuses desk (record { session = session; own = own }) step fault
refuses desk g session own step fault kept fits look is base = record {
  base = g.book.base;
  history = g.book;
  legal = from_desk (on_base g.book.base desk) g.sessions g.book kept.legal fits.0 refl fits.1;
  count = counted g session own kept look;
  last = look.last;
  refuses = is;
  own = base;
}

-- the answer of a call of the book that may be out of memory
pub refused_as : {T : Type 0} (desk : Desk) (g : Guard) (session : ℕ) (own : List SeatCall) (step : History → Option BookFault)
    (result wanted : Result T BookFault) → IsGuard g → Fits desk g → Looked g session own
    → (result ≡ Err NoMemory) ⊎ (result ≡ wanted) → fault_in wanted ≡ step g.book
    → ((fault : BookFault) → step g.book ≡ Some fault → refusal fault ≡ None → g.book.base ≡ desk.base)
    → IfErr result (λ fault. IsRefused desk (record { session = session; own = own }) step fault)
refused_as desk g session own step (Ok value) wanted kept fits look takes step-is base = tt
refused_as desk g session own step (Err fault) wanted kept fits look (inl out) step-is base = inl cc
refused_as desk g session own step (Err fault) wanted kept fits look (inr is) step-is base =
    let at : step g.book ≡ Some fault = sym step-is ∙ sym (ap fault_in is) in
    inr (refuses desk g session own step fault kept fits look at (base fault at))

-- ---- a log that hasn't the seat's calls

last_behind_there : (log : List Logged) (k : SeatCall) (ks : List SeatCall) → is_in log k ≡ true → missing_place log ks ≡ None
    → is_last_in log (last_of (k ∷ ks)) ≡ true
last_behind_there log k [] there_is none = there_is
last_behind_there log k (next ∷ ks) there_is none = elim (cases_Bool (is_in log next)) [
  | inl next_is ↦
      last_behind_there log next ks next_is (ap (λ b. cond b (missing_place log ks) (Some next.place)) (sym next_is) ∙ none)
  | inr next_isnt ↦
      let e : Some next.place ≡ None = ap (λ b. cond b (missing_place log ks) (Some next.place)) (sym next_isnt) ∙ none in absurd cc
]

last_there : (log : List Logged) (own : List SeatCall) → missing_place log own ≡ None → is_last_in log (last_of own) ≡ true
last_there log [] none = refl
last_there log (k ∷ ks) none = elim (cases_Bool (is_in log k)) [
  | inl there_is ↦
      last_behind_there log k ks there_is (ap (λ b. cond b (missing_place log ks) (Some k.place)) (sym there_is) ∙ none)
  | inr there_isnt ↦
      let e : Some k.place ≡ None = ap (λ b. cond b (missing_place log ks) (Some k.place)) (sym there_isnt) ∙ none in absurd cc
]

not_looked : (g : Guard) (session : ℕ) (own : List SeatCall) → IsGuard g → 1 ≤ session → session ≤ g.sessions
    → has_last g session own ≡ false → missing_place g.book.log own ≡ None → own_calls session g.book.log ≢ own
not_looked g session own kept low high looked none same =
    let below : session - 1 < g.sessions = omega (arith, low, high) in
    let is : session - 1 + 1 ≡ session = omega (arith, low) in
    let count : slice_index g.counts (session - 1) ≡ length own =
    subst (λ s. slice_index g.counts (session - 1) ≡ length (own_calls s g.book.log)) is (kept.counts.each (session - 1) below)
    ∙ ap length same in
    let from : nat_le 1 session ≡ true = grind (arith, nat_tests) in
    let to : nat_le session g.sessions ≡ true = grind (arith, nat_tests) in
    let counts : (slice_index g.counts (session - 1) == length own) ≡ true = grind (arith, nat_tests) in
    let last : is_last_in g.book.log (last_of own) ≡ true = last_there g.book.log own none in
    let all : has_last g session own ≡ true = λ i. (from i && to i) && (counts i && last i) in
    let e : false ≡ true = sym looked ∙ all in absurd cc

pub misses_first : (desk : Desk) (g : Guard) (session : ℕ) (own : List SeatCall) (place : ℕ) → IsFrom desk g.book
    → missing_place g.book.log own ≡ Some place → Misses desk (record { session = session; own = own }) place
misses_first desk g session own place legal named = record { history = g.book; legal = legal; missed = inl named }

pub misses_last : (desk : Desk) (g : Guard) (session : ℕ) (own : List SeatCall) (place : ℕ) → IsGuard g → IsFrom desk g.book
    → g.sessions ≡ desk.sessions → 1 ≤ session → has_last g session own ≡ false → missing_place g.book.log own ≡ None
    → place ≡ place_or_zero (last_of own) → Misses desk (record { session = session; own = own }) place
misses_last desk g session own place kept legal sessions low looked none named = record {
  history = g.book;
  legal = legal;
  missed = inr (
    none,
    named,
    elim (cases_Bool (nat_le session g.sessions)) [
      | inl within ↦
          let high : session ≤ g.sessions = grind (arith, nat_tests) in inr (not_looked g session own kept low high looked none)
      | inr without ↦
          let above : g.sessions < session = grind (arith, nat_tests) in inl (omega (arith, above, sessions))
    ],
  );
}
