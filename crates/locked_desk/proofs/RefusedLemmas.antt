-- Refusals by a book behind the lock, and as the desk's.
use Rattle.std.proofs.Common.{◌≡◌, ◌≢◌, ℕ, List, Bool, true, false, cond, Option, None, Some, Result, Ok, Err, IfErr}
use Rattle.std.proofs.Common.{refl, ap, sym, ◌∙◌, subst, inl, inr, ◌≤◌, ◌⊎◌, ◌==◌, arith}
use Rattle.txn_commands.specs.declared.command.TxnId.{TxnId}
use Rattle.txn_commands.specs.Transactions.{Transaction}
use Rattle.undo_rules.specs.declared.log.BookFault.{BookFault}
use Rattle.undo_rules.specs.declared.log.BookFault.TheVariants.{Foreign, NoMemory}
use Rattle.undo_rules.specs.Books.{History}
use Rattle.undo_rules.specs.Steps.{commit_step, is_log_full}
use Rattle.undo_book.specs.declared.commit.CommitRefusal.{CommitRefusal}
use Rattle.undo_book.specs.Calls.{Takes, TakesWork, handed_back, refused, with_refused_work}
use Rattle.desk_rules.specs.Legal.{Desk, IsFrom, refusal}
use Rattle.desk_rules.specs.Refusals.{IsRefused, fault_in}
use Rattle.desk_rules.proofs.RefusalLemmas.{commit_full, misses_first, misses_last, redo_full, refuses, undo_full}
use Rattle.desk_rules.specs.Close.{missing_place}
use Rattle.desk_rules.specs.Guards.{Fits, Guard, IsGuard, has_last}
use Rattle.desk_rules.proofs.GuardLemmas.{Looked}
use Rattle.std.proofs.lemmas.Bool.Decides.{nat_tests}
use Rattle.desk_rules.specs.declared.seat_call.SeatCall.{SeatCall}
use Rattle.desk_rules.specs.Seats.{Seat, last_of, place_or_zero}
use Rattle.locked_desk.specs.declared.fault.DeskFault.{DeskFault}
use Rattle.locked_desk.specs.declared.fault.DeskFault.TheVariants.{Differs}
use Rattle.locked_desk.specs.declared.way.Way.{Way}
use Rattle.locked_desk.specs.declared.way.Way.TheVariants.{Back, Forth}
use Rattle.locked_desk.specs.Ways.{fault_for, given_for}
use Rattle.locked_desk.specs.Desks.{IsRefusedAs, IsShownFault, commit_fault, full_or_foreign, other_fault, by_book}
use Rattle.locked_desk.specs.Desks.{commit_by_book}

-- a call of the book is answered as it is to be, or out of memory
pub taken : {T : Type 0} {old new : History} {wanted : Result T BookFault × History} {result : Result T BookFault}
    → Takes old wanted result new → (result ≡ Err NoMemory) ⊎ (result ≡ wanted.0)
taken (inl takes) = inr takes.0
taken (inr fails) = inl fails.0

pub taken_work : (old new : History) (work : Transaction) (wanted : Result TxnId BookFault × History) (result : Result TxnId CommitRefusal)
    → TakesWork old work wanted result new → (result ≡ Err (refused NoMemory work)) ⊎ (result ≡ with_refused_work wanted.0 work)
taken_work old new work wanted result (inl takes) = inr takes.0
taken_work old new work wanted result (inr fails) = inl fails.0

-- ---- undo and redo

pub fault_given : (way : Way) (session : ℕ) (txn : TxnId) (h : History)
    → fault_in (given_for way session txn h) ≡ fault_for way session txn h
fault_given Back session txn h = refl
fault_given Forth session txn h = refl

pub way_full : (way : Way) (h : History) (session : ℕ) (txn : TxnId) (fault : BookFault) → fault_for way session txn h ≡ Some fault
    → refusal fault ≡ None → is_log_full h ≡ true
way_full Back h session txn = undo_full h session txn
way_full Forth h session txn = redo_full h session txn

-- ---- as the desk's

-- a refusal by the book as the desk's
pub refused_as_desk : {T : Type 0} {old : Seat} (origin desk : Desk) (session : ℕ) (own given : List SeatCall)
    (step : ℕ → History → Option BookFault) (result : Result T BookFault) → origin ≡ desk → record { session = session; own = own } ≡ old
    → given ≡ own
    → IfErr result (λ fault. IsRefused origin (record { session = session; own = given }) (step session) fault)
    → IfErr (by_book result) (λ fault. IsRefusedAs desk old (step old.session) fault)
refused_as_desk origin desk session own given step (Ok value) origin-is old-is given-is told = tt
refused_as_desk {T} {old} origin desk session own given step (Err fault) origin-is old-is given-is told =
    subst (λ (d : Desk). IsRefused d old (step old.session) fault) origin-is
    (subst (λ (s : Seat). IsRefused origin s (step s.session) fault) old-is
    (subst (λ (l : List SeatCall). IsRefused origin (record { session = session; own = l }) (step session) fault) given-is told))

pub commit_refused_as_desk : {old : Seat} (origin desk : Desk) (session : ℕ) (own given : List SeatCall)
    (step : ℕ → History → Option BookFault) (result : Result TxnId CommitRefusal) → origin ≡ desk
    → record { session = session; own = own } ≡ old → given ≡ own
    → IfErr result (λ refusal. IsRefused origin (record { session = session; own = given }) (step session) refusal.fault)
    → IfErr (commit_by_book result) (λ refusal. IsRefusedAs desk old (step old.session) refusal.fault)
commit_refused_as_desk origin desk session own given step (Ok txn) origin-is old-is given-is told = tt
commit_refused_as_desk {old} origin desk session own given step (Err answer) origin-is old-is given-is told =
    subst (λ (d : Desk). IsRefused d old (step old.session) answer.fault) origin-is
    (subst (λ (s : Seat). IsRefused origin s (step s.session) answer.fault) old-is
    (subst (λ (l : List SeatCall). IsRefused origin (record { session = session; own = l }) (step session) answer.fault) given-is told))

-- ---- refused snapshots behind the lock

-- the refusal names this place of a log from the desk, or no session
abbrev pub IsNamed : Desk → Guard → ℕ → ℕ → DeskFault → Type 0
IsNamed desk g session place fault =
    ((fault ≡ Differs session place) × Fits desk g × IsFrom desk g.book) ⊎ (fault ≡ Differs 0 0)

pub shown_first : (desk : Desk) (g : Guard) (session : ℕ) (own : List SeatCall) (place : ℕ) (fault : DeskFault)
    → missing_place g.book.log own ≡ Some place → IsNamed desk g session place fault
    → IsShownFault desk (record { session = session; own = own }) fault
shown_first desk g session own place fault named (inl is) =
    subst (λ f. IsShownFault desk (record { session = session; own = own }) f) (sym is.0)
    (inl (refl, misses_first desk g session own place is.2 named))
shown_first desk g session own place fault named (inr is) =
    subst (λ f. IsShownFault desk (record { session = session; own = own }) f) (sym is) (inr (refl, refl))

pub shown_last : (desk : Desk) (g : Guard) (session : ℕ) (own : List SeatCall) (place : ℕ) (fault : DeskFault) → IsGuard g → 1 ≤ session
    → has_last g session own ≡ false → missing_place g.book.log own ≡ None → place ≡ place_or_zero (last_of own)
    → IsNamed desk g session place fault → IsShownFault desk (record { session = session; own = own }) fault
shown_last desk g session own place fault kept low looked none last (inl is) =
    subst (λ f. IsShownFault desk (record { session = session; own = own }) f) (sym is.0)
    (inl (refl, misses_last desk g session own place kept is.2 is.1.0 low looked none last))
shown_last desk g session own place fault kept low looked none last (inr is) =
    subst (λ f. IsShownFault desk (record { session = session; own = own }) f) (sym is) (inr (refl, refl))

-- ---- refused commits behind the lock

-- a work of another session
pub other_refused : (desk : Desk) (g : Guard) (session : ℕ) (own : List SeatCall) (work : Transaction) (full : Bool)
    (answer : CommitRefusal)
    → answer ≡ refused (full_or_foreign full) work → IsGuard g → Fits desk g → Looked g session own → g.book.base ≡ desk.base
    → work.id.session ≢ session → full ≡ is_log_full g.book
    → IsRefused desk (record { session = session; own = own }) (commit_fault session work) answer.fault
other_refused desk g session own work full answer is kept fits look base other full-is =
    let isnt : (work.id.session == session) ≡ false = grind (arith, nat_tests) in
    let step : commit_fault session work g.book ≡ Some (full_or_foreign full) =
    ap (λ b. cond b (fault_in (commit_step g.book work).0) (Some (other_fault g.book))) isnt
    ∙ ap (λ b. Some (full_or_foreign b)) (sym full-is) in
    subst (λ (r : CommitRefusal). IsRefused desk (record { session = session; own = own }) (commit_fault session work) r.fault) (sym is)
    (inr (refuses desk g session own (commit_fault session work) (full_or_foreign full) kept fits look step (λ none. base)))

with_work_fault : (work : Transaction) (result : Result TxnId BookFault) (refusal : CommitRefusal)
    → Err refusal ≡ with_refused_work result work → fault_in result ≡ Some refusal.fault
with_work_fault work (Ok t) refusal e = absurd cc
with_work_fault work (Err fault) refusal e =
    let is : refusal ≡ refused fault work = cc in ap (λ (r : CommitRefusal). Some r.fault) (sym is)

-- a work of the session
pub own_refused : (desk : Desk) (g : Guard) (session : ℕ) (own : List SeatCall) (work : Transaction)
    (result : Result TxnId CommitRefusal) (answer : CommitRefusal) → result ≡ Err answer → IsGuard g → Fits desk g → Looked g session own
    → work.id.session ≡ session
    → (result ≡ Err (refused NoMemory work)) ⊎ (result ≡ with_refused_work (commit_step g.book work).0 work)
    → (is_log_full g.book ≡ true → g.book.base ≡ desk.base) → (answer.fault ≡ Foreign → g.book.base ≡ desk.base)
    → IsRefused desk (record { session = session; own = own }) (commit_fault session work) answer.fault
own_refused desk g session own work result answer ok kept fits look its (inl out) full foreign =
    let e : Err answer ≡ Err (refused NoMemory work) = sym ok ∙ out in
    let is : answer ≡ refused NoMemory work = cc in inl (ap (λ (r : CommitRefusal). r.fault) is)
own_refused desk g session own work result answer ok kept fits look its (inr given) full foreign =
    let same : (work.id.session == session) ≡ true = grind (arith, nat_tests) in
    let at : fault_in (commit_step g.book work).0 ≡ Some answer.fault =
    with_work_fault work (commit_step g.book work).0 answer (sym ok ∙ given) in
    let step : commit_fault session work g.book ≡ Some answer.fault =
    ap (λ b. cond b (fault_in (commit_step g.book work).0) (Some (other_fault g.book))) same ∙ at in
    inr (refuses desk g session own (commit_fault session work) answer.fault kept fits look step
    (λ none. by (commit_full g.book work answer.fault at none))) where
      by : (is_log_full g.book ≡ true) ⊎ (answer.fault ≡ Foreign) → g.book.base ≡ desk.base
      by (inl is) = full is
      by (inr is) = foreign is

-- the base of a book that refused as foreign, where that was told
pub foreign_base : {A : Type 0} (work : Transaction) (refusal : CommitRefusal) (tell : Bool) → refusal ≡ refused refusal.fault work
    → (tell ≡ true) ⊎ (refusal.work ≡ None) → (tell ≡ true → refusal.fault ≡ Foreign → A) → refusal.fault ≡ Foreign → A
foreign_base work refusal tell back (inl told) own foreign = own told foreign
foreign_base work refusal tell back (inr none) own foreign =
    let e : Some work ≡ None =
    sym (ap (λ (r : CommitRefusal). r.work) back ∙ ap (λ f. handed_back f work) foreign) ∙ none in absurd cc
