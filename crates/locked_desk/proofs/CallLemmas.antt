-- Calls of a book behind the lock, and their answers as the desk's.
use Rattle.std.proofs.Common.{◌≡◌, ℕ, List, [], Bool, true, false, cond, not, Option, None, Some, Result, Ok, Err, IfErr}
use Rattle.std.proofs.Common.{IfOk, refl, ap, sym, ◌∙◌, subst, inl, inr, drop, ◌+◌}
use Rattle.std.specs.Prelude.{IfSome}
use Rattle.lay_layouts.specs.Sound.{IsSound}
use Rattle.txn_commands.specs.declared.command.TxnId.{TxnId}
use Rattle.txn_commands.specs.Transactions.{IsTransaction, Transaction}
use Rattle.undo_rules.specs.declared.log.Answer.{Answer}
use Rattle.undo_rules.specs.declared.log.Answer.TheVariants.{Committed, Opened}
use Rattle.undo_rules.specs.declared.log.BookFault.{BookFault}
use Rattle.undo_rules.specs.declared.log.BookFault.TheVariants.{Foreign, LogFull}
use Rattle.undo_rules.specs.declared.log.Call.TheVariants.{Commit, Open}
use Rattle.undo_rules.specs.Books.{History}
use Rattle.undo_rules.specs.Steps.{commit_step, commit_unless, is_log_full, is_own, open_step, stale_by}
use Rattle.undo_book.specs.declared.commit.CommitRefusal.{CommitRefusal}
use Rattle.undo_book.specs.Calls.{Takes, TakesWork, handed_back, refused, with_refused_work}
use Rattle.undo_book.proofs.CommitLemmas.{own_work}
use Rattle.desk_rules.specs.Legal.{ArePendingSound, Desk, Stepped, answer_of, on_base, opened_answer, refusal}
use Rattle.desk_rules.proofs.MeantLemmas.{stepped_work}
use Rattle.lay_layouts.specs.Layout.{Layout}
use Rattle.undo_rules.specs.declared.log.Call.{Call}
use Rattle.desk_rules.specs.declared.seat_call.SeatCall.{SeatCall}
use Rattle.desk_rules.specs.Seats.{EndsWith, GainsLogged, Seat, calls_behind, next_at}
use Rattle.desk_rules.proofs.SeatLemmas.{gains_logged}
use Rattle.locked_desk.specs.declared.fault.DeskFault.TheVariants.{Book}
use Rattle.locked_desk.specs.Desks.{OpensAt, by_book, desk_refused, open_call}
use Rattle.locked_desk.specs.Desks.{commit_answer, commit_by_book, desk_answer, desk_commit_answer}

pub answer_by_book : (done : Answer) (result : Result (Unit {0}) BookFault) → desk_answer done (by_book result) ≡ answer_of done result
answer_by_book done (Ok value) = refl
answer_by_book done (Err fault) = refl

pub commit_by_book_answer : (result : Result TxnId CommitRefusal) → desk_commit_answer (commit_by_book result) ≡ commit_answer result
commit_by_book_answer (Ok txn) = refl
commit_by_book_answer (Err refused) = refl

-- what the book hands back, the desk does
pub back_by_book : (given work : Transaction) (answer : Result TxnId CommitRefusal) → given ≡ work
    → IfErr answer (λ refusal. refusal ≡ refused refusal.fault given)
    → IfErr (commit_by_book answer) (λ refusal. refusal ≡ desk_refused refusal.fault work)
back_by_book given work (Ok txn) same back = tt
back_by_book given work (Err refusal) same back =
    ap (λ w. record { fault = Book refusal.fault; work = w })
    (ap (λ (r : CommitRefusal). r.work) back ∙ ap (handed_back refusal.fault) same)

committed_answer : (work : Transaction) (result : Result TxnId BookFault)
    → commit_answer (with_refused_work result work) ≡ answer_of Committed result
committed_answer work (Ok txn) = refl
committed_answer work (Err fault) = refl

-- an open of the session's number is one of the session
pub opened_by : (h next : History) (number session : ℕ) (result : Result Transaction BookFault) → number ≡ session
    → Takes h (open_step h number) result next → Takes h (open_step h session) result next
opened_by h next number session result is takes = subst (λ n. Takes h (open_step h n) result next) is takes

-- a commit of a work of the session, as the log has it
pub stepped_commit : (h next : History) (session : ℕ) (work : Transaction) (result : Result TxnId CommitRefusal)
    → work.id.session ≡ session
    → IsTransaction work → IsSound work.snapshot → ArePendingSound h.sessions → TakesWork h work (commit_step h work) result next
    → Stepped h session (Commit work.id work.commands) (commit_answer result) next
stepped_commit h next session work result same its sound all (inr fails) = inr (ap commit_answer fails.0, fails.1)
stepped_commit h next session work result same its sound all (inl takes) =
    let step = commit_step h work in
    let answer : answer_of Committed step.0 ≡ commit_answer result = sym (ap commit_answer takes.0 ∙ committed_answer work step.0) in
    subst (λ n. Stepped h n (Commit work.id work.commands) (commit_answer result) next) same
    (subst (λ g. Stepped h work.id.session (Commit work.id work.commands) (commit_answer result) g) (sym takes.1)
    (subst (λ a. Stepped h work.id.session (Commit work.id work.commands) a step.1) answer
    (stepped_work h work its sound all (own_work h work))))

-- what is committed is the work's transaction
commit_id : (h : History) (work : Transaction) (txn : TxnId) → (commit_step h work).0 ≡ Ok txn → work.id ≡ txn
commit_id h work txn is = by (is_log_full h) (is_own h work) (stale_by h.entries work.footprint (drop (work.opened + 1) h.log)) is where
  by : (full own : Bool) (stale : Option TxnId)
      → (cond full (Err LogFull, h) (cond (not own) (Err Foreign, h) (commit_unless stale h work))).0 ≡ Ok txn → work.id ≡ txn
  by true own stale e = absurd cc
  by false false stale e = absurd cc
  by false true None e = cc
  by false true (Some other) e = absurd cc

with_work_ok : (work : Transaction) (result : Result TxnId BookFault) (txn : TxnId) → Ok txn ≡ with_refused_work result work
    → result ≡ Ok txn
with_work_ok work (Ok t) txn e = cc
with_work_ok work (Err fault) txn e = absurd cc

pub committed_txn : (h next : History) (work : Transaction) (txn : TxnId) → TakesWork h work (commit_step h work) (Ok txn) next
    → txn ≡ work.id
committed_txn h next work txn (inr fails) = absurd (let e = fails.0 in cc)
committed_txn h next work txn (inl takes) = sym (commit_id h work txn (with_work_ok work (commit_step h work).0 txn takes.0))

with_work_err : (work : Transaction) (result : Result TxnId BookFault) (refusal : CommitRefusal)
    → Err refusal ≡ with_refused_work result work
    → refusal ≡ refused refusal.fault work
with_work_err work (Ok t) refusal e = absurd cc
with_work_err work (Err fault) refusal e =
    let is : refusal ≡ refused fault work = cc in is ∙ ap (λ (r : CommitRefusal). refused r.fault work) (sym is)

pub refused_back : (h next : History) (work : Transaction) (refusal : CommitRefusal)
    → TakesWork h work (commit_step h work) (Err refusal) next
    → refusal ≡ refused refusal.fault work
refused_back h next work refusal (inl takes) = with_work_err work (commit_step h work).0 refusal takes.0
refused_back h next work refusal (inr fails) =
    let e = fails.0 in with_work_err work (Err _) refusal e

-- the seat gains what it keeps
pub gains_kept : {old new : Seat} (origin desk : Desk) (answer told : Option Answer) (base : Layout) (h : History) (session : ℕ)
    (own given kept : List SeatCall) (call : Call) (place : ℕ) → origin ≡ desk → record { session = session; own = own } ≡ old
    → record { session = session; own = kept } ≡ new → given ≡ own
    → kept ≡ calls_behind (record { session = session; before = own; call = call; place = place }) answer
    → IfSome answer (EndsWith (on_base base origin) h (record { session = session; before = given; call = call; place = place }))
    → told ≡ answer → GainsLogged desk told old call new
gains_kept {old} {new} origin desk answer told base h session own given kept call place origin-is old-is new-is given-is kept-is made
    told-is =
    let seat : Seat = record { session = session; own = own } in
    let here : IfSome answer (EndsWith (on_base base desk) h (next_at seat call place)) =
    subst (λ (d : Desk). IfSome answer (EndsWith (on_base base d) h (next_at seat call place))) origin-is
    (subst (λ (l : List SeatCall). IfSome answer (EndsWith (on_base base origin) h
    (next_at (record { session = session; own = l }) call place))) given-is made) in
    let gains : GainsLogged desk answer seat call (record { session = session; own = kept }) =
    subst (λ (l : List SeatCall). GainsLogged desk answer seat call (record { session = session; own = l })) (sym kept-is)
    (gains_logged answer desk base h seat call place here) in
    subst (λ (a : Option Answer). GainsLogged desk a old call new) (sym told-is)
    (subst (λ (s : Seat). GainsLogged desk answer old call s) new-is
    (subst (λ (s : Seat). GainsLogged desk answer s call (record { session = session; own = kept })) old-is gains))

pub committed_named : (h next : History) (work : Transaction) (result : Result TxnId CommitRefusal)
    → TakesWork h work (commit_step h work) result next
    → IfOk result (λ txn. txn ≡ work.id)
committed_named h next work (Ok txn) takes = committed_txn h next work txn takes
committed_named h next work (Err refusal) takes = tt

pub committed_back : (h next : History) (work : Transaction) (result : Result TxnId CommitRefusal)
    → TakesWork h work (commit_step h work) result next
    → IfErr result (λ refusal. refusal ≡ refused refusal.fault work)
committed_back h next work (Ok txn) takes = tt
committed_back h next work (Err refusal) takes = refused_back h next work refusal takes

-- a seat and a work of an accepted open
pub opens_at : {old new : Seat} (origin desk : Desk) (work : Transaction) (result : Result Transaction BookFault) (h : History)
    (session : ℕ)
    (own given kept : List SeatCall) (place : ℕ) → origin ≡ desk → record { session = session; own = own } ≡ old
    → record { session = session; own = kept } ≡ new → given ≡ own
    → kept ≡ calls_behind (record { session = session; before = own; call = Open; place = place }) (opened_answer result)
    → IfSome (opened_answer result) (EndsWith (on_base h.base origin) h
    (record { session = session; before = given; call = Open; place = place })) → result ≡ Ok work
    → IfOk result (λ w. (w.id.session ≡ session) × (w.opened ≡ place) × (w.snapshot ≡ h.layout) × (w.commands ≡ []))
    → h.base ≡ desk.base → OpensAt desk old work new
opens_at {old} {new} origin desk work result h session own given kept place origin-is old-is new-is given-is kept-is made ok works base-is =
    let its = subst (λ (r : Result Transaction BookFault). IfOk r (λ w. (w.id.session ≡ session) × (w.opened ≡ place) ×
    (w.snapshot ≡ h.layout)
    × (w.commands ≡ []))) ok works in
    let seat : Seat = record { session = session; own = own } in
    let told : opened_answer result ≡ Some (Opened work.id.txn) = ap opened_answer ok in
    let one : IfSome (opened_answer result) (EndsWith (on_base h.base desk) h (next_at seat Open place)) =
    subst (λ (d : Desk). IfSome (opened_answer result) (EndsWith (on_base h.base d) h (next_at seat Open place))) origin-is
    (subst (λ (l : List SeatCall). IfSome (opened_answer result) (EndsWith (on_base h.base origin) h
    (next_at (record { session = session; own = l }) Open place))) given-is made) in
    let two : EndsWith (on_base h.base desk) h (next_at seat Open place) (Opened work.id.txn) =
    subst (λ (a : Option Answer). IfSome a (EndsWith (on_base h.base desk) h (next_at seat Open place))) told one in
    let three : EndsWith (on_base h.base desk) h (open_call seat work) (Opened work.id.txn) =
    subst (λ (p : ℕ). EndsWith (on_base h.base desk) h (next_at seat Open p) (Opened work.id.txn)) (sym its.1) two in
    let four : EndsWith desk h (open_call seat work) (Opened work.id.txn) =
    subst (λ (b : Layout). EndsWith (on_base b desk) h (open_call seat work) (Opened work.id.txn)) base-is three in
    let kept-as : kept ≡ calls_behind (open_call seat work) (Some (Opened work.id.txn)) =
    kept-is ∙ ap (calls_behind (next_at seat Open place)) told
    ∙ ap (λ (p : ℕ). calls_behind (next_at seat Open p) (Some (Opened work.id.txn))) (sym its.1) in
    let opens : OpensAt desk seat work (record { session = session; own = kept }) = record {
      gained = ap (λ (l : List SeatCall). record { session = session; own = l }) kept-as;
      history = h;
      ends = four;
      snapshot = its.2;
      session = its.0;
      commands = its.3;
    } in
    subst (λ (s : Seat). OpensAt desk old work s) new-is
    (subst (λ (s : Seat). OpensAt desk s work (record { session = session; own = kept })) old-is opens)
