-- A work of the book's own is the transaction that the log of its commit means.
use Rattle.std.proofs.Common.{◌≡◌, ℕ, ◌+◌, ◌-◌, Bool, true, false, cond, not, ◌==◌, ◌&&◌, List, [], ◌∷◌, drop, Option, None, Some}
use Rattle.std.proofs.Common.{zero, suc}
use Rattle.std.proofs.Common.{Err, refl, ap, sym, ◌∙◌, subst, inl, inr, nat_le, slice_get, slice_index_or}
use Rattle.std.proofs.lemmas.Bool.Decides.{Decides-eqb}
use Rattle.lay_layouts.specs.Layout.{Layout}
use Rattle.lay_layouts.specs.Sound.{IsSound}
use Rattle.txn_commands.specs.declared.command.TxnId.{TxnId}
use Rattle.txn_commands.specs.Agreement.{AgreeOn}
use Rattle.txn_commands.specs.Compared.{agrees}
use Rattle.txn_commands.specs.Transactions.{IsTransaction, Transaction}
use Rattle.txn_commands.proofs.Agreements.{agree-sym}
use Rattle.txn_commands.proofs.Compared.{agrees-itself}
use Rattle.txn_rules.proofs.LawProofs.{framed}
use Rattle.undo_rules.specs.declared.log.Answer.TheVariants.{Committed}
use Rattle.undo_rules.specs.declared.log.BookFault.TheVariants.{Foreign, LogFull}
use Rattle.undo_rules.specs.declared.log.Call.TheVariants.{Commit}
use Rattle.undo_rules.specs.Books.{History, Pending, SessionState}
use Rattle.undo_rules.specs.Laws.{IsOwnWork}
use Rattle.undo_rules.specs.Steps.{commit_own, commit_step, commit_unless, stale_by, is_log_full, is_own, is_pending, state_of, unused}
use Rattle.desk_rules.specs.Legal.{ArePendingSound, Stepped, answer_of, commit_meant, meant, meant_by, meant_of, told}

-- ---- the transaction on the layout at its open, as the book keeps it

abbrev pub on : Layout → Transaction → Transaction
on layout work = record work { snapshot = layout }

-- run there, the work's commands write and touch what they did
pub meant_work : (work : Transaction) (pending : Pending) → IsTransaction work → IsSound work.snapshot → IsSound pending.snapshot
    → pending.place ≡ work.opened → AgreeOn pending.snapshot work.snapshot work.footprint
    → meant_of work.id work.commands (Some pending) ≡ Some (on pending.snapshot work)
meant_work work pending its sound waiting place agree =
    let back : AgreeOn work.snapshot pending.snapshot its.run.footprint =
    subst (AgreeOn work.snapshot pending.snapshot) (sym its.footprint)
    (λ e has. agree-sym pending.snapshot work.snapshot e (agree e has)) in
    let there = framed work.id work.commands work.snapshot pending.snapshot its.run sound waiting its.runs back in
    ap (meant_by work.id work.commands pending) there.1
    ∙ (λ i. Some (record {
      id = work.id;
      opened = place i;
      snapshot = pending.snapshot;
      commands = work.commands;
      writes = (there.2.records ∙ its.writes) i;
      footprint = (there.2.footprint ∙ its.footprint) i;
    }))

-- a pending transaction has a place among the sessions
state_there : (states : List SessionState) (i : ℕ) (pending : Pending) → (slice_index_or states i unused).pending ≡ Some pending
    → slice_get states i ≡ Some (slice_index_or states i unused)
state_there [] i pending waits = absurd cc
state_there (x ∷ xs) zero pending waits = refl
state_there (x ∷ xs) (suc i) pending waits = state_there xs i pending waits

-- it is as much the book's own
pending_on : (state : Option Pending) (work : Transaction) (pending : Pending) → state ≡ Some pending → pending.place ≡ work.opened
    → is_pending state (on pending.snapshot work) ≡ true
pending_on state work pending waits place =
    ap (λ (p : Option Pending). is_pending p (on pending.snapshot work)) waits
    ∙ ap (λ b. b && agrees pending.snapshot pending.snapshot work.footprint) ((Decides-eqb pending.place work.opened).1 place)
    ∙ agrees-itself pending.snapshot work.footprint

own_on : (h : History) (work : Transaction) (own : IsOwnWork h work) → is_own h work ≡ true
    → is_own h (on own.waiting.snapshot work) ≡ true
own_on h work own is =
    ap (λ b. ranged && (numbered && b)) (pending_on pending work own.waiting own.waits own.place
    ∙ sym (both_so numbered (is_pending pending work) (both_so ranged (numbered && is_pending pending work) is).1).1) ∙ is
  where
    pending : Option Pending
    pending = (state_of h work.id.session).pending

    ranged : Bool
    ranged = nat_le 1 work.id.session && nat_le work.id.session 64

    numbered : Bool
    numbered = (state_of h work.id.session).opens == work.id.txn

    both_so : (a b : Bool) → (a && b) ≡ true → (a ≡ true) × (b ≡ true)
    both_so true true e = (refl, refl)
    both_so true false e = absurd cc
    both_so false b e = absurd cc

-- and is committed alike
same_own : (h : History) (layout : Layout) (work : Transaction) → commit_own h (on layout work) ≡ commit_own h work
same_own h layout work = by (stale_by h.entries work.footprint (drop (work.opened + 1) h.log)) where
  by : (stale : Option TxnId) → commit_unless stale h (on layout work) ≡ commit_unless stale h work
  by None = refl
  by (Some other) = refl

-- a commit of the work is that of the transaction that its log means
pub stepped_work : (h : History) (work : Transaction) → IsTransaction work → IsSound work.snapshot → ArePendingSound h.sessions
    → (is_own h work ≡ true → IsOwnWork h work)
    → Stepped h work.id.session (Commit work.id work.commands) (answer_of Committed (commit_step h work).0) (commit_step h work).1
stepped_work h work its sound all owned = by (is_log_full h) (is_own h work) refl refl where
  session : ℕ
  session = work.id.session

  by : (full own : Bool) → is_log_full h ≡ full → is_own h work ≡ own
      → Stepped h session (Commit work.id work.commands)
      (answer_of Committed (cond full (Err LogFull, h) (cond (not own) (Err Foreign, h) (commit_own h work))).0)
      (cond full (Err LogFull, h) (cond (not own) (Err Foreign, h) (commit_own h work))).1
  by true own full-is own-is = inr (refl, refl)
  by false false full-is own-is = inr (refl, refl)
  by false true full-is own-is =
      let own = owned own-is in
      let there = state_there h.sessions (session - 1) own.waiting own.waits in
      let waiting = all (session - 1) (state_of h session) own.waiting there own.waits in
      let same : (session == session) ≡ true = (Decides-eqb session session).1 refl in
      let means : meant h work.id work.commands ≡ Some (on own.waiting.snapshot work) =
      ap (meant_of work.id work.commands) own.waits ∙ meant_work work own.waiting its sound waiting own.place own.agree in
      let steps : commit_step h (on own.waiting.snapshot work) ≡ commit_own h work =
      ap (λ full. cond full (Err LogFull, h) (cond (not (is_own h (on own.waiting.snapshot work))) (Err Foreign, h)
      (commit_own h (on own.waiting.snapshot work)))) full-is
      ∙ ap (λ b. cond (not b) (Err Foreign, h) (commit_own h (on own.waiting.snapshot work))) (own_on h work own own-is)
      ∙ same_own h own.waiting.snapshot work in
      inl (ap (λ b. cond b (commit_meant h (meant h work.id work.commands)) (None, h)) same
      ∙ ap (commit_meant h) means ∙ ap (told Committed) steps)
