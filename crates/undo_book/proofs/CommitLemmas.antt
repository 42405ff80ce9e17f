-- What a commit leaves.
use Rattle.std.proofs.Common.{◌≡◌, ℕ, ◌+◌, ◌-◌, ◌≤◌, ◌==◌, true, false, ◌&&◌, nat_le, List, [], ◌∷◌, ◌++◌, drop, Option, None, Some}
use Rattle.std.proofs.Common.{refl, sym, ap, subst, ◌∙◌, arith, slice_set}
use Rattle.std.proofs.lemmas.Bool.Decides.{Decides-eqb, nat_tests}
use Rattle.std.specs.List.{AllByRecursion}
use Rattle.std.proofs.lemmas.Bool.{and_parts}
use Rattle.lay_layouts.specs.Layout.{Layout}
use Rattle.lay_layouts.specs.Sound.{IsSound}
use Rattle.txn_commands.specs.declared.command.TxnId.{TxnId}
use Rattle.txn_commands.specs.Compared.{agrees}
use Rattle.txn_commands.specs.Records.{AreProper, applied}
use Rattle.txn_commands.specs.Transactions.{IsTransaction, Transaction}
use Rattle.txn_commands.proofs.Steps.{proper_between}
use Rattle.txn_marks.proofs.CompareLemmas.{agrees_on}
use Rattle.undo_rules.specs.declared.log.Answer.TheVariants.{Committed, Refused}
use Rattle.undo_rules.specs.declared.log.BookFault.TheVariants.{Stale}
use Rattle.undo_rules.specs.declared.log.Call.TheVariants.{Commit}
use Rattle.undo_rules.specs.declared.log.Logged.{Logged}
use Rattle.undo_rules.specs.Books.{History, IsHistory, Pending, SessionState}
use Rattle.undo_rules.specs.Laws.{IsOwnWork}
use Rattle.undo_rules.specs.Links.{Entry, txn_eq}
use Rattle.undo_rules.specs.Steps.{after_commit, after_stale, ended, ended_state, entered, is_own, is_pending, logged, stale_by, state_of}
use Rattle.undo_rules.specs.Steps.{with_entry}
use Rattle.undo_rules.proofs.CommitLaws.{commit_keeps, commit_made, its_name_is_new}
use Rattle.undo_rules.proofs.OpenLaws.{stale_keeps}
use Rattle.undo_rules.proofs.StepLaws.{settled_is}
use Rattle.undo_book.specs.Replays.{RunsAgain}
use Rattle.undo_book.proofs.SoundLemmas.{kept_sound}

record IsAwaited (state : SessionState) (txn : Transaction) : Type 0 where
  waiting : Pending
  waits : state.pending ≡ Some waiting
  place : waiting.place ≡ txn.opened
  agree : agrees waiting.snapshot txn.snapshot txn.footprint ≡ true

awaited : (state : SessionState) (txn : Transaction) → is_pending state.pending txn ≡ true → IsAwaited state txn
awaited state txn h = by state.pending refl h where
  by : (p : Option Pending) → state.pending ≡ p → is_pending p txn ≡ true → IsAwaited state txn
  by None is h = absurd cc
  by (Some waiting) is h =
      let parts = and_parts (waiting.place == txn.opened) (agrees waiting.snapshot txn.snapshot txn.footprint) h in
      record { waiting = waiting; waits = is; place = (Decides-eqb waiting.place txn.opened).0 parts.0; agree = parts.1 }

-- the test of a work says that it is the history's own
pub own_work : (h : History) (txn : Transaction) → is_own h txn ≡ true → IsOwnWork h txn
own_work h txn own =
    let s = txn.id.session in
    let state = state_of h s in
    let parts = and_parts (nat_le 1 s && nat_le s 64) ((state.opens == txn.id.txn) && is_pending state.pending txn) own in
    let range = and_parts (nat_le 1 s) (nat_le s 64) parts.0 in
    let its = and_parts (state.opens == txn.id.txn) (is_pending state.pending txn) parts.1 in
    let waits = awaited state txn its.1 in
    let low : 1 ≤ s = at_least 1 s range.0 in
    let high : s ≤ 64 = at_least s 64 range.1 in
    record {
      low = low;
      high = high;
      last = (Decides-eqb state.opens txn.id.txn).0 its.0;
      waiting = waits.waiting;
      waits = waits.waits;
      place = waits.place;
      agree = agrees_on waits.waiting.snapshot txn.snapshot txn.footprint waits.agree;
    } where
      at_least : (a b : ℕ) → nat_le a b ≡ true → a ≤ b
      at_least a b h = grind (arith, nat_tests, h)

-- ---- an accepted commit

pub record LeavesCommitted (now new : History) (txn : Transaction) : Type 0 where
  pub history : IsHistory new
  pub is : new ≡ after_commit now txn
  pub ran : RunsAgain txn now.layout new.layout

pub record IsCommitted (b now : History) (txn : Transaction) : Type 0 where
  pub proper : AreProper txn.writes
  pub sound : IsSound (applied b.layout txn.writes)
  pub apart : AllByRecursion (λ other. txn_eq other.txn txn.id ≡ false) b.entries
  pub left : (end : Layout) (log : List Logged) (entries : List Entry) (sessions : List SessionState) → end ≡ applied b.layout txn.writes →
      log ≡ b.log ++ record { session = txn.id.session; call = Commit txn.id txn.commands; answer = Committed } ∷ [] →
      entries ≡ b.entries ++ entered b txn ∷ [] →
      sessions ≡ slice_set b.sessions (txn.id.session - 1) (ended_state (state_of b txn.id.session)) →
      LeavesCommitted now (record b { layout = end; log = log; entries = entries; sessions = sessions }) txn

committed_here : (b : History) → IsHistory b → (txn : Transaction) → IsTransaction txn → IsSound txn.snapshot → is_own b txn ≡ true →
    stale_by b.entries txn.footprint (drop (txn.opened + 1) b.log) ≡ None → IsCommitted b b txn
committed_here b is txn transaction snapshot_sound own fresh =
    let its = own_work b txn own in
    let made = commit_made b is txn transaction snapshot_sound its fresh in
    let lead : Layout = applied b.layout txn.writes in
    let next : History = logged (ended (with_entry b txn) txn.id.session) txn.id.session (Commit txn.id txn.commands) Committed in
    let after : after_commit b txn ≡ record next { layout = lead } = settled_is next lead made.kept in
    record {
      proper = subst AreProper transaction.writes (proper_between txn.snapshot transaction.run.layout);
      sound = kept_sound next.log b.base lead (b.entries ++ entered b txn ∷ []) made.kept is.sound;
      apart = its_name_is_new b is txn its;
      left = λ end log entries sessions lay logs entry state.
          let new : History = record b { layout = end; log = log; entries = entries; sessions = sessions } in
          let same : after_commit b txn ≡ new =
          after ∙ (λ i. record b { layout = sym lay i; log = sym logs i; entries = sym entry i; sessions = sym state i }) in
          record {
            history = subst IsHistory same (commit_keeps b is txn transaction snapshot_sound its fresh);
            is = sym same;
            ran = record {
              work = transaction.run;
              worked = transaction.runs;
              run = made.now;
              runs = made.runs;
              dones = made.dones;
              writes = made.writes;
              footprint = made.footprint;
              to = made.next ∙ sym lay;
            };
          };
    }

pub committed_so : (b now : History) → b ≡ now → IsHistory b → (txn : Transaction) → IsTransaction txn → IsSound txn.snapshot →
    is_own now txn ≡ true → stale_by now.entries txn.footprint (drop (txn.opened + 1) now.log) ≡ None → IsCommitted b now txn
committed_so b now view is txn transaction snapshot_sound own fresh =
    subst (λ (x : History). IsCommitted b x txn) view
    (committed_here b is txn transaction snapshot_sound (ap (λ (x : History). is_own x txn) view ∙ own)
    (ap (λ (x : History). stale_by x.entries txn.footprint (drop (txn.opened + 1) x.log)) view ∙ fresh))

-- ---- a stale one

pub record LeavesStale (now new : History) (txn : Transaction) (other : TxnId) : Type 0 where
  pub history : IsHistory new
  pub is : new ≡ after_stale now txn other

stale_here : (b : History) → IsHistory b → (txn : Transaction) (other : TxnId) → is_own b txn ≡ true → (log : List Logged)
    (sessions : List SessionState) →
    log ≡ b.log ++ record { session = txn.id.session; call = Commit txn.id txn.commands; answer = Refused (Stale other) } ∷ [] →
    sessions ≡ slice_set b.sessions (txn.id.session - 1) (ended_state (state_of b txn.id.session)) →
    LeavesStale b (record b { log = log; sessions = sessions }) txn other
stale_here b is txn other own log sessions logs state =
    let new : History = record b { log = log; sessions = sessions } in
    let same : after_stale b txn other ≡ new = λ i. record b { log = sym logs i; sessions = sym state i } in
    record {
      history = subst IsHistory same (stale_keeps b is txn (own_work b txn own) other);
      is = sym same;
    }

pub stale_so : (b now : History) → b ≡ now → IsHistory b → (txn : Transaction) (other : TxnId) → is_own now txn ≡ true → (log : List Logged)
    (sessions : List SessionState) →
    log ≡ b.log ++ record { session = txn.id.session; call = Commit txn.id txn.commands; answer = Refused (Stale other) } ∷ [] →
    sessions ≡ slice_set b.sessions (txn.id.session - 1) (ended_state (state_of b txn.id.session)) →
    LeavesStale now (record b { log = log; sessions = sessions }) txn other
stale_so b now view is txn other own log sessions logs state =
    subst (λ (x : History). LeavesStale x (record b { log = log; sessions = sessions }) txn other) view
    (stale_here b is txn other (ap (λ (x : History). is_own x txn) view ∙ own) log sessions logs state)
