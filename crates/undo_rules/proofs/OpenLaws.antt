-- A refusal that is logged, an open, and a stale commit keep what a book keeps true.
use Rattle.std.proofs.Common.{◌≡◌, ◌≢◌, ◌⊎◌, inl, inr, ℕ, ◌+◌, ◌-◌, ◌≤◌, ◌<◌, zero}
use Rattle.std.proofs.Common.{suc, true, List, [], ◌∷◌, ◌++◌, length, drop, None, Some}
use Rattle.std.proofs.Common.{refl, sym, ap, subst, ◌∙◌, arith, append-nil, slice_get, slice_set, slice_index_or}
use Rattle.std.specs.Prelude.{is_some}
use Rattle.std.specs.List.{AllByRecursion, cons_option, filter_map}
use Rattle.std.proofs.lemmas.List.{length-append}
use Rattle.lay_point.proofs.ListLaws.{all_weaker}
use Rattle.txn_commands.specs.Records.{Records}
use Rattle.txn_commands.specs.Transactions.{Transaction}
use Rattle.txn_commands.specs.declared.command.TxnId.{TxnId}
use Rattle.txn_commands.proofs.Agreements.{agree-equal}
use Rattle.undo_rules.specs.declared.log.Answer.TheVariants.{Opened, Refused}
use Rattle.undo_rules.specs.declared.log.BookFault.{BookFault}
use Rattle.undo_rules.specs.declared.log.BookFault.TheVariants.{Stale}
use Rattle.undo_rules.specs.declared.log.Call.{Call}
use Rattle.undo_rules.specs.declared.log.Call.TheVariants.{Commit, Open}
use Rattle.undo_rules.specs.declared.log.Logged.{Logged}
use Rattle.undo_rules.specs.Books.{History, IsHistory, IsNamed, Pending, SessionState}
use Rattle.undo_rules.specs.Books.{changed_among, changed_in, changes_since, entry_of, writes_of}
use Rattle.undo_rules.specs.Histories.{IsSince}
use Rattle.undo_rules.specs.Laws.{IsOwnWork}
use Rattle.undo_rules.specs.Links.{Entry}
use Rattle.undo_rules.specs.Steps.{after_open, after_stale, ended, ended_state, logged, state_of, unused}
use Rattle.undo_rules.proofs.Logs.{changed_longer, drop_longer, kept_longer}

-- ---- lists

-- what a list has where something was set, and elsewhere
pub set_cases : {X : Type 0} (xs : List X) (i j : ℕ) (x y : X) → slice_get (slice_set xs i x) j ≡ Some y →
    ((j ≡ i) × (x ≡ y)) ⊎ ((j ≢ i) × (slice_get xs j ≡ Some y))
set_cases [] i j x y h = absurd cc
set_cases (z ∷ zs) zero zero x y h = inl (refl, cc)
set_cases (z ∷ zs) zero (suc j) x y h = inr ((λ e. omega arith), h)
set_cases (z ∷ zs) (suc i) zero x y h = inr ((λ e. omega arith), h)
set_cases (z ∷ zs) (suc i) (suc j) x y h =
    elim (set_cases zs i j x y h) [
      | inl w ↦ inl (ap suc w.0, w.1)
      | inr w ↦ inr ((λ e. w.0 (omega arith)), w.1)
    ]

pub set_length : {X : Type 0} (xs : List X) (i : ℕ) (x : X) → length (slice_set xs i x) ≡ length xs
set_length [] i x = refl
set_length (z ∷ zs) zero x = refl
set_length (z ∷ zs) (suc i) x = ap suc (set_length zs i x)

pub at_index : {X : Type 0} (xs : List X) (i : ℕ) (d : X) → i < length xs → slice_get xs i ≡ Some (slice_index_or xs i d)
at_index [] i d h = absurd (omega (arith, h))
at_index (x ∷ xs) zero d h = refl
at_index (x ∷ xs) (suc i) d h = at_index xs i d (omega (arith, h))

-- what is kept of a session that there is
pub its_state : (h : History) → IsHistory h → (session : ℕ) → 1 ≤ session → session ≤ 64 →
    slice_get h.sessions (session - 1) ≡ Some (state_of h session)
its_state h is session low high = at_index h.sessions (session - 1) unused (omega (arith, is.sessions, low, high))

-- ---- calls that change no transaction

-- one more such call is no change
pub no_more : (log : List Logged) (call : Logged) (entries : List Entry) (place : ℕ) → place < length log → changed_in call ≡ None →
    changes_since (log ++ call ∷ []) entries place ≡ changes_since log entries place
no_more log call entries place within silent =
    ap (λ calls. filter_map (writes_of entries) (changed_among calls)) (drop_longer (place + 1) log call (omega (arith, within)))
    ∙ ap (filter_map (writes_of entries)) (changed_longer (drop (place + 1) log) call
    ∙ ap (λ names. changed_among (drop (place + 1) log) ++ names) (λ i. cons_option (silent i) [])
    ∙ append-nil (changed_among (drop (place + 1) log)))

pub silent_among : (log : List Logged) (call : Logged) → changed_in call ≡ None → changed_among (log ++ call ∷ []) ≡ changed_among log
silent_among log call silent =
    changed_longer log call ∙ ap (λ names. changed_among log ++ names) (λ i. cons_option (silent i) []) ∙ append-nil (changed_among log)

-- a call that is refused
pub refused_keeps : (h : History) → IsHistory h → (session : ℕ) (call : Call) (fault : BookFault)
    → IsHistory (logged h session call (Refused fault))
refused_keeps h is session call fault =
    let entered : Logged = record { session = session; call = call; answer = Refused fault } in
    record {
      sound = is.sound;
      kept = kept_longer h.log entered h.base h.layout h.entries is.kept;
      sessions = is.sessions;
      named = is.named;
      there = subst (AllByRecursion (λ n. is_some (entry_of n h.entries) ≡ true)) (sym (silent_among h.log entered refl)) is.there;
      since = λ i state pending at waits.
          let (within, since) = is.since i state pending at waits in (
            omega (arith, within, length-append h.log (entered ∷ [])),
            subst (λ (changes : List Records). IsSince pending.snapshot changes h.layout)
                (sym (no_more h.log entered h.entries pending.place within refl)) since,
          );
    }

-- an open
pub open_keeps : (h : History) → IsHistory h → (session : ℕ) → 1 ≤ session → session ≤ 64 → IsHistory (after_open h session)
open_keeps h is session low high =
    let number = (state_of h session).opens + 1 in
    let entered : Logged = record { session = session; call = Open; answer = Opened number } in
    let waiting : Pending = record { place = length h.log; snapshot = h.layout } in
    let fresh : SessionState = record { opens = number; pending = Some waiting } in
    let before = is.named (session - 1) (state_of h session) (its_state h is session low high) in
    record {
      sound = is.sound;
      kept = kept_longer h.log entered h.base h.layout h.entries is.kept;
      sessions = set_length h.sessions (session - 1) fresh ∙ is.sessions;
      named = λ i state at. elim (set_cases h.sessions (session - 1) i fresh state at) [
        | inl (here, same) ↦ subst (λ (s : SessionState). AllByRecursion (IsNamed (i + 1) s) h.entries) same
            (subst (λ (k : ℕ). AllByRecursion (IsNamed (k + 1) fresh) h.entries) (sym here)
            (all_weaker (IsNamed (session - 1 + 1) (state_of h session)) (IsNamed (session - 1 + 1) fresh)
            (λ entry named its. let less = (named its).0 in (omega (arith, less), λ _. omega (arith, less))) h.entries before))
        | inr (other, there) ↦ is.named i state there
      ];
      there = subst (AllByRecursion (λ n. is_some (entry_of n h.entries) ≡ true)) (sym (silent_among h.log entered refl)) is.there;
      since = λ i state pending at waits. elim (set_cases h.sessions (session - 1) i fresh state at) [
        | inl (here, same) ↦
            let is_waiting : Some waiting ≡ Some pending = ap (λ (s : SessionState). s.pending) same ∙ waits in
            let its : waiting ≡ pending = cc in
            subst (λ (p : Pending). (p.place < length (h.log ++ entered ∷ [])) × IsSince p.snapshot
            (changes_since (h.log ++ entered ∷ []) h.entries p.place) h.layout) its (
              omega (arith, length-append h.log (entered ∷ [])),
              λ e _. agree-equal h.layout h.layout e refl,
            )
        | inr (other, there) ↦
            let (within, since) = is.since i state pending there waits in (
              omega (arith, within, length-append h.log (entered ∷ [])),
              subst (λ (changes : List Records). IsSince pending.snapshot changes h.layout)
                  (sym (no_more h.log entered h.entries pending.place within refl)) since,
            )
      ];
    }

-- a session whose transaction has ended
pub ended_keeps : (h : History) → IsHistory h → (session : ℕ) → 1 ≤ session → session ≤ 64 → IsHistory (ended h session)
ended_keeps h is session low high =
    let state = state_of h session in
    let before = is.named (session - 1) state (its_state h is session low high) in
    record {
      sound = is.sound;
      kept = is.kept;
      sessions = set_length h.sessions (session - 1) (ended_state state) ∙ is.sessions;
      named = λ i st at. elim (set_cases h.sessions (session - 1) i (ended_state state) st at) [
        | inl (here, same) ↦ subst (λ (s : SessionState). AllByRecursion (IsNamed (i + 1) s) h.entries) same
            (subst (λ (k : ℕ). AllByRecursion (IsNamed (k + 1) (ended_state state)) h.entries) (sym here)
            (all_weaker (IsNamed (session - 1 + 1) state) (IsNamed (session - 1 + 1) (ended_state state))
            (λ entry named its. ((named its).0, λ waits. absurd cc)) h.entries before))
        | inr (other, there) ↦ is.named i st there
      ];
      there = is.there;
      since = λ i st pending at waits. elim (set_cases h.sessions (session - 1) i (ended_state state) st at) [
        | inl (here, same) ↦
            let none : None ≡ Some pending = ap (λ (s : SessionState). s.pending) same ∙ waits in
            absurd cc
        | inr (other, there) ↦ is.since i st pending there waits
      ];
    }

-- a stale work ends, and its refusal is logged
pub stale_keeps : (h : History) → IsHistory h → (txn : Transaction) → IsOwnWork h txn → (other : TxnId)
    → IsHistory (after_stale h txn other)
stale_keeps h is txn its other =
    refused_keeps (ended h txn.id.session) (ended_keeps h is txn.id.session its.low its.high) txn.id.session (Commit txn.id txn.commands)
    (Stale other)
