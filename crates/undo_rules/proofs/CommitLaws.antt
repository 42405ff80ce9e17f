-- A commit keeps what a book keeps true.
use Rattle.std.proofs.Common.{◌≡◌, inl, inr, ℕ, ◌+◌, ◌-◌, ◌<◌, ◌==◌, zero, suc, Bool}
use Rattle.std.proofs.Common.{true, false, cond, List, [], ◌∷◌, ◌++◌, length, drop}
use Rattle.std.proofs.Common.{Option, None, Some, option_map, refl, sym, ap, subst, ◌∙◌, arith, slice_get}
use Rattle.std.specs.Prelude.{is_some}
use Rattle.std.specs.List.{AllByRecursion, cons_option, filter_map}
use Rattle.std.proofs.lemmas.Bool.{and_parts}
use Rattle.std.proofs.lemmas.Bool.Decides.{Decides-eqb}
use Rattle.std.proofs.lemmas.List.{length-append}
use Rattle.std.proofs.lemmas.List.Elements.{filter_map-append}
use Rattle.lay_point.proofs.ListLaws.{all_push, all_weaker}
use Rattle.lay_layouts.specs.Layout.{Layout}
use Rattle.lay_layouts.specs.Sound.{IsSound}
use Rattle.txn_commands.specs.declared.command.TxnId.{TxnId}
use Rattle.txn_commands.specs.Elements.{Touched}
use Rattle.txn_commands.specs.Records.{Records, applied}
use Rattle.txn_commands.specs.Transactions.{IsTransaction, Transaction}
use Rattle.txn_rules.proofs.Overlay.{unmet_agree}
use Rattle.undo_rules.specs.declared.log.Answer.TheVariants.{Committed}
use Rattle.undo_rules.specs.declared.log.Call.TheVariants.{Commit}
use Rattle.undo_rules.specs.declared.log.Logged.{Logged}
use Rattle.undo_rules.specs.Books.{History, IsHistory, IsNamed, SessionState, changed_among, changed_in, changes_since, entry_of, writes_of}
use Rattle.undo_rules.specs.Histories.{IsSince, commands_at, commands_in}
use Rattle.undo_rules.specs.Laws.{ACommitKeepsTheBook, Commits, IsOwnWork, Taking}
use Rattle.undo_rules.specs.Links.{Entry, txn_eq}
use Rattle.txn_commands.specs.Meets.{meets_touched}
use Rattle.undo_rules.specs.Steps.{ended, ended_state, entered, logged, stale_by, stale_first, state_of, touching, with_entry}
use Rattle.undo_rules.proofs.Committing.{commits, since_more}
use Rattle.undo_rules.proofs.EqualLinks.{txn_eq-same}
use Rattle.undo_rules.proofs.Finding.{there_more, writes_more}
use Rattle.undo_rules.proofs.Logs.{changed_longer, drop_longer, kept_longer}
use Rattle.undo_rules.proofs.OpenLaws.{its_state, set_cases, set_length}
use Rattle.undo_rules.proofs.StepLaws.{settled_is}

-- ---- what wasn't stale

-- where no call is stale, none of their changes touches
unstale : (entries : List Entry) (touched : Touched) (calls : List Logged) → stale_by entries touched calls ≡ None →
    AllByRecursion (λ ws. meets_touched ws touched ≡ false) (filter_map (writes_of entries) (changed_among calls))
unstale entries touched [] h = tt
unstale entries touched (call ∷ calls) h = by (changed_in call) h (unstale entries touched calls) where
  by : (changed : Option TxnId) → stale_first entries touched changed (stale_by entries touched calls) ≡ None
      → (stale_by entries touched calls ≡ None → AllByRecursion (λ ws. meets_touched ws touched ≡ false)
      (filter_map (writes_of entries) (changed_among calls)))
      → AllByRecursion (λ ws. meets_touched ws touched ≡ false) (filter_map (writes_of entries) (cons_option changed (changed_among calls)))
  by None h rest = rest h
  by (Some txn) h rest = written (writes_of entries txn) h rest where
    written : (ws : Option Records) → cond (touching ws touched) (Some txn) (stale_by entries touched calls) ≡ None
        → (stale_by entries touched calls ≡ None → AllByRecursion (λ w. meets_touched w touched ≡ false)
        (filter_map (writes_of entries) (changed_among calls)))
        → AllByRecursion (λ w. meets_touched w touched ≡ false) (cons_option ws (filter_map (writes_of entries) (changed_among calls)))
    written None h rest = rest h
    written (Some w) h rest = met (meets_touched w touched) refl h where
      met : (b : Bool) → meets_touched w touched ≡ b → cond b (Some txn) (stale_by entries touched calls) ≡ None
          → (meets_touched w touched ≡ false)
          × AllByRecursion (λ v. meets_touched v touched ≡ false) (filter_map (writes_of entries) (changed_among calls))
      met true is h = absurd cc
      met false is h = (is, rest h)

-- ---- names

-- no committed transaction has the name of the one that waits
unnamed : (session number : ℕ) (state : SessionState) (txn : TxnId) (entries : List Entry) → number ≡ session → txn.session ≡ session →
    state.opens ≡ txn.txn → is_some state.pending ≡ true → AllByRecursion (IsNamed number state) entries →
    AllByRecursion (λ other. txn_eq other.txn txn ≡ false) entries
unnamed session number state txn [] at of last waits all = tt
unnamed session number state txn (e ∷ entries) at of last waits all =
    (by (txn_eq e.txn txn) refl, unnamed session number state txn entries at of last waits all.1) where
      by : (b : Bool) → txn_eq e.txn txn ≡ b → b ≡ false
      by false is = refl
      by true is =
          let parts = and_parts (e.txn.session == txn.session) (e.txn.txn == txn.txn) is in
          let its : e.txn.session ≡ txn.session = (Decides-eqb e.txn.session txn.session).0 parts.0 in
          let same : e.txn.txn ≡ txn.txn = (Decides-eqb e.txn.txn txn.txn).0 parts.1 in
          let less = (all.0 (its ∙ of ∙ sym at)).1 waits in
          absurd (omega (arith, less, same, last))

-- the last one is found under its name
last_found : (entries : List Entry) (e : Entry) → AllByRecursion (λ other. txn_eq other.txn e.txn ≡ false) entries →
    entry_of e.txn (entries ++ e ∷ []) ≡ Some e
last_found [] e apart = ap (λ b. cond b (Some e) None) (txn_eq-same e.txn)
last_found (x ∷ entries) e apart =
    ap (λ b. cond b (Some x) (entry_of e.txn (entries ++ e ∷ []))) apart.0 ∙ last_found entries e apart.1

-- ---- changes

-- what is so of all that calls changed is so of what the later ones did
all_dropped : (P : TxnId → Type 0) (n : ℕ) (calls : List Logged) → AllByRecursion P (changed_among calls) →
    AllByRecursion P (changed_among (drop n calls))
all_dropped P zero calls all = all
all_dropped P (suc n) [] all = tt
all_dropped P (suc n) (call ∷ calls) all = all_dropped P n calls (tail (changed_in call) all) where
  tail : (changed : Option TxnId) → AllByRecursion P (cons_option changed (changed_among calls)) → AllByRecursion P (changed_among calls)
  tail None all = all
  tail (Some txn) all = all.1

-- one more transaction leaves what these wrote
same_changes : (entries : List Entry) (e : Entry) (names : List TxnId) → AllByRecursion (λ n. is_some (entry_of n entries) ≡ true) names →
    filter_map (writes_of (entries ++ e ∷ [])) names ≡ filter_map (writes_of entries) names
same_changes entries e [] all = refl
same_changes entries e (n ∷ ns) all =
    (λ i. cons_option (writes_more entries e n all.0 i) (same_changes entries e ns all.1 i))

last_call : (log : List Logged) (call : Logged) → slice_get (log ++ call ∷ []) (length log) ≡ Some call
last_call [] call = refl
last_call (c ∷ log) call = last_call log call

-- one more call of a log that committed a transaction: one more change since
one_commit_more : (log : List Logged) (call : Logged) (entries : List Entry) (e : Entry) (place : ℕ) → place < length log →
    changed_in call ≡ Some e.txn → AllByRecursion (λ other. txn_eq other.txn e.txn ≡ false) entries →
    AllByRecursion (λ n. is_some (entry_of n entries) ≡ true) (changed_among log) →
    changes_since (log ++ call ∷ []) (entries ++ e ∷ []) place ≡ changes_since log entries place ++ e.writes ∷ []
one_commit_more log call entries e place within changed apart there =
    let more = entries ++ e ∷ [] in
    let names = changed_among (drop (place + 1) log) in
    ap (λ calls. filter_map (writes_of more) (changed_among calls)) (drop_longer (place + 1) log call (omega (arith, within)))
    ∙ ap (filter_map (writes_of more)) (changed_longer (drop (place + 1) log) call)
    ∙ filter_map-append (writes_of more) names (changed_among (call ∷ []))
    ∙ (λ i. same_changes entries e names (all_dropped (λ n. is_some (entry_of n entries) ≡ true) (place + 1) log there) i
    ++ filter_map (writes_of more) (cons_option (changed i) []))
    ∙ ap (λ w. changes_since log entries place ++ cons_option w []) (ap (option_map (λ (x : Entry). x.writes)) (last_found entries e apart))

-- ---- the commit

-- and they are still there
there_all : (entries : List Entry) (e : Entry) (names : List TxnId) → AllByRecursion (λ n. is_some (entry_of n entries) ≡ true) names →
    AllByRecursion (λ n. is_some (entry_of n (entries ++ e ∷ [])) ≡ true) names
there_all entries e [] all = tt
there_all entries e (n ∷ ns) all = (there_more entries e n all.0, there_all entries e ns all.1)

-- no committed transaction has the name of a work that is the history's own
pub its_name_is_new : (h : History) → IsHistory h → (txn : Transaction) → IsOwnWork h txn →
    AllByRecursion (λ other. txn_eq other.txn txn.id ≡ false) h.entries
its_name_is_new h is txn own =
    let s = txn.id.session in
    let here = its_state h is s own.low own.high in
    let number : s - 1 + 1 ≡ s = omega (arith, own.low) in
    unnamed s (s - 1 + 1) (state_of h s) txn.id h.entries number refl own.last (ap is_some own.waits) (is.named (s - 1) (state_of h s) here)

-- the log with its commit
abbrev pub with_commit : History → Transaction → List Logged
with_commit h txn =
    h.log ++ record { session = txn.id.session; call = Commit txn.id txn.commands; answer = Committed } ∷ []

-- the history takes the work
abbrev pub taking : (h : History) (txn : Transaction) → IsTransaction txn → IsOwnWork h txn → Taking
taking h txn transaction own = record {
  log = with_commit h txn;
  base = h.base;
  layout = h.layout;
  entries = h.entries;
  opened = own.waiting.snapshot;
  changes = changes_since h.log h.entries own.waiting.place;
  snapshot = txn.snapshot;
  entry = entered h txn;
  commands = txn.commands;
  run = transaction.run;
}

-- its commands run alike on the layout
pub commit_made : (h : History) → IsHistory h → (txn : Transaction) → (transaction : IsTransaction txn) → IsSound txn.snapshot →
    (own : IsOwnWork h txn) → stale_by h.entries txn.footprint (drop (txn.opened + 1) h.log) ≡ None →
    Commits (taking h txn transaction own)
commit_made h is txn transaction sound own unstale_calls =
    let s = txn.id.session in
    let here = its_state h is s own.low own.high in
    let call : Logged = record { session = s; call = Commit txn.id txn.commands; answer = Committed } in
    let log : List Logged = h.log ++ call ∷ [] in
    let (within, since) = is.since (s - 1) (state_of h s) own.waiting here own.waits in
    let free = unstale h.entries txn.footprint (drop (own.waiting.place + 1) h.log)
    (subst (λ (n : ℕ). stale_by h.entries txn.footprint (drop (n + 1) h.log) ≡ None) (sym own.place) unstale_calls) in
    let told : commands_at log (length h.log) ≡ Some txn.commands = ap commands_in (last_call h.log call) in
    commits (taking h txn transaction own) is.sound sound
    (record { runs = transaction.runs; footprint = transaction.footprint; writes = transaction.writes })
    (record { agree = own.agree; since = since; apart = free })
    (record { told = told; live = refl; seen = refl; named = its_name_is_new h is txn own })
    (kept_longer h.log call h.base h.layout h.entries is.kept)

pub commit_keeps : ACommitKeepsTheBook
commit_keeps h is txn transaction sound own unstale_calls =
    let s = txn.id.session in
    let state = state_of h s in
    let here = its_state h is s own.low own.high in
    let e : Entry = entered h txn in
    let call : Logged = record { session = s; call = Commit txn.id txn.commands; answer = Committed } in
    let apart = its_name_is_new h is txn own in
    let made = commit_made h is txn transaction sound own unstale_calls in
    let end : Layout = applied h.layout txn.writes in
    let next : History = logged (ended (with_entry h txn) s) s (Commit txn.id txn.commands) Committed in
    let all_there = there_all h.entries e (changed_among h.log) is.there in
    let after : IsHistory (record next { layout = end }) = record {
      sound = is.sound;
      kept = made.kept;
      sessions = set_length h.sessions (s - 1) (ended_state state) ∙ is.sessions;
      named = λ i st at. elim (set_cases h.sessions (s - 1) i (ended_state state) st at) [
        | inl (place, same) ↦ subst (λ (x : SessionState). AllByRecursion (IsNamed (i + 1) x) (h.entries ++ e ∷ [])) same
            (subst (λ (k : ℕ). AllByRecursion (IsNamed (k + 1) (ended_state state)) (h.entries ++ e ∷ [])) (sym place)
            (all_push (IsNamed (s - 1 + 1) (ended_state state)) h.entries e
            (all_weaker (IsNamed (s - 1 + 1) state) (IsNamed (s - 1 + 1) (ended_state state))
            (λ entry named its. ((named its).0, λ waits. absurd cc)) h.entries (is.named (s - 1) state here))
            (λ its. (omega (arith, own.last), λ waits. absurd cc))))
        | inr (other, there) ↦ all_push (IsNamed (i + 1) st) h.entries e (is.named i st there)
            (λ its. absurd (other (omega (arith, its, own.low))))
      ];
      there = subst (AllByRecursion (λ n. is_some (entry_of n (h.entries ++ e ∷ [])) ≡ true)) (sym (changed_longer h.log call))
          (all_push (λ n. is_some (entry_of n (h.entries ++ e ∷ [])) ≡ true) (changed_among h.log) txn.id all_there
          (ap is_some (last_found h.entries e apart)));
      since = λ i st pending at waits. elim (set_cases h.sessions (s - 1) i (ended_state state) st at) [
        | inl (place, same) ↦
            let none : None ≡ Some pending = ap (λ (x : SessionState). x.pending) same ∙ waits in
            absurd cc
        | inr (other, there) ↦
            let (inside, unchanged) = is.since i st pending there waits in (
              omega (arith, inside, length-append h.log (call ∷ [])),
              subst (λ (changes : List Records). IsSince pending.snapshot changes end)
                  (sym (one_commit_more h.log call h.entries e pending.place inside refl apart is.there))
                  (since_more pending.snapshot h.layout end (changes_since h.log h.entries pending.place) txn.writes unchanged
                  (λ x unmet. unmet_agree txn.writes h.layout end x made.leads unmet)),
            )
      ];
    } in
    subst IsHistory (sym (settled_is next end made.kept)) after
