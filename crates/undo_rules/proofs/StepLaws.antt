-- Each call of a book keeps what a book keeps true.
use Rattle.std.proofs.Common.{◌≡◌, ℕ, ◌+◌, ◌<◌, Bool, true, false, cond, List, [], ◌∷◌, ◌++◌, length, drop}
use Rattle.std.proofs.Common.{Option, None, Some, refl, sym, ap, subst, ◌∙◌, arith, unwrap_or}
use Rattle.std.specs.Prelude.{is_some}
use Rattle.std.specs.List.{AllByRecursion, cons_option, filter_map}
use Rattle.std.proofs.lemmas.List.{length-append}
use Rattle.std.proofs.lemmas.List.Elements.{filter_map-append}
use Rattle.lay_point.proofs.ListLaws.{all_push}
use Rattle.lay_layouts.specs.Layout.{Layout}
use Rattle.txn_commands.specs.declared.command.TxnId.{TxnId}
use Rattle.txn_commands.specs.declared.element.Element.{Element}
use Rattle.txn_commands.specs.Agreement.{Agree}
use Rattle.txn_commands.specs.Meets.{some_meets}
use Rattle.txn_commands.specs.Records.{Records, reverted}
use Rattle.txn_commands.proofs.Agreements.{agree-sym}
use Rattle.txn_rules.proofs.Overlay.{unmet_agree}
use Rattle.undo_rules.specs.declared.log.Answer.{Answer}
use Rattle.undo_rules.specs.declared.log.Answer.TheVariants.{Redone, Undone}
use Rattle.undo_rules.specs.declared.log.BookFault.{BookFault}
use Rattle.undo_rules.specs.declared.log.BookFault.TheVariants.{NotLive, StillLive}
use Rattle.undo_rules.specs.declared.log.Call.{Call}
use Rattle.undo_rules.specs.declared.log.Call.TheVariants.{Redo, Undo}
use Rattle.undo_rules.specs.declared.log.Logged.{Logged}
use Rattle.undo_rules.specs.Books.{History, IsHistory, changed_among, changed_by, changed_in, changes_since, entry_of}
use Rattle.undo_rules.specs.Books.{writes_of}
use Rattle.undo_rules.specs.Histories.{AreKept, IsSince}
use Rattle.undo_rules.specs.Links.{Entry, first_moved, first_reader, links_to}
use Rattle.undo_rules.specs.Steps.{Found, after_redo, after_undo, depends, found, logged}
use Rattle.undo_rules.specs.Steps.{moved_refusal, or_else, redo_refusal, redo_refusal_at, remarked}
use Rattle.undo_rules.specs.Steps.{settled, undo_refusal, undo_refusal_at, with_mark}
use Rattle.undo_rules.proofs.Chains.{no_reader}
use Rattle.undo_rules.proofs.Committing.{chain_replays, since_more}
use Rattle.undo_rules.proofs.Finding.{IsFound, found_is, named_remarked, there_writes, writes_remarked}
use Rattle.undo_rules.proofs.HistoryLaws.{links_seen}
use Rattle.undo_rules.proofs.Logs.{changed_longer, drop_longer, kept_longer}
use Rattle.undo_rules.proofs.Undoing.{redone_kept, undone_kept}

-- ---- a call that changes a transaction's mark

-- the writes of all names are those before the mark
same_changes : (live : Bool) (txn : TxnId) (entries : List Entry) (names : List TxnId) →
    filter_map (writes_of (remarked live txn entries)) names ≡ filter_map (writes_of entries) names
same_changes live txn entries [] = refl
same_changes live txn entries (n ∷ ns) =
    (λ i. cons_option (writes_remarked live txn entries n i) (same_changes live txn entries ns i))

-- all that the log's calls changed is there, and so is the transaction of one more
there_still : (live : Bool) (txn : TxnId) (entries : List Entry) (names : List TxnId) →
    AllByRecursion (λ n. is_some (entry_of n entries) ≡ true) names →
    AllByRecursion (λ n. is_some (entry_of n (remarked live txn entries)) ≡ true) names
there_still live txn entries [] all = tt
there_still live txn entries (n ∷ ns) all = (
  sym (there_writes (remarked live txn entries) n) ∙ ap is_some (writes_remarked live txn entries n) ∙ there_writes entries n ∙ all.0,
  there_still live txn entries ns all.1,
)

-- one more call of a log that changed this transaction: one more change since
one_more : (log : List Logged) (call : Logged) (entries : List Entry) (live : Bool) (txn : TxnId) (ws : Records) (place : ℕ) →
    place < length log → changed_in call ≡ Some txn → writes_of entries txn ≡ Some ws →
    changes_since (log ++ call ∷ []) (remarked live txn entries) place ≡ changes_since log entries place ++ ws ∷ []
one_more log call entries live txn ws place within changed written =
    ap (λ calls. filter_map (writes_of (remarked live txn entries)) (changed_among calls))
    (drop_longer (place + 1) log call (omega (arith, within)))
    ∙ ap (filter_map (writes_of (remarked live txn entries))) (changed_longer (drop (place + 1) log) call)
    ∙ same_changes live txn entries (changed_among (drop (place + 1) log) ++ changed_among (call ∷ []))
    ∙ filter_map-append (writes_of entries) (changed_among (drop (place + 1) log)) (changed_among (call ∷ []))
    ∙ ap (λ names. changes_since log entries place ++ filter_map (writes_of entries) names) (λ i. cons_option (changed i) [])
    ∙ ap (λ w. changes_since log entries place ++ cons_option w []) written

-- the history with the mark, where what is kept of the transactions is kept with this layout
marked_history : (h : History) → IsHistory h → (session : ℕ) (call : Call) (answer : Answer) (live : Bool) (txn : TxnId) (ws : Records)
    (end : Layout) → changed_by call answer ≡ Some txn → writes_of h.entries txn ≡ Some ws →
    ((e : Element) → some_meets ws e ≡ false → Agree h.layout end e) → AreKept h.log h.base end (remarked live txn h.entries) →
    IsHistory (record (logged (with_mark h live txn) session call answer) { layout = end })
marked_history h is session call answer live txn ws end changed written keeps kept =
    let entered : Logged = record { session = session; call = call; answer = answer } in
    let known : is_some (entry_of txn h.entries) ≡ true = sym (there_writes h.entries txn) ∙ ap is_some written in
    let all_there = there_still live txn h.entries (changed_among h.log) is.there in
    record {
      sound = is.sound;
      kept = kept_longer h.log entered h.base end (remarked live txn h.entries) kept;
      sessions = is.sessions;
      named = λ i state at. named_remarked (i + 1) state live txn h.entries (is.named i state at);
      there = subst (AllByRecursion (λ n. is_some (entry_of n (remarked live txn h.entries)) ≡ true))
          (sym (changed_longer h.log entered ∙ ap (λ names. changed_among h.log ++ names) (λ i. cons_option (changed i) [])))
          (all_push (λ n. is_some (entry_of n (remarked live txn h.entries)) ≡ true) (changed_among h.log) txn all_there
          (sym (there_writes (remarked live txn h.entries) txn) ∙ ap is_some (writes_remarked live txn h.entries txn)
          ∙ there_writes h.entries txn ∙ known));
      since = λ i state pending at waits.
          let (within, since) = is.since i state pending at waits in (
            omega (arith, within, length-append h.log (entered ∷ [])),
            subst (λ (changes : List Records). IsSince pending.snapshot changes end)
                (sym (one_more h.log entered h.entries live txn ws pending.place within changed written))
                (since_more pending.snapshot h.layout end (changes_since h.log h.entries pending.place) ws since keeps),
          );
    }

-- the layout of a settled history is the one that is kept
pub settled_is : (h : History) (end : Layout) → AreKept h.log h.base end h.entries → settled h ≡ record h { layout = end }
settled_is h end kept =
    ap (λ l. record h { layout = unwrap_or l h.layout }) (chain_replays h.log h.base h.entries end kept.chain)

-- ---- undo and redo

-- neither of two refusals
pub neither_of : (first next : Option BookFault) → or_else first next ≡ None → (first ≡ None) × (next ≡ None)
neither_of None next h = (refl, h)
neither_of (Some fault) next h = absurd cc

pub no_depends : (reader : Option TxnId) → depends reader ≡ None → reader ≡ None
no_depends None h = refl
no_depends (Some txn) h = absurd cc

pub no_moved : (other : Option TxnId) → moved_refusal other ≡ None → other ≡ None
no_moved None h = refl
no_moved (Some txn) h = absurd cc

undo_at : (h : History) → IsHistory h → (session : ℕ) (txn : TxnId) (at : Found) → IsFound [] h.entries txn at → at.entry.live ≡ true →
    first_reader at.entry.writes at.later ≡ None →
    IsHistory (after_undo h session txn) × ((after_undo h session txn).layout ≡ reverted h.layout at.entry.writes)
undo_at h is session txn at found live unread =
    let kept : AreKept h.log h.base h.layout (found.front ++ at.entry ∷ at.later) =
    subst (AreKept h.log h.base h.layout) found.parts is.kept in
    let (end, still, to, back, lead) = undone_kept h.log h.base h.layout found.front at.entry at.later is.sound live
    (no_reader at.entry.writes at.later unread) kept in
    let marked_still : AreKept h.log h.base end (remarked false txn h.entries) =
    subst (AreKept h.log h.base end) (sym (found.marks false)) still in
    let after = marked_history h is session (Undo txn) Undone false txn at.entry.writes end refl found.written
    (λ e unmet. agree-sym end h.layout e (unmet_agree at.entry.writes end h.layout e lead unmet)) marked_still in
    let same = settled_is (logged (with_mark h false txn) session (Undo txn) Undone) end after.kept in
    (subst IsHistory (sym same) after, ap (λ (x : History). x.layout) same ∙ sym to)

-- an accepted undo keeps what a book keeps true, and reverts the transaction's records
pub undo_keeps : (h : History) → IsHistory h → (session : ℕ) (txn : TxnId) → undo_refusal h txn ≡ None
    → IsHistory (after_undo h session txn)
undo_keeps h is session txn = by (found h txn) refl where
  by : (at : Option Found) → found h txn ≡ at → undo_refusal_at at ≡ None → IsHistory (after_undo h session txn)
  by None there none = absurd cc
  by (Some at) there none = live_or at.entry.live refl none where
    live_or : (live : Bool) → at.entry.live ≡ live
        → cond live (depends (first_reader at.entry.writes at.later)) (Some NotLive) ≡ None
        → IsHistory (after_undo h session txn)
    live_or true live none =
        (undo_at h is session txn at (found_is [] h.entries txn at there) live (no_depends (first_reader at.entry.writes at.later) none)).0
    live_or false live none = absurd cc

redo_at : (h : History) → IsHistory h → (session : ℕ) (txn : TxnId) (at : Found) → IsFound [] h.entries txn at → at.entry.live ≡ false →
    first_reader at.entry.writes at.later ≡ None → first_moved at.before (links_to at.before at.entry.footprint) at.entry.seen ≡ None →
    IsHistory (after_redo h session txn)
redo_at h is session txn at found undone unread unmoved =
    let kept : AreKept h.log h.base h.layout (found.front ++ at.entry ∷ at.later) =
    subst (AreKept h.log h.base h.layout) found.parts is.kept in
    let in_place : first_moved found.front (links_to found.front at.entry.footprint) at.entry.seen ≡ None =
    subst (λ (es : List Entry). first_moved es (links_to es at.entry.footprint) at.entry.seen ≡ None) found.behind unmoved in
    let links = links_seen h.log h.base h.layout found.front at.entry at.later kept in_place in
    let (end, still, to, lead) = redone_kept h.log h.base h.layout found.front at.entry at.later is.sound undone
    (no_reader at.entry.writes at.later unread) links kept in
    let marked_still : AreKept h.log h.base end (remarked true txn h.entries) =
    subst (AreKept h.log h.base end) (sym (found.marks true)) still in
    let after = marked_history h is session (Redo txn) Redone true txn at.entry.writes end refl found.written
    (λ e unmet. unmet_agree at.entry.writes h.layout end e lead unmet) marked_still in
    subst IsHistory (sym (settled_is (logged (with_mark h true txn) session (Redo txn) Redone) end after.kept)) after

-- and so does an accepted redo
pub redo_keeps : (h : History) → IsHistory h → (session : ℕ) (txn : TxnId) → redo_refusal h txn ≡ None
    → IsHistory (after_redo h session txn)
redo_keeps h is session txn = by (found h txn) refl where
  by : (at : Option Found) → found h txn ≡ at → redo_refusal_at at ≡ None → IsHistory (after_redo h session txn)
  by None there none = absurd cc
  by (Some at) there none = live_or at.entry.live refl none where
    live_or : (live : Bool) → at.entry.live ≡ live
        → cond live (Some StillLive) (or_else (depends (first_reader at.entry.writes at.later))
        (moved_refusal (first_moved at.before (links_to at.before at.entry.footprint) at.entry.seen))) ≡ None
        → IsHistory (after_redo h session txn)
    live_or true live none = absurd cc
    live_or false live none =
        let parts = neither_of (depends (first_reader at.entry.writes at.later))
        (moved_refusal (first_moved at.before (links_to at.before at.entry.footprint) at.entry.seen)) none in
        redo_at h is session txn at (found_is [] h.entries txn at there) live (no_depends (first_reader at.entry.writes at.later) parts.0)
        (no_moved (first_moved at.before (links_to at.before at.entry.footprint) at.entry.seen) parts.1)
