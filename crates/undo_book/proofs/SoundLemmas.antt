-- A history leads from its sound base to a sound layout, and the records of its transactions are in order.
use Rattle.std.proofs.Common.{◌≡◌, ℕ, zero, suc, Bool, List, [], ◌∷◌, ◌++◌, None, Some, refl, sym, ap, subst, ◌∙◌, replicate, slice_get}
use Rattle.std.proofs.lemmas.List.{length-replicate}
use Rattle.std.specs.List.{AllByRecursion}
use Rattle.lay_layouts.specs.Layout.{Layout}
use Rattle.lay_layouts.specs.Sound.{IsSound}
use Rattle.txn_commands.specs.declared.command.TxnId.{TxnId}
use Rattle.txn_commands.specs.Records.{AreProper}
use Rattle.undo_rules.specs.declared.log.Logged.{Logged}
use Rattle.undo_rules.specs.Books.{History, IsHistory, SessionState}
use Rattle.undo_rules.specs.Histories.{AreKept, AreRooted}
use Rattle.undo_rules.specs.Links.{Entry, Trace, trace_of}
use Rattle.undo_rules.specs.Steps.{fresh, unused}
use Rattle.undo_rules.proofs.Grounds.{ran_proper}
use Rattle.undo_rules.proofs.Roots.{root_of}
use Rattle.undo_rules.proofs.Undoing.{chain_sound}
use Rattle.undo_book.specs.Indexed.{CanBeLookedUp}
use Rattle.undo_book.specs.Places.{IndexesByName}

pub kept_sound : (log : List Logged) (base layout : Layout) (entries : List Entry) → AreKept log base layout entries → IsSound base
    → IsSound layout
kept_sound log base layout entries kept sound = chain_sound log entries base layout kept.chain sound

pub entry_proper : (log : List Logged) (base layout : Layout) (before : List Entry) (entry : Entry) (later : List Entry) →
    AreKept log base layout (before ++ entry ∷ later) → AreProper entry.writes
entry_proper log base layout before entry later kept =
    let (root, _) = root_of log base [] [] before entry later kept.rooted in
    ran_proper log entry root.before root.after root.ran

rooted_proper : (log : List Logged) (base : Layout) (earlier : List Trace) (marks : List Bool) (entries : List Entry) →
    AreRooted log base earlier marks entries → AllByRecursion (λ (entry : Entry). AreProper entry.writes) entries
rooted_proper log base earlier marks [] rooted = tt
rooted_proper log base earlier marks (entry ∷ entries) (root, links, rest) = (
  ran_proper log entry root.before root.after root.ran,
  rooted_proper log base (earlier ++ trace_of entry ∷ []) (marks ++ entry.live ∷ []) entries rest,
)

-- so transactions are found by their names, and in what one wrote an item by its id
pub kept_found : (h : History) (places : List (TxnId × ℕ)) (es : List Entry) → IsHistory h → IndexesByName places h.entries →
    es ≡ h.entries → CanBeLookedUp places es
kept_found h places es is are same = subst (CanBeLookedUp places) (sym same) (record {
  places = are;
  named = is.kept.named;
  proper = rooted_proper h.log h.base [] [] h.entries is.kept.rooted;
})

-- ---- a history without calls

in_replicate : {X : Type 0} (n : ℕ) (x y : X) (i : ℕ) → slice_get (replicate n x) i ≡ Some y → x ≡ y
in_replicate zero x y i h = absurd cc
in_replicate (suc n) x y zero h = cc
in_replicate (suc n) x y (suc i) h = in_replicate n x y i h

fresh_history : (base : Layout) (limit : ℕ) → IsSound base → IsHistory (fresh base limit)
fresh_history base limit sound = record {
  sound = sound;
  kept = record { chain = refl; rooted = tt; named = tt };
  sessions = length-replicate 64 unused;
  named = λ i s at. tt;
  there = tt;
  since = λ i s p at has.
      let same : unused ≡ s = in_replicate 64 unused s i at in
      let none : None ≡ Some p = ap (λ (x : SessionState). x.pending) same ∙ has in
      absurd cc;
}

-- a history of these parts has no calls
pub begins_history : (h : History) → IsSound h.base → h.layout ≡ h.base → h.log ≡ [] → h.entries ≡ [] →
    h.sessions ≡ replicate 64 unused → IsHistory h
begins_history h sound layout log entries sessions =
    let same : fresh h.base h.limit ≡ h =
    λ i. record {
      base = h.base;
      layout = sym layout i;
      log = sym log i;
      limit = h.limit;
      entries = sym entries i;
      sessions = sym sessions i;
    } in
    subst (λ (x : History). IsHistory x) same (fresh_history h.base h.limit sound)
