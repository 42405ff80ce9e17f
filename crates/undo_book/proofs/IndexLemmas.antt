-- The tree of places under names.
use Rattle.std.proofs.Common.{◌≡◌, ℕ, ◌==◌, Bool, true, false, cond, ◌&&◌, List, [], ◌∷◌, ◌++◌, length, Some, refl, sym, ap, ◌∙◌}
use Rattle.std.specs.BTreeMap.{is_at}
use Rattle.std.specs.Cmp.{unsigned_tied}
use Rattle.std.specs.List.{AllByRecursion}
use Rattle.std.specs.Map.{lookup}
use Rattle.std.specs.Ordering.{nat_cmp}
use Rattle.lay_layouts.proofs.SlotLemmas.{is_eq-then}
use Rattle.txn_commands.specs.declared.command.TxnId.{TxnId}
use Rattle.undo_rules.specs.Links.{Entry, txn_eq}
use Rattle.undo_rules.specs.Steps.{remarked}
use Rattle.undo_rules.proofs.EqualLinks.{txn_eq-true}
use Rattle.undo_book.specs.Places.{IndexesByName, name_cmp, place_of}
use Rattle.undo_book.proofs.PlaceLemmas.{place_last, place_marked, place_pushed}

-- names that the order doesn't distinguish are the same
same_name : (s t : TxnId) → is_at (name_cmp s) t ≡ txn_eq s t
same_name s t =
    is_eq-then (nat_cmp s.session t.session) (nat_cmp s.txn t.txn)
    ∙ (λ i. unsigned_tied s.session t.session i && unsigned_tied s.txn t.txn i)

-- a mark leaves the tree as it is
pub places_marked : (places : List (TxnId × ℕ)) (live : Bool) (txn : TxnId) (es : List Entry) → IndexesByName places es →
    IndexesByName places (remarked live txn es)
places_marked places live txn es are q = are q ∙ sym (place_marked live txn es q)

-- a transaction under a new name goes into it
pub places_pushed : (places new : List (TxnId × ℕ)) (es : List Entry) (e : Entry) (name : TxnId) (place : ℕ) → e.txn ≡ name →
    place ≡ length es → AllByRecursion (λ other. txn_eq other.txn e.txn ≡ false) es → IndexesByName places es →
    ((q : TxnId) → lookup (is_at (name_cmp q)) new ≡ cond (is_at (name_cmp name) q) (Some place)
    (lookup (is_at (name_cmp q)) places))
    → IndexesByName new (es ++ e ∷ [])
places_pushed places new es e name place named last apart are h txn =
    h txn ∙ ap (λ b. cond b (Some place) (lookup (is_at (name_cmp txn)) places)) (same_name name txn)
    ∙ ap (λ n. cond (txn_eq n txn) (Some place) (lookup (is_at (name_cmp txn)) places)) (sym named)
    ∙ by (txn_eq e.txn txn) refl where
      by : (b : Bool) → txn_eq e.txn txn ≡ b
          → cond b (Some place) (lookup (is_at (name_cmp txn)) places) ≡ place_of txn (es ++ e ∷ [])
      by true is =
          ap Some last ∙ sym (place_last es e apart) ∙ ap (λ n. place_of n (es ++ e ∷ [])) (txn_eq-true e.txn txn is)
      by false is = are txn ∙ sym (place_pushed es e txn is)
