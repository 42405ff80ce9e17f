-- What the transaction at a place is: why it can't be undone or redone, and what it wrote.
use Rattle.std.proofs.Common.{◌≡◌, ℕ, ◌<◌, zero, suc, Bool, false, List, [], ◌∷◌, ◌++◌, length, take, drop, Option, None, Some}
use Rattle.std.proofs.Common.{option_map, refl, sym, ap, ◌∙◌, arith, get_or, slice_get}
use Rattle.std.proofs.lemmas.Option.{slice_get_read}
use Rattle.std.specs.Prelude.{IfSome}
use Rattle.txn_commands.specs.declared.command.TxnId.{TxnId}
use Rattle.txn_commands.specs.Elements.{Touched}
use Rattle.undo_rules.specs.declared.log.BookFault.{BookFault}
use Rattle.undo_rules.specs.declared.log.BookFault.TheVariants.{NoTxn}
use Rattle.undo_rules.specs.Books.{History, writes_of}
use Rattle.undo_rules.specs.Links.{Entry, marked}
use Rattle.txn_commands.specs.Meets.{meets_touched}
use Rattle.undo_rules.specs.Steps.{Found, found, redo_refusal, redo_refusal_at, remarked, touching}
use Rattle.undo_rules.specs.Steps.{undo_refusal, undo_refusal_at}
use Rattle.undo_rules.proofs.Finding.{found_is}
use Rattle.undo_book.specs.Places.{found_at, place_of}
use Rattle.undo_book.proofs.PlaceLemmas.{entry_none, entry_there, found_none, found_there, place_within}

-- a place that is found is one of the list
pub found_within : (o : Option ℕ) (es : List Entry) (txn : TxnId) → o ≡ place_of txn es → IfSome o (λ i. i < length es)
found_within None es txn is = tt
found_within (Some i) es txn is = place_within es txn i (sym is)

pub get_within : {X : Type 0} (xs : List X) (i : ℕ) → i < length xs → slice_get xs i ≡ None → ⊥
get_within [] i less none = absurd (omega (arith, less))
get_within (x ∷ xs) zero less none = absurd cc
get_within (x ∷ xs) (suc i) less none = get_within xs i (omega (arith, less)) none

-- the transaction of a name is the one at its place
found_placed : (h : History) (txn : TxnId) (i : ℕ) → place_of txn h.entries ≡ Some i → found h txn ≡ found_at h.entries i
found_placed h txn i placed = by (slice_get h.entries i) refl where
  by : (o : Option Entry) → slice_get h.entries i ≡ o → found h txn
      ≡ option_map (λ entry. record { before = take i h.entries; entry = entry; later = drop (suc i) h.entries }) o
  by None is = absurd (get_within h.entries i (place_within h.entries txn i placed) is)
  by (Some entry) is = found_there [] h.entries txn i entry placed is

undo_refusal_placed : (h : History) (txn : TxnId) (i : ℕ) → place_of txn h.entries ≡ Some i →
    undo_refusal h txn ≡ undo_refusal_at (found_at h.entries i)
undo_refusal_placed h txn i placed = ap undo_refusal_at (found_placed h txn i placed)

pub undo_refusal_none : (h : History) (txn : TxnId) → place_of txn h.entries ≡ None → undo_refusal h txn ≡ Some NoTxn
undo_refusal_none h txn none = ap undo_refusal_at (found_none [] h.entries txn none)

pub redo_refusal_none : (h : History) (txn : TxnId) → place_of txn h.entries ≡ None → redo_refusal h txn ≡ Some NoTxn
redo_refusal_none h txn none = ap redo_refusal_at (found_none [] h.entries txn none)

-- the list in its parts, with any mark
pub record IsSplit (h : History) (txn : TxnId) (at : Found) : Type 0 where
  pub parts : h.entries ≡ at.before ++ at.entry ∷ at.later
  pub marks : (live : Bool) → remarked live txn h.entries ≡ at.before ++ marked live at.entry ∷ at.later

pub split_at : (h : History) (txn : TxnId) (at : Found) → found h txn ≡ Some at → IsSplit h txn at
split_at h txn at there =
    let is = found_is [] h.entries txn at there in
    let front : is.front ≡ at.before = sym is.behind in
    record {
      parts = is.parts ∙ ap (λ es. es ++ at.entry ∷ at.later) front;
      marks = λ live. is.marks live ∙ ap (λ es. es ++ marked live at.entry ∷ at.later) front;
    }

redo_refusal_placed : (h : History) (txn : TxnId) (i : ℕ) → place_of txn h.entries ≡ Some i →
    redo_refusal h txn ≡ redo_refusal_at (found_at h.entries i)
redo_refusal_placed h txn i placed = ap redo_refusal_at (found_placed h txn i placed)

-- what the transaction of a name wrote
pub wrote_placed : (es : List Entry) (txn : TxnId) (i : ℕ) (entry : Entry) (touched : Touched) → place_of txn es ≡ Some i →
    entry ≡ get_or es i entry → meets_touched entry.writes touched ≡ touching (writes_of es txn) touched
wrote_placed es txn i entry touched placed read =
    let there = slice_get_read es (length es) i entry refl (place_within es txn i placed) read in
    sym (ap (λ o. touching (option_map (λ (e : Entry). e.writes) o) touched) (entry_there es txn i entry placed there))

pub wrote_none : (es : List Entry) (txn : TxnId) (touched : Touched) → place_of txn es ≡ None → false ≡ touching (writes_of es txn) touched
wrote_none es txn touched none = sym (ap (λ o. touching (option_map (λ (e : Entry). e.writes) o) touched) (entry_none es txn none))

-- what is answered of a place is what is against the transaction
pub undo_answer : (h : History) (txn : TxnId) (i : ℕ) (es : List Entry) (answer : Option BookFault) → Some i ≡ place_of txn h.entries →
    es ≡ h.entries → answer ≡ undo_refusal_at (found_at es i) → undo_refusal h txn ≡ answer
undo_answer h txn i es answer placed same is =
    undo_refusal_placed h txn i (sym placed) ∙ ap (λ (xs : List Entry). undo_refusal_at (found_at xs i)) (sym same) ∙ sym is

pub redo_answer : (h : History) (txn : TxnId) (i : ℕ) (es : List Entry) (answer : Option BookFault) → Some i ≡ place_of txn h.entries →
    es ≡ h.entries → answer ≡ redo_refusal_at (found_at es i) → redo_refusal h txn ≡ answer
redo_answer h txn i es answer placed same is =
    redo_refusal_placed h txn i (sym placed) ∙ ap (λ (xs : List Entry). redo_refusal_at (found_at xs i)) (sym same) ∙ sym is
