-- Transactions by their names, where no two have one.
use Rattle.std.proofs.Common.{◌≡◌, inl, inr, Bool, true, false, cond, ◌||◌, ◌&&◌, List, [], ◌∷◌, ◌++◌, map, Some}
use Rattle.std.proofs.Common.{refl, sym, ap, subst, ◌∙◌, append_assoc, append-nil}
use Rattle.std.specs.List.{AllByRecursion}
use Rattle.std.proofs.lemmas.Bool.{or_left, or_right}
use Rattle.lay_point.proofs.Members.{Has, has-append_right}
use Rattle.txn_commands.specs.declared.command.TxnId.{TxnId}
use Rattle.txn_commands.specs.Elements.{Touched}
use Rattle.undo_rules.specs.Books.{entry_of}
use Rattle.undo_rules.specs.Links.{AreNamed, Entry, Trace, is_named_in, links_to, live_of, trace_of, txn_eq}
use Rattle.txn_commands.specs.Meets.{meets_touched}
use Rattle.undo_rules.specs.Steps.{found_behind}
use Rattle.undo_rules.proofs.EqualLinks.{linked-all, txn_eq-same, txn_eq-true}
use Rattle.undo_rules.proofs.Moved.{not_among, txn_eq-sym}

pub txn_eq-named : (s t : TxnId) → s ≡ t → txn_eq s t ≡ true
txn_eq-named s t e = ap (txn_eq s) (sym e) ∙ txn_eq-same s

-- ---- names in lists

pub among_has : (name : TxnId) (names : List TxnId) → is_named_in name names ≡ true → Has names name
among_has name [] h = absurd cc
among_has name (u ∷ us) h = by (txn_eq name u) refl h (among_has name us) where
  by : (b : Bool) → txn_eq name u ≡ b → (b || is_named_in name us) ≡ true → (is_named_in name us ≡ true → Has us name) → Has (u ∷ us) name
  by true is h more = inl (sym (txn_eq-true name u is))
  by false is h more = inr (more h)

pub has_among : (name : TxnId) (names : List TxnId) → Has names name → is_named_in name names ≡ true
has_among name [] m = absurd m
has_among name (u ∷ us) (inl same) = or_left (txn_eq name u) (is_named_in name us) (txn_eq-named name u (sym same))
has_among name (u ∷ us) (inr m) = or_right (txn_eq name u) (is_named_in name us) (has_among name us m)

-- ---- names that differ

others_differ : (t : TxnId) (es : List Entry) (e : Entry) → AllByRecursion (λ (u : Trace). txn_eq t u.txn ≡ false) (map trace_of es)
    → Has es e → txn_eq t e.txn ≡ false
others_differ t [] e all m = absurd m
others_differ t (x ∷ es) e all (inl same) = ap (λ (y : Entry). txn_eq t y.txn) (sym same) ∙ all.0
others_differ t (x ∷ es) e all (inr m) = others_differ t es e all.1 m

-- ---- a transaction at its place

pub found_in : (before earlier : List Entry) (entry : Entry) (later : List Entry) (txn : TxnId) → entry.txn ≡ txn
    → AreNamed (map trace_of (earlier ++ entry ∷ later))
    → found_behind before (earlier ++ entry ∷ later) txn ≡ Some (record { before = before ++ earlier; entry = entry; later = later })
found_in before [] entry later txn is named =
    ap (λ b. cond b (Some (record { before = before; entry = entry; later = later })) (found_behind (before ++ entry ∷ []) later txn))
    (txn_eq-named entry.txn txn is)
    ∙ ap (λ es. Some (record { before = es; entry = entry; later = later })) (sym (append-nil before))
found_in before (x ∷ xs) entry later txn is named =
    let differs : txn_eq x.txn entry.txn ≡ false =
    others_differ x.txn (xs ++ entry ∷ later) entry named.0 (has-append_right xs (entry ∷ later) entry (inl refl)) in
    let apart : txn_eq x.txn txn ≡ false = ap (txn_eq x.txn) (sym is) ∙ differs in
    ap (λ b. cond b (Some (record { before = before; entry = x; later = xs ++ entry ∷ later }))
    (found_behind (before ++ x ∷ []) (xs ++ entry ∷ later) txn)) apart
    ∙ found_in (before ++ x ∷ []) xs entry later txn is named.1
    ∙ ap (λ es. Some (record { before = es; entry = entry; later = later })) (append_assoc before (x ∷ []) xs)

pub record IsHeld (entries : List Entry) (txn : TxnId) (entry : Entry) : Type 0 where
  pub there : Has entries entry
  pub named : entry.txn ≡ txn

pub entry_held : (entries : List Entry) (txn : TxnId) (entry : Entry) → entry_of txn entries ≡ Some entry → IsHeld entries txn entry
entry_held [] txn entry h = absurd cc
entry_held (x ∷ xs) txn entry h = by (txn_eq x.txn txn) refl h (entry_held xs txn entry) where
  by : (b : Bool) → txn_eq x.txn txn ≡ b → cond b (Some x) (entry_of txn xs) ≡ Some entry
      → (entry_of txn xs ≡ Some entry → IsHeld xs txn entry) → IsHeld (x ∷ xs) txn entry
  by true is h more =
      let same : x ≡ entry = cc in
      record { there = inl same; named = ap (λ (e : Entry). e.txn) (sym same) ∙ txn_eq-true x.txn txn is }
  by false is h more = let r = more h in record { there = inr r.there; named = r.named }

pub held_entry : (entries : List Entry) (txn : TxnId) (entry : Entry) → AreNamed (map trace_of entries) → Has entries entry
    → entry.txn ≡ txn → entry_of txn entries ≡ Some entry
held_entry [] txn entry named m is = absurd m
held_entry (x ∷ xs) txn entry named (inl same) is =
    let here : txn_eq x.txn txn ≡ true = txn_eq-named x.txn txn (ap (λ (e : Entry). e.txn) same ∙ is) in
    ap (λ b. cond b (Some x) (entry_of txn xs)) here ∙ ap Some same
held_entry (x ∷ xs) txn entry named (inr m) is =
    let apart : txn_eq x.txn txn ≡ false = ap (txn_eq x.txn) (sym is) ∙ others_differ x.txn xs entry named.0 m in
    ap (λ b. cond b (Some x) (entry_of txn xs)) apart ∙ held_entry xs txn entry named.1 m is

-- ---- links

-- a transaction is among the links where it is live and wrote what is touched
pub links_has : (touched : Touched) (es : List Entry) (e : Entry) → AreNamed (map trace_of es) → Has es e
    → is_named_in e.txn (links_to es touched) ≡ (e.live && meets_touched e.writes touched)
links_has touched [] e named m = absurd m
links_has touched (x ∷ es) e named (inl same) =
    subst (λ (y : Entry). is_named_in y.txn (links_to (x ∷ es) touched) ≡ (y.live && meets_touched y.writes touched)) same
    (by (x.live && meets_touched x.writes touched)) where
      ls : List TxnId
      ls = links_to es touched

      by : (b : Bool) → is_named_in x.txn (cond b (x.txn ∷ ls) ls) ≡ b
      by true = ap (λ b. b || is_named_in x.txn ls) (txn_eq-same x.txn)
      by false = not_among x.txn ls (linked-all (λ u. txn_eq x.txn u ≡ false) touched (map trace_of es) (map live_of es) named.0)
links_has touched (x ∷ es) e named (inr m) =
    by (x.live && meets_touched x.writes touched) ∙ links_has touched es e named.1 m where
      ls : List TxnId
      ls = links_to es touched

      by : (b : Bool) → is_named_in e.txn (cond b (x.txn ∷ ls) ls) ≡ is_named_in e.txn ls
      by true = ap (λ b. b || is_named_in e.txn ls) (txn_eq-sym x.txn e.txn (others_differ x.txn es e named.0 m))
      by false = refl
