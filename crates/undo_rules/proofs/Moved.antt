-- Links that no transaction is in alone are equal.
use Rattle.std.proofs.Common.{◌≡◌, ◌==◌, Bool, true, false, cond, ◌&&◌, ◌||◌, List, []}
use Rattle.std.proofs.Common.{◌∷◌, length, map, None, Some, refl, sym, ap, ◌∙◌, arith}
use Rattle.std.specs.List.{AllByRecursion}
use Rattle.std.proofs.lemmas.Bool.Decides.{Decides-eqb}
use Rattle.txn_commands.specs.declared.command.TxnId.{TxnId}
use Rattle.txn_commands.specs.Elements.{Touched}
use Rattle.undo_rules.specs.Links.{AreNamed, Entry, Trace, first_moved, is_named_in, linked, trace_of, txn_eq}
use Rattle.txn_commands.specs.Meets.{meets_touched}
use Rattle.undo_rules.proofs.EqualLinks.{linked-all, txn_eq-same}

-- in both lists or in neither
abbrev AreIn : List TxnId → List TxnId → List Trace → Type 0
AreIn one other ts = AllByRecursion (λ (t : Trace). is_named_in t.txn one ≡ is_named_in t.txn other) ts

none_moved : (entries : List Entry) (one other : List TxnId) → first_moved entries one other ≡ None → AreIn one other (map trace_of entries)
none_moved [] one other h = tt
none_moved (entry ∷ entries) one other h =
    by (is_named_in entry.txn one) refl (is_named_in entry.txn other) refl h (none_moved entries one other) where
      by : (a : Bool) → is_named_in entry.txn one ≡ a → (b : Bool) → is_named_in entry.txn other ≡ b
          → cond a (cond b (first_moved entries one other) (Some entry.txn))
          (cond b (Some entry.txn) (first_moved entries one other)) ≡ None
          → (first_moved entries one other ≡ None → AreIn one other (map trace_of entries))
          → (is_named_in entry.txn one ≡ is_named_in entry.txn other) × AreIn one other (map trace_of entries)
      by true is true are h rest = (is ∙ sym are, rest h)
      by true is false are h rest = absurd cc
      by false is true are h rest = absurd cc
      by false is false are h rest = (is ∙ sym are, rest h)

-- a name that differs from another is not the other way round the same
pub txn_eq-sym : (s t : TxnId) → txn_eq s t ≡ false → txn_eq t s ≡ false
txn_eq-sym s t h = by (txn_eq t s) refl where
  by : (b : Bool) → txn_eq t s ≡ b → b ≡ false
  by false is = refl
  by true is =
      let parts = both (t.session == s.session) (t.txn == s.txn) is in
      let session : t.session ≡ s.session = (Decides-eqb t.session s.session).0 parts.0 in
      let number : t.txn ≡ s.txn = (Decides-eqb t.txn s.txn).0 parts.1 in
      let same : t ≡ s = λ i. record { session = session i; txn = number i } in
      let no_name : txn_eq s s ≡ false = ap (λ u. txn_eq s u) (sym same) ∙ h in
      let yes = txn_eq-same s in
      absurd (cc (no_name, yes))
    where
      both : (a b : Bool) → (a && b) ≡ true → (a ≡ true) × (b ≡ true)
      both true true e = (refl, refl)
      both true false e = absurd cc
      both false b e = absurd cc

-- a name is not among names that differ from it
pub not_among : (name : TxnId) (names : List TxnId) → AllByRecursion (λ u. txn_eq name u ≡ false) names → is_named_in name names ≡ false
not_among name [] all = refl
not_among name (u ∷ us) all = ap (λ b. b || is_named_in name us) all.0 ∙ not_among name us all.1

-- with a further name in front, the others are among the rest as before
behind : (t : Trace) (ts : List Trace) (one other : List TxnId) → AllByRecursion (λ (u : Trace). txn_eq t.txn u.txn ≡ false) ts →
    AreIn (t.txn ∷ one) (t.txn ∷ other) ts → AreIn one other ts
behind t [] one other apart are = tt
behind t (u ∷ ts) one other apart are =
    let no_name = txn_eq-sym t.txn u.txn apart.0 in (
      sym (ap (λ b. b || is_named_in u.txn one) no_name) ∙ are.0 ∙ ap (λ b. b || is_named_in u.txn other) no_name,
      behind t ts one other apart.1 are.1,
    )

pub equal_where_in : (touched : Touched) (ts : List Trace) (ms ns : List Bool) → AreNamed ts → length ms ≡ length ts
    → length ns ≡ length ts →
    AreIn (linked touched ts ms) (linked touched ts ns) ts → linked touched ts ms ≡ linked touched ts ns
equal_where_in touched [] ms ns named long lasting are = refl
equal_where_in touched (t ∷ ts) [] ns named long lasting are = absurd cc
equal_where_in touched (t ∷ ts) (m ∷ ms) [] named long lasting are = absurd cc
equal_where_in touched (t ∷ ts) (m ∷ ms) (n ∷ ns) named long lasting are =
    let shorter : length ms ≡ length ts = omega (arith, long) in
    let briefer : length ns ≡ length ts = omega (arith, lasting) in
    by (m && meets_touched t.writes touched) (n && meets_touched t.writes touched) are
    (equal_where_in touched ts ms ns named.1 shorter briefer)
  where
    apart_in : (marks : List Bool) → is_named_in t.txn (linked touched ts marks) ≡ false
    apart_in marks = not_among t.txn (linked touched ts marks) (linked-all (λ u. txn_eq t.txn u ≡ false) touched ts marks named.0)

    here : (names : List TxnId) → is_named_in t.txn (t.txn ∷ names) ≡ true
    here names = ap (λ b. b || is_named_in t.txn names) (txn_eq-same t.txn)

    by : (p q : Bool) → AreIn (cond p (t.txn ∷ linked touched ts ms) (linked touched ts ms))
        (cond q (t.txn ∷ linked touched ts ns) (linked touched ts ns)) (t ∷ ts)
        → (AreIn (linked touched ts ms) (linked touched ts ns) ts → linked touched ts ms ≡ linked touched ts ns)
        → cond p (t.txn ∷ linked touched ts ms) (linked touched ts ms) ≡ cond q (t.txn ∷ linked touched ts ns) (linked touched ts ns)
    by true true are rest = ap (λ names. t.txn ∷ names) (rest (behind t ts (linked touched ts ms) (linked touched ts ns) named.0 are.1))
    by true false are rest =
        let yes = here (linked touched ts ms) in
        let no_name = apart_in ns in
        let same : is_named_in t.txn (t.txn ∷ linked touched ts ms) ≡ is_named_in t.txn (linked touched ts ns) = are.0 in
        absurd (cc (yes, no_name, same))
    by false true are rest =
        let yes = here (linked touched ts ns) in
        let no_name = apart_in ms in
        let same : is_named_in t.txn (linked touched ts ms) ≡ is_named_in t.txn (t.txn ∷ linked touched ts ns) = are.0 in
        absurd (cc (yes, no_name, same))
    by false false are rest = rest are.1

-- links that no earlier transaction is in alone are those that were seen
pub unmoved : (entries : List Entry) (touched : Touched) (ms ns : List Bool) → AreNamed (map trace_of entries) →
    length ms ≡ length (map trace_of entries) → length ns ≡ length (map trace_of entries) →
    first_moved entries (linked touched (map trace_of entries) ms) (linked touched (map trace_of entries) ns) ≡ None →
    linked touched (map trace_of entries) ms ≡ linked touched (map trace_of entries) ns
unmoved entries touched ms ns named long lasting h =
    equal_where_in touched (map trace_of entries) ms ns named long lasting
    (none_moved entries (linked touched (map trace_of entries) ms) (linked touched (map trace_of entries) ns) h)
