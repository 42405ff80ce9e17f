-- Equal links: what they say of the marks.
use Rattle.std.proofs.Common.{◌≡◌, ◌⊎◌, inl, inr, ◌==◌, Bool, true, false, cond, ◌&&◌, List, [], ◌∷◌, length, refl, sym, ap, ◌∙◌, arith}
use Rattle.std.specs.List.{AllByRecursion}
use Rattle.std.proofs.lemmas.Bool.{and_parts}
use Rattle.std.proofs.lemmas.Bool.Decides.{Decides-eqb}
use Rattle.txn_commands.specs.declared.command.TxnId.{TxnId}
use Rattle.txn_commands.specs.declared.element.Element.{Element}
use Rattle.txn_commands.specs.Elements.{Touched}
use Rattle.txn_commands.specs.Meets.{some_meets}
use Rattle.txn_commands.specs.Records.{Records}
use Rattle.undo_rules.specs.Links.{AreNamed, Trace, linked, txn_eq}
use Rattle.txn_commands.specs.Meets.{meets_touched}
use Rattle.undo_rules.proofs.Laying.{SameMarks}

pub txn_eq-same : (t : TxnId) → txn_eq t t ≡ true
txn_eq-same t = rw ((Decides-eqb t.session t.session).1 refl, (Decides-eqb t.txn t.txn).1 refl) refl

pub txn_eq-true : (s t : TxnId) → txn_eq s t ≡ true → s ≡ t
txn_eq-true s t h =
    let parts = and_parts (s.session == t.session) (s.txn == t.txn) h in
    let session : s.session ≡ t.session = (Decides-eqb s.session t.session).0 parts.0 in
    let number : s.txn ≡ t.txn = (Decides-eqb s.txn t.txn).0 parts.1 in
    λ i. record { session = session i; txn = number i }

-- what holds of all names holds of the linked ones
pub linked-all : (P : TxnId → Type 0) (touched : Touched) (ts : List Trace) (ms : List Bool) → AllByRecursion (λ t. P t.txn) ts →
    AllByRecursion P (linked touched ts ms)
linked-all P touched [] ms all = tt
linked-all P touched (t ∷ ts) [] all = tt
linked-all P touched (t ∷ ts) (m ∷ ms) all = by (m && meets_touched t.writes touched) (linked-all P touched ts ms all.1) where
  by : (b : Bool) → AllByRecursion P (linked touched ts ms) →
      AllByRecursion P (cond b (t.txn ∷ linked touched ts ms) (linked touched ts ms))
  by true rest = (all.0, rest)
  by false rest = rest

head_not : (t : TxnId) (names others : List TxnId) → t ∷ names ≡ others → AllByRecursion (λ u. txn_eq t u ≡ false) others → ⊥
head_not t names [] e all = absurd cc
head_not t names (u ∷ us) e all =
    let same : t ≡ u = cc in
    let not_itself : txn_eq t t ≡ false = ap (txn_eq t) same ∙ all.0 in
    let itself = txn_eq-same t in
    absurd (cc (itself, not_itself))

-- where links are equal, marks are the same of each transaction that wrote what the element tells
pub equal_links : (touched : Touched) (e : Element) → ((ws : Records) → meets_touched ws touched ≡ false → some_meets ws e ≡ false) →
    (ts : List Trace) (ms ns : List Bool) → AreNamed ts → length ms ≡ length ts → length ns ≡ length ts →
    linked touched ts ms ≡ linked touched ts ns → SameMarks e ts ms ns
equal_links touched e unmet [] ms ns named long lasting same = tt
equal_links touched e unmet (t ∷ ts) [] ns named long lasting same = absurd cc
equal_links touched e unmet (t ∷ ts) (m ∷ ms) [] named long lasting same = absurd cc
equal_links touched e unmet (t ∷ ts) (m ∷ ms) (n ∷ ns) named long lasting same =
    let shorter : length ms ≡ length ts = omega (arith, long) in
    let briefer : length ns ≡ length ts = omega (arith, lasting) in
    by (meets_touched t.writes touched) refl (equal_links touched e unmet ts ms ns named.1 shorter briefer) m n same where
      by : (b : Bool) → meets_touched t.writes touched ≡ b
          → (linked touched ts ms ≡ linked touched ts ns → SameMarks e ts ms ns) → (m n : Bool)
          → cond (m && b) (t.txn ∷ linked touched ts ms) (linked touched ts ms)
          ≡ cond (n && b) (t.txn ∷ linked touched ts ns) (linked touched ts ns)
          → (some_meets t.writes e ≡ true → m ≡ n) × SameMarks e ts ms ns
      by true told rest true true is = ((λ met. refl), rest cc)
      by true told rest false false is = ((λ met. refl), rest is)
      by true told rest true false is = absurd (head_not t.txn (linked touched ts ms) (linked touched ts ns) is
          (linked-all (λ u. txn_eq t.txn u ≡ false) touched ts ns named.0))
      by true told rest false true is = absurd (head_not t.txn (linked touched ts ns) (linked touched ts ms) (sym is)
          (linked-all (λ u. txn_eq t.txn u ≡ false) touched ts ms named.0))
      by false told rest true true is = ((λ met. refl), rest is)
      by false told rest true false is = ((λ met. absurd (cc (unmet t.writes told, met))), rest is)
      by false told rest false true is = ((λ met. absurd (cc (unmet t.writes told, met))), rest is)
      by false told rest false false is = ((λ met. refl), rest is)

-- ---- marks that differ where nothing is touched

-- as many marks as transactions, and the same but at those with these records
abbrev pub SameBut : Records → List Trace → List Bool → List Bool → Type 0
SameBut ws [] ms ns = Unit {0}
SameBut ws (t ∷ ts) [] ns = ⊥
SameBut ws (t ∷ ts) (m ∷ ms) [] = ⊥
SameBut ws (t ∷ ts) (m ∷ ms) (n ∷ ns) = ((m ≡ n) ⊎ (t.writes ≡ ws)) × SameBut ws ts ms ns

-- then links are the same of what the records don't touch
pub links_but : (ws : Records) (touched : Touched) (ts : List Trace) (ms ns : List Bool) → meets_touched ws touched ≡ false →
    SameBut ws ts ms ns → linked touched ts ms ≡ linked touched ts ns
links_but ws touched [] ms ns free same = refl
links_but ws touched (t ∷ ts) [] ns free same = absurd same
links_but ws touched (t ∷ ts) (m ∷ ms) [] free same = absurd same
links_but ws touched (t ∷ ts) (m ∷ ms) (n ∷ ns) free same =
    let rest = links_but ws touched ts ms ns free same.1 in
    elim same.0 [
      | inl equal ↦ (λ i. cond (equal i && meets_touched t.writes touched) (t.txn ∷ rest i) (rest i))
      | inr its ↦ (
          let free_of : meets_touched t.writes touched ≡ false = ap (λ w. meets_touched w touched) its ∙ free in
          by (meets_touched t.writes touched) free_of m n rest
          )
    ] where
      by : (b : Bool) → b ≡ false → (m n : Bool) → linked touched ts ms ≡ linked touched ts ns
          → cond (m && b) (t.txn ∷ linked touched ts ms) (linked touched ts ms)
          ≡ cond (n && b) (t.txn ∷ linked touched ts ns) (linked touched ts ns)
      by true h m n rest = absurd cc
      by false h true true rest = rest
      by false h true false rest = rest
      by false h false true rest = rest
      by false h false false rest = rest
