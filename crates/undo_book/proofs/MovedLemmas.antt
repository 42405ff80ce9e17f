-- The first transaction whose link has moved is the one at the first place that is linked now and wasn't seen, or the other way round.
use Rattle.std.proofs.Common.{◌≡◌, ℕ, ◌<◌, ◌≤◌, zero, suc, Bool, true, false, cond, ◌||◌, ◌&&◌, List, [], ◌∷◌, map, take, drop}
use Rattle.std.proofs.Common.{Option, None, Some, option_map, refl, sym, ap, ◌∙◌, arith, slice_get}
use Rattle.std.specs.Prelude.{is_some, nat_lt}
use Rattle.std.proofs.lemmas.Bool.{eqb-true}
use Rattle.std.proofs.lemmas.Bool.Decides.{nat_tests}
use Rattle.std.specs.FinSet.{items}
use Rattle.std.specs.List.{AllByRecursion, list_any}
use Rattle.lay_point.proofs.NumberLaws.{suc_zero}
use Rattle.txn_commands.specs.declared.command.TxnId.{TxnId}
use Rattle.txn_commands.specs.Elements.{Touched}
use Rattle.txn_commands.specs.Lies.{passes}
use Rattle.txn_commands.specs.Meets.{some_meets}
use Rattle.txn_marks.proofs.AnyLemmas.{any_alike, any_none}
use Rattle.undo_rules.specs.Links.{AreNamed, Entry, Trace, first_moved, is_named_in, linked, links_to, live_of, trace_of}
use Rattle.txn_commands.specs.Meets.{meets_touched}
use Rattle.undo_rules.specs.Links.{txn_eq}
use Rattle.undo_rules.proofs.EqualLinks.{linked-all, txn_eq-same}
use Rattle.undo_rules.proofs.Moved.{not_among, txn_eq-sym}
use Rattle.undo_index.specs.First.{IsFirst, find_map, has_place, is_apart, look, looked_up_at, or_some}
use Rattle.undo_index.proofs.FirstLemmas.{first_alike, first_found}
use Rattle.undo_rules.proofs.EqualLinks.{txn_eq-true}
use Rattle.undo_book.specs.Indexed.{wrote}
use Rattle.undo_book.specs.Places.{IndexesByName, found_at as place_found, is_place, moved_at, named_at, place_of, stands_at}
use Rattle.undo_book.proofs.IndexedLemmas.{any_live, suc_suc, zero_suc}

-- ---- one after the other

-- the name of a transaction that is in one of the two lists and not in the other
abbrev pub apart_in : List TxnId → List TxnId → Entry → Option TxnId
apart_in one other entry = cond (is_named_in entry.txn one) (cond (is_named_in entry.txn other) None (Some entry.txn))
    (cond (is_named_in entry.txn other) (Some entry.txn) None)

moved_some : (es : List Entry) (one other : List TxnId) → first_moved es one other ≡ find_map (apart_in one other) es
moved_some [] one other = refl
moved_some (e ∷ es) one other = by (is_named_in e.txn one) (is_named_in e.txn other) (moved_some es one other) where
  by : (a b : Bool) → first_moved es one other ≡ find_map (apart_in one other) es →
      cond a (cond b (first_moved es one other) (Some e.txn)) (cond b (Some e.txn) (first_moved es one other))
      ≡ or_some (cond a (cond b None (Some e.txn)) (cond b (Some e.txn) None)) (find_map (apart_in one other) es)
  by true true rest = rest
  by true false rest = refl
  by false true rest = refl
  by false false rest = rest

some_apart : (txn : TxnId) (a b : Bool) → is_some (cond a (cond b None (Some txn)) (cond b (Some txn) None)) ≡ is_apart a b
some_apart txn true true = refl
some_apart txn true false = refl
some_apart txn false true = refl
some_apart txn false false = refl

-- ---- transactions by their places

-- the name of another one isn't that of the one at a place
others : (e entry : Entry) (es : List Entry) (p : ℕ) → AllByRecursion (λ (u : Trace). txn_eq e.txn u.txn ≡ false) (map trace_of es) →
    slice_get es p ≡ Some entry → txn_eq e.txn entry.txn ≡ false
others e entry [] p apart at = absurd cc
others e entry (f ∷ es) zero apart at = let same : f ≡ entry = cc in ap (λ (x : Entry). txn_eq e.txn x.txn) (sym same) ∙ apart.0
others e entry (f ∷ es) (suc p) apart at = others e entry es p apart.1 at

either : (a b : Bool) → a ≡ false → (a || b) ≡ b
either a b none = ap (λ x. x || b) none

-- the transaction at a place is among the links where it is live and wrote what is touched
among_links : (touched : Touched) (es : List Entry) (p : ℕ) (entry : Entry) → AreNamed (map trace_of es) → slice_get es p ≡ Some entry →
    is_named_in entry.txn (links_to es touched) ≡ (entry.live && meets_touched entry.writes touched)
among_links touched [] p entry named at = absurd cc
among_links touched (e ∷ es) zero entry named at = let same : e ≡ entry = cc in
    ap (λ (x : Entry). is_named_in x.txn (links_to (e ∷ es) touched)) (sym same) ∙ by (e.live && meets_touched e.writes touched)
    ∙ ap (λ (x : Entry). x.live && meets_touched x.writes touched) same where
      ls : List TxnId
      ls = links_to es touched

      by : (b : Bool) → is_named_in e.txn (cond b (e.txn ∷ ls) ls) ≡ b
      by true = ap (λ b. b || is_named_in e.txn ls) (txn_eq-same e.txn)
      by false = not_among e.txn ls (linked-all (λ u. txn_eq e.txn u ≡ false) touched (map trace_of es) (map live_of es) named.0)
among_links touched (e ∷ es) (suc p) entry named at =
    by (e.live && meets_touched e.writes touched) ∙ among_links touched es p entry named.1 at where
      ls : List TxnId
      ls = links_to es touched

      by : (b : Bool) → is_named_in entry.txn (cond b (e.txn ∷ ls) ls) ≡ is_named_in entry.txn ls
      by true =
          either (txn_eq entry.txn e.txn) (is_named_in entry.txn ls)
          (txn_eq-sym e.txn entry.txn (others e entry es p named.0 at))
      by false = refl

-- a place is that of a name where the transaction there has it
pub place_so : (es : List Entry) (p : ℕ) (entry : Entry) (name : TxnId) → AreNamed (map trace_of es) → slice_get es p ≡ Some entry →
    is_place p (place_of name es) ≡ txn_eq entry.txn name
place_so [] p entry name named at = absurd cc
place_so (e ∷ es) zero entry name named at = let same : e ≡ entry = cc in
    by (txn_eq e.txn name) (place_of name es) ∙ ap (λ (x : Entry). txn_eq x.txn name) same where
      by : (b : Bool) (o : Option ℕ) → is_place 0 (cond b (Some 0) (option_map suc o)) ≡ b
      by true o = refl
      by false None = refl
      by false (Some q) = zero_suc q
place_so (e ∷ es) (suc p) entry name named at =
    by (txn_eq e.txn name) refl (place_of name es) refl (place_so es p entry name named.1 at) where
      by : (b : Bool) → txn_eq e.txn name ≡ b → (o : Option ℕ) → place_of name es ≡ o →
          is_place p (place_of name es) ≡ txn_eq entry.txn name →
          is_place (suc p) (cond b (Some 0) (option_map suc o)) ≡ txn_eq entry.txn name
      by true is o its rest =
          suc_zero p ∙ sym (ap (txn_eq entry.txn) (sym (txn_eq-true e.txn name is))
          ∙ txn_eq-sym e.txn entry.txn (others e entry es p named.0 at))
      by false is None its rest = sym (ap (is_place p) its) ∙ rest
      by false is (Some q) its rest = suc_suc p q ∙ sym (ap (is_place p) its) ∙ rest

-- the place of a name is that of the transaction that has it
pub place_at : (es : List Entry) (p : ℕ) (entry : Entry) (name : TxnId) → AreNamed (map trace_of es) → slice_get es p ≡ Some entry →
    entry.txn ≡ name → Some p ≡ place_of name es
place_at es p entry name named at is =
    by (place_of name es) (place_so es p entry name named at ∙ ap (txn_eq entry.txn) (sym is) ∙ txn_eq-same entry.txn) where
      by : (o : Option ℕ) → is_place p o ≡ true → Some p ≡ o
      by None never = absurd cc
      by (Some q) same = ap Some (eqb-true p q same)

-- behind the last there is none
pub no_place : (es : List Entry) (p : ℕ) (name : TxnId) → slice_get es p ≡ None → is_place p (place_of name es) ≡ false
no_place [] p name at = refl
no_place (e ∷ es) zero name at = absurd cc
no_place (e ∷ es) (suc p) name at = by (txn_eq e.txn name) (place_of name es) refl (no_place es p name at) where
  by : (b : Bool) (o : Option ℕ) → place_of name es ≡ o → is_place p (place_of name es) ≡ false
      → is_place (suc p) (cond b (Some 0) (option_map suc o)) ≡ false
  by true o its rest = suc_zero p
  by false None its rest = refl
  by false (Some q) its rest = suc_suc p q ∙ sym (ap (is_place p) its) ∙ rest

-- ---- the first ones of a list

taken : {X : Type 0} (xs : List X) (n p : ℕ) → p < n → slice_get (take n xs) p ≡ slice_get xs p
taken [] zero p less = absurd (omega (arith, less))
taken [] (suc n) p less = refl
taken (x ∷ xs) zero p less = absurd (omega (arith, less))
taken (x ∷ xs) (suc n) zero less = refl
taken (x ∷ xs) (suc n) (suc p) less = taken xs n p (omega (arith, less))

past : {X : Type 0} (xs : List X) (n p : ℕ) → n ≤ p → slice_get (take n xs) p ≡ None
past [] zero p less = refl
past [] (suc n) p less = refl
past (x ∷ xs) zero p less = refl
past (x ∷ xs) (suc n) zero less = absurd (omega (arith, less))
past (x ∷ xs) (suc n) (suc p) less = past xs n p (omega (arith, less))

all_taken : (f : Entry → Type 0) (es : List Entry) (n : ℕ) → AllByRecursion f es → AllByRecursion f (take n es)
all_taken f [] zero all = tt
all_taken f [] (suc n) all = tt
all_taken f (e ∷ es) zero all = tt
all_taken f (e ∷ es) (suc n) all = (all.0, all_taken f es n all.1)

traced : (txn : TxnId) (es : List Entry) → AllByRecursion (λ (u : Trace). txn_eq txn u.txn ≡ false) (map trace_of es) →
    AllByRecursion (λ (u : Entry). txn_eq txn u.txn ≡ false) es
traced txn [] all = tt
traced txn (e ∷ es) all = (all.0, traced txn es all.1)

traced_back : (txn : TxnId) (es : List Entry) → AllByRecursion (λ (u : Entry). txn_eq txn u.txn ≡ false) es →
    AllByRecursion (λ (u : Trace). txn_eq txn u.txn ≡ false) (map trace_of es)
traced_back txn [] all = tt
traced_back txn (e ∷ es) all = (all.0, traced_back txn es all.1)

named_taken : (es : List Entry) (n : ℕ) → AreNamed (map trace_of es) → AreNamed (map trace_of (take n es))
named_taken [] zero named = tt
named_taken [] (suc n) named = tt
named_taken (e ∷ es) zero named = tt
named_taken (e ∷ es) (suc n) named = (
  traced_back e.txn (take n es) (all_taken (λ (u : Entry). txn_eq e.txn u.txn ≡ false) es n (traced e.txn es named.0)),
  named_taken es n named.1,
)

-- ---- the first that has moved

module _ (touched : Touched) (names : List TxnId) (es : List Entry) (places : List (TxnId × ℕ)) (place : ℕ) where
  abbrev pub before : List Entry
  before = take place es

  abbrev pub f : Entry → Option TxnId
  f = apart_in (links_to before touched) names

  -- a place below is linked, or was seen
  abbrev pub is_linked : ℕ → Bool
  is_linked p = nat_lt p place && list_any (λ e. passes (wrote e) (slice_get es p)) (items touched)

  abbrev pub was_seen : ℕ → Bool
  was_seen p = nat_lt p place && list_any (stands_at places p) names

  seen_so : IndexesByName places es → (p : ℕ) → list_any (stands_at places p) names ≡ list_any (λ name. is_place p (place_of name es))
      names
  seen_so are p = any_alike (stands_at places p) (λ name. is_place p (place_of name es)) names (λ name. ap (is_place p) (are name))

  linked_so : (p : ℕ) → (o : Option Entry) → slice_get es p ≡ o → list_any (λ e. passes (wrote e) (slice_get es p)) (items touched)
      ≡ passes (λ (entry : Entry). entry.live && meets_touched entry.writes touched) o
  linked_so p o at = ap (λ x. list_any (λ e. passes (wrote e) x) (items touched)) at ∙ by o where
    by : (o : Option Entry) → list_any (λ e. passes (wrote e) o) (items touched)
        ≡ passes (λ (entry : Entry). entry.live && meets_touched entry.writes touched) o
    by None = any_none (items touched)
    by (Some entry) = any_live entry.writes entry.live (some_meets entry.writes) (items touched)

  apart_so : IndexesByName places es → AreNamed (map trace_of es) → (p : ℕ) →
      is_apart (is_linked p) (was_seen p) ≡ is_some (look f (slice_get before p))
  apart_so are named p = by (nat_lt p place) refl (slice_get es p) refl where
    by : (b : Bool) → nat_lt p place ≡ b → (o : Option Entry) → slice_get es p ≡ o →
        is_apart (b && list_any (λ e. passes (wrote e) (slice_get es p)) (items touched)) (b && list_any (stands_at places p) names)
        ≡ is_some (look f (slice_get before p))
    by false more o at =
        let high : place ≤ p = grind (arith, nat_tests, more) in
        sym (ap (λ (x : Option Entry). is_some (look f x)) (past es place p high))
    by true less None at =
        let low : p < place = grind (arith, nat_tests, less) in
        (λ i. is_apart (linked_so p None at i)
        ((seen_so are p ∙ any_alike (λ name. is_place p (place_of name es)) (λ name. false) names
        (λ name. no_place es p name at) ∙ any_none names) i))
        ∙ sym (ap (λ (x : Option Entry). is_some (look f x)) (taken es place p low ∙ at))
    by true less (Some entry) at =
        let low : p < place = grind (arith, nat_tests, less) in
        let there : slice_get before p ≡ Some entry = taken es place p low ∙ at in
        (λ i. is_apart ((linked_so p (Some entry) at
        ∙ sym (among_links touched before p entry (named_taken es place named) there)) i)
        ((seen_so are p ∙ any_alike (λ name. is_place p (place_of name es)) (txn_eq entry.txn) names
        (λ name. place_so es p entry name named at)) i))
        ∙ sym (some_apart entry.txn (is_named_in entry.txn (links_to before touched)) (is_named_in entry.txn names))
        ∙ sym (ap (λ (x : Option Entry). is_some (look f x)) there)

  named_so : (o : Option ℕ) → IsFirst (λ p. is_some (look f (slice_get before p))) 0 o → looked_up_at f before o ≡ named_at es o
  named_so None first = refl
  named_so (Some p) first = by (slice_get before p) refl first.1 where
    name : (entry : Entry) → is_some (f entry) ≡ true → f entry ≡ Some entry.txn
    name entry = cases (is_named_in entry.txn (links_to before touched)) (is_named_in entry.txn names) where
      cases : (a b : Bool) → is_some (cond a (cond b None (Some entry.txn)) (cond b (Some entry.txn) None)) ≡ true →
          cond a (cond b None (Some entry.txn)) (cond b (Some entry.txn) None) ≡ Some entry.txn
      cases true true some = absurd cc
      cases true false some = refl
      cases false true some = refl
      cases false false some = absurd cc

    by : (o : Option Entry) → slice_get before p ≡ o → is_some (look f o) ≡ true →
        look f o ≡ option_map (λ (entry : Entry). entry.txn) (slice_get es p)
    by None at some = absurd cc
    by (Some entry) at some = name entry some ∙ sym (ap (option_map (λ (x : Entry). x.txn)) (sym (low (nat_lt p place) refl) ∙ at)) where
      low : (b : Bool) → nat_lt p place ≡ b → slice_get before p ≡ slice_get es p
      low true less = taken es place p (grind (arith, nat_tests, less))
      low false more =
          let high : place ≤ p = grind (arith, nat_tests, more) in
          let none : Some entry ≡ None = sym at ∙ past es place p high in
          absurd cc

  pub moved_found : IndexesByName places es → AreNamed (map trace_of es) → (o : Option ℕ) →
      IsFirst (λ p. is_apart (is_linked p) (was_seen p)) 0 o → named_at es o ≡ first_moved before (links_to before touched) names
  moved_found are named o first =
      let alike = first_alike (λ p. is_apart (is_linked p) (was_seen p)) (λ p. is_some (look f (slice_get before p))) 0 o
      (apart_so are named) first in
      sym (moved_some before (links_to before touched) names ∙ first_found f before 0 o alike ∙ named_so o alike)

-- the same of the places that two lists have
pub moved_here : (es : List Entry) (places : List (TxnId × ℕ)) (place : ℕ) (entry : Entry) (touched : Touched)
    (names : List TxnId) (linked seen : List ℕ) (o : Option ℕ) → slice_get es place ≡ Some entry → touched ≡ entry.footprint →
    names ≡ entry.seen → IndexesByName places es → AreNamed (map trace_of es) →
    ((p : ℕ) → has_place linked p ≡ (nat_lt p place && list_any (λ e. passes (wrote e) (slice_get es p)) (items touched))) →
    ((p : ℕ) → has_place seen p ≡ (nat_lt p place && list_any (stands_at places p) names)) →
    IsFirst (λ p. is_apart (has_place linked p) (has_place seen p)) 0 o → named_at es o ≡ moved_at (place_found es place)
moved_here es places place entry touched names linked seen o at same sames are named links sees first =
    moved_found touched names es places place are named o
    (first_alike (λ p. is_apart (has_place linked p) (has_place seen p))
    (λ p. is_apart (nat_lt p place && list_any (λ e. passes (wrote e) (slice_get es p)) (items touched))
    (nat_lt p place && list_any (stands_at places p) names))
    0 o (λ p i. is_apart (links p i) (sees p i)) first)
    ∙ (λ i. first_moved (take place es) (links_to (take place es) (same i)) (sames i))
    ∙ sym (ap (λ x. moved_at (option_map (λ (e : Entry). record { before = take place es; entry = e; later = drop (suc place) es }) x)) at)

-- equal links have not moved
pub unmoved_same : (es : List Entry) (names : List TxnId) → first_moved es names names ≡ None
unmoved_same [] names = refl
unmoved_same (e ∷ es) names = by (is_named_in e.txn names) (unmoved_same es names) where
  by : (b : Bool) → first_moved es names names ≡ None
      → cond b (cond b (first_moved es names names) (Some e.txn)) (cond b (Some e.txn) (first_moved es names names)) ≡ None
  by true rest = rest
  by false rest = rest
