-- What is listed under elements, as transactions are committed, undone and redone.
use Rattle.std.proofs.Common.{◌≡◌, ℕ, ◌<◌, ◌≤◌, ◌==◌, zero, suc, Bool, true, false, not, cond, ◌||◌, ◌&&◌, List, [], ◌∷◌, ◌++◌, length}
use Rattle.std.proofs.Common.{drop, Option, None, Some, refl, sym, ap, subst, ◌∙◌, arith, slice_get, slice_set}
use Rattle.std.specs.Prelude.{is_some}
use Rattle.std.proofs.lemmas.Bool.Decides.{Decides-eqb, Decides-like, same_from_decides}
use Rattle.std.specs.FinSet.{contains, contains-empty, contains-items, from_list, items}
use Rattle.std.specs.List.{list_any}
use Rattle.std.proofs.lemmas.Bool.{and_left}
use Rattle.lay_point.proofs.BoolLaws.{or-false}
use Rattle.lay_point.proofs.NumberLaws.{suc_zero}
use Rattle.txn_commands.specs.declared.command.TxnId.{TxnId}
use Rattle.txn_commands.specs.declared.element.Element.{Element}
use Rattle.txn_commands.specs.Elements.{Touched, element_cmp, element_eq}
use Rattle.txn_commands.specs.Lies.{passes}
use Rattle.txn_commands.specs.Meets.{some_meets}
use Rattle.txn_commands.specs.Records.{Records}
use Rattle.txn_marks.specs.Homes.{AreMetBy}
use Rattle.txn_marks.proofs.AnyLemmas.{any_alike, any_none, any_swap}
use Rattle.txn_marks.proofs.SetLemmas.{contains-back}
use Rattle.undo_rules.specs.Links.{Entry, first_reader, marked}
use Rattle.txn_commands.specs.Meets.{meets_touched}
use Rattle.undo_index.specs.First.{IsFirst, find_map, look, looked_up_at, or_some}
use Rattle.undo_index.specs.Listed.{AreAdded, AreRemoved, IsNew, Listed, is_made_by, is_others, nothing_listed, pair_cmp}
use Rattle.undo_index.proofs.FirstLemmas.{first_alike, first_found}
use Rattle.undo_index.proofs.FootprintLemmas.{any_so}
use Rattle.undo_book.specs.Indexed.{AreIndexed, Lists, by_other, is_linked, touched, wrote}
use Rattle.undo_book.specs.Marks.{AreUpdated}

-- ---- places of a list

past_end : {X : Type 0} (test : X → Bool) (xs : List X) → passes test (slice_get xs (length xs)) ≡ false
past_end test [] = refl
past_end test (x ∷ xs) = past_end test xs

pub zero_suc : (i : ℕ) → (0 == suc i) ≡ false
zero_suc i = by (0 == suc i) refl where
  by : (b : Bool) → (0 == suc i) ≡ b → b ≡ false
  by true is = let e : 0 ≡ suc i = (Decides-eqb 0 (suc i)).0 is in absurd (omega (arith, e))
  by false is = refl

pub suc_suc : (i j : ℕ) → (suc i == suc j) ≡ (i == j)
suc_suc i j = same_from_decides (suc i == suc j) (i == j)
    (Decides-like {Q = i ≡ j} (suc i == suc j) (λ e. omega (arith, e)) (λ e. ap suc e) (Decides-eqb (suc i) (suc j))) (Decides-eqb i j)

pushed_at : {X : Type 0} (test : X → Bool) (xs : List X) (x : X) (i : ℕ) →
    passes test (slice_get (xs ++ x ∷ []) i) ≡ (passes test (slice_get xs i) || ((i == length xs) && test x))
pushed_at test [] x zero = refl
pushed_at test [] x (suc i) = sym (ap (λ b. b && test x) (suc_zero i))
pushed_at test (y ∷ ys) x zero = sym (ap (λ b. test y || (b && test x)) (zero_suc (length ys)) ∙ or-false (test y))
pushed_at test (y ∷ ys) x (suc i) =
    pushed_at test ys x i ∙ sym (ap (λ b. passes test (slice_get ys i) || (b && test x)) (suc_suc i (length ys)))

set_at : {X : Type 0} (test : X → Bool) (xs : List X) (i : ℕ) (x : X) → i < length xs → (j : ℕ) →
    passes test (slice_get (slice_set xs i x) j) ≡ cond (j == i) (test x) (passes test (slice_get xs j))
set_at test [] i x less j = absurd (omega (arith, less))
set_at test (y ∷ ys) zero x less zero = refl
set_at test (y ∷ ys) zero x less (suc j) = sym (ap (λ b. cond b (test x) (passes test (slice_get ys j))) (suc_zero j))
set_at test (y ∷ ys) (suc i) x less zero = sym (ap (λ b. cond b (test x) (test y)) (zero_suc i))
set_at test (y ∷ ys) (suc i) x less (suc j) =
    set_at test ys i x (omega (arith, less)) j ∙ sym (ap (λ b. cond b (test x) (passes test (slice_get ys j))) (suc_suc j i))

-- ---- listed transactions

module _ (test : Element → Entry → Bool) where
  begun : Lists test nothing_listed []
  begun e i = contains-empty pair_cmp (e, i)

  new_at_end : (listed : Listed) (es : List Entry) → Lists test listed es → IsNew listed (length es)
  new_at_end listed es lists e = lists e (length es) ∙ past_end (by_other test e) es

  -- who passes nowhere isn't listed
  no_other : (entry : Entry) → ((e : Element) → test e entry ≡ false) → (e : Element) → by_other test e entry ≡ false
  no_other entry none e = ap (λ b. b && not (is_made_by entry.txn e)) (none e)

  new_at : (listed : Listed) (es : List Entry) (i : ℕ) (entry : Entry) → Lists test listed es → slice_get es i ≡ Some entry →
      ((e : Element) → test e entry ≡ false) → IsNew listed i
  new_at listed es i entry lists at none e = lists e i ∙ ap (passes (by_other test e)) at ∙ no_other entry none e

  others_so : (entry : Entry) (elements : Touched) → ((e : Element) → contains elements e ≡ test e entry) → (e : Element) →
      is_others entry.txn elements e ≡ by_other test e entry
  others_so entry elements are e = ap (λ b. b && not (is_made_by entry.txn e)) (are e)

  pushed : (listed new : Listed) (es : List Entry) (entry : Entry) (elements : Touched) → Lists test listed es →
      AreAdded listed entry.txn elements (length es) new → ((e : Element) → contains elements e ≡ test e entry) →
      Lists test new (es ++ entry ∷ [])
  pushed listed new es entry elements lists added are e i =
      added e i ∙ (λ k. lists e i k || ((i == length es) && others_so entry elements are e k))
      ∙ sym (pushed_at (by_other test e) es entry i)

  entered : (listed new : Listed) (es : List Entry) (i : ℕ) (entry next : Entry) (elements : Touched) → Lists test listed es →
      slice_get es i ≡ Some entry → i < length es → AreAdded listed next.txn elements i new → ((e : Element) → test e entry ≡ false) →
      ((e : Element) → contains elements e ≡ test e next) → Lists test new (slice_set es i next)
  entered listed new es i entry next elements lists at less added none are e j =
      added e j ∙ (λ k. lists e j k || ((j == i) && others_so next elements are e k)) ∙ by (j == i) refl
      ∙ sym (set_at (by_other test e) es i next less j) where
        by : (b : Bool) → (j == i) ≡ b → (passes (by_other test e) (slice_get es j) || (b && by_other test e next))
            ≡ cond b (by_other test e next) (passes (by_other test e) (slice_get es j))
        by false is = or-false (passes (by_other test e) (slice_get es j))
        by true is =
            let same : j ≡ i = (Decides-eqb j i).0 is in
            let was : passes (by_other test e) (slice_get es j) ≡ false =
            ap (λ k. passes (by_other test e) (slice_get es k)) same ∙ ap (passes (by_other test e)) at ∙ no_other entry none e in
            ap (λ b. b || by_other test e next) was

  left : (listed new : Listed) (es : List Entry) (i : ℕ) (entry next : Entry) (elements : Touched) → Lists test listed es →
      slice_get es i ≡ Some entry → i < length es → AreRemoved listed entry.txn elements i new →
      ((e : Element) → contains elements e ≡ test e entry) →
      ((e : Element) → test e next ≡ false) → Lists test new (slice_set es i next)
  left listed new es i entry next elements lists at less removed are none e j =
      removed e j ∙ (λ k. lists e j k && not ((j == i) && others_so entry elements are e k)) ∙ by (j == i) refl
      ∙ sym (set_at (by_other test e) es i next less j) where
        no_more : (b : Bool) → (b && not b) ≡ false
        no_more true = refl
        no_more false = refl

        stays : (b : Bool) → (b && true) ≡ b
        stays true = refl
        stays false = refl

        by : (b : Bool) → (j == i) ≡ b → (passes (by_other test e) (slice_get es j) && not (b && by_other test e entry))
            ≡ cond b (by_other test e next) (passes (by_other test e) (slice_get es j))
        by false is = stays (passes (by_other test e) (slice_get es j))
        by true is =
            let same : j ≡ i = (Decides-eqb j i).0 is in
            let was : passes (by_other test e) (slice_get es j) ≡ by_other test e entry =
            ap (λ k. passes (by_other test e) (slice_get es k)) same ∙ ap (passes (by_other test e)) at in
            ap (λ b. b && not (by_other test e entry)) was ∙ no_more (by_other test e entry) ∙ sym (no_other next none e)

-- ---- the index of a book

pub none_indexed : (w r : Listed) (es : List Entry) → w ≡ nothing_listed → r ≡ nothing_listed → es ≡ [] → AreIndexed w r es
none_indexed w r es writers readers none =
    subst (λ (xs : List Entry). AreIndexed w r xs) (sym none)
    (subst (λ (l : Listed). AreIndexed w l []) (sym readers) (subst (λ (l : Listed). AreIndexed l nothing_listed []) (sym writers)
    (record { writers = begun wrote; readers = begun touched })))

live_so : (a b : Bool) → a ≡ true → b ≡ (a && b)
live_so a b live = sym (ap (λ x. x && b) live)

pub commit_indexed : (w r v s : Listed) (es fs : List Entry) (entry : Entry) (met : Touched) (place : ℕ) → AreIndexed w r es →
    AreAdded w entry.txn met place v → AreAdded r entry.txn entry.footprint place s → AreMetBy entry.writes met → entry.live ≡ true
    → place ≡ length es →
    fs ≡ es ++ entry ∷ [] → AreIndexed v s fs
commit_indexed w r v s es fs entry met place is wrote_it read_it are live last more =
    subst (λ (xs : List Entry). AreIndexed v s xs) (sym more) (record {
      writers = pushed wrote w v es entry met is.writers (subst (λ (n : ℕ). AreAdded w entry.txn met n v) last wrote_it)
          (λ e. are e ∙ live_so entry.live (some_meets entry.writes e) live);
      readers = pushed touched r s es entry entry.footprint is.readers
          (subst (λ (n : ℕ). AreAdded r entry.txn entry.footprint n s) last read_it)
          (λ e. live_so entry.live (contains entry.footprint e) live);
    })

pub mark_indexed : (live : Bool) (w r v s : Listed) (es fs : List Entry) (i : ℕ) (entry : Entry) (met : Touched) → AreIndexed w r es →
    AreUpdated live w entry.txn met i v → AreUpdated live r entry.txn entry.footprint i s → AreMetBy entry.writes met → entry.live
    ≡ not live →
    slice_get es i ≡ Some entry → i < length es → fs ≡ slice_set es i (marked live entry) → AreIndexed v s fs
mark_indexed false w r v s es fs i entry met is wrote_it read_it are live at less marks =
    subst (λ (xs : List Entry). AreIndexed v s xs) (sym marks) (record {
      writers = left wrote w v es i entry (marked false entry) met is.writers at less wrote_it
          (λ e. are e ∙ live_so entry.live (some_meets entry.writes e) live) (λ e. refl);
      readers = left touched r s es i entry (marked false entry) entry.footprint is.readers at less read_it
          (λ e. live_so entry.live (contains entry.footprint e) live) (λ e. refl);
    })
mark_indexed true w r v s es fs i entry met is wrote_it read_it are undone at less marks =
    subst (λ (xs : List Entry). AreIndexed v s xs) (sym marks) (record {
      writers = entered wrote w v es i entry (marked true entry) met is.writers at less wrote_it
          (λ e. and_left entry.live (some_meets entry.writes e) undone) are;
      readers = entered touched r s es i entry (marked true entry) entry.footprint is.readers at less read_it
          (λ e. and_left entry.live (contains entry.footprint e) undone) (λ e. refl);
    })

-- the place of a transaction that is committed next, or redone, isn't listed
pub new_here : (w r : Listed) (es : List Entry) (place : ℕ) → AreIndexed w r es → place ≡ length es → IsNew w place × IsNew r place
new_here w r es place is last = (
  subst (IsNew w) (sym last) (new_at_end wrote w es is.writers),
  subst (IsNew r) (sym last) (new_at_end touched r es is.readers),
)

pub undone_new : (w r : Listed) (es : List Entry) (i : ℕ) (entry : Entry) → AreIndexed w r es → slice_get es i ≡ Some entry →
    entry.live ≡ false → IsNew w i × IsNew r i
undone_new w r es i entry is at undone = (
  new_at wrote w es i entry is.writers at (λ e. and_left entry.live (some_meets entry.writes e) undone),
  new_at touched r es i entry is.readers at (λ e. and_left entry.live (contains entry.footprint e) undone),
)

-- ---- the first reader

module _ (writes : Records) where
  abbrev pub reads : Entry → Bool
  reads entry = entry.live && meets_touched writes entry.footprint

  abbrev pub named : Entry → Option TxnId
  named entry = cond (reads entry) (Some entry.txn) None

  reader_some : (es : List Entry) → first_reader writes es ≡ find_map named es
  reader_some [] = refl
  reader_some (entry ∷ es) = by (reads entry) (reader_some es) where
    by : (b : Bool) → first_reader writes es ≡ find_map named es
        → cond b (Some entry.txn) (first_reader writes es) ≡ or_some (cond b (Some entry.txn) None) (find_map named es)
    by true rest = refl
    by false rest = rest

  named_so : (o : Option Entry) → is_some (look named o) ≡ passes reads o
  named_so None = refl
  named_so (Some entry) = by (reads entry) where
    by : (b : Bool) → is_some (cond b (Some entry.txn) None) ≡ b
    by true = refl
    by false = refl

  -- it is looked up by the elements that the records meet
  meets_either : (met footprint : Touched) → AreMetBy writes met →
      list_any (λ e. contains footprint e) (items met) ≡ meets_touched writes footprint
  meets_either met footprint are =
      any_alike (contains footprint) (λ e. list_any (λ f. element_eq f e) (items footprint)) (items met)
      (λ e. sym (contains-back footprint e))
      ∙ any_swap (λ e f. element_eq f e) (items met) (items footprint)
      ∙ any_alike (λ f. list_any (λ e. element_eq f e) (items met)) (some_meets writes) (items footprint)
      (λ f. sym (contains-items met f) ∙ are f)

  pub any_live : (live : Bool) (p : Element → Bool) (es : List Element) → list_any (λ e. live && p e) es ≡ (live && list_any p es)
  any_live true p es = refl
  any_live false p es = any_none es

  read_so : (met : Touched) → AreMetBy writes met → (o : Option Entry) → list_any (λ e. passes (touched e) o) (items met) ≡ passes reads o
  read_so met are None = any_none (items met)
  read_so met are (Some entry) =
      any_live entry.live (contains entry.footprint) (items met) ∙ ap (λ b. entry.live && b) (meets_either met entry.footprint are)

  pub reader_found : (es : List Entry) (met : Touched) (from : ℕ) (o : Option ℕ) → AreMetBy writes met →
      IsFirst (λ p. list_any (λ e. passes (touched e) (slice_get es p)) (items met)) from o →
      first_reader writes (drop from es) ≡ looked_up_at named es o
  reader_found es met from o are first =
      reader_some (drop from es)
      ∙ first_found named es from o (first_alike (λ p. list_any (λ e. passes (touched e) (slice_get es p)) (items met))
      (λ p. is_some (look named (slice_get es p))) from o
      (λ p. read_so met are (slice_get es p) ∙ sym (named_so (slice_get es p))) first)

  -- the one at the first place is named
  pub reader_is : (es : List Entry) (met : Touched) (from p : ℕ) (entry : Entry) → AreMetBy writes met →
      IsFirst (λ q. list_any (λ e. passes (touched e) (slice_get es q)) (items met)) from (Some p) → slice_get es p ≡ Some entry →
      first_reader writes (drop from es) ≡ Some entry.txn
  reader_is es met from p entry are first at =
      reader_found es met from (Some p) are first ∙ ap (look named) at ∙ ap (λ b. cond b (Some entry.txn) None) yes where
        yes : reads entry ≡ true
        yes = sym (read_so met are (slice_get es p) ∙ ap (passes reads) at) ∙ first.1

  pub reader_gone : (es : List Entry) (met : Touched) (from p : ℕ) → AreMetBy writes met →
      IsFirst (λ q. list_any (λ e. passes (touched e) (slice_get es q)) (items met)) from (Some p) → slice_get es p ≡ None →
      first_reader writes (drop from es) ≡ None
  reader_gone es met from p are first at = reader_found es met from (Some p) are first ∙ ap (look named) at

-- ---- a writer from a place on

module _ {X : Type 0} (test : X → Bool) where
  none_past : (xs : List X) (from : ℕ) → ((p : ℕ) → from ≤ p → passes test (slice_get xs p) ≡ false) → list_any test (drop from xs) ≡ false
  none_past [] zero none = refl
  none_past [] (suc from) none = refl
  none_past (x ∷ xs) (suc from) none = none_past xs from (λ p less. none (suc p) (omega (arith, less)))
  none_past (x ∷ xs) zero none =
      let rest = none_past xs 0 (λ p less. none (suc p) (omega arith)) in
      let first : test x ≡ false = none 0 (omega arith) in
      λ i. first i || rest i

  one_past : (xs : List X) (from p : ℕ) → from ≤ p → passes test (slice_get xs p) ≡ true → list_any test (drop from xs) ≡ true
  one_past [] zero p less there = absurd cc
  one_past [] (suc from) p less there = absurd cc
  one_past (x ∷ xs) (suc from) zero less there = absurd (omega (arith, less))
  one_past (x ∷ xs) (suc from) (suc p) less there = one_past xs from p (omega (arith, less)) there
  one_past (x ∷ xs) zero zero less there = ap (λ b. b || list_any test xs) there
  one_past (x ∷ xs) zero (suc p) less there = or_so (test x) (one_past xs 0 p (omega arith) there) where
    or_so : (b : Bool) → list_any test xs ≡ true → (b || list_any test xs) ≡ true
    or_so true h = refl
    or_so false h = h

  first_past : (xs : List X) (from : ℕ) (o : Option ℕ) → IsFirst (λ p. passes test (slice_get xs p)) from o →
      is_some o ≡ list_any test (drop from xs)
  first_past xs from None first = sym (none_past xs from first)
  first_past xs from (Some p) first = sym (one_past xs from p first.0 first.1)

-- there is a first writer of an element where one from the place on wrote it
pub writer_past : (es : List Entry) (e : Element) (from : ℕ) (o : Option ℕ) → IsFirst (λ p. passes (wrote e) (slice_get es p)) from o →
    is_some o ≡ list_any (wrote e) (drop from es)
writer_past es e from o first = first_past (wrote e) es from o first

-- some element was written where some transaction wrote what is touched
pub linked_past : (es : List Entry) (elements : List Element) (footprint : Touched) → from_list {R = element_cmp} elements ≡ footprint →
    list_any (λ e. list_any (wrote e) es) elements ≡ list_any (λ entry. is_linked entry footprint) es
linked_past es elements footprint are =
    any_so (λ e. list_any (wrote e) es) elements footprint are
    ∙ any_swap wrote (items footprint) es
    ∙ any_alike (λ entry. list_any (λ e. wrote e entry) (items footprint)) (λ entry. is_linked entry footprint) es
    (λ entry. any_live entry.writes entry.live (some_meets entry.writes) (items footprint))
