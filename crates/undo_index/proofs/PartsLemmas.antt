-- Places under elements that each have their own.
use Rattle.std.proofs.Common.{◌≡◌, ℕ, ◌==◌, Bool, true, false, not, cond, ◌||◌, ◌&&◌, List, [], ◌∷◌, map, Option}
use Rattle.std.proofs.Common.{None, Some, refl, sym, ap, ◌∙◌}
use Rattle.std.proofs.lemmas.List.Folds.{list_any-append}
use Rattle.std.specs.BTreeMap.{BTreeMap, get, is_at}
use Rattle.std.specs.Cmp.{Equal-is, eq_by_cmp_equiv, unsigned_tied}
use Rattle.std.specs.FinSet.{contains-from_list, insert, remove}
use Rattle.std.specs.List.{filter, list_any}
use Rattle.std.specs.Map.{lookup}
use Rattle.std.specs.Ordering.{is_eq, nat_cmp}
use Rattle.std.specs.Prelude.{Err, Ok, OnErr, Result, nat_lt}
use Rattle.lay_point.proofs.BoolLaws.{or-false}
use Rattle.lay_layouts.proofs.SlotLemmas.{is_eq-then}
use Rattle.txn_commands.specs.declared.element.Element.{Element}
use Rattle.txn_commands.specs.Elements.{element_cmp, element_eq, elements_exact, elements_total}
use Rattle.txn_marks.proofs.AnyLemmas.{any_alike, any_map}
use Rattle.undo_index.specs.declared.place_set.PlaceSet.{PlaceSet}
use Rattle.undo_index.specs.First.{IsFirst, has_place}
use Rattle.undo_index.specs.PlaceSet.{places_of}
use Rattle.undo_index.proofs.FirstLemmas.{first_alike}
use Rattle.undo_index.proofs.RangeLemmas.{any_and, any_filter}
use Rattle.lay_point.proofs.BoolLaws.{and-false}
use Rattle.undo_index.specs.Listed.{Listed, is_listed, pair_cmp}
use Rattle.undo_index.specs.Parts.{is_kept, is_one_of, listed_in_parts, pairs_of}
use Rattle.undo_index.proofs.ListedLemmas.{same_listed}
use Rattle.undo_index.proofs.PairLemmas.{listed_less, listed_more, pairs_total}

-- ---- what the pairs have

-- those of one element
in_own : (e k : Element) (p : ℕ) (ps : List ℕ) →
    list_any (is_at (pair_cmp (e, p))) (map (λ q. (k, q)) ps) ≡ (element_eq e k && has_place ps p)
in_own e k p ps =
    any_map (is_at (pair_cmp (e, p))) (λ q. (k, q)) ps
    ∙ any_alike (λ q. is_at (pair_cmp (e, p)) (k, q)) (λ q. element_eq e k && (p == q)) ps
    (λ q. is_eq-then (element_cmp e k) (nat_cmp p q) ∙ ap (λ b. element_eq e k && b) (unsigned_tied p q))
    ∙ any_and (element_eq e k) (λ q. p == q) ps

other_key : (k e f : Element) (b : Bool) → (not (element_eq k f) && (element_eq e f && b)) ≡ (not (element_eq e k) && (element_eq e f && b))
other_key k e f b = by (element_eq e f) refl where
  by : (t : Bool) → element_eq e f ≡ t → (not (element_eq k f) && (t && b)) ≡ (not (element_eq e k) && (t && b))
  by false is = and-false (not (element_eq k f)) ∙ sym (and-false (not (element_eq e k)))
  by true is =
      let same : e ≡ f = elements_exact e f ((Equal-is (element_cmp e f)).0 is) in
      ap (λ c. not c && b) (ap (element_eq k) (sym same) ∙ (eq_by_cmp_equiv elements_total).symm k e)

-- those of other elements than one
in_others : (e k : Element) (p : ℕ) (ks : List (Element × ℕ)) →
    list_any (is_at (pair_cmp (e, p))) (filter (λ q. not (element_eq k q.0)) ks)
    ≡ (not (element_eq e k) && list_any (is_at (pair_cmp (e, p))) ks)
in_others e k p ks =
    any_filter (is_at (pair_cmp (e, p))) (λ q. not (element_eq k q.0)) ks
    ∙ any_alike (λ q. not (element_eq k q.0) && is_at (pair_cmp (e, p)) q) (λ q. not (element_eq e k) && is_at (pair_cmp (e, p)) q) ks
    (λ q. ap (λ b. not (element_eq k q.0) && b) (is_eq-then (element_cmp e q.0) (nat_cmp p q.1))
    ∙ other_key k e q.0 (is_eq (nat_cmp p q.1))
    ∙ ap (λ b. not (element_eq e k) && b) (sym (is_eq-then (element_cmp e q.0) (nat_cmp p q.1))))
    ∙ any_and (not (element_eq e k)) (is_at (pair_cmp (e, p))) ks

chosen : (b : Bool) (kept : PlaceSet) (o : Option PlaceSet) (p : ℕ) →
    ((b && has_place (places_of kept) p) || (not b && is_one_of o p)) ≡ is_one_of (cond b (Some kept) o) p
chosen true kept o p = or-false (has_place (places_of kept) p)
chosen false kept o p = refl

pairs_have : (es : List (Element × PlaceSet)) (e : Element) (p : ℕ) →
    list_any (is_at (pair_cmp (e, p))) (pairs_of es) ≡ is_one_of (lookup (is_at (element_cmp e)) es) p
pairs_have [] e p = refl
pairs_have ((k, kept) ∷ es) e p =
    list_any-append (is_at (pair_cmp (e, p))) (map (λ q. (k, q)) (places_of kept)) (filter (λ q. not (element_eq k q.0)) (pairs_of es))
    ∙ (λ i. in_own e k p (places_of kept) i || in_others e k p (pairs_of es) i)
    ∙ ap (λ b. (element_eq e k && has_place (places_of kept) p) || (not (element_eq e k) && b)) (pairs_have es e p)
    ∙ chosen (element_eq e k) kept (lookup (is_at (element_cmp e)) es) p

-- under an element stand its places
pub listed_kept : (m : BTreeMap Element PlaceSet) (e : Element) (p : ℕ) → is_listed (listed_in_parts m) e p ≡ is_kept m e p
listed_kept m e p = contains-from_list pairs_total (pairs_of m.entries) (e, p) ∙ pairs_have m.entries e p

-- ---- the places of one element changed

-- the element has these places now, where there are any, and the others have theirs
abbrev pub IsTurned : BTreeMap Element PlaceSet → BTreeMap Element PlaceSet → Element → Option PlaceSet → Type 0
IsTurned m n x o = (q : Element) → get element_cmp n q ≡ cond (is_at (element_cmp x) q) o (get element_cmp m q)

-- turned once more, the last turn counts
pub turned_twice : (m n k : BTreeMap Element PlaceSet) (x : Element) (o u : Option PlaceSet) → IsTurned m n x o → IsTurned n k x u →
    IsTurned m k x u
turned_twice m n k x o u first second q =
    second q ∙ ap (cond (is_at (element_cmp x) q) u) (first q) ∙ by (is_at (element_cmp x) q) where
      by : (b : Bool) → cond b u (cond b o (get element_cmp m q)) ≡ cond b u (get element_cmp m q)
      by true = refl
      by false = refl

other_way : (e x : Element) → element_eq e x ≡ element_eq x e
other_way e x = (eq_by_cmp_equiv elements_total).symm e x

-- F tells what is listed, by whether a pair is the one that changes and whether it was listed
module _ (F : Bool → Bool → Bool) (idle : (o : Bool) → F false o ≡ o) where
  turned : (m n : BTreeMap Element PlaceSet) (x : Element) (place : ℕ) (o : Option PlaceSet) (new : Listed)
      → ((e : Element) (p : ℕ) → is_listed new e p ≡ F (element_eq e x && (p == place)) (is_listed (listed_in_parts m) e p))
      → IsTurned m n x o → ((p : ℕ) → is_one_of o p ≡ F (p == place) (is_kept m x p)) → listed_in_parts n ≡ new
  turned m n x place o new is turns has = same_listed (listed_in_parts n) new each where
    own : (e : Element) (p : ℕ) (b : Bool) → element_eq x e ≡ b →
        is_one_of (cond b o (get element_cmp m e)) p ≡ F (element_eq e x && (p == place)) (is_kept m e p)
    own e p true same =
        has p ∙ ap (λ y. F (p == place) (is_kept m y p)) (elements_exact x e ((Equal-is (element_cmp x e)).0 same))
        ∙ sym (ap (λ b. F (b && (p == place)) (is_kept m e p)) (other_way e x ∙ same))
    own e p false apart =
        sym (ap (λ b. F (b && (p == place)) (is_kept m e p)) (other_way e x ∙ apart) ∙ idle (is_kept m e p))

    each : (e : Element) (p : ℕ) → is_listed (listed_in_parts n) e p ≡ is_listed new e p
    each e p =
        listed_kept n e p ∙ ap (λ o. is_one_of o p) (turns e) ∙ own e p (element_eq x e) refl
        ∙ ap (F (element_eq e x && (p == place))) (sym (listed_kept m e p)) ∙ sym (is e p)

module _ (m n : BTreeMap Element PlaceSet) (x : Element) where
  pub kept_more : (place : ℕ) (kept : PlaceSet) → IsTurned m n x (Some kept)
      → ((p : ℕ) → has_place (places_of kept) p ≡ ((p == place) || is_kept m x p))
      → listed_in_parts n ≡ insert (listed_in_parts m) (x, place)
  kept_more place kept turns more =
      turned (λ b o. b || o) (λ o. refl) m n x place (Some kept) (insert (listed_in_parts m) (x, place))
      (λ e p. listed_more (listed_in_parts m) x e place p) turns more

  pub kept_less : (place : ℕ) (o : Option PlaceSet) → IsTurned m n x o
      → ((p : ℕ) → is_one_of o p ≡ (not (p == place) && is_kept m x p)) → listed_in_parts n ≡ remove (listed_in_parts m) (x, place)
  kept_less place o turns less =
      turned (λ b o. not b && o) (λ o. refl) m n x place o (remove (listed_in_parts m) (x, place))
      (λ e p. listed_less (listed_in_parts m) x e place p) turns less

  pub kept_same : (kept : PlaceSet) → IsTurned m n x (Some kept) → ((p : ℕ) → has_place (places_of kept) p ≡ is_kept m x p) →
      listed_in_parts n ≡ listed_in_parts m
  kept_same kept turns same = turned (λ b o. o) (λ o. refl) m n x 0 (Some kept) (listed_in_parts m) (λ e p. refl) turns same

-- the places found are those of the element
pub places_found : (m : BTreeMap Element PlaceSet) (x : Element) (o : Option PlaceSet) → o ≡ get element_cmp m x → (p : ℕ) →
    is_one_of o p ≡ is_kept m x p
places_found m x o is p = ap (λ o. is_one_of o p) is

-- an element with no place has none to remove
pub none_less : (m : BTreeMap Element PlaceSet) (x : Element) (place : ℕ) → None ≡ get element_cmp m x →
    listed_in_parts m ≡ remove (listed_in_parts m) (x, place)
none_less m x place none = kept_less m m x place None turns less where
  less : (p : ℕ) → false ≡ (not (p == place) && is_kept m x p)
  less p = sym (and-false (not (p == place))) ∙ ap (λ o. not (p == place) && is_one_of o p) none

  turns : IsTurned m m x None
  turns q = by (element_eq x q) refl where
    by : (b : Bool) → element_eq x q ≡ b → get element_cmp m q ≡ cond b None (get element_cmp m q)
    by true same = ap (get element_cmp m) (sym (elements_exact x q ((Equal-is (element_cmp x q)).0 same))) ∙ sym none
    by false apart = refl

-- what holds anyway holds of a failure
pub on_err : {X Y : Type 0} {P : Type 0} (r : Result X Y) → P → OnErr r P
on_err (Ok x) h = tt
on_err (Err y) h = h

-- ---- looked up

module _ (m : BTreeMap Element PlaceSet) (l : Listed) (view : listed_in_parts m ≡ l) (x : Element) (o : Option PlaceSet)
    (is : o ≡ get element_cmp m x) where
  listed_so : (p : ℕ) → is_one_of o p ≡ is_listed l x p
  listed_so p = places_found m x o is p ∙ sym (listed_kept m x p) ∙ ap (λ (y : Listed). is_listed y x p) view

  pub first_found : (from : ℕ) (first : Option ℕ) → IsFirst (is_one_of o) from first → IsFirst (is_listed l x) from first
  first_found from first = first_alike (is_one_of o) (is_listed l x) from first listed_so

  pub gathered_found : (below : ℕ) (old new : List ℕ) → ((p : ℕ) → has_place new p ≡ (has_place old p || (nat_lt p below && is_one_of o p)))
      → (p : ℕ) → has_place new p ≡ (has_place old p || (nat_lt p below && is_listed l x p))
  gathered_found below old new found p = found p ∙ ap (λ b. has_place old p || (nat_lt p below && b)) (listed_so p)
