-- The edges of single shapes in a row: where a point is among them, and what one edge more or less changes.
use Rattle.std.proofs.Common.{◌≡◌, ◌≢◌, ◌⊎◌, inl, inr, ⊎_elim, ℕ, zero, suc, ◌+◌, ◌-◌, ◌*◌, ◌<◌, ◌≤◌, Bool, true, false, not, ◌||◌}
use Rattle.std.proofs.Common.{List, [], ◌∷◌, ◌++◌, length, get_or, set, take, append_assoc, add-one, Contains}
use Rattle.std.proofs.Common.{pos, ◌≤ℤ◌, ◌<ℤ◌, Option, Some, refl, sym, ap, subst, ◌∙◌, arith}
use Rattle.std.specs.Prelude.{◌%◌, All, nat_eq}
use Rattle.std.specs.Global.{Vec}
use Rattle.std.specs.List.{insert}
use Rattle.std.specs.List.Sorted.{IsStrictlyIncreasing}
use Rattle.std.proofs.Math.ListN.{length-map, length-set}
use Rattle.std.proofs.lemmas.Bool.{cases_eq, cases_lt}
use Rattle.std.proofs.lemmas.Bool.Decides.{nat_tests}
use Rattle.std.proofs.lemmas.List.{
  append-nil,
  drop_at,
  get_or-append_right,
  get_or-map,
  get_or-set_other,
  get_or-set_same,
  get_or_append_left,
  length-append,
  take_at,
  take_more,
}
use Rattle.std.proofs.lemmas.List.Elements.{Contains-get_or}
use Rattle.std.proofs.lemmas.List.Folds.{list_any-append}
use Rattle.std.proofs.lemmas.List.Kept.{AllPairs-from_increasing}
use Rattle.lay_point.proofs.BoolLaws.{or-false}
use Rattle.lay_point.proofs.Signs.{linear}
use Rattle.lay_point.specs.declared.point.Point.{Point}
use Rattle.lay_point.specs.Parity.{parity, xor}
use Rattle.lay_point.specs.Rising.{IsRising}
use Rattle.lay_point.proofs.Members.{Has, contains, has, has-append}
use Rattle.lay_point.proofs.Parity.{xor-false}
use Rattle.snap_chains.specs.declared.owner.Input.{Input}
use Rattle.snap_chains.specs.declared.owner.Input.TheVariants.{First, Second}
use Rattle.snap_chains.specs.declared.owner.Owner.{Owner}
use Rattle.snap_chains.specs.Owners.{IsOwnerBefore, owner_eq}
use Rattle.snap_chains.specs.Rounded.{Owned, is_owner_listed}
use Rattle.face_rows.specs.Lines.{owners_at}
use Rattle.face_rows.proofs.OwnerLemmas.{none_before, owner_itself, turn_more}
use Rattle.face_rows.proofs.Shapes.{same_owner}
use Rattle.face_sweep.specs.declared.own_rows.OwnRows.{OwnRows}
use Rattle.face_sweep.specs.OwnRows.{AreOwn, HasInserted, HasPutEdge, HasTaken, HasTakenEdge, HaveLists, IsCutAt, IsCutBy}
use Rattle.face_sweep.specs.OwnRows.{is_odd, list_at, lists_of, listed_if, own_edge, own_of}
use Rattle.face_sweep.specs.Points.{distance_from}
use Rattle.face_sweep.specs.Reaches.{key_of, input_number}
use Rattle.face_sweep.specs.Sides.{is_odd_in}

-- ---- those of the edges that a shape owns
odd_next : (n : ℕ) → nat_eq (suc n % 2) 1 ≡ not (nat_eq (n % 2) 1)
odd_next n = grind (arith, nat_tests)

pub odd_by_rest : (n : ℕ) → nat_eq (n % 2) 1 ≡ is_odd n
odd_by_rest zero = refl
odd_by_rest (suc n) = odd_next n ∙ ap not (odd_by_rest n)

one_more : (xs : List ℕ) (n : ℕ) (b c : Bool) → is_odd (length xs) ≡ c → is_odd (length (xs ++ listed_if b n)) ≡ xor b c
one_more xs n true c h = ap is_odd (length-append xs (n ∷ []) ∙ add-one (length xs)) ∙ ap not h
one_more xs n false c h = ap (λ l. is_odd (length l)) (append-nil xs) ∙ h

-- as many as they are, so the shape holds left of them
pub odd_own : (r : Owned) (o : Owner) (numbers : List ℕ) → is_odd (length (own_of r o numbers)) ≡ is_odd_in r numbers o
odd_own r o [] = refl
odd_own r o (n ∷ ns) =
    one_more (own_of r o ns) n (is_owner_listed o (owners_at r n)) (is_odd_in r ns o) (odd_own r o ns)

pub own_append : (r : Owned) (o : Owner) (xs ys : List ℕ) → own_of r o (xs ++ ys) ≡ own_of r o ys ++ own_of r o xs
own_append r o [] ys = sym (append-nil (own_of r o ys))
own_append r o (x ∷ xs) ys =
    ap (λ l. l ++ own_edge r o x) (own_append r o xs ys) ∙ append_assoc (own_of r o ys) (own_of r o xs) (own_edge r o x)

one_has : (b : Bool) (n m : ℕ) → Has (listed_if b n) m → n ≡ m
one_has true n m (inl same) = same
one_has true n m (inr none) = absurd none
one_has false n m none = absurd none

own_has : (r : Owned) (o : Owner) (numbers : List ℕ) (m : ℕ) → Has (own_of r o numbers) m → Has numbers m
own_has r o [] m found = absurd found
own_has r o (n ∷ ns) m found = ⊎_elim
    (λ (before : Has (own_of r o ns) m). inr (own_has r o ns m before))
    (λ (here : Has (own_edge r o n) m). inl (one_has (is_owner_listed o (owners_at r n)) n m here))
    (has-append (own_of r o ns) (own_edge r o n) m found)

pub own_contains : (r : Owned) (o : Owner) (numbers : List ℕ) (m : ℕ) → Contains (own_of r o numbers) m → Contains numbers m
own_contains r o numbers m found = contains numbers m (own_has r o numbers m (has (own_of r o numbers) m found))

pub own_cut : (r : Owned) (o : Owner) (p : Point) (right left : List ℕ) → IsCutAt r p right left
    → IsCutAt r p (own_of r o right) (own_of r o left)
own_cut r o p right left h = record {
  not_left = λ n found. h.not_left n (own_contains r o right n found);
  are_left = λ n found. h.are_left n (own_contains r o left n found);
}

-- ---- where a point is
cut_here : (r : Owned) (p : Point) (right left : List ℕ) (place : ℕ) → IsCutAt r p right left → place ≤ length (right ++ left)
    → ((k : ℕ) → suc k ≡ place → pos 0 ≤ℤ distance_from r p (get_or (right ++ left) k 0))
    → (place < length (right ++ left) → distance_from r p (get_or (right ++ left) place 0) <ℤ pos 0) → place ≡ length right
cut_here r p right left place h bound before behind = ⊎_elim
    (λ (less : place < length right).
    let near = behind (omega (arith, length-append right left)) in
    let far = subst (λ n. pos 0 ≤ℤ distance_from r p n) (sym (get_or_append_left right left 0 place less))
    (h.not_left (get_or right place 0) (Contains-get_or right place 0 less)) in
    absurd (omega (arith, linear, near, far)))
    (λ (ge : length right ≤ place). ⊎_elim
    (λ (more : length right < place).
    let last : suc (place - 1) ≡ place = omega arith in
    let far = before (place - 1) last in
    let inside : (place - 1) - length right < length left = omega (arith, length-append right left) in
    let near = subst (λ n. distance_from r p n <ℤ pos 0)
    (sym (get_or-append_right right left (length right) (place - 1) 0 refl (omega arith)))
    (h.are_left (get_or left ((place - 1) - length right) 0) (Contains-get_or left ((place - 1) - length right) 0 inside)) in
    absurd (omega (arith, linear, near, far)))
    (λ (le : place ≤ length right). omega arith)
    (cases_lt (length right) place))
    (cases_lt place (length right))

pub cut_place : (r : Owned) (p : Point) (numbers right left : List ℕ) (place : ℕ) → numbers ≡ right ++ left → IsCutAt r p right left
    → place ≤ length numbers
    → ((k : ℕ) → suc k ≡ place → pos 0 ≤ℤ distance_from r p (get_or numbers k 0))
    → (place < length numbers → distance_from r p (get_or numbers place 0) <ℤ pos 0) → place ≡ length right
cut_place r p numbers right left place is h bound before behind =
    cut_here r p right left place h (subst (λ l. place ≤ length l) is bound)
    (subst (λ l. (k : ℕ) → suc k ≡ place → pos 0 ≤ℤ distance_from r p (get_or l k 0)) is before)
    (subst (λ l. place < length l → distance_from r p (get_or l place 0) <ℤ pos 0) is behind)

-- ---- keys
owner_is : (i j : Input) (m n : ℕ) → 2 * m + input_number i ≡ 2 * n + input_number j
    → (let o : Owner = record { input = i; shape = m } in o) ≡ record { input = j; shape = n }
owner_is First First m n e =
    let same : m ≡ n = omega arith in λ k. record { input = First; shape = same k }
owner_is First Second m n e = absurd (omega arith)
owner_is Second First m n e = absurd (omega arith)
owner_is Second Second m n e =
    let same : m ≡ n = omega arith in λ k. record { input = Second; shape = same k }

key_exact : (o p : Owner) → key_of o ≡ key_of p → o ≡ p
key_exact o p e = owner_is o.input p.input o.shape p.shape e

rising_exact : (keys : List ℕ) (i j : ℕ) → IsStrictlyIncreasing keys → i < length keys → j < length keys → get_or keys i 0 ≡ get_or keys j 0
    → i ≡ j
rising_exact keys i j rising inside_i inside_j same = ⊎_elim
    (λ (less : i < j). let b = AllPairs-from_increasing keys rising i j 0 less inside_j in absurd (omega arith))
    (λ (ge : j ≤ i). ⊎_elim
    (λ (less : j < i). let b = AllPairs-from_increasing keys rising j i 0 less inside_i in absurd (omega arith))
    (λ (le : i ≤ j). omega arith)
    (cases_lt j i))
    (cases_lt i j)

pub rising_up : (keys : List ℕ) → IsStrictlyIncreasing keys → (i j : ℕ) → i ≤ j → j < length keys → get_or keys i 0 ≤ get_or keys j 0
rising_up keys rising i j le inside = ⊎_elim
    (λ (less : i < j). let b = AllPairs-from_increasing keys rising i j 0 less inside in omega arith)
    (λ (ge : j ≤ i). let same : i ≡ j = omega arith in let b : get_or keys i 0
    ≡ get_or keys j 0 = ap (λ k. get_or keys k 0) same in omega arith)
    (cases_lt i j)

-- ---- one list that is changed
pub inserted : (old new right left : List ℕ) (place n : ℕ) → old ≡ right ++ left → place ≡ length right → new ≡ insert old place n
    → new ≡ (right ++ n ∷ []) ++ left
inserted old new right left place n is at e =
    e ∙ (λ i. insert (is i) (at i) n)
    ∙ (λ i. take_at right left (length right) refl i ++ n ∷ drop_at right left (length right) refl i)
    ∙ sym (append_assoc right (n ∷ []) left)

pub list_read : (rows : OwnRows) (i : ℕ) (v : Vec ℕ) → i < length (lists_of rows) → v ≡ get_or rows.lists.items i v → v.items
    ≡ list_at rows i
list_read rows i v inside e =
    ap (λ (u : Vec ℕ). u.items) e
    ∙ sym (get_or-map (λ (u : Vec ℕ). u.items) rows.lists.items i v []
    (omega (arith, length-map rows.lists.items (λ (u : Vec ℕ). u.items), inside)))

pub own_agree : (keys : List ℕ) (rows : OwnRows) (own after : Owner → List ℕ) → ((o : Owner) → own o ≡ after o) → AreOwn keys own rows
    → AreOwn keys after rows
own_agree keys rows own after same h = λ i o less at. h i o less at ∙ same o

module _ (keys : List ℕ) (old new : OwnRows) (i : ℕ) (v : List ℕ) (same : length (lists_of old) ≡ length keys) (less : i < length keys)
    (is : lists_of new ≡ set (lists_of old) i v) where
  here : list_at new i ≡ v
  here = ap (λ l. get_or l i []) is ∙ get_or-set_same (lists_of old) i v [] (omega arith)

  others : (j : ℕ) → j ≢ i → list_at new j ≡ list_at old j
  others j apart = ap (λ l. get_or l j []) is ∙ get_or-set_other (lists_of old) i j v [] apart

  pub room_changed : (r : Owned) → HaveLists r keys old → All (λ n. n < length r.0) v → HaveLists r keys new
  room_changed r room all = record {
    count = ap length is ∙ length-set (lists_of old) i v ∙ room.count;
    given = λ j. ⊎_elim
        (λ (at : j ≡ i). subst (λ k. All (λ n. n < length r.0) (list_at new k)) (sym at)
        (subst (All (λ n. n < length r.0)) (sym here) all))
        (λ (apart : j ≡ i → ⊥). subst (All (λ n. n < length r.0)) (sym (others j apart)) (room.given j))
        (cases_eq j i);
  }

  pub own_changed : (owner : Owner) (own after : Owner → List ℕ) → IsStrictlyIncreasing keys → get_or keys i 0 ≡ key_of owner
      → v ≡ after owner → ((o : Owner) → o ≢ owner → after o ≡ own o) → AreOwn keys own old → AreOwn keys after new
  own_changed owner own after rising at value other h j o inside is_key = ⊎_elim
      (λ (same_place : j ≡ i).
      let same_key : key_of o ≡ key_of owner = sym is_key ∙ ap (λ k. get_or keys k 0) same_place ∙ at in
      ap (list_at new) same_place ∙ here ∙ value ∙ ap after (sym (key_exact o owner same_key)))
      (λ (apart : j ≡ i → ⊥).
      others j apart ∙ h j o inside is_key
      ∙ sym (other o (λ same_owner. apart (rising_exact keys j i rising inside less (is_key ∙ ap key_of same_owner ∙ sym at)))))
      (cases_eq j i)

-- ---- owner by owner
-- an owner of those so far, or the next
pub listed_more : (owners : List Owner) (i : ℕ) (d o : Owner) → i < length owners → is_owner_listed o (take (i + 1) owners) ≡ true
    → (is_owner_listed o (take i owners) ≡ true) ⊎ (get_or owners i d ≡ o)
listed_more owners i d o less listed = by_tests (is_owner_listed o (take i owners)) (owner_eq (get_or owners i d) o) refl refl
    (sym (ap (is_owner_listed o) (take_more owners i d less)
    ∙ list_any-append (λ p. owner_eq p o) (take i owners) (get_or owners i d ∷ [])) ∙ listed)
  where
    by_tests : (a b : Bool) → is_owner_listed o (take i owners) ≡ a → owner_eq (get_or owners i d) o ≡ b → (a || (b || false)) ≡ true
        → (is_owner_listed o (take i owners) ≡ true) ⊎ (get_or owners i d ≡ o)
    by_tests true b s t h = inl s
    by_tests false true s t h = inr (same_owner (get_or owners i d) o t)
    by_tests false false s t h = absurd cc

module _ (owners : List Owner) (i : ℕ) (d : Owner) (rising : IsRising IsOwnerBefore owners) (less : i < length owners) where
  abbrev passed : ℕ → Owner → Bool
  passed k o = parity (λ q. owner_eq q o) (take k owners)

  next : (o : Owner) → passed (i + 1) o ≡ xor (owner_eq (get_or owners i d) o) (passed i o)
  next o = sym (xor-false (passed (i + 1) o)) ∙ sym (turn_more owners i d o false less)
      ∙ ap (xor (owner_eq (get_or owners i d) o)) (xor-false (passed i o))

  pub passed_not : passed i (get_or owners i d) ≡ false
  passed_not = none_before owners i d rising less

  pub passed_now : passed (i + 1) (get_or owners i d) ≡ true
  passed_now = next (get_or owners i d) ∙ (λ k. xor (owner_itself (get_or owners i d) k) (passed_not k))

  pub passed_still : (o : Owner) → o ≢ get_or owners i d → passed (i + 1) o ≡ passed i o
  passed_still o apart = next o ∙ ap (λ b. xor b (passed i o)) (by_test (owner_eq (get_or owners i d) o) refl)
    where
      by_test : (b : Bool) → owner_eq (get_or owners i d) o ≡ b → b ≡ false
      by_test true t = absurd (apart (sym (same_owner (get_or owners i d) o t)))
      by_test false t = refl

-- ---- edges of one owner
module _ (r : Owned) (n : ℕ) (p : Owner) (alone : owners_at r n ≡ p ∷ []) where
  pub listed_alone : (o : Owner) → is_owner_listed o (owners_at r n) ≡ owner_eq p o
  listed_alone o = ap (is_owner_listed o) alone ∙ or-false (owner_eq p o)

  pub listed_itself : is_owner_listed p (owners_at r n) ≡ true
  listed_itself = listed_alone p ∙ owner_itself p

  own_same : own_edge r p n ≡ n ∷ []
  own_same = ap (λ b. listed_if b n) listed_itself

  own_other : (o : Owner) → o ≢ p → own_edge r o n ≡ []
  own_other o apart = ap (λ b. listed_if b n) (listed_alone o) ∙ by_test (owner_eq p o) refl
    where
      by_test : (b : Bool) → owner_eq p o ≡ b → listed_if b n ≡ []
      by_test true t = absurd (apart (sym (same_owner p o t)))
      by_test false t = refl

  without : (right left : List ℕ) (o : Owner) → o ≢ p → (right ++ own_edge r o n) ++ left ≡ right ++ left
  without right left o apart = ap (λ l. (right ++ l) ++ left) (own_other o apart) ∙ ap (λ l. l ++ left) (append-nil right)

  untraced_is : (keys : List ℕ) → ((i : ℕ) → i < length keys → get_or keys i 0 ≢ key_of p) → (i : ℕ) (o : Owner) → i < length keys
      → get_or keys i 0 ≡ key_of o → o ≢ p
  untraced_is keys none i o less at same = none i less (at ∙ ap key_of same)

  -- of a shape that isn't traced no list changes
  pub put_untraced : (keys : List ℕ) (point : Option Point) (rows : OwnRows)
      → ((i : ℕ) → i < length keys → get_or keys i 0 ≢ key_of p) → HasPutEdge r keys point n rows rows
  put_untraced keys point rows none = λ right left cut h i o less at.
      h i o less at ∙ sym (without (right o) (left o) o (untraced_is keys none i o less at))

  pub taken_untraced : (keys : List ℕ) (point : Point) (rows : OwnRows)
      → ((i : ℕ) → i < length keys → get_or keys i 0 ≢ key_of p) → HasTakenEdge r keys point n rows rows
  taken_untraced keys point rows none = λ right left cut h i o less at.
      h i o less at ∙ without (right o) (left o) o (untraced_is keys none i o less at)

  -- and of one that is its own list does
  pub put_alone : (keys : List ℕ) (point : Option Point) (old new : OwnRows) → HasInserted r keys p point n old new
      → HasPutEdge r keys point n old new
  put_alone keys point old new put = λ right left cut h.
      put (λ o. right o ++ left o) (λ o. (right o ++ own_edge r o n) ++ left o) (right p) (left p) refl (cut p)
      (ap (λ l. (right p ++ l) ++ left p) own_same) (λ o apart. without (right o) (left o) o apart) h

  pub taken_alone : (keys : List ℕ) (point : Point) (old new : OwnRows) → HasTaken r keys p point old new
      → HasTakenEdge r keys point n old new
  taken_alone keys point old new taken = λ right left cut h.
      taken (λ o. (right o ++ own_edge r o n) ++ left o) (λ o. right o ++ left o) (right p) (left p) n
      (ap (λ l. (right p ++ l) ++ left p) own_same)
      (subst (λ l. IsCutBy r (Some point) (right p ++ l) (left p)) own_same (cut p)) refl
      (λ o apart. sym (without (right o) (left o) o apart)) h
