-- Sorted passes, read group by group: one more group.
use Rattle.std.proofs.Common.{
  ◌≡◌,
  ◌⊎◌,
  inl,
  inr,
  ⊎_elim,
  ℕ,
  zero,
  suc,
  ◌+◌,
  ◌-◌,
  ◌<◌,
  ◌≤◌,
  Bool,
  true,
  false,
  List,
  [],
  ◌∷◌,
  ◌++◌,
  length,
  get_or,
  take,
  drop,
  map,
}
use Rattle.std.proofs.Common.{refl, sym, ap, subst, ◌∙◌, arith, Contains, Decides, append_assoc, append-nil, length-append}
use Rattle.std.specs.List.{AllByRecursion, AllZip}
use Rattle.std.specs.List.Sorted.{IsSorted}
use Rattle.std.specs.declared.cmp.Ordering.{Ordering}
use Rattle.std.specs.declared.cmp.Ordering.TheVariants.{Less, Equal, Greater}
use Rattle.std.specs.Ordering.{is_lt, ordering_reverse}
use Rattle.std.proofs.lemmas.Bool.{false≢true}
use Rattle.snap_slabs.proofs.OwnedLemmas.{zip_push}
use Rattle.std.proofs.lemmas.List.{map-append, get_or-drop, get_or-take, length-drop, length-take, take-append-drop}
use Rattle.std.proofs.lemmas.List.MinMax.{ranks_by}
use Rattle.std.proofs.lemmas.List.Sorted.{sorted_far}
use Rattle.lay_point.specs.Rising.{IsRising}
use Rattle.lay_point.proofs.Members.{Has, has, contains, has-append, has-append_left, has-append_right}
use Rattle.lay_point.proofs.Parity.{parity-append, parity_none, xor-false}
use Rattle.lay_point.specs.Parity.{parity, xor}
use Rattle.snap_slabs.proofs.Stretches.{has_take, has_drop}
use Rattle.std.specs.List.Sorted.{IsPermutation}
use Rattle.std.proofs.lemmas.List.Sorted.{IsPermutation-sym, IsPermutation-map, Contains-permutation}
use Rattle.snap_chains.proofs.OddLemmas.{parity_permutation}
use Rattle.snap_chains.specs.declared.owner.Owner.{Owner}
use Rattle.snap_chains.specs.declared.pass.Pass.{Pass}
use Rattle.snap_chains.specs.Reading.{
  AreEndsBefore,
  AreOddOwners,
  AreRead,
  NumberedEdge,
  IsEdgeGroup,
  IsPassBefore,
  IsReadOff,
  edge_by_numbers,
  numbered_edge,
  pass_cmp,
  pass_eq,
  pass_of,
}
use Rattle.snap_chains.specs.OwnerLists.{IsInside, list_of, owner_lists_of}
use Rattle.snap_chains.specs.declared.owner_lists.Part.{Part}
use Rattle.snap_chains.proofs.OwnerLemmas.{map-push}
use Rattle.lay_point.specs.declared.point.Point.{Point}
use Rattle.lay_point.proofs.ListLaws.{has-map, map-has}
use Rattle.snap_chains.proofs.ViewLemmas.{pass_eq-Decides}
use Rattle.snap_chains.proofs.PassOrder.{pass_order, ends_are_strict}

-- ---- parts of sorted lists
pub sorted_drop : (xs : List Pass) (n : ℕ) → IsSorted pass_cmp xs → IsSorted pass_cmp (drop n xs)
sorted_drop xs n h k d low high =
    let there = h (n + k) d (omega arith) (omega (arith, high, length-drop n xs)) in
    let next : n + k + 1 ≡ n + (k + 1) = omega arith in
    (λ i. is_lt (pass_cmp (get_or-drop n xs (k + 1) d i) (get_or-drop n xs k d i)))
    ∙ ap (λ m. is_lt (pass_cmp (get_or xs m d) (get_or xs (n + k) d))) (sym next) ∙ there

pub sorted_take : (xs : List Pass) (n : ℕ) → IsSorted pass_cmp xs → IsSorted pass_cmp (take n xs)
sorted_take xs n h k d low high =
    let long = length-take n xs in
    let a : k + 1 < n = omega (arith, high, long) in
    let b : k < n = omega (arith, a) in
    (λ i. is_lt (pass_cmp (get_or-take n xs (k + 1) d a i) (get_or-take n xs k d b i)))
    ∙ h k d (omega arith) (omega (arith, high, long))

not_after : (x y : Pass) → is_lt (pass_cmp x y) ≡ false → (y ≡ x) ⊎ IsPassBefore y x
not_after x y h = by_order (pass_cmp y x) refl
  where
    by_order : (o : Ordering) → o ≡ pass_cmp y x → (y ≡ x) ⊎ IsPassBefore y x
    by_order Less e = inr (pass_order.less y x (sym e))
    by_order Equal e = inl (pass_order.exact y x (sym e))
    by_order Greater e = absurd (false≢true (sym h ∙ ap is_lt (pass_order.total.antisymm x y ∙ ap ordering_reverse (sym e))))

-- the ends of the earlier are no later
ends_no_later : (xs : List Pass) → IsSorted pass_cmp xs → (i j : ℕ) (d : Pass) → i ≤ j → j < length xs
    → (numbered_edge (get_or xs i d) ≡ numbered_edge (get_or xs j d))
    ⊎ AreEndsBefore (numbered_edge (get_or xs i d)) (numbered_edge (get_or xs j d))
ends_no_later xs h i j d le lt = ⊎_elim (λ (e : get_or xs i d ≡ get_or xs j d). inl (ap numbered_edge e))
    (λ (b : IsPassBefore (get_or xs i d) (get_or xs j d)). ⊎_elim inr (λ t. inl t.0) b)
    (not_after (get_or xs j d) (get_or xs i d)
    (sorted_far (λ v w. is_lt (pass_cmp v w)) (ranks_by pass_order.total (λ v. v)) xs h i j d le lt))

-- ---- a group
module _ (rest : List Pass) (n : ℕ) (sorted : IsSorted pass_cmp rest) (g : IsEdgeGroup rest n) (first : Pass)
    (is_first : (d : Pass) → get_or rest 0 d ≡ first) where
  pub in_group : (p : Pass) → Has (take n rest) p → numbered_edge p ≡ numbered_edge first
  in_group p m =
      let c = contains (take n rest) p m in
      let k = c.0 in
      let low : k < n = omega (arith, c.1, length-take n rest) in
      ap numbered_edge (sym (sym (get_or-take n rest k p low) ∙ c.2)) ∙ g.same k p low ∙ ap numbered_edge (is_first p)

  pub in_later : (p : Pass) → Has (drop n rest) p → AreEndsBefore (numbered_edge first) (numbered_edge p)
  in_later p m =
      let c = contains (drop n rest) p m in
      let j = n + c.0 in
      let lt : j < length rest = omega (arith, c.1, length-drop n rest) in
      let at : get_or rest j p ≡ p = sym (get_or-drop n rest c.0 p) ∙ c.2 in
      let inside : n < length rest = omega (arith, lt) in
      let start : AreEndsBefore (numbered_edge (get_or rest 0 p)) (numbered_edge (get_or rest n p)) =
      ⊎_elim (λ (e : numbered_edge (get_or rest 0 p) ≡ numbered_edge (get_or rest n p)). absurd (g.next p inside e)) (λ b. b)
      (ends_no_later rest sorted 0 n p (omega arith) inside) in
      let start' = subst (λ v. AreEndsBefore (numbered_edge v) (numbered_edge (get_or rest n p))) (is_first p) start in
      subst (λ v. AreEndsBefore (numbered_edge first) (numbered_edge v)) at (⊎_elim
      (λ (e : numbered_edge (get_or rest n p) ≡ numbered_edge (get_or rest j p)). subst (AreEndsBefore (numbered_edge first)) e start')
      (λ b. ends_are_strict.transitive (numbered_edge first) (numbered_edge (get_or rest n p)) (numbered_edge (get_or rest j p)) start' b)
      (ends_no_later rest sorted n j p (omega arith) lt))

  pub first_in_group : Has (take n rest) first
  first_in_group = has (take n rest) first (
    0,
    omega (arith, g.some, g.within, length-take n rest),
    get_or-take n rest 0 first g.some ∙ is_first first,
  )

-- ---- parts of one list
took_left : {A : Type 0} (n : ℕ) (xs ys : List A) → n ≤ length xs → take n (xs ++ ys) ≡ take n xs
took_left zero xs ys le = refl
took_left (suc n) [] ys le = absurd (omega (arith, le))
took_left (suc n) (x ∷ xs) ys le = ap (λ l. x ∷ l) (took_left n xs ys (omega (arith, le)))

dropped_left : {A : Type 0} (n : ℕ) (xs ys : List A) → n ≤ length xs → drop n (xs ++ ys) ≡ drop n xs ++ ys
dropped_left zero xs ys le = refl
dropped_left (suc n) [] ys le = absurd (omega (arith, le))
dropped_left (suc n) (x ∷ xs) ys le = dropped_left n xs ys (omega (arith, le))

took_whole : {A : Type 0} (n : ℕ) (xs : List A) → n ≡ length xs → take n xs ≡ xs
took_whole zero [] e = refl
took_whole zero (x ∷ xs) e = absurd (omega (arith, e))
took_whole (suc n) [] e = absurd (omega (arith, e))
took_whole (suc n) (x ∷ xs) e = ap (λ l. x ∷ l) (took_whole n xs (omega (arith, e)))

dropped_whole : {A : Type 0} (n : ℕ) (xs ys : List A) → n ≡ length xs → drop n (xs ++ ys) ≡ ys
dropped_whole zero [] ys e = refl
dropped_whole zero (x ∷ xs) ys e = absurd (omega (arith, e))
dropped_whole (suc n) [] ys e = absurd (omega (arith, e))
dropped_whole (suc n) (x ∷ xs) ys e = dropped_whole n xs ys (omega (arith, e))

-- the lists are as they were where more owners come behind
lists_kept : (owners more : List Owner) (parts : List Part) → AllByRecursion (IsInside (length owners)) parts
    → owner_lists_of (owners ++ more) parts ≡ owner_lists_of owners parts
lists_kept owners more [] h = refl
lists_kept owners more (p ∷ parts) h =
    let low : p.from ≤ length owners = omega (arith, h.0) in
    (λ i. (ap (take (p.to - p.from)) (dropped_left p.from owners more low)
    ∙ took_left (p.to - p.from) (drop p.from owners) more (omega (arith, h.0, length-drop p.from owners))) i
    ∷ lists_kept owners more parts h.1 i)

-- the list of those that come behind
pub lists_push : (owners odd : List Owner) (parts : List Part) (p : Part) → AllByRecursion (IsInside (length owners)) parts
    → p.from ≡ length owners → p.to ≡ length owners + length odd
    → owner_lists_of (owners ++ odd) (parts ++ p ∷ []) ≡ owner_lists_of owners parts ++ odd ∷ []
lists_push owners odd parts p h from to =
    let long : p.to - p.from ≡ length odd = omega (arith, from, to) in
    map-push (list_of (owners ++ odd)) parts p
    ∙ (λ i. lists_kept owners odd parts h i
    ++ (ap (take (p.to - p.from)) (dropped_whole p.from owners odd from) ∙ took_whole (p.to - p.from) odd long) i ∷ [])

pub parts_push : (n m : ℕ) (parts : List Part) (p : Part) → AllByRecursion (IsInside n) parts → n ≤ m → IsInside m p
    → AllByRecursion (IsInside m) (parts ++ p ∷ [])
parts_push n m [] p h le last = (last, tt)
parts_push n m (q ∷ parts) p h le last = ((h.0.0, omega (arith, h.0.1, le)), parts_push n m parts p h.1 le last)

-- ---- one more edge
rising_end : {A : Type 0} (Before : A → A → Type 0) (xs : List A) (x : A) → IsRising Before xs → ((y : A) → Has xs y → Before y x)
    → IsRising Before (xs ++ x ∷ [])
rising_end Before [] x h b = tt
rising_end Before (y ∷ []) x h b = (b y (inl refl), tt)
rising_end Before (y ∷ z ∷ zs) x h b = (h.0, rising_end Before (z ∷ zs) x h.1 (λ v m. b v (inr m)))

zip_in : {A B : Type 0} (R S : A → B → Type 0) (xs : List A) (ys : List B) → ((x : A) (y : B) → Has xs x → R x y → S x y)
    → AllZip R xs ys → AllZip S xs ys
zip_in R S [] [] f h = tt
zip_in R S [] (b ∷ ys) f h = absurd h
zip_in R S (a ∷ xs) [] f h = absurd h
zip_in R S (a ∷ xs) (b ∷ ys) f h = (f a b (inl refl) h.0, zip_in R S xs ys (λ x y m r. f x y (inr m) r) h.1)

no_match : (p q : Pass) → ¬ (numbered_edge p ≡ numbered_edge q) → pass_eq p q ≡ false
no_match p q apart = by_test (pass_eq p q) (pass_eq-Decides p q)
  where
    by_test : (b : Bool) → Decides b (p ≡ q) → b ≡ false
    by_test true d = absurd (apart (ap numbered_edge (d.0 refl)))
    by_test false d = refl

module _ (done group : List Pass) (e : NumberedEdge) (same : (p : Pass) → Has group p → numbered_edge p ≡ e) (first : Pass)
    (there : Has group first)
    (before : (d : NumberedEdge) → Has (map numbered_edge done) d → AreEndsBefore d e) where
  none_of_group : (d : NumberedEdge) (o : Owner) → AreEndsBefore d e → parity (pass_eq (pass_of d o)) group ≡ false
  none_of_group d o less = parity_none (pass_eq (pass_of d o)) group
      (λ q m. no_match (pass_of d o) q (λ s. ends_are_strict.irreflexive e (subst (λ v. AreEndsBefore v e) (s ∙ same q m) less)))

  none_of_done : (o : Owner) → parity (pass_eq (pass_of e o)) done ≡ false
  none_of_done o = parity_none (pass_eq (pass_of e o)) done
      (λ q m. no_match (pass_of e o) q (λ s. ends_are_strict.irreflexive e
      (subst (λ v. AreEndsBefore v e) (sym s) (before (numbered_edge q) (has-map numbered_edge done q m)))))

  pub read_more : (edges : List NumberedEdge) (lists : List (List Owner)) (odd : List Owner) → AreRead done edges lists
      → AreOddOwners group e odd → AreRead (done ++ group) (edges ++ e ∷ []) (lists ++ odd ∷ [])
  read_more edges lists odd r h = record {
    rising = rising_end AreEndsBefore edges e r.rising earlier;
    exact = λ d. (
      (λ m. contains _ d (subst (λ l. Has l d) (sym (map-append numbered_edge done group)) (⊎_elim
          (λ (old : Has edges d). has-append_left (map numbered_edge done) (map numbered_edge group) d
          (has (map numbered_edge done) d ((r.exact d).0 (contains edges d old))))
          (λ (new : Has (e ∷ []) d). has-append_right (map numbered_edge done) (map numbered_edge group) d
          (⊎_elim (λ (is : e ≡ d). subst (Has (map numbered_edge group)) (same first there ∙ is)
          (has-map numbered_edge group first there)) (λ none. absurd none) new))
          (has-append edges (e ∷ []) d (has (edges ++ e ∷ []) d m))))),
      (λ m. contains _ d (⊎_elim
          (λ (old : Has (map numbered_edge done) d). has-append_left edges (e ∷ []) d
          (has edges d ((r.exact d).1 (contains (map numbered_edge done) d old))))
          (λ (new : Has (map numbered_edge group) d). let p = map-has numbered_edge group d new in
          has-append_right edges (e ∷ []) d (inl (sym (same p.0 p.1) ∙ p.2)))
          (has-append (map numbered_edge done) (map numbered_edge group) d
          (subst (λ l. Has l d) (map-append numbered_edge done group) (has (map numbered_edge (done ++ group)) d m))))),
    );
    owned = zip_push (AreOddOwners (done ++ group)) edges lists e odd
        (zip_in (AreOddOwners done) (AreOddOwners (done ++ group)) edges lists (λ d l m w. record {
          rising = w.rising;
          exact = λ o.
              let keeps : parity (pass_eq (pass_of d o)) (done ++ group) ≡ parity (pass_eq (pass_of d o)) done =
              parity-append (pass_eq (pass_of d o)) done group
              ∙ ap (xor (parity (pass_eq (pass_of d o)) done)) (none_of_group d o (earlier d m)) ∙ xor-false _ in
              ((λ c. keeps ∙ (w.exact o).0 c), (λ t. (w.exact o).1 (sym keeps ∙ t)));
        }) r.owned)
        (record {
          rising = h.rising;
          exact = λ o.
              let is : parity (pass_eq (pass_of e o)) (done ++ group) ≡ parity (pass_eq (pass_of e o)) group =
              parity-append (pass_eq (pass_of e o)) done group ∙ ap (λ b. xor b (parity (pass_eq (pass_of e o)) group)) (none_of_done o) in
              ((λ c. is ∙ (h.exact o).0 c), (λ t. (h.exact o).1 (sym is ∙ t)));
        });
  }
    where
      earlier : (d : NumberedEdge) → Has edges d → AreEndsBefore d e
      earlier d m = before d (has (map numbered_edge done) d ((r.exact d).0 (contains edges d m)))

-- ---- the whole
pub record IsReading (hot : List Point) (passes rest : List Pass) (edges : List (Point × Point)) (owners : List Owner) (parts : List Part)
    : Type 0 where
  pub done : List Pass
  pub ends : List NumberedEdge
  pub edges_are : edges ≡ map (edge_by_numbers hot) ends
  pub whole : passes ≡ done ++ rest
  pub sorted : IsSorted pass_cmp rest
  pub before : (d : NumberedEdge) → Has (map numbered_edge done) d → (p : Pass) → Has rest p → AreEndsBefore d (numbered_edge p)
  pub read : AreRead done ends (owner_lists_of owners parts)
  pub parted : AllByRecursion (IsInside (length owners)) parts

pub reading_start : (hot : List Point) (passes : List Pass) → IsSorted pass_cmp passes → IsReading hot passes passes [] [] []
reading_start hot passes sorted = record {
  done = [];
  ends = [];
  edges_are = refl;
  whole = refl;
  sorted = sorted;
  before = λ d m p n. absurd m;
  read = record { rising = tt; exact = λ d. ((λ m. m), (λ m. m)); owned = tt };
  parted = tt;
}

-- a pass that is left is one of all
pub still_left : (hot : List Point) (passes rest : List Pass) (edges : List (Point × Point)) (owners : List Owner) (parts : List Part)
    → IsReading hot passes rest edges owners parts → (p : Pass) → Has rest p → Contains passes p
still_left hot passes rest edges owners parts h p m =
    contains passes p (subst (λ l. Has l p) (sym h.whole) (has-append_right h.done rest p m))

pub reading_more : (hot : List Point) (passes rest : List Pass) (edges : List (Point × Point)) (owners : List Owner) (parts : List Part)
    (n : ℕ) (first : Pass) (odd : List Owner) (part : Part) → IsReading hot passes rest edges owners parts → IsEdgeGroup rest n
    → ((d : Pass) → get_or rest 0 d ≡ first) → AreOddOwners (take n rest) (numbered_edge first) odd
    → part.from ≡ length owners → part.to ≡ length (owners ++ odd)
    → IsReading hot passes (drop n rest) (edges ++ edge_by_numbers hot (numbered_edge first) ∷ []) (owners ++ odd) (parts ++ part ∷ [])
reading_more hot passes rest edges owners parts n first odd part h g is_first w from to =
    let group = take n rest in
    let e = numbered_edge first in
    let long = length-append owners odd in
    let there = first_in_group rest n h.sorted g first is_first in
    let same = in_group rest n h.sorted g first is_first in
    let early : (d : NumberedEdge) → Has (map numbered_edge h.done) d
    → AreEndsBefore d e = λ d k. h.before d k first (has_take n rest first there) in
    record {
      done = h.done ++ group;
      ends = h.ends ++ e ∷ [];
      edges_are = ap (λ l. l ++ edge_by_numbers hot e ∷ []) h.edges_are ∙ sym (map-push (edge_by_numbers hot) h.ends e);
      whole = h.whole ∙ ap (λ l. h.done ++ l) (sym (take-append-drop n rest)) ∙ sym (append_assoc h.done group (drop n rest));
      sorted = sorted_drop rest n h.sorted;
      before = λ d k p l. ⊎_elim
          (λ (old : Has (map numbered_edge h.done) d). h.before d old p (has_drop n rest p l))
          (λ (new : Has (map numbered_edge group) d). let q = map-has numbered_edge group d new in
          subst (λ v. AreEndsBefore v (numbered_edge p)) (sym (same q.0 q.1) ∙ q.2) (in_later rest n h.sorted g first is_first p l))
          (has-append (map numbered_edge h.done) (map numbered_edge group) d
          (subst (λ z. Has z d) (map-append numbered_edge h.done group) k));
      read = subst (AreRead (h.done ++ group) (h.ends ++ e ∷ []))
          (sym (lists_push owners odd parts part h.parted from (to ∙ long)))
          (read_more h.done group e same first there early h.ends (owner_lists_of owners parts) odd h.read w);
      parted = parts_push (length owners) (length (owners ++ odd)) parts part h.parted (omega (arith, long))
          (omega (arith, from, to, long), omega (arith, to));
    }

pub reading_end : (hot : List Point) (passes rest : List Pass) (edges : List (Point × Point)) (owners : List Owner) (parts : List Part)
    → IsReading hot passes rest edges owners parts → rest ≡ [] → IsReadOff hot passes edges (owner_lists_of owners parts)
reading_end hot passes rest edges owners parts h none = record {
  ends = h.ends;
  edges_are = h.edges_are;
  read = subst (λ l. AreRead l h.ends (owner_lists_of owners parts))
      (sym (h.whole ∙ ap (λ l. h.done ++ l) none ∙ append-nil h.done)) h.read;
}

-- in another order
pub read_permuted : (passes sorted : List Pass) (edges : List NumberedEdge) (lists : List (List Owner)) → IsPermutation passes sorted
    → AreRead sorted edges lists → AreRead passes edges lists
read_permuted passes sorted edges lists moved r =
    let back = IsPermutation-sym passes sorted moved in
    record {
      rising = r.rising;
      exact = λ e. (
        (λ m. Contains-permutation (map numbered_edge sorted) (map numbered_edge passes) e
            (IsPermutation-map numbered_edge sorted passes back) ((r.exact e).0 m)),
        (λ m. (r.exact e).1 (Contains-permutation (map numbered_edge passes) (map numbered_edge sorted) e
            (IsPermutation-map numbered_edge passes sorted moved) m)),
      );
      owned = zip_in (AreOddOwners sorted) (AreOddOwners passes) edges lists (λ e l m w. record {
        rising = w.rising;
        exact = λ o.
            let same = parity_permutation (pass_eq (pass_of e o)) passes sorted moved in
            ((λ c. sym same ∙ (w.exact o).0 c), (λ t. (w.exact o).1 (same ∙ t)));
      }) r.owned;
    }
