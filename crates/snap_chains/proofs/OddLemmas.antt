-- A sorted list, gone from its start, where an element is put behind those kept so far, or takes away the last of them if it is the
-- same: what is kept in the end is what is there an odd number of times.
use Rattle.std.proofs.Common.{◌≡◌, ◌≢◌, ◌↔◌, ◌⊎◌, ⊎_elim, inl, inr, ℕ, zero, suc, ◌+◌}
use Rattle.std.proofs.Common.{◌-◌, ◌<◌, Bool, true, false, cond, List, [], ◌∷◌, ◌++◌}
use Rattle.std.proofs.Common.{length, get_or, take, refl, sym, ap, ◌∙◌, subst, arith, Contains, Decides}
use Rattle.std.specs.Prelude.{IsTrue, Some, not, slice_get}
use Rattle.std.specs.List.{sum_by}
use Rattle.std.specs.declared.cmp.Ordering.{Ordering}
use Rattle.std.specs.declared.cmp.Ordering.TheVariants.{Less, Equal, Greater}
use Rattle.std.specs.Ordering.{is_lt, ordering_reverse}
use Rattle.std.specs.Cmp.{IsTotalOrder}
use Rattle.std.specs.List.Sorted.{IsPermutation, IsSorted}
use Rattle.std.proofs.lemmas.Bool.{false≢true}
use Rattle.std.proofs.lemmas.List.{get_or-take, get_or_default, length-take, take_more}
use Rattle.std.proofs.lemmas.List.MinMax.{ranks_by}
use Rattle.std.proofs.lemmas.List.Sorted.{sorted_far, sum_by-IsPermutation}
use Rattle.std.proofs.lemmas.List.Sums.{sum_by-cons}
use Rattle.std.proofs.lemmas.Option.{slice_get-get_or}
use Rattle.lay_point.specs.Parity.{parity, xor}
use Rattle.lay_point.specs.Rising.{IsRising, last}
use Rattle.lay_point.proofs.Members.{Has, has, contains, has-append, has-append_left, has-append_right}
use Rattle.lay_point.proofs.Parity.{parity-append, xor-false}
use Rattle.lay_point.proofs.Rising.{IsStrictOrder, before_rest, rising_rest}

-- ---- parities of a list in another order
abbrev is_odd : ℕ → Bool
is_odd zero = false
is_odd (suc n) = not (is_odd n)

abbrev weight : Bool → ℕ
weight b = cond b 1 0

parity_count : {A : Type 0} (test : A → Bool) (xs : List A) → parity test xs ≡ is_odd (sum_by (λ x. weight (test x)) xs)
parity_count test [] = refl
parity_count {A} test (x ∷ xs) =
    ap (xor (test x)) (parity_count test xs) ∙ one_more (test x) (sum_by (λ y. weight (test y)) xs)
    ∙ ap is_odd (sym (sum_by-cons (λ y. weight (test y)) x xs))
  where
    one_more : (b : Bool) (n : ℕ) → xor b (is_odd n) ≡ is_odd (weight b + n)
    one_more true n = let e : 1 + n ≡ suc n = omega arith in ap is_odd (sym e)
    one_more false n = let e : 0 + n ≡ n = omega arith in ap is_odd (sym e)

pub parity_permutation : {A : Type 0} (test : A → Bool) (xs ys : List A) → IsPermutation xs ys → parity test ys ≡ parity test xs
parity_permutation test xs ys move =
    parity_count test ys ∙ ap is_odd (sum_by-IsPermutation (λ x. weight (test x)) xs ys move) ∙ sym (parity_count test xs)

-- where the parity is odd, one passes
pub odd_has : {A : Type 0} (test : A → Bool) (xs : List A) → parity test xs ≡ true → (z : A) × Has xs z × (test z ≡ true)
odd_has test [] h = absurd (false≢true h)
odd_has {A} test (x ∷ xs) h = by_test (odd_has test xs) (test x) refl
  where
    by_test : (parity test xs ≡ true → (z : A) × Has xs z × (test z ≡ true)) → (b : Bool) → b ≡ test x
        → (z : A) × Has (x ∷ xs) z × (test z ≡ true)
    by_test later true e = (x, inl refl, sym e)
    by_test later false e = let r = later (subst (λ c. xor c (parity test xs) ≡ true) (sym e) h) in (r.0, inr r.1, r.2)

-- ---- what is kept
-- an order that `sort` goes by, and the same order as a relation
pub record IsSortOrder {A : Type 0} (cmp : A → A → Ordering) (same : A → A → Bool) (Before : A → A → Type 0) : Type 0 where
  pub total : IsTotalOrder cmp
  pub less : (x y : A) → cmp x y ≡ Less → Before x y
  pub exact : (x y : A) → cmp x y ≡ Equal → x ≡ y
  pub strict : IsStrictOrder Before
  pub decides : (x y : A) → Decides (same x y) (x ≡ y)

-- of the elements seen those are kept, in order, that are there an odd number of times
pub record AreOdd {A : Type 0} (same : A → A → Bool) (Before : A → A → Type 0) (seen kept : List A) : Type 0 where
  pub rising : IsRising Before kept
  pub exact : (v : A) → Contains kept v ↔ IsTrue (parity (same v) seen)

module _ {A : Type 0} (Before : A → A → Type 0) where
  rising_push : (xs : List A) (x : A) → IsRising Before xs → ((y : A) → Has xs y → Before y x) → IsRising Before (xs ++ x ∷ [])
  rising_push [] x h b = tt
  rising_push (y ∷ []) x h b = (b y (inl refl), tt)
  rising_push (y ∷ z ∷ zs) x h b = (h.0, rising_push (z ∷ zs) x h.1 (λ v m. b v (inr m)))

  rising_init : (xs : List A) (x : A) → IsRising Before (xs ++ x ∷ []) → IsRising Before xs
  rising_init [] x h = tt
  rising_init (y ∷ []) x h = tt
  rising_init (y ∷ z ∷ zs) x h = (h.0, rising_init (z ∷ zs) x h.1)

  before_end : IsStrictOrder Before → (xs : List A) (x y : A) → IsRising Before (xs ++ x ∷ []) → Has xs y → Before y x
  before_end laws [] x y h m = absurd m
  before_end laws (z ∷ zs) x y h (inl e) =
      subst (λ v. Before v x) e (before_rest Before laws z (zs ++ x ∷ []) x h (has-append_right zs (x ∷ []) x (inl refl)))
  before_end laws (z ∷ zs) x y h (inr m) = before_end laws zs x y (rising_rest Before z (zs ++ x ∷ []) h) m

  -- where all are x or before it, and the last isn't x, all are before it
  all_before : IsStrictOrder Before → (x k : A) (ks : List A) → IsRising Before (k ∷ ks)
      → ((y : A) → Has (k ∷ ks) y → (y ≡ x) ⊎ Before y x) → last k ks ≢ x → (y : A) → Has (k ∷ ks) y → Before y x
  all_before laws x k [] h up differ y (inl e) = ⊎_elim (λ same. absurd (differ (e ∙ same))) (λ less. less) (up y (inl e))
  all_before laws x k [] h up differ y (inr m) = absurd m
  all_before laws x k (z ∷ zs) h up differ y (inl e) =
      subst (λ v. Before v x) e
      (laws.transitive k z x h.0 (all_before laws x z zs h.1 (λ v m. up v (inr m)) differ z (inl refl)))
  all_before laws x k (z ∷ zs) h up differ y (inr m) = all_before laws x z zs h.1 (λ v n. up v (inr n)) differ y m

parity_push : {A : Type 0} (test : A → Bool) (seen : List A) (x : A) → parity test (seen ++ x ∷ []) ≡ xor (parity test seen) (test x)
parity_push test seen x = parity-append test seen (x ∷ []) ∙ ap (xor (parity test seen)) (xor-false (test x))

last_at : {A : Type 0} (k : A) (ks : List A) (n : ℕ) (d : A) → n ≡ length ks → get_or (k ∷ ks) n d ≡ last k ks
last_at k [] n d e = ap (λ m. get_or (k ∷ []) m d) e
last_at k (z ∷ zs) n d e = ap (λ m. get_or (k ∷ z ∷ zs) m d) e ∙ last_at z zs (length zs) d refl

module _ {A : Type 0} {cmp : A → A → Ordering} {same : A → A → Bool} (Before : A → A → Type 0) (order : IsSortOrder cmp same Before) where
  -- one more, which takes away the last that is kept
  pub odd_pop : (seen init : List A) (x : A) → AreOdd same Before seen (init ++ x ∷ []) → AreOdd same Before (seen ++ x ∷ []) init
  odd_pop seen init x h = record {
    rising = rising_init Before init x h.rising;
    exact = λ v. by_test v (same v x) refl;
  }
    where
      by_test : (v : A) (b : Bool) → b ≡ same v x → Contains init v ↔ IsTrue (parity (same v) (seen ++ x ∷ []))
      by_test v true e =
          let is_x = (order.decides v x).0 (sym e) in
          let was = (h.exact v).0 (contains (init ++ x ∷ []) v (has-append_right init (x ∷ []) v (inl (sym is_x)))) in
          let now : parity (same v) (seen ++ x ∷ []) ≡ false =
          parity_push (same v) seen x ∙ (λ i. xor (was i) (sym e i)) in (
            (λ m. absurd (order.strict.irreflexive x (before_end Before order.strict init x x h.rising
                (subst (Has init) is_x (has init v m))))),
            (λ t. absurd (false≢true (sym now ∙ t))),
          )
      by_test v false e =
          let now : parity (same v) (seen ++ x ∷ []) ≡ parity (same v) seen =
          parity_push (same v) seen x ∙ ap (xor (parity (same v) seen)) (sym e) ∙ xor-false (parity (same v) seen) in (
            (λ m. now ∙ (h.exact v).0 (contains (init ++ x ∷ []) v (has-append_left init (x ∷ []) v (has init v m)))),
            (λ t. ⊎_elim (λ here. contains init v here)
                (λ there. ⊎_elim (λ is_x. absurd (false≢true (e ∙ (order.decides v x).1 (sym is_x)))) (λ none. absurd none) there)
                (has-append init (x ∷ []) v (has (init ++ x ∷ []) v ((h.exact v).1 (sym now ∙ t))))),
          )

  -- one more, which isn't kept yet
  pub odd_push : (seen kept : List A) (x : A) → AreOdd same Before seen kept → ((y : A) → Has kept y → Before y x)
      → AreOdd same Before (seen ++ x ∷ []) (kept ++ x ∷ [])
  odd_push seen kept x h after = record {
    rising = rising_push Before kept x h.rising after;
    exact = λ v. by_test v (same v x) refl (parity (same v) seen) refl;
  }
    where
      by_test : (v : A) (b : Bool) → b ≡ same v x → (p : Bool) → p ≡ parity (same v) seen
          → Contains (kept ++ x ∷ []) v ↔ IsTrue (parity (same v) (seen ++ x ∷ []))
      by_test v true e true f =
          absurd (order.strict.irreflexive x (after x
          (subst (Has kept) ((order.decides v x).0 (sym e)) (has kept v ((h.exact v).1 (sym f))))))
      by_test v true e false f =
          let is_x = (order.decides v x).0 (sym e) in (
            (λ m. parity_push (same v) seen x ∙ (λ i. xor (sym f i) (sym e i))),
            (λ t. contains (kept ++ x ∷ []) v (has-append_right kept (x ∷ []) v (inl (sym is_x)))),
          )
      by_test v false e p f =
          let now : parity (same v) (seen ++ x ∷ []) ≡ parity (same v) seen =
          parity_push (same v) seen x ∙ ap (xor (parity (same v) seen)) (sym e) ∙ xor-false (parity (same v) seen) in (
            (λ m. ⊎_elim (λ here. now ∙ (h.exact v).0 (contains kept v here))
                (λ there. ⊎_elim (λ is_x. absurd (false≢true (e ∙ (order.decides v x).1 (sym is_x)))) (λ none. absurd none) there)
                (has-append kept (x ∷ []) v (has (kept ++ x ∷ []) v m))),
            (λ t. contains (kept ++ x ∷ []) v (has-append_left kept (x ∷ []) v (has kept v ((h.exact v).1 (sym now ∙ t))))),
          )

  not_after : (x y : A) → is_lt (cmp x y) ≡ false → (y ≡ x) ⊎ Before y x
  not_after x y h = by_order (cmp y x) refl
    where
      by_order : (o : Ordering) → o ≡ cmp y x → (y ≡ x) ⊎ Before y x
      by_order Less e = inr (order.less y x (sym e))
      by_order Equal e = inl (order.exact y x (sym e))
      by_order Greater e =
          absurd (false≢true (sym h ∙ ap is_lt (order.total.antisymm x y ∙ ap ordering_reverse (sym e))))

  module _ (xs kept : List A) (i : ℕ) (x : A) (sorted : IsSorted cmp xs) (lt : i < length xs) (at : x ≡ get_or xs i x)
      (so_far : AreOdd same Before (take i xs) kept) where
    one_more : take (i + 1) xs ≡ take i xs ++ x ∷ []
    one_more = take_more xs i x lt ∙ ap (λ u. take i xs ++ u ∷ []) (sym at)

    -- what is kept so far isn't behind the next
    up_to : (y : A) → Has kept y → (y ≡ x) ⊎ Before y x
    up_to y m =
        let seen = odd_has (same y) (take i xs) ((so_far.exact y).0 (contains kept y m)) in
        let place = contains (take i xs) seen.0 seen.1 in
        let k = place.0 in
        let early : k < i = omega (arith, length-take i xs, place.1) in
        let there : get_or xs k x ≡ seen.0 =
        sym (get_or-take i xs k x early) ∙ get_or_default (take i xs) k x seen.0 place.1 ∙ place.2 in
        let is_y : y ≡ seen.0 = (order.decides y seen.0).0 seen.2 in
        not_after x y (subst (λ v. is_lt (cmp x v) ≡ false) (there ∙ sym is_y)
        (subst (λ v. is_lt (cmp v (get_or xs k x)) ≡ false) (sym at)
        (sorted_far (λ v w. is_lt (cmp v w)) (ranks_by order.total (λ v. v)) xs sorted k i x (omega arith) lt)))

    -- the next isn't the last that is kept
    pub next_is_not_last : (slice_get kept (length kept - 1) ≢ Some x) → AreOdd same Before (take (i + 1) xs) (kept ++ x ∷ [])
    next_is_not_last differ =
        subst (λ l. AreOdd same Before l (kept ++ x ∷ [])) (sym one_more)
        (odd_push (take i xs) kept x so_far (after kept so_far.rising up_to differ))
      where
        after : (l : List A) → IsRising Before l → ((y : A) → Has l y → (y ≡ x) ⊎ Before y x) → (slice_get l (length l - 1) ≢ Some x)
            → (y : A) → Has l y → Before y x
        after [] h up other y m = absurd m
        after (k ∷ ks) h up other y m =
            all_before Before order.strict x k ks h up
            (λ e. other (slice_get-get_or (k ∷ ks) (length (k ∷ ks) - 1) k (omega arith)
            ∙ ap Some (last_at k ks (length (k ∷ ks) - 1) k (omega arith) ∙ e))) y m
