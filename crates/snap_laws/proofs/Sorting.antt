-- Lists sorted once rise, and have the elements that were sorted; and the orders that rounding sorts by answer as the orders of `Rising`.
use Rattle.std.proofs.Common.{◌≡◌, ◌⊎◌, inl, inr, Bool, true, false, cond, List, [], ◌∷◌, ◌<ℤ◌, ◌<◌, Option, Some, None}
use Rattle.std.proofs.Common.{refl, sym, ap, subst, ◌∙◌, ⊎_elim}
use Rattle.std.specs.Prelude.{flat_map}
use Rattle.std.specs.List.{cons_option, filter, filter_map}
use Rattle.std.specs.declared.cmp.Ordering.{Ordering}
use Rattle.std.specs.declared.cmp.Ordering.TheVariants.{Less, Equal, Greater}
use Rattle.std.specs.Ordering.{MatchOrdering, int_cmp, nat_cmp, on, ordering_then, then_cmp}
use Rattle.std.proofs.lemmas.Cmp.{int_ranked, ranked}
use Rattle.lay_point.specs.declared.point.Point.{Point}
use Rattle.lay_point.specs.Points.{IsBefore}
use Rattle.lay_point.proofs.EdgeOrder.{same_point}
use Rattle.lay_point.specs.Rising.{IsRising}
use Rattle.lay_point.specs.Edges.{IsEdgeBefore}
use Rattle.lay_point.proofs.Members.{Has, has-append, has-append_left, has-append_right}
use Rattle.snap_chains.specs.declared.owner.Input.TheVariants.{First, Second}
use Rattle.snap_chains.specs.declared.owner.Owner.{Owner}
use Rattle.snap_chains.specs.Owners.{IsInputBefore, IsOwnerBefore}
use Rattle.snap_laws.specs.Rounding.{way_along, way_order}
use Rattle.snap_laws.specs.Sorting.{by_order, edge_order, input_order, inserted, owner_order, point_order, sorted_once}
use Rattle.snap_laws.proofs.Sides.{IsBelowOn}

-- what the answers of cmp say
abbrev pub IsRanked : {A : Type 0} → (A → A → Ordering) → (A → A → Type 0) → Type 0
IsRanked {A} cmp Before = (x y : A) → MatchOrdering (cmp x y) (Before x y) (x ≡ y) (Before y x)

-- ---- sorted once
module _ {A : Type 0} (cmp : A → A → Ordering) (Before : A → A → Type 0) (ranks : IsRanked cmp Before) where
  inserted_after : (z x : A) (ys : List A) → Before z x → IsRising Before (z ∷ ys) → IsRising Before (z ∷ inserted cmp x ys)
  inserted_after z x [] less up = (less, tt)
  inserted_after z x (y ∷ ys) less up = by_rank (λ more. inserted_after y x ys more up.1) (cmp x y) (ranks x y)
    where
      by_rank : (Before y x → IsRising Before (y ∷ inserted cmp x ys)) → (o : Ordering) → MatchOrdering o (Before x y) (x ≡ y) (Before y x)
          → IsRising Before (z ∷ by_order o (x ∷ y ∷ ys) (y ∷ ys) (y ∷ inserted cmp x ys))
      by_rank next Less h = (less, (h, up.1))
      by_rank next Equal h = up
      by_rank next Greater h = (up.0, next h)

  inserted_rising : (x : A) (ys : List A) → IsRising Before ys → IsRising Before (inserted cmp x ys)
  inserted_rising x [] up = tt
  inserted_rising x (y ∷ ys) up = by_rank (cmp x y) (ranks x y)
    where
      by_rank : (o : Ordering) → MatchOrdering o (Before x y) (x ≡ y) (Before y x)
          → IsRising Before (by_order o (x ∷ y ∷ ys) (y ∷ ys) (y ∷ inserted cmp x ys))
      by_rank Less h = (h, up)
      by_rank Equal h = up
      by_rank Greater h = inserted_after y x ys h up

  has_inserted : (x : A) (ys : List A) (z : A) → Has (inserted cmp x ys) z → (x ≡ z) ⊎ Has ys z
  has_inserted x [] z m = m
  has_inserted x (y ∷ ys) z m = by_rank (has_inserted x ys z) (cmp x y) m
    where
      by_rank : (Has (inserted cmp x ys) z → (x ≡ z) ⊎ Has ys z) → (o : Ordering)
          → Has (by_order o (x ∷ y ∷ ys) (y ∷ ys) (y ∷ inserted cmp x ys)) z → (x ≡ z) ⊎ Has (y ∷ ys) z
      by_rank rest Less m = m
      by_rank rest Equal m = inr m
      by_rank rest Greater (inl e) = inr (inl e)
      by_rank rest Greater (inr m) = ⊎_elim inl (λ there. inr (inr there)) (rest m)

  inserted_has : (x : A) (ys : List A) (z : A) → (x ≡ z) ⊎ Has ys z → Has (inserted cmp x ys) z
  inserted_has x [] z m = m
  inserted_has x (y ∷ ys) z m = by_rank (inserted_has x ys z) (cmp x y) (ranks x y) m
    where
      by_rank : ((x ≡ z) ⊎ Has ys z → Has (inserted cmp x ys) z) → (o : Ordering) → MatchOrdering o (Before x y) (x ≡ y) (Before y x)
          → (x ≡ z) ⊎ Has (y ∷ ys) z → Has (by_order o (x ∷ y ∷ ys) (y ∷ ys) (y ∷ inserted cmp x ys)) z
      by_rank rest Less h m = m
      by_rank rest Equal h (inl e) = inl (sym h ∙ e)
      by_rank rest Equal h (inr m) = m
      by_rank rest Greater h (inl e) = inr (rest (inl e))
      by_rank rest Greater h (inr (inl e)) = inl e
      by_rank rest Greater h (inr (inr m)) = inr (rest (inr m))

  pub sorted_rising : (xs : List A) → IsRising Before (sorted_once cmp xs)
  sorted_rising [] = tt
  sorted_rising (x ∷ xs) = inserted_rising x (sorted_once cmp xs) (sorted_rising xs)

  pub has_sorted : (xs : List A) (z : A) → Has (sorted_once cmp xs) z → Has xs z
  has_sorted [] z m = m
  has_sorted (x ∷ xs) z m = ⊎_elim inl (λ later. inr (has_sorted xs z later)) (has_inserted x (sorted_once cmp xs) z m)

  pub sorted_has : (xs : List A) (z : A) → Has xs z → Has (sorted_once cmp xs) z
  sorted_has [] z m = m
  sorted_has (x ∷ xs) z (inl e) = inserted_has x (sorted_once cmp xs) z (inl e)
  sorted_has (x ∷ xs) z (inr m) = inserted_has x (sorted_once cmp xs) z (inr (sorted_has xs z m))

-- ---- members of other lists
module _ {A : Type 0} (test : A → Bool) where
  pub has_filter : (xs : List A) (x : A) → Has (filter test xs) x → Has xs x × (test x ≡ true)
  has_filter [] x m = absurd m
  has_filter (y ∷ ys) x m = by_test (has_filter ys x) (test y) refl m
    where
      by_test : (Has (filter test ys) x → Has ys x × (test x ≡ true)) → (b : Bool) → test y ≡ b
          → Has (cond b (y ∷ filter test ys) (filter test ys)) x → Has (y ∷ ys) x × (test x ≡ true)
      by_test rest true t (inl e) = (inl e, subst (λ v. test v ≡ true) e t)
      by_test rest true t (inr m) = let r = rest m in (inr r.0, r.1)
      by_test rest false t m = let r = rest m in (inr r.0, r.1)

  pub filter_has : (xs : List A) (x : A) → Has xs x → test x ≡ true → Has (filter test xs) x
  filter_has [] x m t = absurd m
  filter_has (y ∷ ys) x (inl e) t =
      subst (λ b. Has (cond b (y ∷ filter test ys) (filter test ys)) x) (sym (ap test e ∙ t)) (inl e)
  filter_has (y ∷ ys) x (inr m) t = by_test (test y) (filter_has ys x m t)
    where
      by_test : (b : Bool) → Has (filter test ys) x → Has (cond b (y ∷ filter test ys) (filter test ys)) x
      by_test true m = inr m
      by_test false m = m

module _ {A B : Type 0} (f : A → Option B) where
  pub has_filter_map : (xs : List A) (y : B) → Has (filter_map f xs) y → (x : A) × Has xs x × (f x ≡ Some y)
  has_filter_map [] y m = absurd m
  has_filter_map (x ∷ xs) y m = by_option (has_filter_map xs y) (f x) refl m
    where
      by_option : (Has (filter_map f xs) y → (x : A) × Has xs x × (f x ≡ Some y)) → (o : Option B) → f x ≡ o
          → Has (cons_option o (filter_map f xs)) y → (v : A) × Has (x ∷ xs) v × (f v ≡ Some y)
      by_option rest None e m = let r = rest m in (r.0, inr r.1, r.2)
      by_option rest (Some z) e (inl same) = (x, inl refl, e ∙ ap Some same)
      by_option rest (Some z) e (inr m) = let r = rest m in (r.0, inr r.1, r.2)

  pub filter_map_has : (xs : List A) (x : A) (y : B) → Has xs x → f x ≡ Some y → Has (filter_map f xs) y
  filter_map_has [] x y m e = absurd m
  filter_map_has (v ∷ xs) x y (inl same) e =
      subst (λ o. Has (cons_option o (filter_map f xs)) y) (sym (ap f same ∙ e)) (inl refl)
  filter_map_has (v ∷ xs) x y (inr m) e = by_option (f v) (filter_map_has xs x y m e)
    where
      by_option : (o : Option B) → Has (filter_map f xs) y → Has (cons_option o (filter_map f xs)) y
      by_option None m = m
      by_option (Some z) m = inr m

module _ {A B : Type 0} (f : A → List B) where
  pub has_flat_map : (xs : List A) (y : B) → Has (flat_map f xs) y → (x : A) × Has xs x × Has (f x) y
  has_flat_map [] y m = absurd m
  has_flat_map (x ∷ xs) y m = ⊎_elim
      (λ (here : Has (f x) y). (x, inl refl, here))
      (λ (there : Has (flat_map f xs) y). let r = has_flat_map xs y there in (r.0, inr r.1, r.2))
      (has-append (f x) (flat_map f xs) y m)

  pub flat_map_has : (xs : List A) (x : A) (y : B) → Has xs x → Has (f x) y → Has (flat_map f xs) y
  flat_map_has [] x y m g = absurd m
  flat_map_has (v ∷ xs) x y (inl e) g = has-append_left (f v) (flat_map f xs) y (subst (λ u. Has (f u) y) (sym e) g)
  flat_map_has (v ∷ xs) x y (inr m) g = has-append_right (f v) (flat_map f xs) y (flat_map_has xs x y m g)

-- ---- orders
module _ {K A B : Type 0} (f : K → A) (g : K → B) (cmp : A → A → Ordering) (cmp' : B → B → Ordering)
    (Before : A → A → Type 0) (Before' : B → B → Type 0) (ranks : IsRanked cmp Before) (ranks' : IsRanked cmp' Before')
    (same : (x y : K) → f x ≡ f y → g x ≡ g y → x ≡ y) where
  abbrev IsBeforeBy : K → K → Type 0
  IsBeforeBy x y = Before (f x) (f y) ⊎ ((f x ≡ f y) × Before' (g x) (g y))

  -- by one part, then by the other
  ranked_by : IsRanked (then_cmp (on f cmp) (on g cmp')) IsBeforeBy
  ranked_by x y = by_parts (cmp (f x) (f y)) (cmp' (g x) (g y)) (ranks (f x) (f y)) (ranks' (g x) (g y))
    where
      by_parts : (o p : Ordering) → MatchOrdering o (Before (f x) (f y)) (f x ≡ f y) (Before (f y) (f x))
          → MatchOrdering p (Before' (g x) (g y)) (g x ≡ g y) (Before' (g y) (g x))
          → MatchOrdering (ordering_then o p) (IsBeforeBy x y) (x ≡ y) (IsBeforeBy y x)
      by_parts Less p h k = inl h
      by_parts Greater p h k = inl h
      by_parts Equal Less h k = inr (h, k)
      by_parts Equal Equal h k = same x y h k
      by_parts Equal Greater h k = inr (sym h, k)

ints_ranked : IsRanked int_cmp (λ x y. x <ℤ y)
ints_ranked x y = int_ranked x y (int_cmp x y) refl

pub points_ranked : IsRanked point_order IsBefore
points_ranked =
    ranked_by (λ (p : Point). p.x) (λ (p : Point). p.y) int_cmp int_cmp (λ a b. a <ℤ b) (λ a b. a <ℤ b) ints_ranked ints_ranked same_point

pub edges_ranked : IsRanked edge_order IsEdgeBefore
edges_ranked =
    ranked_by (λ (e : Point × Point). e.0) (λ (e : Point × Point). e.1) point_order point_order IsBefore IsBefore
    points_ranked points_ranked
    (λ e f first second. λ i. (first i, second i))

pub way_ranked : (a b : Point) → IsRanked (way_order a b) (IsBelowOn a b)
way_ranked a b =
    ranked_by (way_along a b) (λ c. c) int_cmp point_order (λ m n. m <ℤ n) IsBefore ints_ranked points_ranked (λ c d first second. second)

inputs_ranked : IsRanked input_order IsInputBefore
inputs_ranked First First = refl
inputs_ranked First Second = (refl, refl)
inputs_ranked Second First = (refl, refl)
inputs_ranked Second Second = refl

pub owners_ranked : IsRanked owner_order IsOwnerBefore
owners_ranked =
    ranked_by (λ (o : Owner). o.input) (λ (o : Owner). o.shape) input_order nat_cmp IsInputBefore (λ m n. m < n)
    inputs_ranked (λ m n. ranked m n (nat_cmp m n) refl) (λ o p first second. λ i. record { input = first i; shape = second i })
