-- The order of points as `Ord` computes it, and lists that rise in it.
use Rattle.std.proofs.Common.{◌≡◌, ◌≢◌, ◌↔◌, ⊎_elim, ℕ, ◌+◌, ◌<◌, inl, inr, zero, suc, Bool, List, [], ◌∷◌, length, get_or, map, false}
use Rattle.std.proofs.Common.{Result, Ok, Err, refl, sym, ap, ◌∙◌, subst, arith, Contains, Decides}
use mathlib.Core.HLevel.{⊥_prop, Π_prop, is_prop→PathP}
use Rattle.std.specs.declared.cmp.Ordering.{Ordering}
use Rattle.std.specs.declared.cmp.Ordering.TheVariants.{Less, Equal, Greater}
use Rattle.std.specs.Prelude.{is_ok, ◌&&◌}
use Rattle.std.specs.Ordering.{int_cmp, is_lt, on, then_cmp, ordering_then, ordering_reverse}
use Rattle.std.specs.Cmp.{IsTotalOrder, int_cmp_is, decided}
use Rattle.std.specs.List.Retain.{IsFiltered, DiffersFromLast}
use Rattle.std.specs.List.Sorted.{IsPermutation, IsSorted, IsSortedBy, IsStrictlySortedBy, IsBinarySearchResult}
use Rattle.std.specs.List.Sorted.{IsPartitionPoint, IsSearchInRange}
use Rattle.std.proofs.lemmas.Bool.{cases_lt, false≢true}
use Rattle.std.proofs.lemmas.Cmp.{int_ranked, int_cmp_total, on_total, then_total, tied_itself}
use Rattle.std.proofs.lemmas.List.Filters.{dedup_is}
use Rattle.std.proofs.lemmas.List.Kept.{IsStrictlySortedBy-dedup, Contains-dedup, Contains-from_dedup}
use Rattle.std.proofs.lemmas.List.Sorted.{searchable_from_sorted, Contains-permutation, IsPermutation-sym}
use Rattle.std.proofs.lemmas.Bool.Decides.{Decides-and, Decides-like}
use Rattle.lay_point.specs.declared.point.Point.{Point}
use Rattle.lay_point.specs.contracts.point.PointOrd.TheImpl.Laws.{matches_eq-law}
use Rattle.lay_point.specs.Points.{point_eq}
use Rattle.lay_point.specs.Same.{point_eq-Decides}
use Rattle.snap_pixels.specs.declared.segment.Segment.{Segment}
use Rattle.snap_pixels.specs.Order.{ArePointsRising, AreTransposed, transposed}
use Rattle.lay_point.proofs.Members.{Has, contains, has}
use Rattle.lay_point.specs.Points.{IsBefore}

-- what `cmp` of points computes
abbrev pub point_cmp : Point → Point → Ordering
point_cmp = then_cmp (on (λ p. p.x) int_cmp) (on (λ p. p.y) int_cmp)

pub point_cmp_total : IsTotalOrder point_cmp
point_cmp_total = then_total (on_total (λ (p : Point). p.x) int_cmp_total) (on_total (λ (p : Point). p.y) int_cmp_total)

IsBefore-by_x : (p q : Point) (o : Ordering) → o ≡ int_cmp p.x q.x → ordering_then o (int_cmp p.y q.y) ≡ Less → IsBefore p q
IsBefore-by_x p q Less e h = inl (int_ranked p.x q.x Less e)
IsBefore-by_x p q Equal e h = inr (int_ranked p.x q.x Equal e, int_ranked p.y q.y Less (sym h))
IsBefore-by_x p q Greater e h = cc

pub IsBefore-from_Less : (p q : Point) → point_cmp p q ≡ Less → IsBefore p q
IsBefore-from_Less p q h = IsBefore-by_x p q (int_cmp p.x q.x) refl h

pub Less-from_IsBefore : (p q : Point) → IsBefore p q → point_cmp p q ≡ Less
Less-from_IsBefore p q (inl lt) = ap (λ o. ordering_then o (int_cmp p.y q.y)) (sym (int_cmp_is p.x q.x Less lt))
Less-from_IsBefore p q (inr both) =
    ap (λ o. ordering_then o (int_cmp p.y q.y)) (sym (int_cmp_is p.x q.x Equal both.0)) ∙ sym (int_cmp_is p.y q.y Less both.1)

-- the later of two points isn't below the earlier
not_below : (p q : Point) → IsBefore p q → is_lt (point_cmp q p) ≡ false
not_below p q h = ap is_lt (point_cmp_total.antisymm q p ∙ ap ordering_reverse (Less-from_IsBefore p q h))

pub ArePointsRising-from_strict : (ps : List Point) → IsStrictlySortedBy point_cmp ps → ArePointsRising ps
unfolding IsStrictlySortedBy
ArePointsRising-from_strict [] h = tt
ArePointsRising-from_strict (p ∷ []) h = tt
ArePointsRising-from_strict (p ∷ q ∷ ps) h = (IsBefore-from_Less p q h.0.0, ArePointsRising-from_strict (q ∷ ps) h.1)

-- neighbours in a list that rises
pub ArePointsRising-next : (ps : List Point) → ArePointsRising ps → (k : ℕ) (d : Point) → k + 1 < length ps
    → IsBefore (get_or ps k d) (get_or ps (k + 1) d)
ArePointsRising-next [] h k d lt = absurd (omega arith)
ArePointsRising-next (p ∷ []) h k d lt = absurd (omega arith)
ArePointsRising-next (p ∷ q ∷ ps) h zero d lt = h.0
ArePointsRising-next (p ∷ q ∷ ps) h (suc k) d lt =
    let e : suc k + 1 ≡ suc (k + 1) = omega arith in
    rw e (ArePointsRising-next (q ∷ ps) h.1 k d (omega arith))

same-by_x : (p q : Point) (o : Ordering) → o ≡ int_cmp p.x q.x → ordering_then o (int_cmp p.y q.y) ≡ Equal → p ≡ q
same-by_x p q Less e h = cc
same-by_x p q Equal e h =
    let column = int_ranked p.x q.x Equal e in
    let row = int_ranked p.y q.y Equal (sym h) in
    λ i. record { x = column i; y = row i }
same-by_x p q Greater e h = cc

pub same-from_Equal : (p q : Point) → point_cmp p q ≡ Equal → p ≡ q
same-from_Equal p q h = same-by_x p q (int_cmp p.x q.x) refl h

-- no point of a part that is wholly below or above x is x
not_there : (p x : Point) (o : Ordering) → o ≢ Equal → point_cmp p x ≡ o → p ≢ x
not_there p x o apart h e = apart (sym h ∙ ap (λ (q : Point). point_cmp q x) e ∙ tied_itself point_cmp_total x)

-- what a binary search answers in a list that rises
pub found-Decides : (ps : List Point) (x : Point) (r : Result ℕ ℕ) → ArePointsRising ps → IsSearchInRange r (length ps)
    → IsBinarySearchResult (λ y. point_cmp y x) ps r → Decides (is_ok r) (Contains ps x)
found-Decides ps x (Ok i) up lt at = (λ _. (i, lt, same-from_Equal (get_or ps i x) x (at x)), λ _. refl)
found-Decides ps x (Err i) up lt at = (λ e. absurd (false≢true e), λ w. absurd (apart w)) where
  sorted : IsSortedBy (λ p q. is_lt (point_cmp p q)) ps
  sorted k d low high = not_below (get_or ps k d) (get_or ps (k + 1) d) (ArePointsRising-next ps up k d high)

  parts : IsPartitionPoint (λ y. point_cmp y x ≡ Less) (λ y. point_cmp y x ≡ Greater) ps i
  parts = at (searchable_from_sorted point_cmp_total (λ p. p) ps x sorted)

  apart : Contains ps x → ⊥
  apart w = ⊎_elim
      (λ below. not_there (get_or ps w.0 x) x Less (λ e. cc) (parts.0 w.0 x (omega arith) below) w.2)
      (λ above. not_there (get_or ps w.0 x) x Greater (λ e. cc) (parts.1 w.0 x above w.1) w.2)
      (cases_lt w.0 i)

-- a sort and then `dedup` keep what a list holds
pub once_members : {A : Type 0} (E : A → A → Bool) → ((a b : A) → Decides (E a b) (a ≡ b)) → (xs ys zs : List A)
    → IsPermutation xs ys → IsFiltered (DiffersFromLast E) [] ys zs → (a : A) → Contains zs a ↔ Contains xs a
once_members E same xs ys zs moved filtered a =
    let kept = dedup_is E ys zs filtered in
    let back = IsPermutation-sym xs ys moved in (
      (λ w. Contains-permutation ys xs a back (Contains-from_dedup E ys a (subst (λ l. Contains l a) kept w))),
      (λ w. subst (λ l. Contains l a) (sym kept)
          (Contains-dedup (decided E same) (λ b d e. (same b d).0 e) ys a (Contains-permutation xs ys a moved w))),
    )

-- equal segments have equal ends
abbrev pub segment_eq : Segment → Segment → Bool
segment_eq s t = point_eq s.a t.a && point_eq s.b t.b

pub segment_eq-Decides : (s t : Segment) → Decides (segment_eq s t) (s ≡ t)
segment_eq-Decides s t =
    Decides-like (segment_eq s t)
    (λ both. λ i. record {
      a = both.0 i;
      b = both.1 i;
      differ = is_prop→PathP (λ j. both.0 j ≢ both.1 j) (λ j. Π_prop (λ e. ⊥_prop)) s.differ t.differ i;
    })
    (λ e. (ap (λ (u : Segment). u.a) e, ap (λ (u : Segment). u.b) e))
    (Decides-and _ _ (point_eq-Decides s.a t.a) (point_eq-Decides s.b t.b))

-- what a sort and then `dedup` make of points
pub record IsSortedOnce (xs zs : List Point) : Type 0 where
  pub rising : ArePointsRising zs
  pub members : (p : Point) → Contains zs p ↔ Contains xs p

pub IsSortedOnce-from_dedup : (xs ys zs : List Point) → IsPermutation xs ys → IsSorted point_cmp ys
    → IsFiltered (DiffersFromLast point_eq) [] ys zs → IsSortedOnce xs zs
IsSortedOnce-from_dedup xs ys zs moved sorted filtered =
    let kept = dedup_is point_eq ys zs filtered in
    record {
      rising = subst ArePointsRising (sym kept)
          (ArePointsRising-from_strict _ (IsStrictlySortedBy-dedup point_cmp_total matches_eq-law ys sorted));
      members = once_members point_eq point_eq-Decides xs ys zs moved filtered;
    }

-- ---- on the other side of the diagonal
has_turned : (ps : List Point) (p : Point) → Has ps p → Has (map transposed ps) (transposed p)
has_turned [] p m = absurd m
has_turned (q ∷ qs) p (inl same) = inl (ap transposed same)
has_turned (q ∷ qs) p (inr m) = inr (has_turned qs p m)

turned_has : (ps : List Point) (p : Point) → Has (map transposed ps) (transposed p) → Has ps p
turned_has [] p m = absurd m
turned_has (q ∷ qs) p (inl same) = inl (ap transposed same)
turned_has (q ∷ qs) p (inr m) = inr (turned_has qs p m)

pub turned_members : (ps : List Point) → AreTransposed ps (map transposed ps)
turned_members ps p = (
  (λ m. contains ps p (turned_has ps p (has (map transposed ps) (transposed p) m))),
  (λ m. contains (map transposed ps) (transposed p) (has_turned ps p (has ps p m))),
)

pub turned_once : (ps all sorted once : List Point) → all ≡ map transposed ps → IsPermutation all sorted → IsSorted point_cmp sorted
    → IsFiltered (DiffersFromLast point_eq) [] sorted once → ArePointsRising once × AreTransposed ps once
turned_once ps all sorted once is moved order filtered =
    let o = IsSortedOnce-from_dedup all sorted once moved order filtered in (
      o.rising,
      λ p.
          let m = turned_members ps p in (
            (λ w. m.0 (subst (λ l. Contains l (transposed p)) is ((o.members (transposed p)).0 w))),
            (λ w. (o.members (transposed p)).1 (subst (λ l. Contains l (transposed p)) (sym is) (m.1 w))),
          ),
    )
