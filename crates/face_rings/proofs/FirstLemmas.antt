-- The first ends at points, by a pass over the ends.
use Rattle.std.proofs.Common.{◌≡◌, ◌≢◌, ◌⊎◌, inl, inr, ℕ, zero, suc, ◌+◌, ◌<◌, ◌≤◌, Bool, true, false, cond, List, length, get_or, set}
use Rattle.std.proofs.Common.{refl, sym, ap, subst, ◌∙◌, ⊎_elim, arith}
use Rattle.std.specs.Prelude.{All}
use Rattle.std.specs.List.Sorted.{IsSorted}
use Rattle.std.specs.Ordering.{is_lt}
use Rattle.std.proofs.lemmas.Bool.{cases_lt, false≢true}
use Rattle.std.proofs.lemmas.List.{get_or_default}
use Rattle.std.proofs.Math.ListN.{length-set}
use Rattle.lay_point.specs.declared.point.Point.{Point}
use Rattle.lay_point.specs.Edges.{touches}
use Rattle.lay_point.specs.Points.{point_eq}
use Rattle.lay_point.proofs.EdgeOrder.{points_decide}
use Rattle.face_ring_laws.proofs.PartLemmas.{get_or-set}
use Rattle.face_ring_laws.specs.Linking.{Ends}
use Rattle.face_rings.specs.declared.incidence.End.{End}
use Rattle.face_rings.specs.declared.incidence.Firsts.{Firsts}
use Rattle.face_rings.specs.Incidence.{AreEndsOf, AreFirstsOf, IsFirstAt, end_cmp, next_first, no_end, point_cmp}
use Rattle.face_rings.proofs.IncidenceLemmas.{before_point_first, first_not_less, neither_less, no_later_below}
use Rattle.std.proofs.lemmas.Bool.{or_left, or_right}
use Rattle.lay_point.proofs.RingLemmas.{point_eq-true}

abbrev pub point_at : List End → ℕ → Point
point_at ends i = (get_or ends i no_end).at

-- ---- the first end at the point of each end
module _ (ends : List End) (sorted : IsSorted end_cmp ends) where
  not_less : (i j : ℕ) → i ≤ j → j < length ends → is_lt (point_cmp (point_at ends j) (point_at ends i)) ≡ false
  not_less i j le lt = first_not_less (point_cmp (point_at ends j) (point_at ends i)) _ (no_later_below ends sorted i j no_end le lt)

  behind_this : (i k : ℕ) (d : End) → i ≤ k → k < length ends → is_lt (point_cmp (get_or ends k d).at (point_at ends i)) ≡ false
  behind_this i k d le lt =
      subst (λ z. is_lt (point_cmp z.at (point_at ends i)) ≡ false) (get_or_default ends k no_end d lt) (not_less i k le lt)

  -- where the end before is at another point
  begins : (i : ℕ) → suc i < length ends → point_eq (point_at ends i) (point_at ends (suc i)) ≡ false
      → IsFirstAt ends (point_at ends (suc i)) (suc i)
  begins i lt apart = record {
    inside = lt;
    before = λ k d less. before_point_first (point_at ends (suc i)) ends sorted k i d (omega arith) (omega arith)
        (subst (λ z. is_lt (point_cmp z.at (point_at ends (suc i))) ≡ true) (get_or_default ends i no_end d (omega arith)) lesser);
    behind = behind_this (suc i);
  }
    where
      by_test : (b : Bool) → is_lt (point_cmp (point_at ends i) (point_at ends (suc i))) ≡ b → b ≡ true
      by_test true e = refl
      by_test false e =
          let same = neither_less (point_at ends i) (point_at ends (suc i)) e (not_less i (suc i) (omega arith) lt) in
          absurd (false≢true (sym apart ∙ ap (λ z. point_eq z (point_at ends (suc i))) same ∙ points_decide.itself (point_at ends (suc i))))

      lesser : is_lt (point_cmp (point_at ends i) (point_at ends (suc i))) ≡ true
      lesser = by_test (is_lt (point_cmp (point_at ends i) (point_at ends (suc i)))) refl ∙ refl

  pub next_is_first : (first i : ℕ) → i < length ends → ((k : ℕ) → i ≡ suc k → IsFirstAt ends (point_at ends k) first)
      → IsFirstAt ends (point_at ends i) (next_first ends first i)
  next_is_first first zero lt before = record {
    inside = lt;
    before = λ k d less. absurd (omega arith);
    behind = behind_this zero;
  }
  next_is_first first (suc i) lt before = by_test (point_eq (point_at ends i) (point_at ends (suc i))) refl
    where
      by_test : (b : Bool) → point_eq (point_at ends i) (point_at ends (suc i)) ≡ b
          → IsFirstAt ends (point_at ends (suc i)) (cond b first (suc i))
      by_test true e = subst (λ z. IsFirstAt ends z first) (point_eq-true (point_at ends i) (point_at ends (suc i)) e) (before i refl)
      by_test false e = begins i lt e

-- ---- the first ends of an edge
-- what is right of an end that was passed
abbrev pub IsPut : List Ends → List End → List Firsts → End → Type 0
IsPut edges ends firsts end = (d : Ends) (f : Firsts)
    → (((get_or edges end.edge d).0 ≡ end.at) → IsFirstAt ends end.at (get_or firsts end.edge f).low)
    × (((get_or edges end.edge d).1 ≡ end.at) → IsFirstAt ends end.at (get_or firsts end.edge f).high)

pub record IsPutting (edges : List Ends) (ends : List End) (firsts : List Firsts) (first i : ℕ) : Type 0 where
  pub each : length firsts ≡ length edges
  pub here : (k : ℕ) → i ≡ suc k → IsFirstAt ends (point_at ends k) first
  pub passed : (j : ℕ) → j < i → j < length ends → IsPut edges ends firsts (get_or ends j no_end)

module _ (edges : List Ends) (ends : List End) (firsts : List Firsts) (first i : ℕ) (whole : AreEndsOf edges ends) (lt : i < length ends)
    (h : IsPutting edges ends firsts first i) (end : End) (is_end : end ≡ get_or ends i end) (next : ℕ)
    (is_next : next ≡ next_first ends first i)
    (e : Ends) (is_edge : e ≡ get_or edges end.edge e) (old new : Firsts) (is_old : old ≡ get_or firsts end.edge old)
    (low : new.low ≡ cond (point_eq e.0 end.at) next old.low) (high : new.high ≡ cond (point_eq e.1 end.at) next old.high) where
  is_this : get_or ends i no_end ≡ end
  is_this = sym (is_end ∙ get_or_default ends i end no_end lt)

  inside : end.edge < length edges
  inside = ((whole.exact end).0 (i, lt, sym is_end)).0

  found : IsFirstAt ends end.at next
  found = coe 0 1 (k. IsFirstAt ends (is_this k).at (sym is_next k)) (next_is_first ends whole.sorted first i lt h.here)

  this_edge : (d : Ends) → get_or edges end.edge d ≡ e
  this_edge d = sym (is_edge ∙ get_or_default edges end.edge e d inside)

  old_firsts : (f : Firsts) → get_or firsts end.edge f ≡ old
  old_firsts f = sym (is_old ∙ get_or_default firsts end.edge old f (omega (arith, inside, h.each)))

  -- one of the two firsts
  by_test : (p at : Point) (b : Bool) (was is : ℕ) → point_eq p end.at ≡ b → is ≡ cond b next was → p ≡ at
      → (at ≡ end.at ⊎ IsFirstAt ends at was) → IsFirstAt ends at is
  by_test p at true was is test is_new same known =
      coe 1 0 (k. IsFirstAt ends ((sym same ∙ point_eq-true p end.at test) k) (is_new k)) found
  by_test p at false was is test is_new same (inl here) =
      absurd (false≢true (sym test ∙ ap (λ z. point_eq z end.at) (same ∙ here) ∙ points_decide.itself end.at))
  by_test p at false was is test is_new same (inr known) = subst (IsFirstAt ends at) (sym is_new) known

  put_at : (other : End) → other.edge ≡ end.edge → (other.at ≡ end.at ⊎ IsPut edges ends firsts other)
      → (d : Ends)
      → ((get_or edges other.edge d).0 ≡ other.at → IsFirstAt ends other.at new.low)
      × ((get_or edges other.edge d).1 ≡ other.at → IsFirstAt ends other.at new.high)
  put_at other same known d =
      let edge : get_or edges other.edge d ≡ e = ap (λ z. get_or edges z d) same ∙ this_edge d in
      let was : get_or firsts other.edge old ≡ old = ap (λ z. get_or firsts z old) same ∙ old_firsts old in (
        (λ g. by_test e.0 other.at (point_eq e.0 end.at) old.low new.low refl low (ap (λ (z : Ends). z.0) (sym edge) ∙ g)
            (⊎_elim (λ (at : other.at ≡ end.at). inl at)
            (λ (put : IsPut edges ends firsts other).
            inr (subst (λ z. IsFirstAt ends other.at z.low) was ((put d old).0 g))) known)),
        (λ g. by_test e.1 other.at (point_eq e.1 end.at) old.high new.high refl high (ap (λ (z : Ends). z.1) (sym edge) ∙ g)
            (⊎_elim (λ (at : other.at ≡ end.at). inl at)
            (λ (put : IsPut edges ends firsts other).
            inr (subst (λ z. IsFirstAt ends other.at z.high) was ((put d old).1 g))) known)),
      )

  put_in : (other : End) → (other.edge ≡ end.edge → other.at ≡ end.at ⊎ IsPut edges ends firsts other)
      → (end.edge ≢ other.edge → IsPut edges ends firsts other) → IsPut edges ends (set firsts end.edge new) other
  put_in other here apart d f = ⊎_elim
      (λ (same : (end.edge ≡ other.edge) × (get_or (set firsts end.edge new) other.edge f ≡ new)).
      let put = put_at other (sym same.0) (here (sym same.0)) d in (
        (λ g. subst (λ z. IsFirstAt ends other.at z.low) (sym same.1) (put.0 g)),
        (λ g. subst (λ z. IsFirstAt ends other.at z.high) (sym same.1) (put.1 g)),
      ))
      (λ (differs : (end.edge ≢ other.edge) × (get_or (set firsts end.edge new) other.edge f ≡ get_or firsts other.edge f)).
      let put = apart differs.0 d f in (
        (λ g. subst (λ z. IsFirstAt ends other.at z.low) (sym differs.1) (put.0 g)),
        (λ g. subst (λ z. IsFirstAt ends other.at z.high) (sym differs.1) (put.1 g)),
      ))
      (get_or-set firsts end.edge other.edge new f (omega (arith, inside, h.each)))

  pub putting_next : IsPutting edges ends (set firsts end.edge new) next (i + 1)
  putting_next = record {
    each = length-set firsts end.edge new ∙ h.each;
    here = λ k same.
        let last : i ≡ k = omega arith in
        subst (λ z. IsFirstAt ends (point_at ends z) next) last (subst (λ z. IsFirstAt ends z.at next) (sym is_this) found);
    passed = λ j less far. ⊎_elim
        (λ (early : j < i). put_in (get_or ends j no_end) (λ same. inr (h.passed j early far)) (λ differs. h.passed j early far))
        (λ (late : i ≤ j).
        let last : i ≡ j = omega arith in
        subst (λ z. IsPut edges ends (set firsts end.edge new) (get_or ends z no_end)) last
        (subst (IsPut edges ends (set firsts end.edge new)) (sym is_this)
        (put_in end (λ same. inl refl) (λ differs. absurd (differs refl))))) (cases_lt j i);
  }

-- ---- all of them
module _ (edges : List Ends) (ends : List End) (firsts : List Firsts) (first i : ℕ) (whole : AreEndsOf edges ends)
    (all : length ends ≤ i) (h : IsPutting edges ends firsts first i) where
  put_of : (end : End) → end.edge < length edges → ((d : Ends) → touches end.at (get_or edges end.edge d) ≡ true)
      → IsPut edges ends firsts end
  put_of end lt on =
      let c = (whole.exact end).1 (lt, on) in
      subst (IsPut edges ends firsts) (get_or_default ends c.0 no_end end c.1 ∙ c.2) (h.passed c.0 (omega (arith, c.1)) c.1)

  pub all_put : AreFirstsOf edges ends firsts
  all_put = record {
    each = h.each;
    low = λ k d f lt.
        let e = get_or edges k d in
        (put_of (record { at = e.0; edge = k }) lt (λ d'. subst (λ z. touches e.0 z ≡ true) (get_or_default edges k d d' lt)
        (or_left (point_eq e.0 e.0) (point_eq e.1 e.0) (points_decide.itself e.0))) d f).0 refl;
    high = λ k d f lt.
        let e = get_or edges k d in
        (put_of (record { at = e.1; edge = k }) lt (λ d'. subst (λ z. touches e.1 z ≡ true) (get_or_default edges k d d' lt)
        (or_right (point_eq e.0 e.1) (point_eq e.1 e.1) (points_decide.itself e.1))) d f).1 refl;
  }

pub ends_inside : (edges : List Ends) (ends : List End) → AreEndsOf edges ends → All (λ e. e.edge < length edges) ends
ends_inside edges ends whole i d lt =
    ((whole.exact (get_or ends i d)).0 (i, lt, get_or_default ends i (get_or ends i d) d lt)).0

-- ---- the stops of an edge
pub low_first : (edges : List Ends) (ends : List End) (firsts : List Firsts) (k : ℕ) (e : Ends) (f : Firsts) (at : Point)
    → AreFirstsOf edges ends firsts → k < length edges → e ≡ get_or edges k e → f ≡ get_or firsts k f → at ≡ e.0
    → IsFirstAt ends at f.low
low_first edges ends firsts k e f at h lt is_e is_f is_at =
    coe 1 0 (i. IsFirstAt ends ((is_at ∙ ap (λ (z : Ends). z.0) is_e) i) (is_f i).low) (h.low k e f lt)

pub high_first : (edges : List Ends) (ends : List End) (firsts : List Firsts) (k : ℕ) (e : Ends) (f : Firsts) (at : Point)
    → AreFirstsOf edges ends firsts → k < length edges → e ≡ get_or edges k e → f ≡ get_or firsts k f → at ≡ e.1
    → IsFirstAt ends at f.high
high_first edges ends firsts k e f at h lt is_e is_f is_at =
    coe 1 0 (i. IsFirstAt ends ((is_at ∙ ap (λ (z : Ends). z.1) is_e) i) (is_f i).high) (h.high k e f lt)
