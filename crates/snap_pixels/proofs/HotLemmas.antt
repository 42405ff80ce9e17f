-- What the runs of segments cross is what the segments cross, and this and their ends are the hot pixels.
use Rattle.std.proofs.Common.{◌≡◌, ◌⊎◌, inl, inr, ⊎_elim, ◌↔◌, List, [], ◌++◌, length, Contains, subst, arith}
use Rattle.std.proofs.lemmas.List.Elements.{Contains-append_cases, Contains-append_left, Contains-append_right}
use Rattle.lay_point.specs.declared.point.Point.{Point}
use Rattle.snap_pixels.specs.declared.segment.Segment.{Segment}
use Rattle.snap_pixels.specs.Hot.{AreHotCentres}
use Rattle.snap_pixels.specs.Kinds.{AreParallelAll}
use Rattle.snap_pixels.specs.Marks.{IsCrossed, HoldsAnEnd, RunCrosses}
use Rattle.snap_pixels.specs.Order.{ArePointsRising}
use Rattle.snap_pixels.specs.Segments.{Crosses}
use Rattle.snap_pixels.proofs.CrossingLemmas.{Crosses-swapped}

-- segments cross where those of a run, in which no two cross, cross those after it, and where those after it do
module _ (run later : List Segment) (parallel : AreParallelAll run) (c : Point) where
  in_run : (s : Segment) → Contains run s → Contains (run ++ later) s
  in_run s m = Contains-append_left run later s m

  in_later : (s : Segment) → Contains later s → Contains (run ++ later) s
  in_later s m = Contains-append_right run later s m

  pair : (s t : Segment) → Contains run s ⊎ Contains later s → Contains run t ⊎ Contains later t → Crosses s.a s.b t.a t.b c
      → RunCrosses run later c ⊎ IsCrossed later c
  pair s t (inl m) (inl n) x = absurd (x.0 (parallel s t m n))
  pair s t (inl m) (inr n) x = inl (s, m, (t, n, x))
  pair s t (inr m) (inl n) x = inl (t, n, (s, m, Crosses-swapped s.a s.b t.a t.b c x))
  pair s t (inr m) (inr n) x = inr (s, t, m, n, x)

  to_runs : IsCrossed (run ++ later) c → RunCrosses run later c ⊎ IsCrossed later c
  to_runs (s, t, m, n, x) = pair s t (Contains-append_cases run later s m) (Contains-append_cases run later t n) x

  from_runs : RunCrosses run later c ⊎ IsCrossed later c → IsCrossed (run ++ later) c
  from_runs (inl (s, m, (t, n, x))) = (s, t, in_run s m, in_later t n, x)
  from_runs (inr (s, t, m, n, x)) = (s, t, in_later s m, in_later t n, x)

after_run : {S O R N M L : Type 0} → (S ↔ (O ⊎ R)) → (N ↔ (O ⊎ M)) → (R ↔ (M ⊎ L)) → S ↔ (N ⊎ L)
after_run s n r = (
  (λ h. ⊎_elim (λ o. inl (n.1 (inl o))) (λ w. ⊎_elim (λ m. inl (n.1 (inr m))) (λ l. inr l) (r.0 w)) (s.0 h)),
  ⊎_elim (λ w. ⊎_elim (λ o. s.1 (inl o)) (λ m. s.1 (inr (r.1 (inl m)))) (n.0 w)) (λ l. s.1 (inr (r.1 (inr l)))),
)

-- a step of the loop over the runs
pub IsCrossed-step : (segments rest run later : List Segment) (begun old new : List Point) → rest ≡ run ++ later → AreParallelAll run
    → ((c : Point) → Contains new c ↔ (Contains old c ⊎ RunCrosses run later c))
    → ((c : Point) → (Contains begun c ⊎ IsCrossed segments c) ↔ (Contains old c ⊎ IsCrossed rest c))
    → (c : Point) → (Contains begun c ⊎ IsCrossed segments c) ↔ (Contains new c ⊎ IsCrossed later c)
IsCrossed-step segments rest run later begun old new e parallel more so_far c =
    after_run (subst (λ l. (Contains begun c ⊎ IsCrossed segments c) ↔ (Contains old c ⊎ IsCrossed l c)) e (so_far c)) (more c)
    (to_runs run later parallel c, from_runs run later parallel c)

-- after the loop each crossing is there
pub IsCrossed-whole : (segments rest : List Segment) (begun marked : List Point) → length rest ≡ 0
    → ((c : Point) → (Contains begun c ⊎ IsCrossed segments c) ↔ (Contains marked c ⊎ IsCrossed rest c))
    → (c : Point) → Contains marked c ↔ (Contains begun c ⊎ IsCrossed segments c)
IsCrossed-whole segments rest begun marked none so_far c = (
  (λ w. (so_far c).1 (inl w)),
  (λ h. ⊎_elim (λ w. w) (λ (n : IsCrossed rest c). let m = n.2 in absurd (omega (arith, m.1))) ((so_far c).0 h)),
)

-- a rising list of the ends and of the crossings
pub AreHotCentres-gathered : (segments : List Segment) (begun ends all centres : List Point) → begun ≡ []
    → ((c : Point) → Contains ends c ↔ (Contains begun c ⊎ HoldsAnEnd segments c))
    → ((c : Point) → Contains all c ↔ (Contains ends c ⊎ IsCrossed segments c))
    → ArePointsRising centres → ((c : Point) → Contains centres c ↔ Contains all c) → AreHotCentres segments centres
AreHotCentres-gathered segments begun ends all centres none is_end crossed rising members = record {
  rising = rising;
  exact = λ c. (
    (λ w. ⊎_elim
        (λ v. ⊎_elim (λ b. absurd (no_centre c (subst (λ l. Contains l c) none b))) (λ h. inl h) ((is_end c).0 v))
        (λ x. inr x)
        ((crossed c).0 ((members c).0 w))),
    (λ h. (members c).1 ((crossed c).1 (⊎_elim (λ e. inl ((is_end c).1 (inr e))) (λ x. inr x) h))),
  );
}
  where
    no_centre : (c : Point) → Contains [] c → ⊥
    no_centre c w = omega (arith, w.1)
