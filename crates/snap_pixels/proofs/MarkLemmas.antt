-- What the search finds, step by step.
use Rattle.std.proofs.Common.{◌≡◌, ℕ, ◌+◌, ◌<◌, ◌⊎◌, inl, inr, ⊎_elim, ◌↔◌, List, [], ◌∷◌, ◌++◌, length, get_or, take}
use Rattle.std.proofs.Common.{Option, Some, None, Contains, sym, ap, ◌∙◌, subst, arith, pos, ℤ, ◌≤◌}
use Rattle.std.proofs.lemmas.Int.{ints}
use Rattle.std.proofs.lemmas.List.{take_more, take_all}
use Rattle.std.proofs.lemmas.List.Elements.{Contains-append_left, Contains-push, Contains-push_cases}
use Rattle.lay_point.specs.declared.point.Point.{Point}
use Rattle.snap_pixels.specs.declared.segment.Segment.{Segment}
use Rattle.snap_pixels.specs.Hot.{HoldsEnd}
use Rattle.snap_pixels.specs.Marks.{CrossesOne, HoldsAnEnd, RunCrosses}
use Rattle.snap_pixels.specs.Pixels.{HoldsPlace, IsRoundedTo}
use Rattle.snap_pixels.specs.Segments.{Crosses}

IsRoundedTo-whole : (c a : ℤ) → IsRoundedTo c (pos 1) a → a ≡ c
IsRoundedTo-whole c a h = omega (arith, ints)

whole-IsRoundedTo : (c a : ℤ) → a ≡ c → IsRoundedTo c (pos 1) a
whole-IsRoundedTo c a e = (omega (arith, ints), omega (arith, ints))

-- a whole point is in the pixel of a centre just where it is the centre
pub HoldsPlace-whole : (p c : Point) → HoldsPlace c (pos 1) p.x p.y ↔ (p ≡ c)
HoldsPlace-whole p c = (
  (λ h.
      let column = IsRoundedTo-whole c.x p.x h.column in
      let row = IsRoundedTo-whole c.y p.y h.row in
      λ i. record { x = column i; y = row i }),
  (λ e. record {
    column = whole-IsRoundedTo c.x p.x (ap (λ (q : Point). q.x) e);
    row = whole-IsRoundedTo c.y p.y (ap (λ (q : Point). q.y) e);
  }),
)

joined : {N O F B C D : Type 0} → (N ↔ (O ⊎ F)) → (O ↔ (B ⊎ C)) → (D ↔ (C ⊎ F)) → N ↔ (B ⊎ D)
joined n o d = (
  (λ w. ⊎_elim
      (λ was. ⊎_elim (λ b. inl b) (λ k. inr (d.1 (inl k))) (o.0 was))
      (λ f. inr (d.1 (inr f)))
      (n.0 w)),
  ⊎_elim (λ b. n.1 (inl (o.1 (inl b))))
      (λ k. ⊎_elim (λ was. n.1 (inl (o.1 (inr was)))) (λ f. n.1 (inr f)) (d.0 k)),
)

-- one more segment of which something is so
module _ (P : Segment → Type 0) (s : Segment) (segments : List Segment) (i : ℕ) where
  one_more : i < length segments → get_or segments i s ≡ s
      → ((t : Segment) × Contains (take (i + 1) segments) t × P t) ↔ (((t : Segment) × Contains (take i segments) t × P t) ⊎ P s)
  one_more lt at =
      let e : take (i + 1) segments ≡ take i segments ++ s ∷ [] =
      take_more segments i s lt ∙ ap (λ u. take i segments ++ u ∷ []) at in (
        (λ w. ⊎_elim
            (λ (was : Contains (take i segments) w.0). inl (w.0, was, w.2))
            (λ (same : s ≡ w.0). inr (subst P (sym same) w.2))
            (Contains-push_cases (take i segments) s w.0 (subst (λ l. Contains l w.0) e w.1))),
        (⊎_elim
            (λ w. (w.0, subst (λ l. Contains l w.0) (sym e) (Contains-append_left _ _ w.0 w.1), w.2))
            (λ h. (s, subst (λ l. Contains l s) (sym e) (Contains-push _ s), h))),
      )

-- ---- crossings
-- one more centre, where one was found
pub found_some : {N O : Type 0} (p c : Point) → (N ↔ (O ⊎ (p ≡ c))) → N ↔ (O ⊎ (Some p ≡ Some c))
found_some p c h = (
  (λ n. ⊎_elim (λ o. inl o) (λ e. inr (ap Some e)) (h.0 n)),
  ⊎_elim (λ o. h.1 (inl o)) (λ f. let same : p ≡ c = cc in h.1 (inr same)),
)

pub found_none : {O : Type 0} (c : Point) → O ↔ (O ⊎ (None ≡ Some c))
found_none c = ((λ o. inl o), ⊎_elim (λ o. o) (λ f. cc))

-- a step of the loop over the later segments
pub CrossesOne-step : (s t : Segment) (later : List Segment) (i : ℕ) (found : Option Point) (begun old new : List Point)
    → i < length later → t ≡ get_or later i t → ((c : Point) → Crosses s.a s.b t.a t.b c ↔ (found ≡ Some c))
    → ((c : Point) → Contains new c ↔ (Contains old c ⊎ (found ≡ Some c)))
    → ((c : Point) → Contains old c ↔ (Contains begun c ⊎ CrossesOne s (take i later) c))
    → (c : Point) → Contains new c ↔ (Contains begun c ⊎ CrossesOne s (take (i + 1) later) c)
CrossesOne-step s t later i found begun old new lt at exact added so_far c =
    let more = one_more (λ (u : Segment). Crosses s.a s.b u.a u.b c) t later i lt (sym at) in
    joined (added c) (so_far c) (
      (λ w. ⊎_elim (λ o. inl o) (λ x. inr ((exact c).0 x)) (more.0 w)),
      ⊎_elim (λ o. more.1 (inl o)) (λ f. more.1 (inr ((exact c).1 f))),
    )

pub CrossesOne-whole : (s : Segment) (later : List Segment) (begun marked : List Point) (n : ℕ) → length later ≤ n
    → ((c : Point) → Contains marked c ↔ (Contains begun c ⊎ CrossesOne s (take n later) c))
    → (c : Point) → Contains marked c ↔ (Contains begun c ⊎ CrossesOne s later c)
CrossesOne-whole s later begun marked n over so_far c =
    subst (λ l. Contains marked c ↔ (Contains begun c ⊎ CrossesOne s l c)) (take_all n later over) (so_far c)

-- a step of the loop over a run
pub RunCrosses-step : (s : Segment) (run later : List Segment) (i : ℕ) (begun old new : List Point)
    → i < length run → get_or run i s ≡ s
    → ((c : Point) → Contains new c ↔ (Contains old c ⊎ CrossesOne s later c))
    → ((c : Point) → Contains old c ↔ (Contains begun c ⊎ RunCrosses (take i run) later c))
    → (c : Point) → Contains new c ↔ (Contains begun c ⊎ RunCrosses (take (i + 1) run) later c)
RunCrosses-step s run later i begun old new lt at more so_far c =
    joined (more c) (so_far c) (one_more (λ u. CrossesOne u later c) s run i lt at)

pub RunCrosses-whole : (run later : List Segment) (begun marked : List Point) (n : ℕ) → length run ≤ n
    → ((c : Point) → Contains marked c ↔ (Contains begun c ⊎ RunCrosses (take n run) later c))
    → (c : Point) → Contains marked c ↔ (Contains begun c ⊎ RunCrosses run later c)
RunCrosses-whole run later begun marked n over so_far c =
    subst (λ l. Contains marked c ↔ (Contains begun c ⊎ RunCrosses l later c)) (take_all n run over) (so_far c)

-- ---- ends
-- what the two ends of a segment add
two_ends : {N M O : Type 0} (s : Segment) (c : Point) → (M ↔ (O ⊎ (s.a ≡ c))) → (N ↔ (M ⊎ (s.b ≡ c))) → N ↔ (O ⊎ HoldsEnd s c)
two_ends s c m n =
    let first = HoldsPlace-whole s.a c in
    let second = HoldsPlace-whole s.b c in (
      (λ w. ⊎_elim (λ v. ⊎_elim (λ o. inl o) (λ e. inr (inl (first.1 e))) (m.0 v)) (λ e. inr (inr (second.1 e))) (n.0 w)),
      ⊎_elim (λ o. n.1 (inl (m.1 (inl o))))
          (⊎_elim (λ h. n.1 (inl (m.1 (inr (first.0 h))))) (λ h. n.1 (inr (second.0 h)))),
    )

-- a step of the loop over the segments
pub HoldsAnEnd-step : (s : Segment) (segments : List Segment) (i : ℕ) (begun old mid new : List Point)
    → i < length segments → get_or segments i s ≡ s
    → ((c : Point) → Contains mid c ↔ (Contains old c ⊎ (s.a ≡ c)))
    → ((c : Point) → Contains new c ↔ (Contains mid c ⊎ (s.b ≡ c)))
    → ((c : Point) → Contains old c ↔ (Contains begun c ⊎ HoldsAnEnd (take i segments) c))
    → (c : Point) → Contains new c ↔ (Contains begun c ⊎ HoldsAnEnd (take (i + 1) segments) c)
HoldsAnEnd-step s segments i begun old mid new lt at first second so_far c =
    joined (two_ends s c (first c) (second c)) (so_far c) (one_more (λ u. HoldsEnd u c) s segments i lt at)

pub HoldsAnEnd-whole : (segments : List Segment) (begun marked : List Point) (n : ℕ) → length segments ≤ n
    → ((c : Point) → Contains marked c ↔ (Contains begun c ⊎ HoldsAnEnd (take n segments) c))
    → (c : Point) → Contains marked c ↔ (Contains begun c ⊎ HoldsAnEnd segments c)
HoldsAnEnd-whole segments begun marked n over so_far c =
    subst (λ l. Contains marked c ↔ (Contains begun c ⊎ HoldsAnEnd l c)) (take_all n segments over) (so_far c)
