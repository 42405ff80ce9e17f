-- Lists of segments that are searched apart, and what is found in them.
use Rattle.std.proofs.Common.{ℕ, ◌+◌, ◌<◌, ◌≤◌, zero, suc, length, get_or, take, append-nil, append_assoc}
use Rattle.std.proofs.Common.{◌≡◌, Result, Ok, ◌⊎◌, inl, inr, ⊎_elim, ◌↔◌, List, [], ◌∷◌, ◌++◌, map, Contains, sym, ap, subst, ◌∙◌, arith}
use Rattle.std.specs.Prelude.{IfOk, flat_map}
use Rattle.std.specs.List.{AllZip}
use Rattle.std.proofs.lemmas.List.{take_all}
use Rattle.std.proofs.lemmas.List.Elements.{Contains-append_cases, Contains-append_left, Contains-append_right}
use Rattle.lay_point.specs.declared.point.Point.{Point}
use Rattle.snap_pixels.specs.declared.segment.Segment.{Segment}
use Rattle.snap_pixels.specs.Marks.{IsCrossed}
use Rattle.snap_pixels.specs.Kinds.{AreParallelAll}
use Rattle.snap_pixels.specs.Parts.{IsCrossedInOne}

IsCrossed-among : (part segments : List Segment) → ((s : Segment) → Contains part s → Contains segments s) → (c : Point)
    → IsCrossed part c → IsCrossed segments c
IsCrossed-among part segments among c (s, t, m, n, x) = (s, t, among s m, among t n, x)

one_more : {A B C D : Type 0} → (A ↔ (B ⊎ C)) → (D ⊎ A) ↔ ((D ⊎ B) ⊎ C)
one_more h = (
  ⊎_elim (λ d. inl (inl d)) (λ a. ⊎_elim (λ b. inl (inr b)) (λ c. inr c) (h.0 a)),
  ⊎_elim (⊎_elim (λ d. inl d) (λ b. inr (h.1 (inl b)))) (λ c. inr (h.1 (inr c))),
)

module _ {V : Type 0} (items : V → List Segment) where
  pushed : (old : List V) (part : V) (c : Point)
      → IsCrossedInOne (map items (old ++ part ∷ [])) c ↔ (IsCrossedInOne (map items old) c ⊎ IsCrossed (items part) c)
  pushed [] part c = (⊎_elim (λ h. inr h) (λ n. absurd n), ⊎_elim (λ n. absurd n) (λ h. inl h))
  pushed (v ∷ vs) part c = one_more (pushed vs part c)

  -- one part more
  pub IsCrossedInOne-push : (old new : List V) (part : V) → new ≡ old ++ part ∷ []
      → (c : Point) → IsCrossedInOne (map items new) c ↔ (IsCrossedInOne (map items old) c ⊎ IsCrossed (items part) c)
  IsCrossedInOne-push old new part e c =
      subst (λ l. IsCrossedInOne (map items l) c ↔ (IsCrossedInOne (map items old) c ⊎ IsCrossed (items part) c)) (sym e)
      (pushed old part c)

-- parallel segments don't cross
pub none_crossed : {P : Type 0} (segments : List Segment) (n : ℕ) → length segments ≤ n → AreParallelAll (take n segments)
    → (c : Point) → P ↔ (P ⊎ IsCrossed segments c)
none_crossed segments n over parallel c = ((λ p. inl p), ⊎_elim (λ p. p) (λ h. absurd (none h)))
  where
    all : AreParallelAll segments
    all = subst AreParallelAll (take_all n segments over) parallel

    none : IsCrossed segments c → ⊥
    none (s, t, m, n, x) = x.0 (all s t m n)

-- before the parts of any list
pub with_listed : {P C L : Type 0} → (C ↔ L) → (P ⊎ C) ↔ (P ⊎ L)
with_listed h = (⊎_elim (λ p. inl p) (λ c. inr (h.0 c)), ⊎_elim (λ p. inl p) (λ l. inr (h.1 l)))

-- the parts of one list more
pub after_list : {S P L M X N : Type 0} → (S ↔ (P ⊎ L)) → (L ↔ (M ⊎ X)) → (N ↔ (P ⊎ X)) → S ↔ (N ⊎ M)
after_list s l n = (
  (λ w. ⊎_elim (λ p. inl (n.1 (inl p))) (λ v. ⊎_elim (λ m. inr m) (λ x. inl (n.1 (inr x))) (l.0 v)) (s.0 w)),
  ⊎_elim (λ w. ⊎_elim (λ p. s.1 (inl p)) (λ x. s.1 (inr (l.1 (inr x)))) (n.0 w)) (λ m. s.1 (inr (l.1 (inl m)))),
)

-- in no lists nothing is crossed
pub no_list : {V : Type 0} (items : V → List Segment) (lists : List V) → length lists ≡ 0 → (c : Point)
    → IsCrossedInOne (map items lists) c → ⊥
no_list items [] none c h = h
no_list items (v ∷ vs) none c h = absurd (omega arith)

-- after those of all lists
pub after_all : {S P L : Type 0} → (L → ⊥) → (S ↔ (P ⊎ L)) → P ↔ S
after_all none s = ((λ p. s.1 (inl p)), (λ w. ⊎_elim (λ p. p) (λ l. absurd (none l)) (s.0 w)))

module _ {V W : Type 0} (E : Type 0) (items : V → List Segment) (points : W → List Point) where
  abbrev pub AreFound : V → Result W E → Type 0
  AreFound part r = IfOk r (λ w. (c : Point) → Contains (points w) c ↔ IsCrossed (items part) c)

  -- the lists of the parts' hot centres hold those of all parts
  found_in_lists : (parts : List V) (ws : List W) → AllZip AreFound parts (map Ok ws)
      → (c : Point) → Contains (flat_map points ws) c ↔ IsCrossedInOne (map items parts) c
  found_in_lists [] [] h c = ((λ w. absurd (omega (arith, w.1))), (λ n. absurd n))
  found_in_lists [] (w ∷ ws) h c = absurd h
  found_in_lists (p ∷ ps) [] h c = absurd h
  found_in_lists (p ∷ ps) (w ∷ ws) h c =
      let rest = found_in_lists ps ws h.1 c in (
        (λ m. ⊎_elim (λ here. inl ((h.0 c).0 here)) (λ there. inr (rest.0 there))
            (Contains-append_cases (points w) (flat_map points ws) c m)),
        ⊎_elim (λ here. Contains-append_left (points w) (flat_map points ws) c ((h.0 c).1 here))
            (λ there. Contains-append_right (points w) (flat_map points ws) c (rest.1 there)),
      )

  pub found_in_parts : (parts : List V) (rs : List (Result W E)) (ws : List W) → AllZip AreFound parts rs
      → rs ≡ map Ok ws → (marked : List Point) → marked ≡ flat_map points ws
      → (c : Point) → Contains marked c ↔ IsCrossedInOne (map items parts) c
  found_in_parts parts rs ws h e marked is c =
      subst (λ l. Contains l c ↔ IsCrossedInOne (map items parts) c) (sym is)
      (found_in_lists parts ws (subst (AllZip AreFound parts) e h) c)

pub through : {A B C : Type 0} → (A ↔ B) → (B ↔ C) → A ↔ C
through f g = ((λ a. g.0 (f.0 a)), (λ c. f.1 (g.1 c)))

-- with what is the same
pub with_more : {N O A B : Type 0} → (N ↔ (O ⊎ A)) → (A ↔ B) → N ↔ (O ⊎ B)
with_more n f = (
  (λ w. ⊎_elim (λ o. inl o) (λ a. inr (f.0 a)) (n.0 w)),
  ⊎_elim (λ o. n.1 (inl o)) (λ b. n.1 (inr (f.1 b))),
)

-- what the lists hold, with one list more
module _ {V : Type 0} (points : V → List Point) where
  flat_more : (lists : List V) (n : ℕ) (v : V) → n < length lists → get_or lists n v ≡ v
      → flat_map points (take (suc n) lists) ≡ flat_map points (take n lists) ++ points v
  flat_more [] n v lt at = absurd (omega (arith, lt))
  flat_more (w ∷ ws) zero v lt at = append-nil (points w) ∙ ap points at
  flat_more (w ∷ ws) (suc n) v lt at =
      ap (λ l. points w ++ l) (flat_more ws n v (omega (arith, lt)) at)
      ∙ sym (append_assoc (points w) (flat_map points (take n ws)) (points v))

  pub list_more : (lists : List V) (n : ℕ) (v : V) (begun old new : List Point) → n < length lists → get_or lists n v ≡ v
      → new ≡ old ++ points v
      → ((c : Point) → Contains old c ↔ (Contains begun c ⊎ Contains (flat_map points (take n lists)) c))
      → (c : Point) → Contains new c ↔ (Contains begun c ⊎ Contains (flat_map points (take (n + 1) lists)) c)
  list_more lists n v begun old new lt at added so_far c =
      let all : List Point = flat_map points (take n lists) in
      let next : suc n ≡ n + 1 = omega arith in
      let more = subst (λ m. flat_map points (take m lists) ≡ all ++ points v) next (flat_more lists n v lt at) in (
        (λ w. ⊎_elim
            (λ was. ⊎_elim (λ b. inl b)
            (λ k. inr (subst (λ l. Contains l c) (sym more) (Contains-append_left all (points v) c k)))
            ((so_far c).0 was))
            (λ is. inr (subst (λ l. Contains l c) (sym more) (Contains-append_right all (points v) c is)))
            (Contains-append_cases old (points v) c (subst (λ l. Contains l c) added w))),
        (λ w. subst (λ l. Contains l c) (sym added) (⊎_elim
            (λ b. Contains-append_left old (points v) c ((so_far c).1 (inl b)))
            (λ k. ⊎_elim
            (λ was. Contains-append_left old (points v) c ((so_far c).1 (inr was)))
            (λ is. Contains-append_right old (points v) c is)
            (Contains-append_cases all (points v) c (subst (λ l. Contains l c) more k)))
            w)),
      )

-- segments that are each in the other list have the same hot pixels
pub IsCrossed-same : (once segments : List Segment) → ((s : Segment) → Contains once s ↔ Contains segments s)
    → (c : Point) → IsCrossed once c ↔ IsCrossed segments c
IsCrossed-same once segments same c = (
  IsCrossed-among once segments (λ s w. (same s).0 w) c,
  IsCrossed-among segments once (λ s w. (same s).1 w) c,
)

-- in no parts there is nothing before
pub all_new : {A N B : Type 0} → (N → ⊥) → (A ↔ (N ⊎ B)) → A ↔ B
all_new none h = ((λ a. ⊎_elim (λ n. absurd (none n)) (λ b. b) (h.0 a)), (λ b. h.1 (inr b)))

pub all_found : {B : Type 0} (begun all : List Point) (c : Point) → begun ≡ [] → (Contains all c ↔ (Contains begun c ⊎ B))
    → Contains all c ↔ B
all_found begun all c none h = all_new (λ w. no_centre (subst (λ l. Contains l c) none w)) h
  where
    no_centre : Contains [] c → ⊥
    no_centre w = omega (arith, w.1)
