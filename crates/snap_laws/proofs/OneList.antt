-- Two lists that rise and have the same points are one list.
use Rattle.std.proofs.Common.{◌≡◌, zero, suc, ◌⊎◌, inl, inr, ⊎_elim, ◌↔◌, List, [], ◌∷◌, Contains, refl, sym, ap}
use Rattle.std.proofs.Common.{◌∙◌, subst, arith}
use Rattle.std.proofs.lemmas.Int.{ints}
use Rattle.lay_point.specs.declared.point.Point.{Point}
use Rattle.snap_pixels.specs.Order.{ArePointsRising}
use Rattle.lay_point.specs.Points.{IsBefore}
use Rattle.lay_point.proofs.EdgeOrder.{before_is_strict}

not_before_itself : (p q : Point) → p ≡ q → IsBefore p q → ⊥
not_before_itself p q e (inl h) = let f = ap (λ (r : Point). r.x) e in omega (arith, ints)
not_before_itself p q e (inr h) = let f = ap (λ (r : Point). r.y) e in omega (arith, ints, h.1)

tail_rises : (p : Point) (ps : List Point) → ArePointsRising (p ∷ ps) → ArePointsRising ps
tail_rises p [] h = tt
tail_rises p (q ∷ qs) h = h.1

-- a member of a list is its first point or a member of the rest
Contains-cases : (p q : Point) (ps : List Point) → Contains (p ∷ ps) q → (p ≡ q) ⊎ Contains ps q
Contains-cases p q ps (zero, lt, e) = inl e
Contains-cases p q ps (suc k, lt, e) = inr (k, omega arith, e)

Contains-rest : (p q : Point) (ps : List Point) → Contains ps q → Contains (p ∷ ps) q
Contains-rest p q ps w = (suc w.0, omega (arith, w.1), w.2)

first_before : (p : Point) (ps : List Point) → ArePointsRising (p ∷ ps) → (q : Point) → Contains ps q → IsBefore p q
first_before p [] up q w = absurd (omega (arith, w.1))
first_before p (r ∷ rs) up q w =
    ⊎_elim
    (λ (e : r ≡ q). subst (λ s. IsBefore p s) e up.0)
    (λ later. before_is_strict.transitive p r q up.0 (first_before r rs up.1 q later))
    (Contains-cases r q rs w)

-- the first points are one
same_first : (p q : Point) (ps qs : List Point) → ArePointsRising (p ∷ ps) → ArePointsRising (q ∷ qs)
    → Contains (q ∷ qs) p → Contains (p ∷ ps) q → p ≡ q
same_first p q ps qs up up' w w' =
    ⊎_elim
    (λ (e : q ≡ p). sym e)
    (λ later. ⊎_elim
    (λ (e : p ≡ q). e)
    (λ later'. absurd (not_before_itself p p refl
    (before_is_strict.transitive p q p (first_before p ps up q later') (first_before q qs up' p later))))
    (Contains-cases p q ps w'))
    (Contains-cases q p qs w)

rest_in : (p q : Point) (ps qs : List Point) → ArePointsRising (p ∷ ps) → p ≡ q
    → ((c : Point) → Contains (p ∷ ps) c → Contains (q ∷ qs) c) → (c : Point) → Contains ps c → Contains qs c
rest_in p q ps qs up e forth c w =
    ⊎_elim
    (λ (f : q ≡ c). absurd (not_before_itself p c (e ∙ f) (first_before p ps up c w)))
    (λ later. later)
    (Contains-cases q c qs (forth c (Contains-rest p c ps w)))

pub one_list : (ps qs : List Point) → ArePointsRising ps → ArePointsRising qs → ((c : Point) → Contains ps c ↔ Contains qs c) → ps ≡ qs
one_list [] [] up up' same = refl
one_list [] (q ∷ qs) up up' same = absurd (let w = (same q).1 (0, omega arith, refl) in omega (arith, w.1))
one_list (p ∷ ps) [] up up' same = absurd (let w = (same p).0 (0, omega arith, refl) in omega (arith, w.1))
one_list (p ∷ ps) (q ∷ qs) up up' same =
    let e = same_first p q ps qs up up' ((same p).0 (0, omega arith, refl)) ((same q).1 (0, omega arith, refl)) in
    let rest = one_list ps qs (tail_rises p ps up) (tail_rises q qs up') (λ c.
    (rest_in p q ps qs up e (λ d. (same d).0) c, rest_in q p qs ps up' (sym e) (λ d. (same d).1) c)) in
    λ i. e i ∷ rest i
