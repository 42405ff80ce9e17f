-- A cut of a row: some of its edges, and with each of them all that are to the right of it. Of the operation's edges a cut
-- has an odd number exactly where the operation holds of the parities of the shapes' edges in it.
use Rattle.std.proofs.Common.{◌≡◌, ◌⊎◌, inl, inr, ℕ, ◌+◌, ◌<◌, ◌≤◌, Bool, true, false, ◌&&◌, cond, List, [], ◌∷◌}
use Rattle.std.proofs.Common.{ℤ, pos, ◌*ℤ◌, ◌≤ℤ◌, ◌<ℤ◌, refl, sym, ap, ap₂, subst, ◌∙◌, ⊎_elim, arith}
use Rattle.lay_point.proofs.Signs.{below_or_not, linear}
use Rattle.lay_point.specs.declared.point.Point.{Point}
use Rattle.lay_point.specs.Edges.{same_edge}
use Rattle.lay_point.specs.Parity.{xor, parity}
use Rattle.lay_point.proofs.EdgeOrder.{edges_decide}
use Rattle.lay_point.proofs.Members.{Has}
use Rattle.lay_point.proofs.Parity.{parity_none, xor-false}
use Rattle.lay_point.proofs.BoolLaws.{and-false, and-true}
use Rattle.face_rows.specs.Labels.{Item}
use Rattle.face_side_laws.proofs.Rows.{Spans, fraction_le}
use Rattle.face_side_laws.proofs.Rows.{row_k, row_x}

-- no edge comes twice
abbrev pub AreDistinct : List Item → Type 0
AreDistinct [] = Unit {0}
AreDistinct (p ∷ ps) = ((q : Item) → Has ps q → ¬ (p.0 ≡ q.0)) × AreDistinct ps

pub one_item : (ps : List Item) (p q : Item) → AreDistinct ps → Has ps p → Has ps q → p.0 ≡ q.0 → p ≡ q
one_item [] p q h m n same = absurd m
one_item (r ∷ rs) p q h (inl e) (inl f) same = sym e ∙ f
one_item (r ∷ rs) p q h (inl e) (inr n) same = absurd (h.0 q n (ap (λ (z : Item). z.0) e ∙ same))
one_item (r ∷ rs) p q h (inr m) (inl f) same = absurd (h.0 p m (ap (λ (z : Item). z.0) f ∙ sym same))
one_item (r ∷ rs) p q h (inr m) (inr n) same = one_item rs p q h.1 m n same

-- a parity over the one item with the edge is the item's own
pub parity_of_one : (test : Item → Bool) (ps : List Item) (m : Item) → AreDistinct ps → Has ps m
    → parity (λ p. test p && same_edge p.0 m.0) ps ≡ test m
parity_of_one test [] m h given = absurd given
parity_of_one test (p ∷ ps) m h (inl e) =
    ap₂ xor (ap (λ b. test p && b) (subst (λ z. same_edge p.0 z.0 ≡ true) e (edges_decide.itself p.0)) ∙ and-true (test p)
    ∙ ap test e)
    (parity_none (λ q. test q && same_edge q.0 m.0) ps (λ q n.
    ap (λ b. test q && b) (edges_decide.apart q.0 m.0 (λ same. h.0 q n (ap (λ (z : Item). z.0) e ∙ sym same))) ∙ and-false (test q)))
    ∙ xor-false (test m)
parity_of_one test (p ∷ ps) m h (inr given) =
    ap₂ xor (ap (λ b. test p && b) (edges_decide.apart p.0 m.0 (h.0 m given)) ∙ and-false (test p))
    (parity_of_one test ps m h.1 given)

-- ---- counted
abbrev pub count_of : (Item → Bool) → List Item → ℕ
count_of test [] = 0
count_of test (p ∷ ps) = cond (test p) 1 0 + count_of test ps

count_le : (f g : Item → Bool) (ps : List Item) → ((p : Item) → Has ps p → f p ≡ true → g p ≡ true) → count_of f ps ≤ count_of g ps
count_le f g [] h = omega arith
count_le f g (p ∷ ps) h =
    let rest = count_le f g ps (λ q m. h q (inr m)) in
    by_tests (f p) (g p) (h p (inl refl)) rest
  where
    by_tests : (a b : Bool) → (a ≡ true → b ≡ true) → count_of f ps ≤ count_of g ps
        → cond a 1 0 + count_of f ps ≤ cond b 1 0 + count_of g ps
    by_tests true true k le = omega arith
    by_tests true false k le = absurd (no_way (k refl))
      where
        no_way : false ≡ true → ⊥
        no_way e = absurd cc
    by_tests false true k le = omega arith
    by_tests false false k le = omega arith

more_here : (a b : Bool) (x y : ℕ) → a ≡ false → b ≡ true → x ≤ y → cond a 1 0 + x < cond b 1 0 + y
more_here true b x y ea eb le = absurd cc
more_here false true x y ea eb le = omega arith
more_here false false x y ea eb le = absurd cc

pub count_less : (f g : Item → Bool) (ps : List Item) (m : Item) → ((p : Item) → Has ps p → f p ≡ true → g p ≡ true)
    → Has ps m → f m ≡ false → g m ≡ true → count_of f ps < count_of g ps
count_less f g [] m h given without_it with_it = absurd given
count_less f g (p ∷ ps) m h (inl e) without_it with_it =
    let rest = count_le f g ps (λ q n. h q (inr n)) in
    let at_f : f p ≡ false = ap f e ∙ without_it in
    let at_g : g p ≡ true = ap g e ∙ with_it in
    more_here (f p) (g p) (count_of f ps) (count_of g ps) at_f at_g rest
count_less f g (p ∷ ps) m h (inr given) without_it with_it =
    let rest = count_less f g ps m (λ q n. h q (inr n)) given without_it with_it in
    by_tests (f p) (g p) (h p (inl refl)) rest
  where
    by_tests : (a b : Bool) → (a ≡ true → b ≡ true) → count_of f ps < count_of g ps
        → cond a 1 0 + count_of f ps < cond b 1 0 + count_of g ps
    by_tests true true k less = omega arith
    by_tests true false k less = absurd (no_way (k refl))
      where
        no_way : false ≡ true → ⊥
        no_way e = absurd cc
    by_tests false true k less = omega arith
    by_tests false false k less = omega arith

-- ---- the leftmost
-- of those that pass, none is to the left of this one
pub record IsLeftmost (r : ℤ) (test : Item → Bool) (ps : List Item) (m : Item) : Type 0 where
  pub given : Has ps m
  pub passes : test m ≡ true
  pub first : (q : Item) → Has ps q → test q ≡ true → (row_k q.0 *ℤ row_x r m.0) ≤ℤ (row_k m.0 *ℤ row_x r q.0)

pub row_positive : (r : ℤ) (e : Point × Point) → Spans r e → pos 0 <ℤ row_k e
row_positive r e h = omega (arith, linear, h.low, h.high)

pub leftmost : (r : ℤ) (test : Item → Bool) (ps : List Item) → ((p : Item) → Has ps p → test p ≡ true → Spans r p.0)
    → ((m : Item) × IsLeftmost r test ps m) ⊎ ((q : Item) → Has ps q → test q ≡ false)
leftmost r test [] spans = inr (λ q m. absurd m)
leftmost r test (p ∷ ps) spans = by_test (test p) refl (leftmost r test ps (λ q m. spans q (inr m)))
  where
    Found : List Item → Type 0
    Found xs = (m : Item) × IsLeftmost r test xs m

    None : List Item → Type 0
    None xs = (q : Item) → Has xs q → test q ≡ false

    none_more : test p ≡ false → None ps → None (p ∷ ps)
    none_more e none q (inl same) = sym (ap test same) ∙ e
    none_more e none q (inr m) = none q m

    no_way : (b : Bool) → b ≡ true → b ≡ false → ⊥
    no_way b e f = absurd cc

    skipped : test p ≡ false → Found ps → Found (p ∷ ps)
    skipped e (m, h) = (m, record { given = inr h.given; passes = h.passes; first = first })
      where
        first : (q : Item) → Has (p ∷ ps) q → test q ≡ true → (row_k q.0 *ℤ row_x r m.0) ≤ℤ (row_k m.0 *ℤ row_x r q.0)
        first q (inl same) t = absurd (no_way (test p) (ap test same ∙ t) e)
        first q (inr n) t = h.first q n t

    only : test p ≡ true → None ps → Found (p ∷ ps)
    only e none = (p, record { given = inl refl; passes = e; first = first })
      where
        first : (q : Item) → Has (p ∷ ps) q → test q ≡ true → (row_k q.0 *ℤ row_x r p.0) ≤ℤ (row_k p.0 *ℤ row_x r q.0)
        first q (inl same) t = subst (λ (z : Item). (row_k z.0 *ℤ row_x r p.0) ≤ℤ (row_k p.0 *ℤ row_x r z.0)) same (omega (arith, linear))
        first q (inr n) t = absurd (no_way (test q) t (none q n))

    first_is_left : test p ≡ true → (m : Item) → IsLeftmost r test ps m → (row_k m.0 *ℤ row_x r p.0) ≤ℤ (row_k p.0 *ℤ row_x r m.0)
        → Found (p ∷ ps)
    first_is_left e m h le = (p, record { given = inl refl; passes = e; first = first })
      where
        first : (q : Item) → Has (p ∷ ps) q → test q ≡ true → (row_k q.0 *ℤ row_x r p.0) ≤ℤ (row_k p.0 *ℤ row_x r q.0)
        first q (inl same) t = subst (λ (z : Item). (row_k z.0 *ℤ row_x r p.0) ≤ℤ (row_k p.0 *ℤ row_x r z.0)) same (omega (arith, linear))
        first q (inr n) t = fraction_le (row_k p.0) (row_x r p.0) (row_k m.0) (row_x r m.0) (row_k q.0) (row_x r q.0)
            (row_positive r p.0 (spans p (inl refl) e)) (row_positive r m.0 (spans m (inr h.given) h.passes))
            (row_positive r q.0 (spans q (inr n) t)) le (h.first q n t)

    later_is_left : (m : Item) → IsLeftmost r test ps m → (row_k p.0 *ℤ row_x r m.0) ≤ℤ (row_k m.0 *ℤ row_x r p.0) → Found (p ∷ ps)
    later_is_left m h le = (m, record { given = inr h.given; passes = h.passes; first = first })
      where
        first : (q : Item) → Has (p ∷ ps) q → test q ≡ true → (row_k q.0 *ℤ row_x r m.0) ≤ℤ (row_k m.0 *ℤ row_x r q.0)
        first q (inl same) t = subst (λ (z : Item). (row_k z.0 *ℤ row_x r m.0) ≤ℤ (row_k m.0 *ℤ row_x r z.0)) same le
        first q (inr n) t = h.first q n t

    by_test : (b : Bool) → test p ≡ b → Found ps ⊎ None ps → Found (p ∷ ps) ⊎ None (p ∷ ps)
    by_test false e (inl found) = inl (skipped e found)
    by_test false e (inr none) = inr (none_more e none)
    by_test true e (inr none) = inl (only e none)
    by_test true e (inl (m, h)) = ⊎_elim
        (λ (less : (row_k m.0 *ℤ row_x r p.0) <ℤ (row_k p.0 *ℤ row_x r m.0)). inl (first_is_left e m h (omega (arith, linear))))
        (λ (le : (row_k p.0 *ℤ row_x r m.0) ≤ℤ (row_k m.0 *ℤ row_x r p.0)). inl (later_is_left m h le))
        (below_or_not (row_k m.0 *ℤ row_x r p.0) (row_k p.0 *ℤ row_x r m.0))
