-- The orders of points and of undirected edges are strict, that of points is total, and tests of points and edges decide.
use Rattle.std.proofs.Common.{◌≡◌, ◌⊎◌, inl, inr, Bool, true, false, cond, ◌&&◌, ℤ, ◌<ℤ◌, refl, sym, ap₂, subst, ◌∙◌, ◌||◌}
use Rattle.std.proofs.Common.{arith, ⊎_elim, ℕ, ◌+◌, ◌<◌, ◌≤◌, List, length, get_or, ap}
use Rattle.std.proofs.lemmas.Int.{ints, by_lt_z}
use Rattle.std.proofs.lemmas.Bool.Decides.{Decides-int_eq}
use Rattle.std.proofs.lemmas.Bool.{and_parts, cases_lt, false_from_ne_true}
use Rattle.std.proofs.lemmas.List.{get_or_default}
use Rattle.lay_point.specs.declared.point.Point.{Point}
use Rattle.lay_point.specs.Edges.{IsEdgeBefore, is_before, same_edge, touches, undirected}
use Rattle.lay_point.specs.Parity.{xor}
use Rattle.lay_point.specs.Points.{IsBefore, point_eq}
use Rattle.lay_point.proofs.Parity.{IsEquality}
use Rattle.lay_point.proofs.Rising.{IsStrictOrder}
use Rattle.lay_point.proofs.RingLemmas.{point_eq-true}

pub same_point : (p q : Point) → p.x ≡ q.x → p.y ≡ q.y → p ≡ q
same_point p q ex ey = λ i. record { x = ex i; y = ey i }

pub point_x : (p q : Point) → p ≡ q → p.x ≡ q.x
point_x p q e = ap (λ (r : Point). r.x) e

-- ---- tests
pub points_decide : IsEquality point_eq
points_decide = record {
  itself = λ p. ap₂ (λ a b. a && b) ((Decides-int_eq p.x p.x).1 refl) ((Decides-int_eq p.y p.y).1 refl);
  apart = λ p q differ. false_from_ne_true (point_eq p q) (λ e. differ (point_eq-true p q e));
}

pub edges_decide : IsEquality same_edge
edges_decide = record {
  itself = λ e. ap₂ (λ a b. a && b) (points_decide.itself e.0) (points_decide.itself e.1);
  apart = λ e f differ. false_from_ne_true (same_edge e f) (λ g.
      let both = and_parts (point_eq e.0 f.0) (point_eq e.1 f.1) g in
      differ (λ i. (point_eq-true e.0 f.0 both.0 i, point_eq-true e.1 f.1 both.1 i)));
}

-- one end of a proper edge is a point where the edge touches it
pub one_end : (v : Point) (e : Point × Point) → ¬ (e.0 ≡ e.1) → xor (point_eq e.0 v) (point_eq e.1 v) ≡ touches v e
one_end v e apart = by_tests (point_eq e.0 v) (point_eq e.1 v) (λ f g. apart (point_eq-true e.0 v f ∙ sym (point_eq-true e.1 v g)))
  where
    by_tests : (a b : Bool) → (a ≡ true → b ≡ true → ⊥) → xor a b ≡ (a || b)
    by_tests false b h = refl
    by_tests true false h = refl
    by_tests true true h = absurd (h refl refl)

pub before_by_test : (p q : Point) → is_before p q ≡ true → IsBefore p q
before_by_test p q e = grind (arith, ints)

pub test_by_before : (p q : Point) → IsBefore p q → is_before p q ≡ true
test_by_before p q h = grind (arith, ints)

-- ---- the order of points
before_irreflexive : (p : Point) → IsBefore p p → ⊥
before_irreflexive p (inl less) = omega (arith, ints)
before_irreflexive p (inr tie) = omega (arith, ints, tie.1)

before_transitive : (p q r : Point) → IsBefore p q → IsBefore q r → IsBefore p r
before_transitive p q r (inl a) (inl b) = inl (omega (arith, ints))
before_transitive p q r (inl a) (inr b) = inl (omega (arith, ints, b.0))
before_transitive p q r (inr a) (inl b) = inl (omega (arith, ints, a.0))
before_transitive p q r (inr a) (inr b) = inr (a.0 ∙ b.0, omega (arith, ints, a.1, b.1))

pub apart_or_same : (a b : ℤ) → ((a <ℤ b) ⊎ (b <ℤ a)) ⊎ (a ≡ b)
apart_or_same a b = by_lt_z a b (λ less. inl (inl less)) (λ g. by_lt_z b a (λ more. inl (inr more)) (λ h. inr (omega (arith, ints))))

pub before_total : (p q : Point) → (p ≡ q) ⊎ (IsBefore p q ⊎ IsBefore q p)
before_total p q = ⊎_elim (λ apart. inr (⊎_elim (λ less. inl (inl less)) (λ more. inr (inl more)) apart))
    (λ (ex : p.x ≡ q.x). ⊎_elim
    (λ apart. inr (⊎_elim (λ less. inl (inr (ex, less))) (λ more. inr (inr (sym ex, more))) apart))
    (λ (ey : p.y ≡ q.y). inl (same_point p q ex ey))
    (apart_or_same p.y q.y))
    (apart_or_same p.x q.x)

pub before_is_strict : IsStrictOrder IsBefore
before_is_strict = record { irreflexive = before_irreflexive; transitive = before_transitive }

-- ---- the order of edges
edge_irreflexive : (e : Point × Point) → IsEdgeBefore e e → ⊥
edge_irreflexive e (inl h) = before_is_strict.irreflexive e.0 h
edge_irreflexive e (inr h) = before_is_strict.irreflexive e.1 h.1

edge_transitive : (e f g : Point × Point) → IsEdgeBefore e f → IsEdgeBefore f g → IsEdgeBefore e g
edge_transitive e f g (inl h) (inl k) = inl (before_is_strict.transitive e.0 f.0 g.0 h k)
edge_transitive e f g (inl h) (inr k) = inl (subst (IsBefore e.0) k.0 h)
edge_transitive e f g (inr h) (inl k) = inl (subst (λ v. IsBefore v g.0) (sym h.0) k)
edge_transitive e f g (inr h) (inr k) = inr (h.0 ∙ k.0, before_is_strict.transitive e.1 f.1 g.1 h.1 k.1)

pub edges_are_strict : IsStrictOrder IsEdgeBefore
edges_are_strict = record { irreflexive = edge_irreflexive; transitive = edge_transitive }

-- an edge with its lesser end first is its own undirected edge, from whichever end it is walked
pub undirected_lesser : (e : Point × Point) → is_before e.0 e.1 ≡ true → undirected e ≡ e
undirected_lesser e h = rw h refl

pub undirected_back : (e : Point × Point) → is_before e.0 e.1 ≡ true → undirected (e.1, e.0) ≡ e
undirected_back e h = by_test (is_before e.1 e.0) (λ g.
    before_irreflexive e.0 (before_transitive e.0 e.1 e.0 (before_by_test e.0 e.1 h) (before_by_test e.1 e.0 g)))
  where
    by_test : (b : Bool) → (b ≡ true → ⊥) → cond b (e.1, e.0) (e.0, e.1) ≡ e
    by_test true no_ = absurd (no_ refl)
    by_test false no_ = refl

-- ---- the lesser end first
-- so it is at each of the first n edges
abbrev pub AreLesserTo : List (Point × Point) → ℕ → Type 0
AreLesserTo edges n = (k : ℕ) (d : Point × Point) → k < n → is_before (get_or edges k d).0 (get_or edges k d).1 ≡ true

pub one_more_lesser : (edges : List (Point × Point)) (n : ℕ) (e : Point × Point) → n < length edges → e ≡ get_or edges n e
    → is_before e.0 e.1 ≡ true → AreLesserTo edges n → AreLesserTo edges (n + 1)
one_more_lesser edges n e less is_e lesser so_far k d lt = ⊎_elim
    (λ (before : k < n). so_far k d before)
    (λ (ge : n ≤ k).
    let same : n ≡ k = omega arith in
    subst (λ z. is_before z.0 z.1 ≡ true) (is_e ∙ get_or_default edges n e d less ∙ ap (λ i. get_or edges i d) same) lesser)
    (cases_lt k n)
