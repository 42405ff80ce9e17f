-- Edges that go alike: they wind alike, and have the same parity and the same edges without directions.
use Rattle.std.proofs.Common.{◌≡◌, ◌≢◌, Bool, true, false, ◌&&◌, List, [], ◌∷◌, ◌++◌, length}
use Rattle.std.proofs.Common.{ℤ, pos, ◌+ℤ◌, neg_ℤ, refl, sym, ap, ap₂, ◌∙◌, arith}
use Rattle.std.proofs.lemmas.Bool.{and_parts}
use Rattle.lay_point.proofs.Signs.{linear}
use Rattle.lay_point.specs.declared.point.Point.{Point}
use Rattle.lay_point.specs.Edges.{same_edge}
use Rattle.lay_point.specs.Parity.{odd, parity}
use Rattle.lay_point.specs.Points.{point_eq}
use Rattle.lay_point.proofs.RingLemmas.{point_eq-true}
use Rattle.lay_point.proofs.BoolLaws.{and_comm}
use Rattle.lay_oriented.specs.Net.{GoAlike}
use Rattle.lay_oriented.specs.Oriented.{KeepEdges, KeepParity, lies_between}
use Rattle.lay_oriented.specs.Winding.{IsTurn, sum_of, turn, winding}
use Rattle.lay_oriented.proofs.NetLemmas.{same_rest}
use Rattle.lay_oriented.proofs.WindingLemmas.{counted, none_counted, sum_of-append, sum_parity, turn-IsTurn, turned_count, winding_parity}

pub winding_alike : (new old : List (Point × Point)) → GoAlike new old → (k x y : ℤ) → winding new k x y ≡ winding old k x y
unfolding winding
winding_alike new old alike k x y = alike (turn k x y) (turn-IsTurn k x y)

pub parity_alike : (new old : List (Point × Point)) → GoAlike new old → KeepParity new old
parity_alike new old alike k x y =
    let one = winding_parity new k x y in
    let other = winding_parity old k x y in
    same_rest (odd new k x y) (odd old k x y) one.0 other.0 (sym one.1 ∙ winding_alike new old alike k x y ∙ other.1)

-- ---- edges between two points
-- no edge lies between two points in both directions
one_direction : (p q : Point) → p ≢ q → (e : Point × Point) → same_edge e (p, q) ≡ true → same_edge e (q, p) ≡ true → ⊥
one_direction p q apart e h g =
    let one = and_parts (point_eq e.0 p) (point_eq e.1 q) h in
    let other = and_parts (point_eq e.0 q) (point_eq e.1 p) g in
    apart (sym (point_eq-true e.0 p one.0) ∙ point_eq-true e.0 q other.0)

between : Point → Point → Point × Point → ℤ
between p q e = counted (same_edge e (p, q)) (same_edge e (q, p))

between-IsTurn : (p q : Point) → p ≢ q → IsTurn (between p q)
unfolding between
between-IsTurn p q apart = record {
  turned = λ r s.
      ap₂ counted (and_comm (point_eq s p) (point_eq r q)) (and_comm (point_eq s q) (point_eq r p))
      ∙ turned_count (same_edge (r, s) (p, q)) (same_edge (r, s) (q, p)) (one_direction p q apart (r, s));
  without_length = λ r.
      ap (counted (same_edge (r, r) (p, q))) (and_comm (point_eq r q) (point_eq r p))
      ∙ none_counted (same_edge (r, r) (p, q)) (λ h g.
      one_direction p q apart (r, r) h (and_comm (point_eq r q) (point_eq r p) ∙ g));
}

pub keep_alike : (new old : List (Point × Point)) → GoAlike new old → KeepEdges new old
unfolding between
keep_alike new old alike p q apart =
    let forth = λ (e : Point × Point). same_edge e (p, q) in
    let back = λ (e : Point × Point). same_edge e (q, p) in
    let one = sum_parity forth back (one_direction p q apart) new in
    let other = sum_parity forth back (one_direction p q apart) old in
    same_rest (parity (lies_between p q) new) (parity (lies_between p q) old) one.0 other.0
    (sym one.1 ∙ alike (between p q) (between-IsTurn p q apart) ∙ other.1)

-- ---- one edge more
pub alike_pushed : (f : Point × Point → ℤ) (new kept : List (Point × Point)) (e : Point × Point) (left behind all : List (Point × Point))
    → sum_of f new ≡ sum_of f kept +ℤ f e → left ≡ e ∷ behind → sum_of f kept +ℤ sum_of f left ≡ sum_of f all
    → sum_of f new +ℤ sum_of f behind ≡ sum_of f all
alike_pushed f new kept e left behind all more left_is so_far =
    let split : sum_of f left ≡ f e +ℤ sum_of f behind = ap (sum_of f) left_is in omega (arith, linear)

pub alike_none : (f : Point × Point → ℤ) (kept left all : List (Point × Point)) → length left ≡ 0
    → sum_of f kept +ℤ sum_of f left ≡ sum_of f all → sum_of f kept ≡ sum_of f all
alike_none f kept [] all none so_far = omega (arith, linear)
alike_none f kept (e ∷ es) all none so_far = absurd (omega arith)

-- ---- the last and one more
pub alike_added : (f : Point × Point → ℤ) (all kept : List (Point × Point)) (e : Point × Point) → all ≡ kept ++ e ∷ []
    → sum_of f all ≡ sum_of f kept +ℤ f e
alike_added f all kept e is =
    let split : sum_of f all ≡ sum_of f kept +ℤ (f e +ℤ pos 0) = ap (sum_of f) is ∙ sum_of-append f kept (e ∷ []) in omega (arith, linear)

pub alike_cancelled : (f : Point × Point → ℤ) → IsTurn f → (all kept : List (Point × Point)) (last e : Point × Point) → all ≡ kept
    ++ last ∷ []
    → last ≡ (e.1, e.0) → sum_of f kept ≡ sum_of f all +ℤ f e
alike_cancelled f laws all kept last e is back =
    let split = alike_added f all kept last is in
    let turned : f last ≡ neg_ℤ (f e) = ap f back ∙ laws.turned e.0 e.1 in
    omega (arith, linear)
