-- Parity takes no note of the order of edges, of their directions, and of edges that stand twice.
use Rattle.std.proofs.Common.{
  ◌≡◌,
  ◌⊎◌,
  inl,
  inr,
  Bool,
  true,
  false,
  List,
  [],
  ◌∷◌,
  ◌++◌,
  length,
  ℤ,
  pos,
  ◌+ℤ◌,
  ◌*ℤ◌,
  refl,
  sym,
  ap,
  ◌∙◌,
  arith,
  ◌&&◌,
  ◌||◌,
}
use Rattle.std.specs.Cmp.Lexicographic.{pointwise}
use Rattle.std.specs.List.Sorted.{IsPermutation}
use Rattle.std.proofs.lemmas.Bool.{and_parts}
use Rattle.lay_point.proofs.Signs.{linear}
use Rattle.lay_point.specs.declared.point.Point.{Point}
use Rattle.lay_point.specs.Edges.{same_edge}
use Rattle.lay_point.specs.Points.{point_eq}
use Rattle.lay_point.specs.Parity.{xor, parity, odd, is_crossed}
use Rattle.lay_point.proofs.Parity.{parity-append, xor-false, xor_assoc, xor_self}
use Rattle.lay_point.proofs.RingLemmas.{point_eq-true}
use Rattle.face_ring_laws.proofs.ParityLemmas.{is_crossed-IsEdgeTest}
use Rattle.lay_oriented.specs.Net.{IsUndirected, PassAlike}
use Rattle.lay_oriented.specs.Oriented.{KeepEdges, KeepParity, lies_between}
use Rattle.lay_oriented.specs.Winding.{one_if, sum_of}
use Rattle.lay_oriented.proofs.WindingLemmas.{sum_of-permutation}

-- ---- in another order
weight : {A : Type 0} → (A → Bool) → A → ℤ
weight test x = one_if (test x)

one_more : (a b : Bool) (n s : ℤ) → s ≡ pos 2 *ℤ n +ℤ one_if b → (m : ℤ) × (one_if a +ℤ s ≡ pos 2 *ℤ m +ℤ one_if (xor a b))
one_more true true n s e = (n +ℤ pos 1, omega (arith, linear))
one_more true false n s e = (n, omega (arith, linear))
one_more false true n s e = (n, omega (arith, linear))
one_more false false n s e = (n, omega (arith, linear))

counted : {A : Type 0} (test : A → Bool) (xs : List A) → (n : ℤ) × (sum_of (weight test) xs ≡ pos 2 *ℤ n +ℤ one_if (parity test xs))
unfolding weight
counted test [] = (pos 0, refl)
counted test (x ∷ xs) = let rest = counted test xs in one_more (test x) (parity test xs) rest.0 (sum_of (weight test) xs) rest.1

pub same_rest : (a b : Bool) (n m : ℤ) → pos 2 *ℤ n +ℤ one_if a ≡ pos 2 *ℤ m +ℤ one_if b → a ≡ b
same_rest true true n m e = refl
same_rest true false n m e = absurd (omega (arith, linear))
same_rest false true n m e = absurd (omega (arith, linear))
same_rest false false n m e = refl

pub parity-permutation : (test : Point × Point → Bool) (edges others : List (Point × Point)) → IsPermutation edges others
    → parity test others ≡ parity test edges
parity-permutation test edges others moved =
    let one = counted test edges in
    let other = counted test others in
    same_rest (parity test others) (parity test edges) other.0 one.0
    (sym other.1 ∙ sum_of-permutation (weight test) edges others moved ∙ one.1)

-- ---- one edge more
pub parity_pushed : (test : Point × Point → Bool) → IsUndirected test → (kept : List (Point × Point)) (e f : Point × Point)
    → (left behind all : List (Point × Point)) → (f ≡ e) ⊎ (f ≡ (e.1, e.0)) → left ≡ e ∷ behind
    → xor (parity test kept) (parity test left) ≡ parity test all → xor (parity test (kept ++ f ∷ [])) (parity test behind)
    ≡ parity test all
parity_pushed test either kept e f left behind all turned left_is so_far =
    let same : test f ≡ test e = passed_alike turned in
    ap (λ b. xor b (parity test behind)) (parity-append test kept (f ∷ []))
    ∙ xor_assoc (parity test kept) (xor (test f) false) (parity test behind)
    ∙ ap (λ b. xor (parity test kept) (xor b (parity test behind))) (xor-false (test f) ∙ same)
    ∙ ap (λ l. xor (parity test kept) (parity test l)) (sym left_is) ∙ so_far
  where
    passed_alike : (f ≡ e) ⊎ (f ≡ (e.1, e.0)) → test f ≡ test e
    passed_alike (inl g) = ap test g
    passed_alike (inr g) = ap test g ∙ either e.1 e.0

-- ---- two edges less
pub parity_struck : (test : Point × Point → Bool) (kept : List (Point × Point)) (e : Point × Point)
    (left behind rest all : List (Point × Point))
    → left ≡ e ∷ behind → behind ≡ e ∷ rest → xor (parity test kept) (parity test left) ≡ parity test all
    → xor (parity test kept) (parity test rest) ≡ parity test all
parity_struck test kept e left behind rest all left_is behind_is so_far =
    ap (λ b. xor (parity test kept) b) (sym (twice (test e) (parity test rest)) ∙ ap (λ l. xor (test e) (parity test l)) (sym behind_is)
    ∙ ap (parity test) (sym left_is)) ∙ so_far
  where
    twice : (a b : Bool) → xor a (xor a b) ≡ b
    twice a b = sym (xor_assoc a a b) ∙ ap (λ c. xor c b) (xor_self a)

pub parity_none : (test : Point × Point → Bool) (kept left all : List (Point × Point)) → length left ≡ 0
    → xor (parity test kept) (parity test left) ≡ parity test all → parity test kept ≡ parity test all
parity_none test kept [] all none so_far = sym (xor-false (parity test kept)) ∙ so_far
parity_none test kept (e ∷ es) all none so_far = absurd (omega arith)

-- ---- tests that take no note of directions
pub odd_alike : (new old : List (Point × Point)) → PassAlike new old → KeepParity new old
unfolding odd
odd_alike new old alike k x y = alike (is_crossed k x y) (is_crossed-IsEdgeTest k x y).turned

either_way : (a b c d : Bool) → (b && a || d && c) ≡ (c && d || a && b)
either_way true true true true = refl
either_way true true true false = refl
either_way true true false true = refl
either_way true true false false = refl
either_way true false true true = refl
either_way true false true false = refl
either_way true false false true = refl
either_way true false false false = refl
either_way false true true true = refl
either_way false true true false = refl
either_way false true false true = refl
either_way false true false false = refl
either_way false false true true = refl
either_way false false true false = refl
either_way false false false true = refl
either_way false false false false = refl

-- whether an edge lies between two points is such a test
pub edges_alike : (new old : List (Point × Point)) → PassAlike new old → KeepEdges new old
edges_alike new old alike p q apart = alike (lies_between p q) (λ r s.
    either_way (point_eq s q) (point_eq r p) (point_eq s p) (point_eq r q))

pub edge_same : (e f : Point × Point) → same_edge e f ≡ true → e ≡ f
edge_same e f h = let parts = and_parts (point_eq e.0 f.0) (point_eq e.1 f.1) h in
    λ i. (point_eq-true e.0 f.0 parts.0 i, point_eq-true e.1 f.1 parts.1 i)

pub edges_same : (es fs : List (Point × Point)) → pointwise same_edge es fs ≡ true → es ≡ fs
edges_same [] [] h = refl
edges_same [] (f ∷ fs) h = absurd cc
edges_same (e ∷ es) [] h = absurd cc
edges_same (e ∷ es) (f ∷ fs) h =
    let parts = and_parts (same_edge e f) (pointwise same_edge es fs) h in
    let first = edge_same e f parts.0 in
    let rest = edges_same es fs parts.1 in
    λ i. first i ∷ rest i
