-- The rings' edges are the edges that they were linked from: for each test as many pass. So every parity is the same,
-- that of the edges which the half line from a place crosses among them.
use Rattle.std.proofs.Common.{◌≡◌, inl, inr, ℕ, zero, suc, ◌+◌, Bool, true, false, not, cond}
use Rattle.std.proofs.Common.{◌||◌, List, [], ◌∷◌, ◌++◌, map, ℤ, refl, sym, ap, subst, ◌∙◌, arith}
use Rattle.std.specs.List.{count_by}
use Rattle.std.proofs.lemmas.List.Sums.{sum_by-append, sum_by-cons}
use Rattle.lay_point.specs.declared.point.Point.{Point}
use Rattle.lay_point.specs.Edges.{is_before, touches, undirected}
use Rattle.lay_point.specs.Parity.{xor, parity, is_crossed, odd}
use Rattle.lay_point.specs.Points.{point_eq}
use Rattle.lay_point.specs.RingEdges.{pairs, edges_of, edges_of_ring}
use Rattle.lay_point.proofs.EdgeOrder.{before_by_test, before_is_strict, undirected_back, undirected_lesser}
use Rattle.lay_point.proofs.Members.{Has}
use Rattle.lay_point.proofs.Parity.{parity-map, parity_agree}
use Rattle.lay_point.proofs.RingLemmas.{point_eq-true}
use Rattle.lay_point.proofs.ListLaws.{map-append}
use Rattle.face_ring_laws.specs.Linking.{Ends, other_end}
use Rattle.face_ring_laws.proofs.ParityLemmas.{IsEdgeTest, is_crossed-IsEdgeTest}
use Rattle.face_ring_laws.proofs.TakenLemmas.{other_has, taken_count, taken_has, taken_touches}
use Rattle.face_ring_laws.proofs.WayLemmas.{AreProper, AreRings, IsWay, at_start, no_ring, onward, one_more, way_keeps}

-- the lesser end comes first
abbrev pub AreUndirected : List Ends → Type 0
AreUndirected es = (e : Ends) → Has es e → is_before e.0 e.1 ≡ true

pub proper_from_undirected : (es : List Ends) → AreUndirected es → AreProper es
proper_from_undirected es h e m same =
    before_is_strict.irreflexive e.1 (before_by_test e.1 e.1 (subst (λ v. is_before v e.1 ≡ true) same (h e m)))

-- ---- one edge
-- walked from one of its ends to the other, an edge is that edge
pub walked : (at : Point) (e : Ends) → is_before e.0 e.1 ≡ true → touches at e ≡ true → undirected (at, other_end at e) ≡ e
walked at e lesser h = by_end (point_eq e.0 at) refl h
  where
    by_end : (p : Bool) → point_eq e.0 at ≡ p → (p || point_eq e.1 at) ≡ true → undirected (at, cond p e.1 e.0) ≡ e
    by_end true f t = ap (λ v. undirected (v, e.1)) (sym (point_eq-true e.0 at f)) ∙ undirected_lesser e lesser
    by_end false f t = ap (λ v. undirected (v, e.0)) (sym (point_eq-true e.1 at t)) ∙ undirected_back e lesser

-- ---- the edges of a way, each as often as it is gone
abbrev pub gone_by : Point → List Point → List Ends
gone_by start points = map undirected (pairs (points ++ start ∷ []))

-- a way begins where it begins
pub way_front : (start at : Point) (es : List Ends) (points : List Point) (rest : List Ends) → IsWay start at es points rest
    → (qs : List Point) × (points ++ start ∷ [] ≡ at ∷ qs)
way_front start at es points rest (at_start es₁) = ([], refl)
way_front start at es points rest (onward at₁ e es₁ es₂ rest₁ points₁ apart h w) = (points₁ ++ start ∷ [], refl)

gone_first : (test : Ends → Bool) (p at : Point) (qs ps : List Point) → ps ≡ at ∷ qs
    → count_by test (map undirected (pairs (p ∷ ps))) ≡ cond (test (undirected (p, at))) 1 0 + count_by test (map undirected (pairs ps))
gone_first test p at qs ps e =
    let P : List Point → Type 0 =
    λ zs. count_by test (map undirected (pairs (p ∷ zs))) ≡ cond (test (undirected (p, at))) 1 0 + count_by test
    (map undirected (pairs zs)) in
    subst P (sym e) (sum_by-cons (λ x. cond (test x) 1 0) (undirected (p, at)) (map undirected (pairs (at ∷ qs))))

way_count : (test : Ends → Bool) (start at : Point) (es : List Ends) (points : List Point) (rest : List Ends)
    → IsWay start at es points rest
    → AreUndirected es → count_by test es ≡ count_by test (gone_by start points) + count_by test rest
way_count test start at es points rest (at_start es₁) lesser = omega arith
way_count test start at es points rest (onward at₁ e es₁ es₂ rest₁ points₁ apart h w) lesser =
    let front = way_front start (other_end at₁ e) es₂ points₁ rest₁ w in
    let first = gone_first test at₁ (other_end at₁ e) front.0 (points₁ ++ start ∷ []) front.1 in
    let same = walked at₁ e (lesser e (taken_has at₁ es₁ e es₂ h)) (taken_touches at₁ es₁ e es₂ h) in
    let here : count_by test (gone_by start (at₁ ∷ points₁)) ≡ cond (test e) 1 0 + count_by test (gone_by start points₁) =
    first ∙ ap (λ z. cond (test z) 1 0 + count_by test (gone_by start points₁)) same in
    let further = way_count test start (other_end at₁ e) es₂ points₁ rest₁ w (λ f m. lesser f (other_has at₁ es₁ e es₂ h f m)) in
    let all = taken_count at₁ es₁ e es₂ h test in
    omega arith

-- ---- of all rings
pub rings_count : (test : Ends → Bool) (es : List Ends) (rings : List (List Point)) → AreRings es rings
    → AreUndirected es → count_by test (map undirected (edges_of rings)) ≡ count_by test es
rings_count test es rings no_ring lesser = refl
rings_count test es rings (one_more e es₁ rest points rings₁ w h) lesser =
    let behind_first : AreUndirected es₁ = λ f m. lesser f (inr m) in
    let front = way_front e.0 e.1 es₁ points rest w in
    let first = gone_first test e.0 e.1 front.0 (points ++ e.0 ∷ []) front.1 in
    let itself = undirected_lesser e (lesser e (inl refl)) in
    let here : count_by test (map undirected (edges_of_ring (e.0 ∷ points))) ≡ cond (test e) 1 0 + count_by test (gone_by e.0 points) =
    first ∙ ap (λ z. cond (test z) 1 0 + count_by test (gone_by e.0 points)) itself in
    let split = ap (count_by test) (map-append undirected (edges_of_ring (e.0 ∷ points)) (edges_of rings₁))
    ∙ sum_by-append (λ x. cond (test x) 1 0) (map undirected (edges_of_ring (e.0 ∷ points))) (map undirected (edges_of rings₁)) in
    let others = rings_count test rest rings₁ h (λ f m. behind_first f (way_keeps e.0 e.1 es₁ points rest w f m)) in
    let gone = way_count test e.0 e.1 es₁ points rest w behind_first in
    let whole = sum_by-cons (λ x. cond (test x) 1 0) e es₁ in
    omega arith

-- ---- parities
abbrev is_odd : ℕ → Bool
is_odd zero = false
is_odd (suc n) = not (is_odd n)

odd_more : (b : Bool) (n : ℕ) → is_odd (cond b 1 0 + n) ≡ xor b (is_odd n)
odd_more true n = let e : 1 + n ≡ suc n = omega arith in ap is_odd e
odd_more false n = let e : 0 + n ≡ n = omega arith in ap is_odd e

parity_by_count : {A : Type 0} (test : A → Bool) (xs : List A) → parity test xs ≡ is_odd (count_by test xs)
parity_by_count test [] = refl
parity_by_count test (x ∷ xs) =
    ap (xor (test x)) (parity_by_count test xs) ∙ sym (odd_more (test x) (count_by test xs))
    ∙ ap is_odd (sym (sum_by-cons (λ z. cond (test z) 1 0) x xs))

either_way : (test : Ends → Bool) → IsEdgeTest test → (p : Ends) → test p ≡ test (undirected p)
either_way test laws p = by_test (is_before p.0 p.1)
  where
    by_test : (b : Bool) → test p ≡ test (cond b p (p.1, p.0))
    by_test true = refl
    by_test false = laws.turned p.0 p.1

-- of tests that take no note of an edge's direction the parity of the rings' edges is that of the edges
pub rings_parity : (test : Ends → Bool) → IsEdgeTest test → (es : List Ends) (rings : List (List Point)) → AreRings es rings
    → AreUndirected es → parity test (edges_of rings) ≡ parity test es
rings_parity test laws es rings h lesser =
    parity_agree test (λ p. test (undirected p)) (edges_of rings) (λ p m. either_way test laws p)
    ∙ sym (parity-map test undirected (edges_of rings))
    ∙ parity_by_count test (map undirected (edges_of rings))
    ∙ ap is_odd (rings_count test es rings h lesser)
    ∙ sym (parity_by_count test es)

pub rings_odd : (es : List Ends) (rings : List (List Point)) → AreRings es rings → AreUndirected es
    → (k x y : ℤ) → odd (edges_of rings) k x y ≡ odd es k x y
unfolding odd
rings_odd es rings h lesser k x y = rings_parity (is_crossed k x y) (is_crossed-IsEdgeTest k x y) es rings h lesser
