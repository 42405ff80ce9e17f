-- The bridged path has the parity of its rings: the ways between rings are gone along out and back, and dropped points
-- leave out edges without a length.
use Rattle.std.proofs.Common.{◌≡◌, Bool, true, false, cond, List, [], ◌∷◌, ◌++◌, ℤ, refl, sym, ap, ◌∙◌, subst, append_assoc, arith}
use Rattle.lay_point.specs.declared.point.Point.{Point}
use Rattle.lay_point.specs.Bridges.{bridged, further, round_all}
use Rattle.lay_point.specs.Parity.{xor, parity, odd, is_crossed}
use Rattle.lay_point.specs.Points.{point_eq}
use Rattle.lay_point.specs.RingEdges.{pairs, edges_of_ring, edges_of}
use Rattle.lay_point.specs.Rings.{IsRing, closed, kept_behind, opened_behind, without_repeats}
use Rattle.lay_point.proofs.RingLemmas.{point_eq-true}
use Rattle.lay_point.proofs.Parity.{parity-append, xor_assoc}
use Rattle.face_ring_laws.proofs.ParityLemmas.{IsEdgeTest, is_crossed-IsEdgeTest, xor_twice}

-- two walks joined at a point
pub parity_of_walks : (test : Point × Point → Bool) (ps : List Point) (q : Point) (qs : List Point)
    → parity test (pairs (ps ++ q ∷ qs)) ≡ xor (parity test (pairs (ps ++ q ∷ []))) (parity test (pairs (q ∷ qs)))
parity_of_walks test [] q qs = refl
parity_of_walks test (p ∷ []) q qs = sym (xor_assoc (test (p, q)) false (parity test (pairs (q ∷ qs))))
parity_of_walks test (p ∷ r ∷ rs) q qs = ap (xor (test (p, r))) (parity_of_walks test (r ∷ rs) q qs)
    ∙ sym (xor_assoc (test (p, r)) (parity test (pairs (r ∷ rs ++ q ∷ []))) (parity test (pairs (q ∷ qs))))

-- ---- dropped points
parity_of_kept : (test : Point × Point → Bool) → IsEdgeTest test → (p : Point) (ps : List Point) (q : Point)
    → parity test (pairs (p ∷ kept_behind p ps ++ q ∷ [])) ≡ parity test (pairs (p ∷ ps ++ q ∷ []))
parity_of_kept test laws p [] q = refl
parity_of_kept test laws p (r ∷ rs) q =
    elim (point_eq p r) as (λ b. point_eq p r ≡ b → parity test (pairs (p ∷ cond b (kept_behind p rs) (r ∷ kept_behind r rs) ++ q ∷ []))
    ≡ xor (test (p, r)) (parity test (pairs (r ∷ rs ++ q ∷ [])))) [
      | true ↦ λ same. subst (λ z. parity test (pairs (p ∷ kept_behind p rs ++ q ∷ []))
          ≡ xor (test (p, z)) (parity test (pairs (z ∷ rs ++ q ∷ [])))) (point_eq-true p r same)
          (rw (laws.without_length p) (parity_of_kept test laws p rs q))
      | false ↦ λ _. ap (xor (test (p, r))) (parity_of_kept test laws r rs q)
    ] refl

parity_of_opened : (test : Point × Point → Bool) → IsEdgeTest test → (first p : Point) (ps : List Point)
    → parity test (pairs (p ∷ opened_behind first ps ++ first ∷ [])) ≡ parity test (pairs (p ∷ ps ++ first ∷ []))
parity_of_opened test laws first p [] = refl
parity_of_opened test laws first p (q ∷ []) =
    elim (point_eq first q) as (λ b. point_eq first q ≡ b → parity test (pairs (p ∷ cond b [] (q ∷ []) ++ first ∷ []))
    ≡ xor (test (p, q)) (xor (test (q, first)) false)) [
      | true ↦ λ same. subst (λ z. xor (test (p, first)) false ≡ xor (test (p, z)) (xor (test (z, first)) false))
          (point_eq-true first q same) (ap (λ b. xor (test (p, first)) (xor b false)) (sym (laws.without_length first)))
      | false ↦ λ _. refl
    ] refl
parity_of_opened test laws first p (q ∷ r ∷ rs) = ap (xor (test (p, q))) (parity_of_opened test laws first q (r ∷ rs))

-- dropping repeats keeps the parity of a closed path
pub parity-without_repeats : (test : Point × Point → Bool) → IsEdgeTest test → (ps : List Point)
    → parity test (edges_of_ring (without_repeats ps)) ≡ parity test (edges_of_ring ps)
unfolding without_repeats
parity-without_repeats test laws [] = refl
parity-without_repeats test laws (p ∷ ps) = parity_of_opened test laws p p (kept_behind p ps) ∙ parity_of_kept test laws p ps p

-- ---- ways between rings
-- from the start to a ring, round it, and back
parity_out_and_back : (test : Point × Point → Bool) → IsEdgeTest test → (start : Point) (ring rest : List Point)
    → parity test (pairs (start ∷ closed ring ++ start ∷ rest))
    ≡ xor (parity test (edges_of_ring ring)) (parity test (pairs (start ∷ rest)))
parity_out_and_back test laws start [] rest = ap (λ b. xor b (parity test (pairs (start ∷ rest)))) (laws.without_length start)
parity_out_and_back test laws start (p ∷ ps) rest =
    let behind = parity test (pairs (start ∷ rest)) in
    ap (λ qs. xor (test (start, p)) (parity test (pairs (p ∷ qs)))) (append_assoc ps (p ∷ []) (start ∷ rest))
    ∙ ap (xor (test (start, p))) (parity_of_walks test (p ∷ ps) p (start ∷ rest))
    ∙ ap (λ b. xor (test (start, p)) (xor (parity test (edges_of_ring (p ∷ ps))) (xor b behind))) (laws.turned p start)
    ∙ xor_twice (test (start, p)) (parity test (edges_of_ring (p ∷ ps))) behind

parity_of_further : (test : Point × Point → Bool) → IsEdgeTest test → (start : Point) (rings : List (List Point))
    → parity test (pairs (start ∷ further start rings ++ start ∷ [])) ≡ parity test (edges_of rings)
parity_of_further test laws start [] = ap (λ b. xor b false) (laws.without_length start)
parity_of_further test laws start (ring ∷ []) =
    parity_out_and_back test laws start ring [] ∙ sym (parity-append test (edges_of_ring ring) [])
parity_of_further test laws start (ring ∷ next ∷ rings) =
    let others = further start (next ∷ rings) in
    ap (λ qs. parity test (pairs (start ∷ qs))) (append_assoc (closed ring) (start ∷ others) (start ∷ []))
    ∙ parity_out_and_back test laws start ring (others ++ start ∷ [])
    ∙ ap (xor (parity test (edges_of_ring ring))) (parity_of_further test laws start (next ∷ rings))
    ∙ sym (parity-append test (edges_of_ring ring) (edges_of (next ∷ rings)))

parity_of_joined : (test : Point × Point → Bool) → IsEdgeTest test → (start : Point) (points : List Point) (rings : List (List Point))
    → parity test (edges_of_ring (round_all ((start ∷ points) ∷ rings))) ≡ parity test (edges_of ((start ∷ points) ∷ rings))
parity_of_joined test laws start points [] =
    let ring = parity test (edges_of_ring (start ∷ points)) in
    sym (xor_false ring) ∙ sym (parity-append test (edges_of_ring (start ∷ points)) [])
  where
    xor_false : (b : Bool) → xor b false ≡ b
    xor_false false = refl
    xor_false true = refl
parity_of_joined test laws start points (ring ∷ rings) =
    let others = further start (ring ∷ rings) in
    ap (λ qs. parity test (pairs (start ∷ qs))) (append_assoc (points ++ start ∷ []) others (start ∷ [])
    ∙ append_assoc points (start ∷ []) (others ++ start ∷ []))
    ∙ parity_of_walks test (start ∷ points) start (others ++ start ∷ [])
    ∙ ap (xor (parity test (edges_of_ring (start ∷ points)))) (parity_of_further test laws start (ring ∷ rings))
    ∙ sym (parity-append test (edges_of_ring (start ∷ points)) (edges_of (ring ∷ rings)))

-- ---- about every place
pub odd-without_repeats : (ps : List Point) (k x y : ℤ) → odd (edges_of_ring (without_repeats ps)) k x y ≡ odd (edges_of_ring ps) k x y
unfolding odd
odd-without_repeats ps k x y = parity-without_repeats (is_crossed k x y) (is_crossed-IsEdgeTest k x y) ps

pub odd-round_all : (ring : List Point) (rings : List (List Point)) → IsRing ring
    → (k x y : ℤ) → odd (edges_of_ring (round_all (ring ∷ rings))) k x y ≡ odd (edges_of (ring ∷ rings)) k x y
unfolding odd
odd-round_all [] rings h k x y = absurd (omega (arith, h.enough))
odd-round_all (start ∷ points) rings h k x y = parity_of_joined (is_crossed k x y) (is_crossed-IsEdgeTest k x y) start points rings

-- the law of the bridged path
pub odd-bridged : (ring : List Point) (rings : List (List Point)) → IsRing ring
    → (k x y : ℤ) → odd (edges_of_ring (bridged (ring ∷ rings))) k x y ≡ odd (edges_of (ring ∷ rings)) k x y
unfolding bridged
odd-bridged ring rings h k x y = odd-without_repeats (round_all (ring ∷ rings)) k x y ∙ odd-round_all ring rings h k x y
