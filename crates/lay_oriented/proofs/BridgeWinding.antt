-- The bridged path has the winding number of its rings: the ways between rings are gone along out and back, and dropped points
-- leave out edges without a length.
use Rattle.std.proofs.Common.{◌≡◌, true, false, cond, List, [], ◌∷◌, ◌++◌, ℤ, pos, ◌+ℤ◌, refl, sym, ap, ◌∙◌, subst}
use Rattle.std.proofs.Common.{append_assoc, arith}
use Rattle.std.specs.List.{AllByRecursion}
use Rattle.lay_point.proofs.Signs.{linear}
use Rattle.lay_point.specs.declared.point.Point.{Point}
use Rattle.lay_point.specs.Bridges.{bridged, further, round_all}
use Rattle.lay_point.specs.Points.{point_eq}
use Rattle.lay_point.specs.RingEdges.{pairs, edges_of_ring, edges_of}
use Rattle.lay_point.specs.Rings.{IsRing, closed, kept_behind, opened_behind, without_repeats}
use Rattle.lay_point.proofs.RingLemmas.{point_eq-true}
use Rattle.lay_oriented.specs.Winding.{IsTurn, sum_of, turn, winding}
use Rattle.lay_oriented.proofs.WindingLemmas.{sum_of-append, turn-IsTurn}

module _ (f : Point × Point → ℤ) (laws : IsTurn f) where
  -- two walks joined at a point
  sum_of_walks : (ps : List Point) (q : Point) (qs : List Point)
      → sum_of f (pairs (ps ++ q ∷ qs)) ≡ sum_of f (pairs (ps ++ q ∷ [])) +ℤ sum_of f (pairs (q ∷ qs))
  sum_of_walks [] q qs = omega (arith, linear)
  sum_of_walks (p ∷ []) q qs = omega (arith, linear)
  sum_of_walks (p ∷ r ∷ rs) q qs = let rest = sum_of_walks (r ∷ rs) q qs in omega (arith, linear)

  -- ---- dropped points
  sum_of_kept : (p : Point) (ps : List Point) (q : Point)
      → sum_of f (pairs (p ∷ kept_behind p ps ++ q ∷ [])) ≡ sum_of f (pairs (p ∷ ps ++ q ∷ []))
  sum_of_kept p [] q = refl
  sum_of_kept p (r ∷ rs) q =
      elim (point_eq p r) as (λ b. point_eq p r ≡ b → sum_of f (pairs (p ∷ cond b (kept_behind p rs) (r ∷ kept_behind r rs) ++ q ∷ []))
      ≡ f (p, r) +ℤ sum_of f (pairs (r ∷ rs ++ q ∷ []))) [
        | true ↦ λ same. subst (λ z. sum_of f (pairs (p ∷ kept_behind p rs ++ q ∷ []))
            ≡ f (p, z) +ℤ sum_of f (pairs (z ∷ rs ++ q ∷ []))) (point_eq-true p r same)
            (let none = laws.without_length p in let rest = sum_of_kept p rs q in omega (arith, linear))
        | false ↦ λ _. ap (λ z. f (p, r) +ℤ z) (sum_of_kept r rs q)
      ] refl

  sum_of_opened : (first p : Point) (ps : List Point)
      → sum_of f (pairs (p ∷ opened_behind first ps ++ first ∷ [])) ≡ sum_of f (pairs (p ∷ ps ++ first ∷ []))
  sum_of_opened first p [] = refl
  sum_of_opened first p (q ∷ []) =
      elim (point_eq first q) as (λ b. point_eq first q ≡ b → sum_of f (pairs (p ∷ cond b [] (q ∷ []) ++ first ∷ []))
      ≡ f (p, q) +ℤ (f (q, first) +ℤ pos 0)) [
        | true ↦ λ same. subst (λ z. f (p, first) +ℤ pos 0 ≡ f (p, z) +ℤ (f (z, first) +ℤ pos 0)) (point_eq-true first q same)
            (let none = laws.without_length first in omega (arith, linear))
        | false ↦ λ _. refl
      ] refl
  sum_of_opened first p (q ∷ r ∷ rs) = ap (λ z. f (p, q) +ℤ z) (sum_of_opened first q (r ∷ rs))

  -- dropping repeats keeps the sum of a closed path
  sum_of-without_repeats : (ps : List Point) → sum_of f (edges_of_ring (without_repeats ps)) ≡ sum_of f (edges_of_ring ps)
  unfolding without_repeats
  sum_of-without_repeats [] = refl
  sum_of-without_repeats (p ∷ ps) = sum_of_opened p p (kept_behind p ps) ∙ sum_of_kept p ps p

  -- ---- ways between rings
  -- from the start to a ring, round it, and back
  out_and_back : (start : Point) (ring rest : List Point)
      → sum_of f (pairs (start ∷ closed ring ++ start ∷ rest)) ≡ sum_of f (edges_of_ring ring) +ℤ sum_of f (pairs (start ∷ rest))
  out_and_back start [] rest = let none = laws.without_length start in omega (arith, linear)
  out_and_back start (p ∷ ps) rest =
      let split = sum_of_walks (p ∷ ps) p (start ∷ rest) in
      let back = laws.turned start p in
      ap (λ qs. f (start, p) +ℤ sum_of f (pairs (p ∷ qs))) (append_assoc ps (p ∷ []) (start ∷ rest)) ∙ omega (arith, linear)

  sum_of_further : (start : Point) (rings : List (List Point))
      → sum_of f (pairs (start ∷ further start rings ++ start ∷ [])) ≡ sum_of f (edges_of rings)
  sum_of_further start [] = let none = laws.without_length start in omega (arith, linear)
  sum_of_further start (ring ∷ []) = out_and_back start ring [] ∙ sym (sum_of-append f (edges_of_ring ring) [])
  sum_of_further start (ring ∷ next ∷ rings) =
      let others = further start (next ∷ rings) in
      ap (λ qs. sum_of f (pairs (start ∷ qs))) (append_assoc (closed ring) (start ∷ others) (start ∷ []))
      ∙ out_and_back start ring (others ++ start ∷ [])
      ∙ ap (λ z. sum_of f (edges_of_ring ring) +ℤ z) (sum_of_further start (next ∷ rings))
      ∙ sym (sum_of-append f (edges_of_ring ring) (edges_of (next ∷ rings)))

  sum_of_joined : (start : Point) (points : List Point) (rings : List (List Point))
      → sum_of f (edges_of_ring (round_all ((start ∷ points) ∷ rings))) ≡ sum_of f (edges_of ((start ∷ points) ∷ rings))
  sum_of_joined start points [] =
      let alone = sum_of-append f (edges_of_ring (start ∷ points)) [] in omega (arith, linear)
  sum_of_joined start points (ring ∷ rings) =
      let others = further start (ring ∷ rings) in
      ap (λ qs. sum_of f (pairs (start ∷ qs))) (append_assoc (points ++ start ∷ []) others (start ∷ [])
      ∙ append_assoc points (start ∷ []) (others ++ start ∷ []))
      ∙ sum_of_walks (start ∷ points) start (others ++ start ∷ [])
      ∙ ap (λ z. sum_of f (edges_of_ring (start ∷ points)) +ℤ z) (sum_of_further start (ring ∷ rings))
      ∙ sym (sum_of-append f (edges_of_ring (start ∷ points)) (edges_of (ring ∷ rings)))

-- the bridged path has the edges of its rings, and ways that are gone out and back
pub bridged-alike : (rings : List (List Point)) (f : Point × Point → ℤ) → IsTurn f → AllByRecursion IsRing rings
    → sum_of f (edges_of_ring (bridged rings)) ≡ sum_of f (edges_of rings)
unfolding bridged without_repeats
bridged-alike [] f laws h = refl
bridged-alike ([] ∷ rings) f laws h = absurd (omega (arith, h.0.enough))
bridged-alike ((start ∷ points) ∷ rings) f laws h =
    sum_of-without_repeats f laws (round_all ((start ∷ points) ∷ rings)) ∙ sum_of_joined f laws start points rings

-- the law of the bridged path
pub winding-bridged : (rings : List (List Point)) (k x y : ℤ) → AllByRecursion IsRing rings
    → winding (edges_of_ring (bridged rings)) k x y ≡ winding (edges_of rings) k x y
unfolding winding
winding-bridged rings k x y h = bridged-alike rings (turn k x y) (turn-IsTurn k x y) h
