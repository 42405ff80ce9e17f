-- What is written in database units means the same where distances are halved.
use Rattle.std.proofs.Common.{◌≡◌, ℕ, suc, ◌*◌, ◌/◌, ◌%◌, true, false, cond, List, []}
use Rattle.std.proofs.Common.{◌∷◌, ◌++◌, map, Some, None, Ok, refl, sym, ap, ◌∙◌, arith}
use Rattle.std.proofs.Common.{append_assoc, append-nil, ℤ, pos, negsuc, neg_ℤ}
use Rattle.std.specs.List.{list_all, list_any}
use Rattle.std.specs.Prelude.{option_and_then}
use Rattle.std.proofs.lemmas.Bool.{and_from, and_parts, eq-eqb}
use Rattle.std.proofs.lemmas.Bool.Decides.{nat_tests}
use Rattle.std.proofs.lemmas.Int.{ints}
use Rattle.std.proofs.Math.IntN.{pos-*ℤ-pos}
use Rattle.lay_point.specs.declared.point.Point.{Point}
use Rattle.lay_point.specs.Points.{is_coordinate, is_in_range}
use Rattle.lay_point.specs.Rings.{IsRing}
use Rattle.lay_point.proofs.BridgeLemmas.{ring_of_ring}
use Rattle.cif_read.specs.Polygons.{is_above_written, is_too_big, points_from, polygon_at, ring_of_points, ring_or_none}
use Rattle.lay_point.specs.Turns.{within_range}
use Rattle.cif_read.specs.Scales.{doubled, is_whole, is_whole_vertex, scaled, scaled_vertex}
use Rattle.cif_read.proofs.ScaleLemmas.{not_negative}
use Rattle.cif_laws.proofs.WrittenLines.{half}
use Rattle.cif_laws.proofs.WrittenNumbers.{coordinate_within, number_of, vertex_of}

-- ---- numbers

doubled_pos : (n : ℕ) → doubled (number_of (pos n)) ≡ pos (2 * n)
doubled_pos n = pos-*ℤ-pos 2 n

doubled_negsuc : (n : ℕ) → doubled (number_of (negsuc n)) ≡ negsuc (suc (2 * n))
doubled_negsuc n = omega (arith, ints)

pub whole : (z : ℤ) → is_whole half (doubled (number_of z)) ≡ true
unfolding is_whole
whole (pos n) = ap (is_whole half) (doubled_pos n) ∙ eq-eqb (2 * n * 1 % 2) 0 (omega arith)
whole (negsuc n) = ap (is_whole half) (doubled_negsuc n) ∙ eq-eqb (suc (suc (2 * n)) * 1 % 2) 0 (omega arith)

pub scaled_back : (z : ℤ) → scaled half (doubled (number_of z)) ≡ z
unfolding scaled
scaled_back (pos n) =
    ap (scaled half) (doubled_pos n) ∙ ap (λ b. cond b (neg_ℤ (pos (2 * n * 1 / 2))) (pos (2 * n * 1 / 2))) (not_negative (2 * n))
    ∙ ap pos (halved n) where
      halved : (n : ℕ) → 2 * n * 1 / 2 ≡ n
      halved n = omega arith
scaled_back (negsuc n) = ap (scaled half) (doubled_negsuc n) ∙ ap (λ m. neg_ℤ (pos m)) (halved n) where
  halved : (n : ℕ) → suc (suc (2 * n)) * 1 / 2 ≡ suc n
  halved n = omega arith

-- ---- points

pub point_back : (p : Point) → scaled_vertex half (vertex_of p) ≡ p
point_back p = λ i. record { x = scaled_back p.x i; y = scaled_back p.y i }

pub whole_point : (p : Point) → is_whole_vertex half (vertex_of p) ≡ true
whole_point p = and_from (is_whole half (doubled (number_of p.x))) (is_whole half (doubled (number_of p.y))) (whole p.x) (whole p.y)

small : (z : ℤ) → is_coordinate z ≡ true → is_above_written (number_of z).magnitude ≡ false
small z h = let within = coordinate_within z h in grind (arith, nat_tests)

pub small_point : (p : Point) → is_in_range p ≡ true → is_too_big (vertex_of p) ≡ false
small_point p h =
    let both = and_parts (is_coordinate p.x) (is_coordinate p.y) h in rw (small p.x both.0, small p.y both.1) refl

-- ---- polygons

whole_path : (ps : List Point) → list_all (is_whole_vertex half) (map vertex_of ps) ≡ true
whole_path [] = refl
whole_path (p ∷ ps) = and_from (is_whole_vertex half (vertex_of p)) _ (whole_point p) (whole_path ps)

pub small_path : (ps : List Point) → list_all is_in_range ps ≡ true → list_any is_too_big (map vertex_of ps) ≡ false
small_path [] h = refl
small_path (p ∷ ps) h =
    let both = and_parts (is_in_range p) (list_all is_in_range ps) h in rw (small_point p both.0) (small_path ps both.1)

kept_point : (p : Point) → is_in_range p ≡ true → within_range (scaled_vertex half (vertex_of p)) ≡ Some p
kept_point p h = ap within_range (point_back p) ∙ ap (λ b. cond b (Some p) None) h

points_back : (found ps : List Point) → list_all is_in_range ps ≡ true → points_from half found (map vertex_of ps) ≡ Some (found ++ ps)
unfolding points_from
points_back found [] h = ap Some (sym (append-nil found))
points_back found (p ∷ ps) h =
    let both = and_parts (is_in_range p) (list_all is_in_range ps) h in
    ap (λ o. option_and_then (λ q. points_from half (found ++ q ∷ []) (map vertex_of ps)) o) (kept_point p both.0)
    ∙ points_back (found ++ p ∷ []) ps both.1 ∙ ap Some (append_assoc found (p ∷ []) ps)

pub polygon_back : (ps : List Point) → IsRing ps → polygon_at half (map vertex_of ps) ≡ Ok (Some ps)
unfolding polygon_at
polygon_back ps ring =
    rw (whole_path ps) (ap ring_of_points (points_back [] ps ring.in_range) ∙ ap ring_or_none (ring_of_ring ps ring))
