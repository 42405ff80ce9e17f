-- What is drawn is a ring.
use Rattle.std.proofs.Common.{◌≡◌, Bool, true, false, cond, List, [], Option, Some, None, Result, Ok, Err, refl, ap}
use Rattle.std.proofs.Common.{arith, inl, inr, ◌<ℤ◌, ◌&&◌}
use Rattle.std.specs.Prelude.{IfSome, not}
use Rattle.std.proofs.lemmas.Bool.{and_parts}
use Rattle.std.proofs.lemmas.Bool.Decides.{nat_tests}
use Rattle.std.proofs.lemmas.Int.{ints}
use Rattle.lay_point.specs.declared.point.Point.{Point}
use Rattle.lay_point.specs.declared.ring.RingFault.{RingFault}
use Rattle.lay_point.specs.declared.ring.RingFault.TheVariants.{FewPoints, NoMemory as NoRoom, OutOfRange, TooMany as ManyPoints}
use Rattle.lay_point.specs.Points.{is_in_range}
use Rattle.lay_point.specs.Rings.{IsRing}
use Rattle.lay_point.specs.Rings.{rectangle, ring_of}
use Rattle.lay_point.proofs.BridgeLemmas.{ring_of_is}
use Rattle.byte_io.proofs.Steps.{chosen_of}
use Rattle.cif_grammar.specs.declared.boxes.BoxNumbers.{BoxNumbers}
use Rattle.cif_grammar.specs.declared.definitions.Scale.{Scale}
use Rattle.cif_grammar.specs.declared.paths.Vertex.{Vertex}
use Rattle.cif_read.specs.declared.fault.FaultKind.{FaultKind}
use Rattle.cif_read.specs.declared.fault.FaultKind.TheVariants.{OffGrid, TooBig}
use Rattle.cif_read.specs.Boxes.{box_at, box_between, high_corner, is_flat, is_whole_box, low_corner, ring_between}
use Rattle.cif_read.specs.Polygons.{points_from, polygon_at, ring_of_points, ring_or_none}
use Rattle.cif_read.specs.Scales.{IsRatio}
use Rattle.cif_read.proofs.BoxLemmas.{spans}

-- a refusal isn't a value
pub taken : {A : Type 0} {E : Type 0} {P : Type 0} (t : Bool) (e : E) (r : Result A E) (x : A) → cond t (Err e) r ≡ Ok x
    → (t ≡ false → r ≡ Ok x → P) → P
taken {A} {E} true e r x h next = absurd (no e x h) where
  no : (e : E) (x : A) → ◌≡◌ {A = Result A E} (Err e) (Ok x) → ⊥
  no e x h = cc
taken false e r x h next = next refl h

-- what may be drawn
abbrev pub IsDrawing : Option (List Point) → Type 0
IsDrawing ring = IfSome ring IsRing

or_none : (r : Result (List Point) RingFault) (ring : Option (List Point)) → ((points : List Point) → r ≡ Ok points → IsRing points)
    → ring_or_none r ≡ Ok ring → IsDrawing ring
or_none (Ok points) ring is e =
    let same : Some points ≡ ring = cc in
    rw (← same) (is points refl)
or_none (Err FewPoints) ring is e =
    let same : None ≡ ring = cc in
    rw (← same) tt
or_none (Err OutOfRange) ring is e = absurd cc
or_none (Err ManyPoints) ring is e = absurd cc
or_none (Err NoRoom) ring is e = absurd cc

of_points : (found : Option (List Point)) (ring : Option (List Point)) → ring_of_points found ≡ Ok ring → IsDrawing ring
of_points None ring e = absurd cc
of_points (Some points) ring e = or_none (ring_of points) ring (ring_of_is points) e

pub polygon_drawing : (scale : Scale) (vertices : List Vertex) (ring : Option (List Point)) → polygon_at scale vertices ≡ Ok ring
    → IsDrawing ring
unfolding polygon_at
polygon_drawing scale vertices ring e = taken _ OffGrid _ ring e (λ _ e. of_points (points_from scale [] vertices) ring e)

rectangle_is : (low high : Point) → is_in_range low ≡ true → is_in_range high ≡ true → low.x <ℤ high.x → low.y <ℤ high.y
    → IsRing (rectangle low high)
rectangle_is low high low_in high_in wide tall = record {
  enough = omega arith;
  few = omega arith;
  in_range = grind (arith, nat_tests);
  apart = (
    (λ e. let x = ap (λ (p : Point). p.x) e in omega (arith, ints)),
    (
      (λ e. let y = ap (λ (p : Point). p.y) e in omega (arith, ints)),
      (
        (λ e. let x = ap (λ (p : Point). p.x) e in omega (arith, ints)),
        ((λ e. let y = ap (λ (p : Point). p.y) e in omega (arith, ints)), tt),
      ),
    ),
  );
}

between : (scale : Scale) (b : BoxNumbers) (ring : Option (List Point)) → IsRatio scale → is_whole_box scale b ≡ true
    → box_between (is_flat b) (low_corner scale b) (high_corner scale b) ≡ Ok ring → IsDrawing ring
between scale b ring ratio whole e =
    elim (chosen_of (is_in_range (low_corner scale b) && is_in_range (high_corner scale b)) _ _ (Ok ring) e) [
      | inl good ↦
          let range = and_parts (is_in_range (low_corner scale b)) (is_in_range (high_corner scale b)) good.0 in
          let same : ring_between (is_flat b) (low_corner scale b) (high_corner scale b) ≡ ring = cc in
          rw (← same) (by (is_flat b) refl range.0 range.1)
      | inr bad ↦ absurd (no TooBig ring bad.1)
    ]
  where
    no : (e : FaultKind) (x : Option (List Point)) → ◌≡◌ {A = Result (Option (List Point)) FaultKind} (Err e) (Ok x) → ⊥
    no e x h = cc

    by : (flat : Bool) → is_flat b ≡ flat → is_in_range (low_corner scale b) ≡ true → is_in_range (high_corner scale b) ≡ true
        → IsDrawing (ring_between flat (low_corner scale b) (high_corner scale b))
    by true e low high = tt
    by false e low high =
        let s = spans scale b (low_corner scale b) (high_corner scale b) ratio whole e (rw low refl) (rw high refl) in
        rectangle_is (low_corner scale b) (high_corner scale b) low high s.wide s.tall

pub box_drawing : (scale : Scale) (b : BoxNumbers) (ring : Option (List Point)) → IsRatio scale → box_at scale b ≡ Ok ring → IsDrawing ring
unfolding box_at
box_drawing scale b ring ratio e =
    taken (not (is_whole_box scale b)) OffGrid _ ring e (λ whole e. between scale b ring ratio (grind (arith, nat_tests)) e)
