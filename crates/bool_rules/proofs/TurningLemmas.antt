-- Turned rings are rings: a turn takes different points to different points.
use Rattle.std.proofs.Common.{◌≡◌, ℤ, neg_ℤ, Bool, true, false, List, [], ◌∷◌, map, ap, subst, ◌∙◌, arith, refl}
use Rattle.std.specs.Prelude.{All}
use Rattle.std.proofs.lemmas.Int.{ints}
use Rattle.std.proofs.lemmas.List.{length-map, map-append}
use Rattle.std.proofs.lemmas.List.Elements.{All-append, All-map, All-weaker}
use Rattle.std.proofs.lemmas.List.Folds.{list_all-map}
use Rattle.lay_point.specs.declared.point.Point.{Point}
use Rattle.lay_point.specs.declared.turn.Quarter.{Quarter}
use Rattle.lay_point.specs.declared.turn.Quarter.TheVariants.{R0, R90, R180, R270}
use Rattle.lay_point.specs.declared.turn.Turn.{Turn}
use Rattle.lay_point.specs.Points.{is_in_range}
use Rattle.lay_point.specs.Rings.{IsRing, NeighboursDiffer, closed}
use Rattle.lay_point.specs.Turns.{mirrored, turned, turned_by}
use Rattle.lay_point.proofs.EdgeOrder.{same_point}
use Rattle.lay_point.proofs.TurnLemmas.{shifted_same}
use Rattle.lay_flat.specs.Flat.{FlatRing, IsFlat}
use Rattle.snap_chains.specs.declared.owner.Input.{Input}
use Rattle.snap_chains.specs.declared.owner.Input.TheVariants.{First, Second}
use Rattle.snap_chains.specs.declared.owner.Owner.{Owner}
use Rattle.snap_laws.specs.RoundLaws.{AreOwnedRings}
use Rattle.bool_rules.specs.Shapes.{owned_by, owned_of}

-- ---- different points stay different
neg_same : (a b : ℤ) → neg_ℤ a ≡ neg_ℤ b → a ≡ b
neg_same a b e = omega (arith, ints)

mirrored_same : (m : Bool) (p q : Point) → mirrored m p ≡ mirrored m q → p ≡ q
mirrored_same false p q e = same_point p q (ap (λ r. r.x) e) (ap (λ r. r.y) e)
mirrored_same true p q e = same_point p q (neg_same p.x q.x (ap (λ r. r.x) e)) (ap (λ r. r.y) e)

turned_by_same : (t : Quarter) (p q : Point) → turned_by t p ≡ turned_by t q → p ≡ q
turned_by_same R0 p q e = e
turned_by_same R90 p q e = same_point p q (ap (λ r. r.y) e) (neg_same p.y q.y (ap (λ r. r.x) e))
turned_by_same R180 p q e = same_point p q (neg_same p.x q.x (ap (λ r. r.x) e)) (neg_same p.y q.y (ap (λ r. r.y) e))
turned_by_same R270 p q e = same_point p q (neg_same p.x q.x (ap (λ r. r.y) e)) (ap (λ r. r.x) e)

pub turned_same : (t : Turn) (p q : Point) → turned t p ≡ turned t q → p ≡ q
unfolding turned
turned_same t p q e =
    mirrored_same t.mirror p q (turned_by_same t.quarter (mirrored t.mirror p) (mirrored t.mirror q)
    (shifted_same t.shift (turned_by t.quarter (mirrored t.mirror p)) (turned_by t.quarter (mirrored t.mirror q)) e))

-- ---- of a ring
neighbours_differ : (t : Turn) (ps : List Point) → NeighboursDiffer ps → NeighboursDiffer (map (turned t) ps)
neighbours_differ t [] h = tt
neighbours_differ t (p ∷ []) h = tt
neighbours_differ t (p ∷ q ∷ ps) h = ((λ e. h.0 (turned_same t p q e)), neighbours_differ t (q ∷ ps) h.1)

map-closed : (f : Point → Point) (ps : List Point) → map f (closed ps) ≡ closed (map f ps)
map-closed f [] = refl
map-closed f (p ∷ ps) = ap (λ qs. f p ∷ qs) (map-append f ps (p ∷ []))

pub turned_is_ring : (ring : FlatRing) → IsFlat ring → IsRing (map (turned ring.1) ring.0)
turned_is_ring ring h =
    let same = length-map ring.0 (turned ring.1) in record {
      enough = omega (arith, h.drawn.enough);
      few = omega (arith, h.drawn.few);
      in_range = list_all-map is_in_range (turned ring.1) ring.0 ∙ h.within;
      apart = subst NeighboursDiffer (map-closed (turned ring.1) ring.0) (neighbours_differ ring.1 (closed ring.0) h.drawn.apart);
    }

-- ---- of all rings
turned_are_rings : (input : Input) (rings : List FlatRing) → All IsFlat rings → AreOwnedRings (map (owned_by input) rings)
turned_are_rings input rings h =
    All-map (λ (r : Owner × List Point). IsRing r.1) (owned_by input) rings
    (All-weaker IsFlat (λ (r : FlatRing). IsRing (map (turned r.1) r.0)) turned_is_ring rings h)

pub owned_are_rings : (a b : List FlatRing) → All IsFlat a → All IsFlat b → AreOwnedRings (owned_of a b)
owned_are_rings a b ha hb =
    All-append (λ (r : Owner × List Point). IsRing r.1) (map (owned_by First) a) (map (owned_by Second) b)
    (turned_are_rings First a ha) (turned_are_rings Second b hb)
