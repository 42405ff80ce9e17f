-- The order along a segment is strict and total on all points; on centres that the segment meets it is the order in which it meets them.
use Rattle.std.proofs.Common.{◌≡◌, ◌⊎◌, inl, inr, ℤ, ◌≤ℤ◌, ◌<ℤ◌, ◌∙◌, arith, ⊎_elim}
use Rattle.lay_point.specs.declared.point.Point.{Point}
use Rattle.snap_pixels.specs.declared.segment.Segment.{Segment}
use Rattle.snap_edge_laws.specs.Edges.{key, IsBelow}
use Rattle.lay_point.proofs.Signs.{linear, below_or_same}
use Rattle.snap_edge_laws.proofs.Order.{IsSpot, key_le, key_same}
use Rattle.lay_point.proofs.Rising.{IsStrictOrder}
use Rattle.lay_point.proofs.EdgeOrder.{before_is_strict}

below_irreflexive : (s : Segment) (c : Point) → IsBelow s c c → ⊥
below_irreflexive s c (inl less) = omega (arith, linear)
below_irreflexive s c (inr tie) = before_is_strict.irreflexive c tie.1

below_transitive : (s : Segment) (c d e : Point) → IsBelow s c d → IsBelow s d e → IsBelow s c e
below_transitive s c d e (inl a) (inl b) = inl (omega (arith, linear))
below_transitive s c d e (inl a) (inr b) = inl (omega (arith, linear, b.0))
below_transitive s c d e (inr a) (inl b) = inl (omega (arith, linear, a.0))
below_transitive s c d e (inr a) (inr b) = inr (a.0 ∙ b.0, before_is_strict.transitive c d e a.1 b.1)

pub below_is_strict : (s : Segment) → IsStrictOrder (IsBelow s)
below_is_strict s = record { irreflexive = below_irreflexive s; transitive = below_transitive s }

-- the segment comes to c's pixel no later than to d's
pub below_by_spots : (s : Segment) (c d : Point) (k t u : ℤ) → IsSpot s c k t → IsSpot s d k u → t ≤ℤ u → (c ≡ d) ⊎ IsBelow s c d
below_by_spots s c d k t u h g le = ⊎_elim (λ (less : key s c <ℤ key s d). inr (inl less))
    (λ (e : key s c ≡ key s d). inl (key_same s c d k t u h g le e))
    (below_or_same (key s c) (key s d) (key_le s c d k t u h g le))
