-- One ring draws a shape.
use Rattle.std.proofs.Common.{◌≤◌, List, [], ◌∷◌, arith, length, subst, sym}
use Rattle.lay_point.specs.declared.point.Point.{Point}
use Rattle.lay_point.specs.declared.ring.TheConstants.{MAX_RING_POINTS}
use Rattle.lay_point.specs.Rings.{IsRing}
use Rattle.lay_point.proofs.BridgeLemmas.{bridged_one}
use Rattle.lay_layouts.specs.Sound.{IsDrawn}

-- one ring draws a shape
pub one_ring : (ring : List Point) → IsRing ring → IsDrawn (ring ∷ [])
one_ring ring is = record {
  some = omega arith;
  each = (is, tt);
  short = subst (λ (path : List Point). length path ≤ MAX_RING_POINTS) (sym (bridged_one ring is)) is.few;
}
