-- A box that has grown has what it had, and the new point.
use Rattle.std.proofs.Common.{arith}
use Rattle.std.proofs.lemmas.Int.{clamps, ints}
use Rattle.lay_point.specs.declared.point.Point.{Point}
use Rattle.lay_point.specs.declared.rect.Rect.{Rect}
use Rattle.lay_point.specs.Rects.{IsIn, grown}

pub grown_keeps : (b : Rect) (p q : Point) → IsIn b q → IsIn (grown b p) q
grown_keeps b p q h = record {
  left = omega (arith, ints, clamps, h.left);
  right = omega (arith, ints, clamps, h.right);
  bottom = omega (arith, ints, clamps, h.bottom);
  top = omega (arith, ints, clamps, h.top);
}

pub grown_has : (b : Rect) (p : Point) → IsIn (grown b p) p
grown_has b p = record {
  left = omega (arith, ints, clamps);
  right = omega (arith, ints, clamps);
  bottom = omega (arith, ints, clamps);
  top = omega (arith, ints, clamps);
}
