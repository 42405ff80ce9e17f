-- What commands draw are rings.
use Rattle.std.proofs.Common.{◌≡◌, ◌≢◌, Bool, true, false, ◌&&◌, cond, ℤ, int_lt}
use Rattle.std.proofs.Common.{refl, ap, sym, arith}
use Rattle.std.specs.Int.{int_max, int_min}
use Rattle.std.proofs.lemmas.Bool.{and_from, and_parts}
use Rattle.lay_point.specs.declared.point.Point.{Point}
use Rattle.lay_point.specs.Points.{is_coordinate, is_in_range}
use Rattle.lay_point.specs.Rings.{IsRing, rectangle}
use Rattle.txn_commands.specs.Figures.{box_ring, lower_left, upper_right}

-- a rectangle of two sides in range is a ring
rectangle_ring : (low high : Point) → is_in_range low ≡ true → is_in_range high ≡ true → low.x ≢ high.x → low.y ≢ high.y →
    IsRing (rectangle low high)
rectangle_ring low high lows highs wide tall =
    let l = and_parts (is_coordinate low.x) (is_coordinate low.y) lows in
    let h = and_parts (is_coordinate high.x) (is_coordinate high.y) highs in
    let lx = l.0 in
    let ly = l.1 in
    let hx = h.0 in
    let hy = h.1 in
    record {
      enough = omega arith;
      few = omega arith;
      in_range = rw (lx, ly, hx, hy) refl;
      apart = (
        (λ e. wide (ap (λ (p : Point). p.x) e)),
        (
          (λ e. tall (ap (λ (p : Point). p.y) e)),
          ((λ e. wide (sym (ap (λ (p : Point). p.x) e))), ((λ e. tall (sym (ap (λ (p : Point). p.y) e))), tt)),
        ),
      );
    }

-- the lesser and the greater of two different numbers differ
apart : (a b : ℤ) → a ≢ b → int_min a b ≢ int_max a b
apart a b h = by_order (int_lt b a) where
  by_order : (c : Bool) → cond c b a ≢ cond c a b
  by_order true e = h (sym e)
  by_order false e = h e

either : (b : Bool) (x y : ℤ) → is_coordinate x ≡ true → is_coordinate y ≡ true → is_coordinate (cond b x y) ≡ true
either true x y p q = p
either false x y p q = q

-- the corners of a box whose given corners are in range
pub corners_in_range : (a b : Point) → (is_in_range a && is_in_range b) ≡ true →
    (is_in_range (lower_left a b) ≡ true) × (is_in_range (upper_right a b) ≡ true)
corners_in_range a b h =
    let ps = and_parts (is_in_range a) (is_in_range b) h in
    let pa = and_parts _ _ ps.0 in
    let pb = and_parts _ _ ps.1 in (
      and_from _ _ (either (int_lt b.x a.x) b.x a.x pb.0 pa.0) (either (int_lt b.y a.y) b.y a.y pb.1 pa.1),
      and_from _ _ (either (int_lt b.x a.x) a.x b.x pa.0 pb.0) (either (int_lt b.y a.y) a.y b.y pa.1 pb.1),
    )

-- a box of two sides in range gives a ring
pub box_ring-ring : (a b : Point) → a.x ≢ b.x → a.y ≢ b.y → (is_in_range a && is_in_range b) ≡ true → IsRing (box_ring a b)
box_ring-ring a b wide tall near =
    let corners = corners_in_range a b near in
    rectangle_ring (lower_left a b) (upper_right a b) corners.0 corners.1 (apart a.x b.x wide) (apart a.y b.y tall)
