-- Composed turns take a point where the second takes what the first makes of it. The turn that changes nothing leaves each point
-- where it is, and a shift takes different points to different points.
use Rattle.std.proofs.Common.{◌≡◌, ℤ, pos, neg_ℤ, ◌+ℤ◌, Bool, true, false, not, cond, refl, ap, sym, ◌∙◌, arith}
use Rattle.std.proofs.lemmas.Int.{ints}
use Rattle.lay_point.specs.declared.point.Point.{Point}
use Rattle.lay_point.specs.declared.turn.Quarter.{Quarter}
use Rattle.lay_point.specs.declared.turn.Quarter.TheVariants.{R0, R90, R180, R270}
use Rattle.lay_point.specs.declared.turn.Turn.{Turn}
use Rattle.lay_point.specs.Turns.{composed, mirrored, next_quarter, opposite, quarters, shifted, turned, turned_by, unturned}
use Rattle.lay_point.proofs.Products.{+ℤ_assoc}

neg-neg : (a : ℤ) → neg_ℤ (neg_ℤ a) ≡ a
neg-neg a = omega (arith, ints)

neg-plus : (a b : ℤ) → neg_ℤ (a +ℤ b) ≡ neg_ℤ a +ℤ neg_ℤ b
neg-plus a b = omega (arith, ints)

-- points of the same coordinates
same_point : {p q : Point} → p.x ≡ q.x → p.y ≡ q.y → p ≡ q
same_point x y = λ i. record { x = x i; y = y i }

-- quarter turns of what is shifted
turned_by-shifted : (q : Quarter) (s p : Point) → turned_by q (shifted s p) ≡ shifted (turned_by q s) (turned_by q p)
turned_by-shifted R0 s p = refl
turned_by-shifted R90 s p = same_point (neg-plus p.y s.y) refl
turned_by-shifted R180 s p = same_point (neg-plus p.x s.x) (neg-plus p.y s.y)
turned_by-shifted R270 s p = same_point refl (neg-plus p.x s.x)

-- a mirror of what is shifted
mirrored-shifted : (m : Bool) (s p : Point) → mirrored m (shifted s p) ≡ shifted (mirrored m s) (mirrored m p)
mirrored-shifted true s p = same_point (neg-plus p.x s.x) refl
mirrored-shifted false s p = refl

-- a mirror of what is turned
mirrored-turned_by : (q : Quarter) (p : Point) → mirrored true (turned_by q p) ≡ turned_by (opposite q) (mirrored true p)
mirrored-turned_by R0 p = refl
mirrored-turned_by R90 p = same_point (neg-neg p.y) (sym (neg-neg p.x))
mirrored-turned_by R180 p = refl
mirrored-turned_by R270 p = refl

-- two mirrors are none
mirrored-mirrored : (p : Point) → mirrored true (mirrored true p) ≡ p
mirrored-mirrored p = same_point (neg-neg p.x) refl

-- one quarter turn more
turned_by-next : (q : Quarter) (p : Point) → turned_by (next_quarter q) p ≡ turned_by R90 (turned_by q p)
turned_by-next R0 p = refl
turned_by-next R90 p = refl
turned_by-next R180 p = same_point (sym (neg-neg p.y)) refl
turned_by-next R270 p = same_point (sym (neg-neg p.x)) refl

-- two more, and three
turned_by-next-next : (q : Quarter) (p : Point) → turned_by (next_quarter (next_quarter q)) p ≡ turned_by R180 (turned_by q p)
turned_by-next-next q p = turned_by-next (next_quarter q) p ∙ ap (turned_by R90) (turned_by-next q p)

turned_by-next-next-next : (q : Quarter) (p : Point)
    → turned_by (next_quarter (next_quarter (next_quarter q))) p ≡ turned_by R270 (turned_by q p)
turned_by-next-next-next q p =
    turned_by-next (next_quarter (next_quarter q)) p ∙ ap (turned_by R90) (turned_by-next-next q p)
    ∙ sym (turned_by-next R180 (turned_by q p))

-- quarter turns, and more behind them
turned_by-quarters : (q r : Quarter) (p : Point) → turned_by (quarters q r) p ≡ turned_by r (turned_by q p)
turned_by-quarters q R0 p = refl
turned_by-quarters q R90 p = turned_by-next q p
turned_by-quarters q R180 p = turned_by-next-next q p
turned_by-quarters q R270 p = turned_by-next-next-next q p

-- what a turn does before it shifts
abbrev moved : Bool → Quarter → Point → Point
moved m q p = turned_by q (mirrored m p)

-- of two turns
moved-composed : (m n : Bool) (q r : Quarter) (p : Point) →
    moved (cond n (not m) m) (cond n (quarters (opposite q) r) (quarters q r)) p ≡ moved n r (moved m q p)
moved-composed m false q r p = turned_by-quarters q r (mirrored m p)
moved-composed true true q r p =
    turned_by-quarters (opposite q) r p
    ∙ ap (λ s. turned_by r (turned_by (opposite q) s)) (sym (mirrored-mirrored p))
    ∙ ap (turned_by r) (sym (mirrored-turned_by q (mirrored true p)))
moved-composed false true q r p =
    turned_by-quarters (opposite q) r (mirrored true p) ∙ ap (turned_by r) (sym (mirrored-turned_by q p))

-- of what is shifted
moved-shifted : (n : Bool) (r : Quarter) (s p : Point) → moved n r (shifted s p) ≡ shifted (moved n r s) (moved n r p)
moved-shifted n r s p = ap (turned_by r) (mirrored-shifted n s p) ∙ turned_by-shifted r (mirrored n s) (mirrored n p)

shifted-shifted : (s t p : Point) → shifted (shifted t s) p ≡ shifted t (shifted s p)
shifted-shifted s t p = same_point (sym (+ℤ_assoc p.x s.x t.x)) (sym (+ℤ_assoc p.y s.y t.y))

pub turned-composed : (first next : Turn) (p : Point) → turned (composed first next) p ≡ turned next (turned first p)
unfolding composed turned
turned-composed first next p =
    ap (shifted (turned next first.shift)) (moved-composed first.mirror next.mirror first.quarter next.quarter p)
    ∙ shifted-shifted (moved next.mirror next.quarter first.shift) next.shift
    (moved next.mirror next.quarter (moved first.mirror first.quarter p))
    ∙ ap (shifted next.shift)
    (sym (moved-shifted next.mirror next.quarter first.shift (moved first.mirror first.quarter p)))

-- no turn
plus_none : (a : ℤ) → a +ℤ pos 0 ≡ a
plus_none a = omega (arith, ints)

pub turned-unturned : (p : Point) → turned unturned p ≡ p
unfolding turned
turned-unturned p = same_point (plus_none p.x) (plus_none p.y)

-- shifts
plus_same : (a b s : ℤ) → (a +ℤ s) ≡ (b +ℤ s) → a ≡ b
plus_same a b s e = omega (arith, ints)

pub shifted_same : (s p q : Point) → shifted s p ≡ shifted s q → p ≡ q
shifted_same s p q e = same_point (plus_same p.x q.x s.x (ap (λ r. r.x) e)) (plus_same p.y q.y s.y (ap (λ r. r.y) e))
