-- The slants of edges count what the edges count, and sums over slants that aren't reached are 0.
use Rattle.std.proofs.Common.{◌≡◌, Bool, true, false, cond, ◌&&◌, List, [], ◌∷◌}
use Rattle.std.proofs.Common.{ℤ, pos, ◌+ℤ◌, ◌*ℤ◌, ◌≤ℤ◌, ◌<ℤ◌, neg_ℤ, refl, sym, ap, ◌∙◌, arith}
use Rattle.std.specs.Prelude.{int_le, int_lt, Some, None}
use Rattle.std.proofs.lemmas.Bool.{and_parts}
use Rattle.lay_point.proofs.Signs.{linear, times_le}
use Rattle.lay_point.proofs.Tests.{le_true, lt_false, lt_true, true_le}
use Rattle.lay_point.specs.declared.point.Point.{Point}
use Rattle.lay_point.specs.Parity.{is_crossed_rising, distance_right}
use Rattle.lay_oriented.specs.declared.slant.Slant.{Slant}
use Rattle.lay_oriented.specs.Slants.{added, are_by_height, begin_from, counts, ending_above, signed, slant_count, slant_of, slants_of}
use Rattle.lay_oriented.specs.Winding.{turn, winding}

-- ---- slants that aren't reached
not_past : (a b y : ℤ) → ((a ≤ℤ y) → (y <ℤ b) → ⊥) → (int_le a y && int_lt y b) ≡ false
not_past a b y h = by_test (int_le a y) (int_lt y b) refl refl
  where
    by_test : (p q : Bool) → int_le a y ≡ p → int_lt y b ≡ q → (p && q) ≡ false
    by_test true true e f = absurd (h (le_true a y e) (lt_true y b f))
    by_test true false e f = refl
    by_test false q e f = refl

-- an edge that doesn't rise past the height isn't crossed
pub not_crossed : (k x y : ℤ) (a b : Point) → (((k *ℤ a.y) ≤ℤ y) → (y <ℤ (k *ℤ b.y)) → ⊥) → is_crossed_rising k x y a b ≡ false
not_crossed k x y a b h = ap (λ t. t && int_lt (pos 0) (distance_right k x y a b)) (not_past (k *ℤ a.y) (k *ℤ b.y) y h)

pub no_count : (k x y : ℤ) (s : Slant) → is_crossed_rising k x y s.low s.high ≡ false → slant_count k x y s ≡ pos 0
no_count k x y s e = ap (λ b. cond b (signed s.up) (pos 0)) e

-- ---- what an edge counts and what its slant does
not_falling : (k x y : ℤ) (a b : Point) → pos 1 ≤ℤ k → a.y ≤ℤ b.y → is_crossed_rising k x y b a ≡ false
not_falling k x y a b scale h = not_crossed k x y b a (λ past not_yet. let q = times_le k a.y b.y (omega (arith, linear)) h in omega
    (arith, linear))

upward : (k x y : ℤ) (e : Point × Point) → pos 1 ≤ℤ k → e.0.y ≤ℤ e.1.y
    → turn k x y e ≡ cond (is_crossed_rising k x y e.0 e.1) (pos 1) (pos 0)
upward k x y e scale h =
    ap (λ b. cond (is_crossed_rising k x y e.0 e.1) (pos 1) (cond b (neg_ℤ (pos 1)) (pos 0))) (not_falling k x y e.0 e.1 scale h)

downward : (k x y : ℤ) (e : Point × Point) → pos 1 ≤ℤ k → e.1.y ≤ℤ e.0.y
    → turn k x y e ≡ cond (is_crossed_rising k x y e.1 e.0) (neg_ℤ (pos 1)) (pos 0)
downward k x y e scale h =
    ap (λ b. cond b (pos 1) (cond (is_crossed_rising k x y e.1 e.0) (neg_ℤ (pos 1)) (pos 0))) (not_falling k x y e.1 e.0 scale h)

level : (k x y : ℤ) (e : Point × Point) → pos 1 ≤ℤ k → e.0.y ≤ℤ e.1.y → e.1.y ≤ℤ e.0.y → turn k x y e ≡ pos 0
level k x y e scale h g =
    upward k x y e scale h ∙ ap (λ b. cond b (pos 1) (pos 0)) (not_falling k x y e.1 e.0 scale g)

count_added : (k x y : ℤ) (e : Point × Point) (slants : List Slant) → pos 1 ≤ℤ k
    → counts k x y (added (slant_of e) slants) ≡ turn k x y e +ℤ counts k x y slants
count_added k x y e slants scale = by_test (int_lt e.0.y e.1.y) (int_lt e.1.y e.0.y) refl refl
  where
    by_test : (p q : Bool) → int_lt e.0.y e.1.y ≡ p → int_lt e.1.y e.0.y ≡ q
        → counts k x y (added (cond p (Some (record { low = e.0; high = e.1; up = true }))
        (cond q (Some (record { low = e.1; high = e.0; up = false })) None)) slants) ≡ turn k x y e +ℤ counts k x y slants
    by_test true q f g = ap (λ z. z +ℤ counts k x y slants)
        (sym (upward k x y e scale (let less = lt_true e.0.y e.1.y f in omega (arith, linear))))
    by_test false true f g = ap (λ z. z +ℤ counts k x y slants) (sym (downward k x y e scale (lt_false e.0.y e.1.y f)))
    by_test false false f g =
        let none = level k x y e scale (lt_false e.1.y e.0.y g) (lt_false e.0.y e.1.y f) in omega (arith, linear)

pub counts_of_slants : (k x y : ℤ) (edges : List (Point × Point)) → pos 1 ≤ℤ k → counts k x y (slants_of edges) ≡ winding edges k x y
unfolding winding
counts_of_slants k x y [] scale = refl
counts_of_slants k x y (e ∷ es) scale =
    count_added k x y e (slants_of es) scale ∙ ap (λ z. turn k x y e +ℤ z) (counts_of_slants k x y es scale)

-- ---- slants that end below a place, or begin above it
pub counts_above : (k x y height : ℤ) (slants : List Slant) → pos 1 ≤ℤ k → (k *ℤ height) ≤ℤ y
    → counts k x y (ending_above height slants) ≡ counts k x y slants
counts_above k x y height [] scale h = refl
counts_above k x y height (s ∷ ss) scale h = by_test (counts_above k x y height ss scale h) (int_lt height s.high.y) refl
  where
    by_test : counts k x y (ending_above height ss) ≡ counts k x y ss → (b : Bool) → int_lt height s.high.y ≡ b
        → counts k x y (cond b (s ∷ ending_above height ss) (ending_above height ss)) ≡ slant_count k x y s +ℤ counts k x y ss
    by_test rest true e = ap (λ z. slant_count k x y s +ℤ z) rest
    by_test rest false e =
        let less = times_le k s.high.y height (omega (arith, linear)) (lt_false height s.high.y e) in
        let none = no_count k x y s (not_crossed k x y s.low s.high (λ past not_yet. omega (arith, linear))) in
        omega (arith, linear)

begin_later : (height next : ℤ) (slants : List Slant) → height ≤ℤ next → begin_from next slants ≡ true → begin_from height slants ≡ true
begin_later height next [] h e = refl
begin_later height next (s ∷ ss) h e = true_le height s.low.y (let far = le_true next s.low.y e in omega (arith, linear))

pub counts_below : (k x y height : ℤ) (slants : List Slant) → pos 1 ≤ℤ k → y <ℤ (k *ℤ height) → are_by_height slants ≡ true
    → begin_from height slants ≡ true → counts k x y slants ≡ pos 0
counts_below k x y height [] scale h order begin = refl
counts_below k x y height (s ∷ ss) scale h order begin =
    let far = le_true height s.low.y begin in
    let less = times_le k height s.low.y (omega (arith, linear)) far in
    let none = no_count k x y s (not_crossed k x y s.low s.high (λ past not_yet. omega (arith, linear))) in
    let parts = and_parts (begin_from s.low.y ss) (are_by_height ss) order in
    let rest = counts_below k x y height ss scale h parts.1 (begin_later height s.low.y ss far parts.0) in
    omega (arith, linear)
