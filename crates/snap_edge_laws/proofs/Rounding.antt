-- Rounding of one coordinate: it keeps the order, doesn't depend on the scale, and holds of mixtures. What is used of a
-- pixel's side is that it is a half-open interval round 0: a mixture of numbers in it is in it.
use Rattle.std.proofs.Common.{◌≡◌, [], ◌∷◌, ℤ, pos, ◌+ℤ◌, ◌-ℤ◌, ◌*ℤ◌, ◌≤ℤ◌, ◌<ℤ◌, refl, sym, ap, ap₂, ◌∙◌, arith}
use Rattle.snap_pixels.specs.Pixels.{IsRoundedTo}
use Rattle.snap_pixels.specs.Segments.{IsFraction, along}
use Rattle.lay_point.proofs.Polynomials.{Expr, #, lit, ◌⊕◌, ◌⊖◌, ◌⊗◌, identity}
use Rattle.lay_point.proofs.Signs.{linear, nonnegative_product, times_le, cancel_le, cancel_lt, cancel_nonnegative}

-- d / k is in the interval from -1/2 to 1/2, which has its lower end
pub record IsNear (k d : ℤ) : Type 0 where
  pub low : pos 0 ≤ℤ (k +ℤ (d +ℤ d))
  pub high : pos 1 ≤ℤ (k -ℤ (d +ℤ d))

near : (c k a : ℤ) → IsRoundedTo c k a → IsNear k (a -ℤ c *ℤ k)
near c k a h =
    let e = identity (c ∷ k ∷ []) (lit (pos 2) ⊗ # 0 ⊗ # 1) (lit (pos 2) ⊗ (# 0 ⊗ # 1)) refl in
    record { low = omega (arith, linear, h.0, e); high = omega (arith, linear, h.1, e) }

is_rounded : (c k a : ℤ) → IsNear k (a -ℤ c *ℤ k) → IsRoundedTo c k a
is_rounded c k a h =
    let e = identity (c ∷ k ∷ []) (lit (pos 2) ⊗ # 0 ⊗ # 1) (lit (pos 2) ⊗ (# 0 ⊗ # 1)) refl in
    (omega (arith, linear, h.low, e), omega (arith, linear, h.high, e))

-- what is further right is rounded no further left
pub rounded_le : (k a a' c c' : ℤ) → pos 1 ≤ℤ k → IsRoundedTo c k a → IsRoundedTo c' k a' → a ≤ℤ a' → c ≤ℤ c'
rounded_le k a a' c c' scale h h' le =
    let f = near c k a h in
    let f' = near c' k a' h' in
    let e = identity (k ∷ c ∷ []) (# 0 ⊗ # 1) (# 1 ⊗ # 0) refl in
    let e' = identity (k ∷ c' ∷ []) (# 0 ⊗ (# 1 ⊕ lit (pos 1))) (# 1 ⊗ # 0 ⊕ # 0) refl in
    let less : c <ℤ (c' +ℤ pos 1) = cancel_lt k c (c' +ℤ pos 1) (omega (arith, linear)) (omega (arith, linear, f.low, f'.high)) in
    omega (arith, linear)

-- a place is rounded the same at a multiple of its scale
pub rounded_at_multiple : (c k t m a b : ℤ) → pos 1 ≤ℤ m → IsRoundedTo c k (along k t a b)
    → IsRoundedTo c (k *ℤ m) (along (k *ℤ m) (t *ℤ m) a b)
rounded_at_multiple c k t m a b scale h =
    let f = near c k (along k t a b) h in
    let d = along k t a b -ℤ c *ℤ k in
    let low_e = identity (c ∷ k ∷ t ∷ m ∷ a ∷ b ∷ [])
    (K ⊕ (D ⊕ D)) (# 3 ⊗ (# 1 ⊕ (d_of ⊕ d_of))) refl in
    let high_e = identity (c ∷ k ∷ t ∷ m ∷ a ∷ b ∷ [])
    (K ⊖ (D ⊕ D)) (# 3 ⊗ (# 1 ⊖ (d_of ⊕ d_of))) refl in
    let low_m = nonnegative_product m (k +ℤ (d +ℤ d)) (omega (arith, linear)) f.low in
    let high_m = times_le m (pos 1) (k -ℤ (d +ℤ d)) (omega (arith, linear)) f.high in
    let one = identity (m ∷ []) (# 0 ⊗ lit (pos 1)) (# 0) refl in
    is_rounded c (k *ℤ m) (along (k *ℤ m) (t *ℤ m) a b) (record { low = omega (arith, linear); high = omega (arith, linear) })
  where
    K : Expr
    K = # 1 ⊗ # 3

    d_of : Expr
    d_of = (# 4 ⊗ (# 1 ⊖ # 2) ⊕ # 5 ⊗ # 2) ⊖ # 0 ⊗ # 1

    D : Expr
    D = (# 4 ⊗ (# 1 ⊗ # 3 ⊖ # 2 ⊗ # 3) ⊕ # 5 ⊗ (# 2 ⊗ # 3)) ⊖ # 0 ⊗ (# 1 ⊗ # 3)

-- Let a, b and c be rounded to p, q and r, and let all three move towards these, the part t / n of the way. Where the moved a is
-- then a mixture of the moved b and c, the same mixture of b and c themselves is rounded to p: what it is off p is a mixture
-- of what the three are off their centres.
pub mixed : (k n t m l a b c p q r : ℤ) → IsFraction t n → IsFraction l m
    → IsRoundedTo p k a → IsRoundedTo q k b → IsRoundedTo r k c
    → m *ℤ along n t a (p *ℤ k) ≡ along m l (along n t b (q *ℤ k)) (along n t c (r *ℤ k))
    → IsRoundedTo p (k *ℤ m) (along m l b c)
mixed k n t m l a b c p q r moment part ha hb hc e =
    let fa = near p k a ha in
    let fb = near q k b hb in
    let fc = near r k c hc in
    let moved = along n t a (p *ℤ k) in
    let mixture = along m l (along n t b (q *ℤ k)) (along n t c (r *ℤ k)) in
    let da = a -ℤ p *ℤ k in
    let db = b -ℤ q *ℤ k in
    let dc = c -ℤ r *ℤ k in
    let off = along m l b c -ℤ p *ℤ (k *ℤ m) in
    let wa = m *ℤ (n -ℤ t) in
    let wb = t *ℤ (m -ℤ l) in
    let wc = t *ℤ l in
    let vs = k ∷ n ∷ t ∷ m ∷ l ∷ a ∷ b ∷ c ∷ p ∷ q ∷ r ∷ [] in
    let pa : pos 0 ≤ℤ wa = nonnegative_product m (n -ℤ t) (omega (arith, linear, part.scale)) (omega (arith, linear, moment.high)) in
    let pb : pos 0 ≤ℤ wb = nonnegative_product t (m -ℤ l) moment.low (omega (arith, linear, part.high)) in
    let pc : pos 0 ≤ℤ wc = nonnegative_product t l moment.low part.low in
    let low_e = identity vs
    (N ⊗ (K ⊗ M ⊕ (Off ⊕ Off)) ⊕ (Moved ⊕ Moved))
    (Wa ⊗ (K ⊕ (Da ⊕ Da)) ⊕ Wb ⊗ (K ⊕ (Db ⊕ Db)) ⊕ Wc ⊗ (K ⊕ (Dc ⊕ Dc)) ⊕ (Mixture ⊕ Mixture)) refl in
    let high_e = identity vs
    (N ⊗ (K ⊗ M ⊖ (Off ⊕ Off)) ⊕ (Mixture ⊕ Mixture))
    (Wa ⊗ (K ⊖ (Da ⊕ Da)) ⊕ Wb ⊗ (K ⊖ (Db ⊕ Db)) ⊕ Wc ⊗ (K ⊖ (Dc ⊕ Dc)) ⊕ (Moved ⊕ Moved)) refl in
    let ones = identity vs (Wa ⊗ lit (pos 1) ⊕ Wb ⊗ lit (pos 1) ⊕ Wc ⊗ lit (pos 1)) (N ⊗ M) refl in
    let low_a = nonnegative_product wa (k +ℤ (da +ℤ da)) pa fa.low in
    let low_b = nonnegative_product wb (k +ℤ (db +ℤ db)) pb fb.low in
    let low_c = nonnegative_product wc (k +ℤ (dc +ℤ dc)) pc fc.low in
    let high_a = times_le wa (pos 1) (k -ℤ (da +ℤ da)) pa fa.high in
    let high_b = times_le wb (pos 1) (k -ℤ (db +ℤ db)) pb fb.high in
    let high_c = times_le wc (pos 1) (k -ℤ (dc +ℤ dc)) pc fc.high in
    let positive : pos 0 <ℤ n = omega (arith, linear, moment.scale) in
    let at_least : (n *ℤ pos 1) ≤ℤ (n *ℤ m) = times_le n (pos 1) m (omega (arith, linear)) part.scale in
    let low_is : pos 0 ≤ℤ (n *ℤ (k *ℤ m +ℤ (off +ℤ off))) = omega (arith, linear, low_e, low_a, low_b, low_c, e) in
    let high_is : (n *ℤ pos 1) ≤ℤ (n *ℤ (k *ℤ m -ℤ (off +ℤ off))) = omega (arith, linear, high_e, high_a, high_b, high_c, e, ones) in
    is_rounded p (k *ℤ m) (along m l b c) (record {
      low = cancel_nonnegative n (k *ℤ m +ℤ (off +ℤ off)) positive low_is;
      high = cancel_le n (pos 1) (k *ℤ m -ℤ (off +ℤ off)) positive high_is;
    })
  where
    along_of : Expr → Expr → Expr → Expr → Expr
    along_of s u x y = x ⊗ (s ⊖ u) ⊕ y ⊗ u

    K : Expr
    K = # 0

    N : Expr
    N = # 1

    M : Expr
    M = # 3

    Wa : Expr
    Wa = # 3 ⊗ (# 1 ⊖ # 2)

    Wb : Expr
    Wb = # 2 ⊗ (# 3 ⊖ # 4)

    Wc : Expr
    Wc = # 2 ⊗ # 4

    Da : Expr
    Da = # 5 ⊖ # 8 ⊗ # 0

    Db : Expr
    Db = # 6 ⊖ # 9 ⊗ # 0

    Dc : Expr
    Dc = # 7 ⊖ # 10 ⊗ # 0

    Off : Expr
    Off = along_of (# 3) (# 4) (# 6) (# 7) ⊖ # 8 ⊗ (# 0 ⊗ # 3)

    Moved : Expr
    Moved = # 3 ⊗ along_of (# 1) (# 2) (# 5) (# 8 ⊗ # 0)

    Mixture : Expr
    Mixture = along_of (# 3) (# 4) (along_of (# 1) (# 2) (# 6) (# 9 ⊗ # 0)) (along_of (# 1) (# 2) (# 7) (# 10 ⊗ # 0))

along_none : (a b : ℤ) → along (pos 1) (pos 0) a b ≡ a
along_none a b = identity (a ∷ b ∷ []) (# 0 ⊗ (lit (pos 1) ⊖ lit (pos 0)) ⊕ # 1 ⊗ lit (pos 0)) (# 0) refl

along_all : (a b : ℤ) → along (pos 1) (pos 1) a b ≡ b
along_all a b = identity (a ∷ b ∷ []) (# 0 ⊗ (lit (pos 1) ⊖ lit (pos 1)) ⊕ # 1 ⊗ lit (pos 1)) (# 1) refl

at_start : IsFraction (pos 0) (pos 1)
at_start = record { scale = omega (arith, linear); low = omega (arith, linear); high = omega (arith, linear) }

at_end : IsFraction (pos 1) (pos 1)
at_end = record { scale = omega (arith, linear); low = omega (arith, linear); high = omega (arith, linear) }

-- the same before any motion
pub mixed_before : (k m l a b c p q r : ℤ) → IsFraction l m → IsRoundedTo p k a → IsRoundedTo q k b → IsRoundedTo r k c
    → m *ℤ a ≡ along m l b c → IsRoundedTo p (k *ℤ m) (along m l b c)
mixed_before k m l a b c p q r part ha hb hc e =
    mixed k (pos 1) (pos 0) m l a b c p q r at_start
    part ha hb hc (ap (λ (z : ℤ). m *ℤ z) (along_none a (p *ℤ k)) ∙ e
    ∙ sym (ap₂ (λ (y z : ℤ). along m l y z) (along_none b (q *ℤ k)) (along_none c (r *ℤ k))))

-- and at its end, when all are at their centres
pub mixed_after : (k m l a b c p q r : ℤ) → IsFraction l m → IsRoundedTo p k a → IsRoundedTo q k b → IsRoundedTo r k c
    → m *ℤ (p *ℤ k) ≡ along m l (q *ℤ k) (r *ℤ k) → IsRoundedTo p (k *ℤ m) (along m l b c)
mixed_after k m l a b c p q r part ha hb hc e =
    mixed k (pos 1) (pos 1) m l a b c p q r at_end
    part ha hb hc (ap (λ (z : ℤ). m *ℤ z) (along_all a (p *ℤ k)) ∙ e
    ∙ sym (ap₂ (λ (y z : ℤ). along m l y z) (along_all b (q *ℤ k)) (along_all c (r *ℤ k))))
