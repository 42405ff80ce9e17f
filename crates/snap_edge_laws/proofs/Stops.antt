-- When the first of some evenly changing numbers gets to 0. Each goes from its `from` to its `to` while a time goes from 0 to 1, and
-- ends positive. Then all were positive at the start, or at some time all are at least 0 and one of them is 0.
use Rattle.std.proofs.Common.{◌≡◌, ◌⊎◌, inl, inr, List, [], ◌∷◌, ℤ, pos, ◌+ℤ◌, ◌-ℤ◌, ◌*ℤ◌, ◌≤ℤ◌, ◌<ℤ◌, refl, arith, ⊎_elim}
use Rattle.snap_pixels.specs.Segments.{along, IsFraction}
use Rattle.lay_point.proofs.Polynomials.{#, lit, ◌⊕◌, ◌⊖◌, ◌⊗◌, identity}
use Rattle.lay_point.proofs.Signs.{linear, nonnegative_product, positive_product, below_or_not}

pub record Change : Type 0 where
  pub from : ℤ
  pub to : ℤ

-- every one of them is positive at the end
abbrev pub AllEndPositive : List Change → Type 0
AllEndPositive [] = Unit {0}
AllEndPositive (c ∷ cs) = (pos 0 <ℤ c.to) × AllEndPositive cs

abbrev pub AllStartPositive : List Change → Type 0
AllStartPositive [] = Unit {0}
AllStartPositive (c ∷ cs) = (pos 0 <ℤ c.from) × AllStartPositive cs

-- at the time t / n
abbrev pub NoneNegative : ℤ → ℤ → List Change → Type 0
NoneNegative n t [] = Unit {0}
NoneNegative n t (c ∷ cs) = (pos 0 ≤ℤ along n t c.from c.to) × NoneNegative n t cs

abbrev pub SomeZero : ℤ → ℤ → List Change → Type 0
SomeZero n t [] = ⊥
SomeZero n t (c ∷ cs) = (along n t c.from c.to ≡ pos 0) ⊎ SomeZero n t cs

pub record IsStop (cs : List Change) : Type 0 where
  pub n : ℤ
  pub t : ℤ
  pub time : IsFraction t n
  pub none_negative : NoneNegative n t cs
  pub some_zero : SomeZero n t cs

-- a number that starts negative or 0 is 0 at the time a part of the way; the others, positive at both ends, are positive then
first_stop : (a b : ℤ) (cs : List Change) → a ≤ℤ pos 0 → pos 0 <ℤ b → AllStartPositive cs → AllEndPositive cs
    → NoneNegative (b -ℤ a) (pos 0 -ℤ a) cs
first_stop a b [] low high starts ends = tt
first_stop a b (c ∷ cs) low high starts ends =
    let first = nonnegative_product c.from b (omega (arith, linear, starts.0)) (omega (arith, linear)) in
    let second = nonnegative_product c.to (pos 0 -ℤ a) (omega (arith, linear, ends.0)) (omega (arith, linear)) in
    let e = identity (a ∷ b ∷ c.from ∷ c.to ∷ [])
    (# 2 ⊗ ((# 1 ⊖ # 0) ⊖ (lit (pos 0) ⊖ # 0)) ⊕ # 3 ⊗ (lit (pos 0) ⊖ # 0))
    (# 2 ⊗ # 1 ⊕ # 3 ⊗ (lit (pos 0) ⊖ # 0)) refl in
    (omega (arith, linear, first, second, e), first_stop a b cs low high starts.1 ends.1)

-- a time f / (f + g) of the way from t / n to 1
later : ℤ → ℤ → ℤ → ℤ
later n f g = n *ℤ (f +ℤ g)

later_time : ℤ → ℤ → ℤ → ℤ → ℤ
later_time n t f g = g *ℤ t +ℤ f *ℤ n

along_later : (n t f g a b : ℤ) → along (later n f g) (later_time n t f g) a b ≡ g *ℤ along n t a b +ℤ f *ℤ n *ℤ b
unfolding later later_time
along_later n t f g a b = identity (n ∷ t ∷ f ∷ g ∷ a ∷ b ∷ [])
    (# 4 ⊗ (# 0 ⊗ (# 2 ⊕ # 3) ⊖ (# 3 ⊗ # 1 ⊕ # 2 ⊗ # 0)) ⊕ # 5 ⊗ (# 3 ⊗ # 1 ⊕ # 2 ⊗ # 0))
    (# 3 ⊗ (# 4 ⊗ (# 0 ⊖ # 1) ⊕ # 5 ⊗ # 1) ⊕ # 2 ⊗ # 0 ⊗ # 5) refl

later_fraction : (n t f g : ℤ) → IsFraction t n → pos 0 <ℤ f → pos 0 ≤ℤ g → IsFraction (later_time n t f g) (later n f g)
unfolding later later_time
later_fraction n t f g time up low =
    let whole = positive_product n (f +ℤ g) (omega (arith, linear, time.scale)) (omega (arith, linear)) in
    let gt = nonnegative_product g t low time.low in
    let fn = positive_product f n up (omega (arith, linear, time.scale)) in
    let left = nonnegative_product g (n -ℤ t) low (omega (arith, linear, time.high)) in
    let e = identity (n ∷ t ∷ f ∷ g ∷ [])
    (# 0 ⊗ (# 2 ⊕ # 3)) ((# 3 ⊗ # 1 ⊕ # 2 ⊗ # 0) ⊕ # 3 ⊗ (# 0 ⊖ # 1)) refl in
    record { scale = omega (arith, linear); low = omega (arith, linear); high = omega (arith, linear) }

-- what isn't negative at a time isn't later
later_none_negative : (n t f g : ℤ) (cs : List Change) → IsFraction t n → pos 0 <ℤ f → pos 0 ≤ℤ g
    → NoneNegative n t cs → AllEndPositive cs → NoneNegative (later n f g) (later_time n t f g) cs
later_none_negative n t f g [] time up low before ends = tt
later_none_negative n t f g (c ∷ cs) time up low before ends =
    let old = nonnegative_product g (along n t c.from c.to) low before.0 in
    let fn = positive_product f n up (omega (arith, linear, time.scale)) in
    let new = positive_product (f *ℤ n) c.to fn ends.0 in
    let e = along_later n t f g c.from c.to in
    (omega (arith, linear, old, new, e), later_none_negative n t f g cs time up low before.1 ends.1)

-- a number that is negative at a time of the others' is 0 later
moved_stop : (a b : ℤ) (cs : List Change) → pos 0 <ℤ b → AllEndPositive cs → (s : IsStop cs) → along s.n s.t a b <ℤ pos 0
    → IsStop (record { from = a; to = b } ∷ cs)
moved_stop a b cs high ends s under =
    let n = s.n in
    let t = s.t in
    let f = pos 0 -ℤ along n t a b in
    let g = n *ℤ b in
    let up : pos 0 <ℤ f = omega (arith, linear) in
    let low : pos 0 <ℤ g = positive_product n b (omega (arith, linear, s.time.scale)) high in
    let e = along_later n t f g a b in
    let gone = identity (n ∷ b ∷ along n t a b ∷ [])
    (# 0 ⊗ # 1 ⊗ # 2 ⊕ (lit (pos 0) ⊖ # 2) ⊗ # 0 ⊗ # 1) (lit (pos 0)) refl in
    let zero : along (later n f g) (later_time n t f g) a b ≡ pos 0 = omega (arith, linear, e, gone) in
    record {
      n = later n f g;
      t = later_time n t f g;
      time = later_fraction n t f g s.time up (omega (arith, linear));
      none_negative = (
        omega (arith, linear, zero),
        later_none_negative n t f g cs s.time up (omega (arith, linear)) s.none_negative ends,
      );
      some_zero = inl zero;
    }

-- all positive at the start, or a time at which none is negative and one is 0
pub stop : (cs : List Change) → AllEndPositive cs → AllStartPositive cs ⊎ IsStop cs
stop [] ends = inl tt
stop (c ∷ cs) ends = stop_with c cs ends (stop cs ends.1)
  where
    stop_with : (c : Change) (cs : List Change) → AllEndPositive (c ∷ cs) → AllStartPositive cs ⊎ IsStop cs
        → AllStartPositive (c ∷ cs) ⊎ IsStop (c ∷ cs)
    stop_with c cs ends (inl starts) = ⊎_elim (λ (up : pos 0 <ℤ c.from). inl (up, starts))
        (λ (down : c.from ≤ℤ pos 0).
        let zero = identity (c.from ∷ c.to ∷ [])
        (# 0 ⊗ ((# 1 ⊖ # 0) ⊖ (lit (pos 0) ⊖ # 0)) ⊕ # 1 ⊗ (lit (pos 0) ⊖ # 0)) (lit (pos 0)) refl in
        inr (record {
          n = c.to -ℤ c.from;
          t = pos 0 -ℤ c.from;
          time = record { scale = omega (arith, linear, ends.0); low = omega (arith, linear); high = omega (arith, linear, ends.0) };
          none_negative = (omega (arith, linear, zero), first_stop c.from c.to cs down ends.0 starts ends.1);
          some_zero = inl zero;
        }))
        (below_or_not (pos 0) c.from)
    stop_with c cs ends (inr s) = ⊎_elim
        (λ (under : along s.n s.t c.from c.to <ℤ pos 0). inr (moved_stop c.from c.to cs ends.0 ends.1 s under))
        (λ (above : pos 0 ≤ℤ along s.n s.t c.from c.to).
        inr (record { n = s.n; t = s.t; time = s.time; none_negative = (above, s.none_negative); some_zero = inr s.some_zero }))
        (below_or_not (along s.n s.t c.from c.to) (pos 0))
