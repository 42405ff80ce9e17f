-- Equality of turns: the test, and that it decides. What an `==` answers is such a test.
use Rattle.std.specs.Prelude.{◌≡◌, ℕ, ◌==◌, Bool, ◌&&◌, refl}
use Rattle.std.specs.Bool.{Decides, beq}
use Rattle.std.specs.Cmp.{IsEquivalence, IsPartialEquivalence, booleans_Decides, decided, partial_equiv_from_equiv}
use Rattle.std.proofs.Common.{ap, sym, ◌∙◌, zero, suc}
use Rattle.std.proofs.lemmas.Bool.Decides.{Decides-and, Decides-eqb, Decides-like}
use Rattle.lay_point.specs.declared.turn.Quarter.{Quarter}
use Rattle.lay_point.specs.declared.turn.Quarter.TheVariants.{R0, R90, R180, R270}
use Rattle.lay_point.specs.declared.turn.Turn.{Turn}
use Rattle.lay_point.specs.Points.{point_eq}
use Rattle.lay_point.specs.Same.{point_eq-Decides}

-- how many quarter turns
abbrev pub quarter_turns : Quarter → ℕ
quarter_turns R0 = 0
quarter_turns R90 = 1
quarter_turns R180 = 2
quarter_turns R270 = 3

-- so many quarter turns, up to three
quarter_of : ℕ → Quarter
quarter_of zero = R0
quarter_of (suc zero) = R90
quarter_of (suc (suc zero)) = R180
quarter_of (suc (suc (suc n))) = R270

quarter_of-quarter_turns : (q : Quarter) → quarter_of (quarter_turns q) ≡ q
unfolding quarter_of
quarter_of-quarter_turns R0 = refl
quarter_of-quarter_turns R90 = refl
quarter_of-quarter_turns R180 = refl
quarter_of-quarter_turns R270 = refl

-- the same number of quarter turns
abbrev pub quarter_eq : Quarter → Quarter → Bool
quarter_eq q r = quarter_turns q == quarter_turns r

pub quarter_eq-Decides : (q r : Quarter) → Decides (quarter_eq q r) (q ≡ r)
quarter_eq-Decides q r =
    Decides-like (quarter_eq q r) (λ e. sym (quarter_of-quarter_turns q) ∙ ap quarter_of e ∙ quarter_of-quarter_turns r)
    (λ e. ap quarter_turns e)
    (Decides-eqb (quarter_turns q) (quarter_turns r))

pub quarter_eq_equiv : IsEquivalence quarter_eq
quarter_eq_equiv = decided quarter_eq quarter_eq-Decides

pub quarter_eq_partial : IsPartialEquivalence quarter_eq
quarter_eq_partial = partial_equiv_from_equiv quarter_eq_equiv

-- the same mirror, quarter turns and shift
abbrev pub turn_eq : Turn → Turn → Bool
turn_eq t u = beq t.mirror u.mirror && (quarter_eq t.quarter u.quarter && point_eq t.shift u.shift)

pub turn_eq-Decides : (t u : Turn) → Decides (turn_eq t u) (t ≡ u)
turn_eq-Decides t u =
    Decides-like (turn_eq t u) (λ all. λ i. record { mirror = all.0 i; quarter = all.1.0 i; shift = all.1.1 i })
    (λ e. (ap (λ (v : Turn). v.mirror) e, (ap (λ (v : Turn). v.quarter) e, ap (λ (v : Turn). v.shift) e)))
    (Decides-and _ _ (booleans_Decides t.mirror u.mirror)
    (Decides-and _ _ (quarter_eq-Decides t.quarter u.quarter) (point_eq-Decides t.shift u.shift)))
