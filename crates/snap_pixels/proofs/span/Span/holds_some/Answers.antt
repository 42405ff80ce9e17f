use Rattle.std.proofs.Common.{◌≡◌, ◌∙◌, sym, inl, inr, true, false, not, refl, rules, IsTrue, ◌↔◌, ◌*ℤ◌}
use Rattle.std.specs.declared.cmp.Ordering.TheVariants.{Less, Equal, Greater}
use Rattle.std.proofs.lemmas.Bool.{false≢true}
use Rattle.std.proofs.lemmas.Cmp.{int_ranked}
use Rattle.snap_pixels.proofs.SideLemmas.{holds_between, holds_none, holds_touching, touching_none, HoldsSome}
use Rattle.snap_pixels.proofs.span.Span.holds_some.Goals as goal

pub returns-in-Less : goal.returns-in-Less
returns-in-Less c =
    let s = c.args.self in
    let below = int_ranked _ _ Less (sym c.in-Less.is ∙ c.turn.ensures) in
    ((λ e. absurd (false≢true e)), (λ some. absurd (holds_none s.low s.high s.enters s.leaves below some)))

pub returns-then-not-self : goal.returns-then-not-self
returns-then-not-self c =
    let s = c.args.self in
    let tied : s.low.slope *ℤ s.high.offset ≡ s.high.slope *ℤ s.low.offset = int_ranked _ _ Equal (sym c.in-Equal.is ∙ c.turn.ensures) in
    let low : s.low.open ≡ false = search rules in
    elim s.high.open as (λ b. s.high.open ≡ b → (IsTrue (not b) ↔ HoldsSome s.low s.high s.enters s.leaves)) [
      | true ↦ λ o. ((λ e. absurd (false≢true e)), (λ some. absurd (touching_none s.low s.high s.enters s.leaves tied (inr o) some)))
      | false ↦ λ o. ((λ e. holds_touching s.low s.high s.enters s.leaves tied low o), (λ some. refl))
    ] refl

pub returns-else-not-self : goal.returns-else-not-self
returns-else-not-self c =
    let s = c.args.self in
    let tied : s.low.slope *ℤ s.high.offset ≡ s.high.slope *ℤ s.low.offset = int_ranked _ _ Equal (sym c.in-Equal.is ∙ c.turn.ensures) in
    let low : s.low.open ≡ true = search rules in (
      (λ e. let off : s.low.open ≡ false = search rules in cc),
      (λ some. absurd (touching_none s.low s.high s.enters s.leaves tied (inl low) some)),
    )

pub returns-in-Greater : goal.returns-in-Greater
returns-in-Greater c =
    let s = c.args.self in
    let above = int_ranked _ _ Greater (sym c.in-Greater.is ∙ c.turn.ensures) in
    ((λ e. holds_between s.low s.high s.enters s.leaves above), (λ some. refl))
