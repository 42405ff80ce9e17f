-- What is given out of a job, by what became of it.
use Rattle.std.proofs.Common.{◌≡◌, ℕ, Bool, true, Ok, inr, refl, subst, sym}
use Rattle.lay_layouts.specs.Layout.{Layout}
use Rattle.lay_oriented.specs.Directed.{IsDirected}
use Rattle.masklay.specs.declared.program.outcome.Finished.{Finished}
use Rattle.masklay.specs.Oriented.{AnswersGivenOf}

-- a layout is given out with its shapes directed
pub given_directed : (oriented : Bool) (finished : Finished) (layout : Layout) (staying : ℕ) → oriented ≡ true
    → IsDirected finished.layout layout staying → AnswersGivenOf oriented finished (Ok (record finished { layout = layout }))
given_directed oriented finished layout staying asked directed =
    subst (λ o. AnswersGivenOf o finished (Ok (record finished { layout = layout }))) (sym asked) (inr (layout, staying, directed, refl))
