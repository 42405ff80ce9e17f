use Rattle.std.proofs.Common.{◌∙◌, ◌++◌, ◌∷◌, [], List, None, Option, ap}
use Rattle.std.proofs.lemmas.List.{replicate_more}
use Rattle.lay_cells.specs.declared.tally.Tally.{Tally}
use Rattle.lay_cells.proofs.tally.no_tallies.Goals as goal

pub loop-preserved : goal.loop-preserved
loop-preserved c =
    c.in_ok-push.ensures.items ∙ ap (λ (ts : List (Option Tally)). ts ++ None ∷ []) c.loop.invariant
    ∙ replicate_more c.loop.counter None
