-- the lines of the journal were fed over devices that never fail
use Rattle.std.proofs.Common.{[], ◌++◌, ◌∙◌, ℕ, List, append-nil, refl, subst}
use Rattle.live_run.specs.Cif.{whole}
use Rattle.live_run.specs.Feed.{BeginsBehind}
use Rattle.live_run.specs.Ending.{Unbegun, no_past}
use Rattle.live_run.proofs.PastLemmas.{begins, stopped_in}
use Rattle.live_run.proofs.RunLemmas.{feeds_none}
use Rattle.live_run.proofs.run.begin.Goals as goal

pub returns-in-Ok : goal.returns-in-Ok
returns-in-Ok g c =
    subst (λ (l : List ℕ). BeginsBehind c.args.showing l c.begun.result) c.deref.ensures.value
    (begins c.args.showing _ _ _ _ _ _ c.deref.result.now c.in-Ok.line_feed c.begun.result
    (c.in-Ok.ensures no_past _ [] (feeds_none c.args.showing _ _ _ _ no_past _ _ _ refl c.new.ensures.course c.new.ensures.line))
    c.begun.ensures)

pub returns : goal.returns
returns g c =
    subst (λ (l : List ℕ). Unbegun (whole l) c.in-Err.end) (append-nil c.deref.result.now ∙ c.deref.ensures.value)
    (stopped_in c.args.showing _ _ _ _ (c.deref.result.now ++ []) c.in-Err.end
    (c.in-Err.ensures no_past _ [] (feeds_none c.args.showing _ _ _ _ no_past _ _ _ refl c.new.ensures.course c.new.ensures.line) []))
