use Rattle.lay_items.specs.Runs.{AreHeld}
use Rattle.lay_tests.proofs.runs.boxes.Given as goal

-- the items so far are held with the marks of their runs
abbrev pub invariant-loop-step : goal.invariant-loop-step
invariant-loop-step l = AreHeld l.held.items l.held.runs.cells l.held.runs.layers
