use Rattle.std.proofs.Common.{take}
use Rattle.lay_pages.specs.Written.{written_all}
use Rattle.lay_layouts.specs.Ids.{id_cmp}
use Rattle.lay_items.specs.Runs.{AreHeld}
use Rattle.lay_items.proofs.runs.Runs.with_all.Given as goal

-- they are those of the items after the writes so far
abbrev pub invariant-loop-id : goal.invariant-loop-id
invariant-loop-id l = AreHeld (written_all id_cmp l.old (take l.id-index l.writes)) l.cells l.layers
