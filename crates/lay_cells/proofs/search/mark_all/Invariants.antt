use Rattle.std.proofs.Common.{take}
use Rattle.lay_cells.specs.Marks.{MarksAll}
use Rattle.lay_cells.proofs.search.mark_all.Given as goal

-- the targets so far are marked
abbrev pub invariant-loop-target : goal.invariant-loop-target
invariant-loop-target l =
    MarksAll (take l.target-index l.targets) l.initial.marks.items l.initial.pending.items l.marks.items l.pending.items
