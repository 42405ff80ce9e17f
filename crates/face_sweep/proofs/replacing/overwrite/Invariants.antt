use Rattle.std.proofs.Common.{◌≡◌, ◌+◌, ◌++◌, take, drop}
use Rattle.face_sweep.proofs.replacing.overwrite.Given as goal

-- the others up to this one are there
abbrev pub invariant-loop-index : goal.invariant-loop-index
invariant-loop-index g l = l.list.items
    ≡ (take l.fn.from l.fn.list.items ++ take l.index l.fn.others) ++ drop (l.fn.from + l.index) l.fn.list.items
