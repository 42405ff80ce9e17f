use Rattle.std.proofs.Common.{◌≡◌, ◌++◌, take, drop}
use Rattle.face_sweep.proofs.replacing.take_out.Given as goal

-- the elements from `from` up to this one are gone
abbrev pub invariant-loop : goal.invariant-loop
invariant-loop g l = l.list.items ≡ take l.fn.from l.fn.list.items ++ drop l.counter l.fn.list.items
