use Rattle.std.proofs.Common.{◌≡◌, ◌++◌}
use Rattle.lay_layouts.specs.Lent.{calls_in}
use Rattle.lay_flat.proofs.call_lists.listed.Given as goal

-- the calls that are left come behind those so far
abbrev pub invariant-loop-call : goal.invariant-loop-call
invariant-loop-call l = l.list.items ++ l.call-iterator ≡ calls_in l.snapshot l.fn.cell
