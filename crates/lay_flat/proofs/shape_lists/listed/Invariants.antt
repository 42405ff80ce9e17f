use Rattle.std.proofs.Common.{◌≡◌, ◌++◌, map}
use Rattle.lay_flat.specs.Lists.{shape_rings}
use Rattle.lay_flat.proofs.shape_lists.listed.Given as goal

-- the shapes that are left come behind those so far
abbrev pub invariant-loop-rings : goal.invariant-loop-rings
invariant-loop-rings l = l.list.items ++ map (λ shape. shape.1) l.rings-iterator
    ≡ shape_rings (record { layout = l.snapshot; layer = l.layer }) l.fn.cell
