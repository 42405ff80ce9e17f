use Rattle.std.proofs.Common.{◌↔◌, ◌⊎◌, Contains, take}
use Rattle.std.specs.Prelude.{flat_map}
use Rattle.lay_point.specs.declared.point.Point.{Point}
use Rattle.snap_pixels.proofs.search.add_lists.Given as goal

-- what there was before the loop, and what the lists so far hold
abbrev pub invariant-loop-list : goal.invariant-loop-list
invariant-loop-list l = (c : Point)
    → Contains l.centres c ↔ (Contains l.initial.centres c ⊎ Contains (flat_map (λ list. list) (take l.list-index l.lists)) c)
