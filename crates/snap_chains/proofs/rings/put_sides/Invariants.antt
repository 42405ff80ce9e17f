use Rattle.std.proofs.Common.{◌≡◌, ◌∷◌, map, take}
use Rattle.lay_point.specs.Rising.{last, pairs}
use Rattle.snap_chains.specs.Sides.{segment_ends}
use Rattle.snap_chains.proofs.rings.put_sides.Given as goal

-- the sides of the points so far
abbrev pub invariant-loop-to : goal.invariant-loop-to
invariant-loop-to l = record {
  sides : map segment_ends l.sides.items ≡ pairs (l.first ∷ take l.to-index l.later);
  at : l.from ≡ last l.first (take l.to-index l.later);
}
