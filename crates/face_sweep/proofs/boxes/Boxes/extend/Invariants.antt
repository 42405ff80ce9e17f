use Rattle.std.proofs.Common.{◌≡◌, Some, true, take}
use Rattle.snap_chains.specs.declared.owner.Owner.{Owner}
use Rattle.snap_chains.specs.Rounded.{is_owner_listed}
use Rattle.lay_point.specs.declared.rect.Rect.{Rect}
use Rattle.face_sweep.specs.Reaches.{HaveGrown, IsEdgeIn, extent_of}
use Rattle.face_sweep.proofs.boxes.Boxes.extend.Given as goal

-- the shapes so far reach round the edge
abbrev pub invariant-loop-owner : goal.invariant-loop-owner
invariant-loop-owner l = record {
  first : HaveGrown l.initial.self.first.items l.self.first.items;
  second : HaveGrown l.initial.self.second.items l.self.second.items;
  reached : (o : Owner) (extent : Rect) → is_owner_listed o (take l.owner-index l.owners) ≡ true → extent_of l.self o ≡ Some extent
      → IsEdgeIn extent l.fn.edge;
}
