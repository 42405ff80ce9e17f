use Rattle.std.proofs.Common.{◌≡◌, drop, false, []}
use Rattle.std.specs.List.{list_any}
use Rattle.cif_read.specs.Polygons.{is_too_big, points_from}
use Rattle.cif_read.proofs.polygon.points.Given as goal

abbrev pub invariant-loop-vertex : goal.invariant-loop-vertex
invariant-loop-vertex l = record {
  found : points_from l.scale l.points.items (drop l.vertex-index l.vertices) ≡ points_from l.scale [] l.vertices;
  small : list_any is_too_big (drop l.vertex-index l.vertices) ≡ false;
}
