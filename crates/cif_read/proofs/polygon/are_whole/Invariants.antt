use Rattle.std.proofs.Common.{◌≡◌, drop, false}
use Rattle.std.specs.List.{list_all, list_any}
use Rattle.cif_read.specs.Polygons.{is_too_big}
use Rattle.cif_read.specs.Scales.{is_whole_vertex}
use Rattle.cif_read.proofs.polygon.are_whole.Given as goal

abbrev pub invariant-loop-vertex : goal.invariant-loop-vertex
invariant-loop-vertex l = record {
  decides : list_all (is_whole_vertex l.scale) (drop l.vertex-index l.vertices) ≡ list_all (is_whole_vertex l.scale) l.vertices;
  small : list_any is_too_big (drop l.vertex-index l.vertices) ≡ false;
}
