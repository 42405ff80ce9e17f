-- All was put but what is kept of the points that are left.
use Rattle.std.proofs.Common.{◌≡◌, drop}
use Rattle.cif_write.specs.Lines.{path_text}
use Rattle.cif_write.specs.Ways.{last_point, kept_of}
use Rattle.cif_write.proofs.BegunLemmas.{Begun}
use Rattle.cif_write.proofs.points.put_behind.Given as goal

abbrev pub invariant-loop-point : goal.invariant-loop-point
invariant-loop-point g l = record {
  put : Begun g.O.Out.written g.O.Out.failures l.fn.out l.fn.buffer l.out l.buffer
      (path_text (kept_of l.last (drop l.point-index l.points))) (path_text (kept_of l.fn.held l.points));
  last : last_point l.last (drop l.point-index l.points) ≡ last_point l.fn.held l.points;
}
